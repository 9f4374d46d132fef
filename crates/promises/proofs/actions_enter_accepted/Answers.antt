use Rattle.promises.proofs.Acts.{actions_do}
use Rattle.promises.proofs.actions_enter_accepted.Goals as goal

pub returns : goal.returns
returns c = actions_do
