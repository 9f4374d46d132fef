use Rattle.promises.proofs.Promised.{promises}
use Rattle.promises.proofs.promises_of_a_run.Goals as goal

pub returns : goal.returns
returns c = promises
