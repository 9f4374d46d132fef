use Rattle.promises.proofs.Acts.{mark_is_set}
use Rattle.promises.proofs.mark_is_set.Goals as goal

pub returns : goal.returns
returns c = mark_is_set
