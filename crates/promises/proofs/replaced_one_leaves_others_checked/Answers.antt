use Rattle.promises.proofs.OneReplaced.{check_leaves_others}
use Rattle.promises.proofs.replaced_one_leaves_others_checked.Goals as goal

pub returns : goal.returns
returns c = check_leaves_others
