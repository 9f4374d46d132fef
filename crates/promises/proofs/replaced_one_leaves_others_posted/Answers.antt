use Rattle.promises.proofs.OneReplaced.{post_leaves_others}
use Rattle.promises.proofs.replaced_one_leaves_others_posted.Goals as goal

pub returns : goal.returns
returns c = post_leaves_others
