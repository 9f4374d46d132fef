use Rattle.promises.proofs.OneReplaced.{post-leaves-unlinked}
use Rattle.promises.proofs.replaced_one_leaves_unlinked_posted.Goals as goal

pub returns : goal.returns
returns c = post-leaves-unlinked
