use Rattle.promises.proofs.OneReplaced.{post_leaves_earlier}
use Rattle.promises.proofs.replaced_one_leaves_earlier_posted.Goals as goal

pub returns : goal.returns
returns c = post_leaves_earlier
