use Rattle.promises.proofs.Lasts.{never_pass_total}
use Rattle.promises.proofs.adjustments_never_pass_total.Goals as goal

pub returns : goal.returns
returns c = never_pass_total
