use Rattle.promises.proofs.Lasts.{rejected_leave_nothing}
use Rattle.promises.proofs.rejected_leave_nothing.Goals as goal

pub returns : goal.returns
returns c = rejected_leave_nothing
