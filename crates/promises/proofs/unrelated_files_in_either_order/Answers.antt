use Rattle.promises.proofs.SameBook.{either_order}
use Rattle.promises.proofs.unrelated_files_in_either_order.Goals as goal

pub returns : goal.returns
returns c = either_order
