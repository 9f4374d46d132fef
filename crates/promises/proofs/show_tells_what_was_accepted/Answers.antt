use Rattle.promises.proofs.Told.{show_tells}
use Rattle.promises.proofs.show_tells_what_was_accepted.Goals as goal

pub returns : goal.returns
returns c = show_tells
