use Rattle.promises.proofs.Lasts.{never_grows}
use Rattle.promises.proofs.open_amount_never_grows.Goals as goal

pub returns : goal.returns
returns c = never_grows
