use Rattle.promises.proofs.Fits.{verdicts_fit}
use Rattle.promises.proofs.verdicts_fit_packets.Goals as goal

pub returns : goal.returns
returns c = verdicts_fit
