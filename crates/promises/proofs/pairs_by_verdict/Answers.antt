use Rattle.promises.proofs.NoPairs.{pairs_by_verdict}
use Rattle.promises.proofs.pairs_by_verdict.Goals as goal

pub returns : goal.returns
returns c = pairs_by_verdict
