use Rattle.promises.proofs.Facts.{facts}
use Rattle.promises.proofs.worked_facts.Goals as goal

pub returns : goal.returns
returns c = facts
