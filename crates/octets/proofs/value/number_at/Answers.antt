use Rattle.std.proofs.Common.{min, arith}
use Rattle.octets.proofs.Values.{room}
use Rattle.octets.proofs.value.number_at.Goals as goal

pub returns-clause-below : goal.returns-clause-below
returns-clause-below c = room _ _ (min c.args.n 18) c.value_of.ensures.below (omega (arith, c.columns_of.ensures.len))
