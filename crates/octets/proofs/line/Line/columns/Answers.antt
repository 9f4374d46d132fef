use Rattle.std.proofs.Common.{rules}
use Rattle.octets.proofs.Alls.{known_part}
use Rattle.octets.proofs.line.Line.columns.Goals as goal

pub invariant_of-result : goal.invariant_of-result
invariant_of-result c = record { known = search (rules, known_part) }
