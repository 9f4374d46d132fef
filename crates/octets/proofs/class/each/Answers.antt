use Rattle.std.proofs.Common.{rules}
use Rattle.octets.proofs.Alls.{join_end}
use Rattle.octets.proofs.class.each.Goals as goal

pub returns : goal.returns
returns g c = search (rules, join_end)
