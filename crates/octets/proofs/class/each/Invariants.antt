use Rattle.std.proofs.Common.{◌≡◌, ◌&&◌, drop}
use Rattle.octets.specs.Classes.{all}
use Rattle.octets.proofs.class.each.Given as goal

abbrev pub invariant-loop-b : goal.invariant-loop-b
invariant-loop-b g l = (l.ok && all g.C.Class.test (drop l.b-index l.bytes)) ≡ all g.C.Class.test l.bytes
