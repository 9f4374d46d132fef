use Rattle.std.proofs.Common.{◌-◌, length, ◌∙◌, arith}
use Rattle.octets.proofs.Blocks.{both_ends, joined}
use Rattle.octets.proofs.class.few.Goals as goal

pub returns-then-n-lt8 : goal.returns-then-n-lt8
returns-then-n-lt8 g c = joined _ _ c.each-then-n-lt8.ensures c.each-then-n-lt8-2.ensures ∙ both_ends g.C.Class.test c.args.bytes.now 4 (length c.args.bytes.now - 4) (omega arith)

pub returns : goal.returns
returns g c = joined _ _ c.each-2.ensures c.each-3.ensures ∙ both_ends g.C.Class.test c.args.bytes.now 8 (length c.args.bytes.now - 8) (omega arith)
