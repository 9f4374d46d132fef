use Rattle.std.proofs.Common.{map, ap}
use Rattle.promises.specs.Judging.{judge}
use Rattle.filing.proofs.Left.{left_more, left_none}
use Rattle.filing.proofs.files.check_each.Goals as goal

pub loop-text-preserved : goal.loop-text-preserved
loop-text-preserved g c =
    let J = judge (g.R.Registers.holds c.args.registers.now) (g.B.Book.meaning c.args.book.now) c.args.handed.now.day in (
      tt,
      tt,
      left_more _ _ _ _ _ _ _ _ _ _ _ _ c.loop-text.invariant.2 (ap (map J) c.in-Some.ensures.steps) c.judge.ensures.verdict c.add.ensures.verdicts c.add.ensures.accepted c.add.ensures.packet,
    )

pub returns-clause-packet : goal.returns-clause-packet
returns-clause-packet g c =
    let J = judge (g.R.Registers.holds c.args.registers.now) (g.B.Book.meaning c.args.book.now) c.args.handed.now.day in
    (left_none _ _ _ _ _ _ c.loop-text.invariant.2 (ap (map J) c.in-None.ensures.steps)).0
