use Rattle.std.proofs.Common.{refl, length-take-le, arith}
use Rattle.ordered.specs.Tables.{arrived}
use Rattle.ordered.proofs.Adds.{adds_full, adds_ok}
use Rattle.ordered.proofs.arrivals.ArrivalsKeeps.add.Goals as goal

pub returns-in-None-clause-answer : goal.returns-in-None-clause-answer
returns-in-None-clause-answer g c =
    let t = c.args.self.now in
    adds_ok g.T.Keyed.code (arrived t) _ g.row.N c.args.row _ c.key.ensures refl c.in-None.ensures.none
    (omega (arith, c.if-self.true, length-take-le t.n t.rows (omega (arith, t.fits, t.given))))

pub returns-in-None-2-clause-answer : goal.returns-in-None-2-clause-answer
returns-in-None-2-clause-answer g c =
    let t = c.args.self.now in
    adds_full g.T.Keyed.code (arrived t) _ g.row.N c.args.row _ c.key.ensures refl c.in-None-2.ensures.none
    (omega (arith, c.if-self.false, length-take-le t.n t.rows (omega (arith, t.fits, t.given))))
