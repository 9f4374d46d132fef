use Rattle.std.proofs.Common.{arith, ap, ◌∙◌}
use Rattle.ordered.specs.Order.{ranks, held}
use Rattle.ordered.proofs.Adds.{adds_full, adds_ok}
use Rattle.ordered.proofs.keeps.Keeps.admits.Goals as goal

pub returns-in-None : goal.returns-in-None
returns-in-None g c =
    let t = c.args.self.now in
    let o = g.met.Self.Keeps.in_order t in
    let f = g.met.Self.Keeps.fits t in
    adds_full g.T.Keyed.code (g.Self.Keeps.rows t) (g.Self.Keeps.listed t) (g.Self.Keeps.places t) c.args.row.now _ c.key.ensures o
    (ap (held ranks g.T.Keyed.code c.key.result.now) o ∙ c.in-None.ensures.none) (omega (arith, f, c.free.ensures, c.if-free-eq0.true))

pub returns-in-None-2 : goal.returns-in-None-2
returns-in-None-2 g c =
    let t = c.args.self.now in
    let o = g.met.Self.Keeps.in_order t in
    let f = g.met.Self.Keeps.fits t in
    adds_ok g.T.Keyed.code (g.Self.Keeps.rows t) (g.Self.Keeps.listed t) (g.Self.Keeps.places t) c.args.row.now _ c.key.ensures o
    (ap (held ranks g.T.Keyed.code c.key.result.now) o ∙ c.in-None-2.ensures.none) (omega (arith, f, c.free.ensures, c.if-free-eq0.false))
