use Rattle.std.proofs.Common.{◌<◌, sym, ap, ◌∙◌, arith}
use Rattle.std.proofs.lemmas.List.{length-set, length-take-le}
use Rattle.std.proofs.Math.Seq.{take-set-lt}
use Rattle.ordered.specs.Order.{ranks, apart, every}
use Rattle.ordered.specs.Tables.{arrived}
use Rattle.ordered.proofs.Ascending.{bytewise}
use Rattle.ordered.proofs.Arrive.{apart_set}
use Rattle.ordered.proofs.Every.{every_set}
use Rattle.ordered.proofs.arrivals.ArrivalsKeeps.put_over.Goals as goal

pub invariant_of-self : goal.invariant_of-self
invariant_of-self g c =
    let t = c.args.self.now in
    let i = c.args.at in
    let y = c.args.row in
    let l : i < t.n = omega (arith, c.requires.within, length-take-le t.n t.rows (omega (arith, t.fits, t.given))) in
    let s = take-set-lt t.n t.rows i y l in
    record {
      fits = t.fits;
      given = length-set t.rows i y ∙ t.given;
      apart = ap (apart ranks g.T.Keyed.code) s ∙ (apart_set ranks bytewise g.T.Keyed.code (arrived t) i y y (sym c.requires.same) ∙ t.apart);
      all_sound = ap (every g.T.Keyed.sound) s ∙ every_set g.T.Keyed.sound (arrived t) i y t.all_sound c.requires.sound;
    }

pub returns-clause-after : goal.returns-clause-after
returns-clause-after g c =
    let t = c.args.self.now in
    take-set-lt t.n t.rows c.args.at c.args.row (omega (arith, c.requires.within, length-take-le t.n t.rows (omega (arith, t.fits, t.given))))
