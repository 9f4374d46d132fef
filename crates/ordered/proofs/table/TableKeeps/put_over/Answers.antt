use Rattle.std.proofs.Common.{◌<◌, ap, ◌∙◌, arith}
use Rattle.std.proofs.lemmas.Cmp.{tied_itself, nat_list_cmp_total}
use Rattle.std.proofs.lemmas.List.{length-set, length-take-le}
use Rattle.std.proofs.Math.Seq.{take-set-lt}
use Rattle.ordered.specs.Order.{ranks, ascends, every}
use Rattle.ordered.specs.Tables.{shown}
use Rattle.ordered.proofs.Ascending.{bytewise, ascends_set}
use Rattle.ordered.proofs.Every.{every_set}
use Rattle.ordered.proofs.table.TableKeeps.put_over.Goals as goal

pub invariant_of-self : goal.invariant_of-self
invariant_of-self g c =
    let t = c.args.self.now in
    let key = g.T.Keyed.code in
    let i = c.args.at in
    let y = c.args.row in
    let l : i < t.n = omega (arith, c.requires.within, length-take-le t.n t.rows.now (omega (arith, t.fits, t.given))) in
    let s = take-set-lt t.n t.rows.now i y l in
    record {
      fits = t.fits;
      given = omega (arith, t.given, length-set t.rows.now i y);
      in_order = ap (ascends ranks key) s ∙ (ascends_set ranks bytewise key (shown t) i y y c.requires.within (ap (λ k. ranks k (key y)) c.requires.same ∙ tied_itself nat_list_cmp_total (key y)) ∙ t.in_order);
      all_sound = ap (every g.T.Keyed.sound) s ∙ every_set g.T.Keyed.sound (shown t) i y t.all_sound c.requires.sound;
    }

pub returns-clause-after : goal.returns-clause-after
returns-clause-after g c =
    let t = c.args.self.now in
    take-set-lt t.n t.rows.now c.args.at c.args.row (omega (arith, c.requires.within, length-take-le t.n t.rows.now (omega (arith, t.fits, t.given))))
