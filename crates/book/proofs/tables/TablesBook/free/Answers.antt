use Rattle.std.proofs.Common.{◌-◌, sym, ap, ◌∙◌}
use Rattle.std.proofs.lemmas.List.{length-map}
use Rattle.ordered.proofs.Kept.{length_listed}
use Rattle.book.specs.Rows.{entry_of, line_of, mark_of, entry_code, line_code, mark_code}
use Rattle.book.proofs.tables.TablesBook.free.Goals as goal

pub returns : goal.returns
returns g c =
    let b = c.args.self.now in
    let e = length-map (g.E.Keeps.listed b.entries) entry_of ∙ length_listed entry_code _ _ (g.met.E.Keeps.in_order b.entries) in
    let l = length-map (g.L.Keeps.listed b.lines) line_of ∙ length_listed line_code _ _ (g.met.L.Keeps.in_order b.lines) in
    let m = length-map (g.M.Keeps.listed b.marks) mark_of ∙ length_listed mark_code _ _ (g.met.M.Keeps.in_order b.marks) in
    λ i. record {
      entries = (c.free.ensures ∙ ap (λ t. g.E.Keeps.places b.entries - t) (sym e)) i;
      lines = (c.free-2.ensures ∙ ap (λ t. g.L.Keeps.places b.lines - t) (sym l)) i;
      marks = (c.free-3.ensures ∙ ap (λ t. g.M.Keeps.places b.marks - t) (sym m)) i;
    }
