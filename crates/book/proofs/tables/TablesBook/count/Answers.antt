use Rattle.std.proofs.Common.{map, sym, ap, ◌∙◌}
use Rattle.book.specs.Meaning.{accepted_in, rejected_in, counted_in}
use Rattle.book.specs.Rows.{mark_of, mark_code, sound_mark}
use Rattle.book.proofs.Joins.{sum_sorted}
use Rattle.book.proofs.tables.TablesBook.count.Goals as goal

pub returns : goal.returns
returns g c =
    let xs = g.M.Keeps.rows c.args.self.now.marks in
    c.sum_counts.ensures
    ∙ (ap (λ ys. counted_in (map mark_of ys)) c.records.ensures
    ∙ ((λ i. record { accepted = sym (sum_sorted mark_code sound_mark mark_of accepted_in xs) i; rejected = sym (sum_sorted mark_code sound_mark mark_of rejected_in xs) i })
    ∙ ap (λ ys. counted_in (map mark_of ys)) (sym (g.met.M.Keeps.in_order c.args.self.now.marks))))
