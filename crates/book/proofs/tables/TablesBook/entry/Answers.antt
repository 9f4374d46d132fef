use Rattle.std.proofs.Common.{cond, Some, None, sym, refl, ap, ◌∙◌}
use Rattle.std.specs.Option.{option_map}
use Rattle.ordered.specs.Order.{ranks, held}
use Rattle.ordered.proofs.Kept.{listed_sound}
use Rattle.book.specs.Told.{told, entry_told}
use Rattle.book.specs.Rows.{entry_of, entry_code, sound_entry, pair_key}
use Rattle.book.proofs.Acts.{entry_told_law}
use Rattle.book.proofs.Joins.{held_every}
use Rattle.book.proofs.tables.TablesBook.entry.Goals as goal

pub returns : goal.returns
returns g c =
    let b = c.args.self.now in
    let es = g.E.Keeps.listed b.entries in
    let k = c.entry_key.ensures in
    let x = c.in_ok-get.field-0 in
    let s = listed_sound entry_code (g.E.Keeps.rows b.entries) es (g.met.E.Keeps.in_order b.entries) sound_entry (g.met.E.Keeps.all_sound b.entries) in
    let h = sym c.in_ok-get.was ∙ (c.get.ensures ∙ ap (λ q. held ranks entry_code q es) k.is) in
    let t = held_every sound_entry entry_code (pair_key c.args.pair.now) es x s (sym h) in
    entry_told_law es (g.L.Keeps.listed b.lines) (g.M.Keeps.listed b.marks) (g.E.Keeps.places b.entries) (g.L.Keeps.places b.lines) (g.M.Keeps.places b.marks) s c.args.pair.now k.office
    _ (Some x) h (c.entry.ensures ∙ ap (λ v. cond v (Some (entry_told (entry_of x))) None) t)

pub returns-in_err-get : goal.returns-in_err-get
returns-in_err-get g c =
    let b = c.args.self.now in
    let es = g.E.Keeps.listed b.entries in
    let k = c.entry_key.ensures in
    let s = listed_sound entry_code (g.E.Keeps.rows b.entries) es (g.met.E.Keeps.in_order b.entries) sound_entry (g.met.E.Keeps.all_sound b.entries) in
    ap (option_map told) c.from_residual.ensures
    ∙ entry_told_law es (g.L.Keeps.listed b.lines) (g.M.Keeps.listed b.marks) (g.E.Keeps.places b.entries) (g.L.Keeps.places b.lines) (g.M.Keeps.places b.marks) s c.args.pair.now k.office
    None None (sym c.in_err-get.was ∙ (c.get.ensures ∙ ap (λ q. held ranks entry_code q es) k.is)) refl
