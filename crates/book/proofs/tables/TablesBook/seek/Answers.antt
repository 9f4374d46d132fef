use Rattle.std.proofs.Common.{◌≡◌, ◌<◌, true, cond, map, length, get_or, drop, Some, None, sym, ap, ◌∙◌, arith}
use Rattle.ordered.specs.Order.{ranks, held}
use Rattle.ordered.proofs.Ascending.{bytewise}
use Rattle.ordered.proofs.Arrive.{held_at_own}
use Rattle.ordered.proofs.Every.{every_at}
use Rattle.ordered.proofs.Kept.{listed_sound}
use Rattle.book.specs.Lists.{find}
use Rattle.book.specs.Meaning.{seekable}
use Rattle.book.specs.Told.{entry_told}
use Rattle.book.specs.Rows.{entry_of, entry_code, sound_entry}
use Rattle.book.proofs.Acts.{sought_held}
use Rattle.book.proofs.Blank.{blank_entry}
use Rattle.book.proofs.Joins.{none_sorted}
use Rattle.book.proofs.tables.TablesBook.seek.Goals as goal

pub returns : goal.returns
returns g c =
    let b = c.args.self.now in
    let es = g.E.Keeps.listed b.entries in
    let xs = g.E.Keeps.rows b.entries in
    let o = g.met.E.Keeps.in_order b.entries in
    let at = c.in_ok-first_open.field-0 in
    let office = c.args.office.now in
    let rec = c.records-rows.ensures in
    let f = c.in_ok-first_open.ensures.at in
    let x = get_or c.records-rows.result.now at blank_entry in
    let w : at < length xs = omega (arith, ap length rec, f.0) in
    let own = (λ i. held ranks entry_code (get_or (rec i) at blank_entry).key (o i)) ∙ (held_at_own ranks bytewise entry_code xs at blank_entry (g.met.E.Keeps.keys_apart b.entries) w ∙ ap (λ ys. Some (get_or ys at blank_entry)) (sym rec)) in
    let sound : sound_entry x ≡ true = ap (λ ys. sound_entry (get_or ys at blank_entry)) rec ∙ every_at sound_entry xs at blank_entry (g.met.E.Keeps.all_sound b.entries) w in
    sought_held es (g.L.Keeps.listed b.lines) (g.M.Keeps.listed b.marks) (g.E.Keeps.places b.entries) (g.L.Keeps.places b.lines) (g.M.Keeps.places b.marks) c.sought.result office x
    (listed_sound entry_code xs es o sound_entry (g.met.E.Keeps.all_sound b.entries)) c.told-office own (f.1 blank_entry)
    (c.sought.ensures ∙ ap (λ t. cond t (Some (drop 5 x.key, entry_told (entry_of x))) None) sound)

pub returns-in_err-first_open : goal.returns-in_err-first_open
returns-in_err-first_open g c =
    let b = c.args.self.now in
    let office = c.args.office.now in
    rw c.from_residual.ensures
    (ap (λ ys. find (seekable office) (map entry_of ys)) (g.met.E.Keeps.in_order b.entries)
    ∙ none_sorted entry_code sound_entry entry_of (seekable office) (g.E.Keeps.rows b.entries)
    (ap (λ ys. find (seekable office) (map entry_of ys)) (sym c.records-rows.ensures) ∙ c.in_err-first_open.ensures.at))
