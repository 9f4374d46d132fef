use Rattle.std.proofs.Common.{Some, refl, sym, ap, ◌∙◌, get_or, set}
use Rattle.ordered.specs.Order.{ranks, held, altered, sorted}
use Rattle.ordered.proofs.Kept.{listed_sound}
use Rattle.book.specs.Rows.{entry_code, sound_entry, less_row, rows_mean}
use Rattle.book.proofs.Acts.{take_absent, take_above, take_done}
use Rattle.book.proofs.Blank.{blank_entry}
use Rattle.book.proofs.tables.TablesBook.take_open.Goals as goal

pub returns-in_default : goal.returns-in_default
returns-in_default g c =
    let b = c.args.self.now in
    let es = g.E.Keeps.listed b.entries in
    let o = g.met.E.Keeps.in_order b.entries in
    let k = c.entry_key.ensures in
    let s = listed_sound entry_code (g.E.Keeps.rows b.entries) es o sound_entry (g.met.E.Keeps.all_sound b.entries) in
    let d = take_absent es (g.L.Keeps.listed b.lines) (g.M.Keeps.listed b.marks) (g.E.Keeps.places b.entries) (g.L.Keeps.places b.lines) (g.M.Keeps.places b.marks) s c.args.pair.now k.office c.args.amount
    ((λ i. held ranks entry_code (sym k.is i) (o i)) ∙ c.in_default.ensures.none) in
    record { answer = d.answer_is; after = d.after_is }

pub returns-then-not-may_take : goal.returns-then-not-may_take
returns-then-not-may_take g c =
    let b = c.args.self.now in
    let es = g.E.Keeps.listed b.entries in
    let o = g.met.E.Keeps.in_order b.entries in
    let k = c.entry_key.ensures in
    let at = c.in-Some.at in
    let s = listed_sound entry_code (g.E.Keeps.rows b.entries) es o sound_entry (g.met.E.Keeps.all_sound b.entries) in
    let h = (λ i. held ranks entry_code (sym k.is i) (o i)) ∙ (c.in-Some.ensures.is blank_entry ∙ ap (λ xs. Some (get_or xs at blank_entry)) (sym c.records.ensures)) in
    let d = take_above es (g.L.Keeps.listed b.lines) (g.M.Keeps.listed b.marks) (g.E.Keeps.places b.entries) (g.L.Keeps.places b.lines) (g.M.Keeps.places b.marks) s c.args.pair.now k.office c.args.amount _ h
    (sym c.may_take.ensures ∙ c.if-not-may_take.true) in
    record { answer = d.answer_is; after = d.after_is }

pub returns : goal.returns
returns g c =
    let b = c.args.self.now in
    let es = g.E.Keeps.listed b.entries in
    let es' = g.E.Keeps.listed c.put_over.new.self in
    let xs = g.E.Keeps.rows b.entries in
    let ls = g.L.Keeps.listed b.lines in
    let ms = g.M.Keeps.listed b.marks in
    let nl = g.L.Keeps.places b.lines in
    let nm = g.M.Keeps.places b.marks in
    let o = g.met.E.Keeps.in_order b.entries in
    let k = c.entry_key.ensures in
    let at = c.in-Some.at in
    let less = less_row c.args.amount in
    let s = listed_sound entry_code xs es o sound_entry (g.met.E.Keeps.all_sound b.entries) in
    let h = (λ i. held ranks entry_code (sym k.is i) (o i)) ∙ (c.in-Some.ensures.is blank_entry ∙ ap (λ ys. Some (get_or ys at blank_entry)) (sym c.records.ensures)) in
    let changed = g.met.E.Keeps.in_order c.put_over.new.self
    ∙ (ap (sorted ranks entry_code) (c.put_over.ensures.after ∙ ap (λ ys. set xs at (less (get_or ys at blank_entry))) c.records.ensures)
    ∙ (sym (c.in-Some.ensures.change less (λ y. refl) blank_entry)
    ∙ (λ i. altered ranks entry_code (k.is i) less (sym o i)))) in
    let d = take_done es ls ms (g.E.Keeps.places b.entries) nl nm s c.args.pair.now k.office c.args.amount _ h es' (sym c.may_take.ensures ∙ c.if-not-may_take.false) changed in
    record { answer = d.answer_is; after = ap (λ n. rows_mean es' ls ms n nl nm) c.put_over.ensures.room ∙ d.after_is }
