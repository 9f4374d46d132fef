use Rattle.std.proofs.Common.{arith}
use Rattle.ordered.proofs.Kept.{listed_sound, listed_ascend, length_listed}
use Rattle.book.specs.Rows.{entry_code, line_code, mark_code, sound_entry, sound_line, sound_mark}
use Rattle.book.proofs.Acts.{rows_stand}
use Rattle.book.proofs.tables.TablesBook.stands.Goals as goal

pub returns : goal.returns
returns g c =
    let b = c.args.self.now in
    let e = g.met.E.Keeps in
    let l = g.met.L.Keeps in
    let m = g.met.M.Keeps in
    let es = g.E.Keeps.listed b.entries in
    let ls = g.L.Keeps.listed b.lines in
    let ms = g.M.Keeps.listed b.marks in
    rows_stand es ls ms (g.E.Keeps.places b.entries) (g.L.Keeps.places b.lines) (g.M.Keeps.places b.marks)
    (listed_sound entry_code (g.E.Keeps.rows b.entries) es (e.in_order b.entries) sound_entry (e.all_sound b.entries))
    (listed_sound line_code (g.L.Keeps.rows b.lines) ls (l.in_order b.lines) sound_line (l.all_sound b.lines))
    (listed_sound mark_code (g.M.Keeps.rows b.marks) ms (m.in_order b.marks) sound_mark (m.all_sound b.marks))
    (listed_ascend entry_code (g.E.Keeps.rows b.entries) es (e.in_order b.entries) (e.keys_apart b.entries))
    (listed_ascend line_code (g.L.Keeps.rows b.lines) ls (l.in_order b.lines) (l.keys_apart b.lines))
    (listed_ascend mark_code (g.M.Keeps.rows b.marks) ms (m.in_order b.marks) (m.keys_apart b.marks))
    (omega (arith, length_listed entry_code (g.E.Keeps.rows b.entries) es (e.in_order b.entries), e.fits b.entries))
    (omega (arith, length_listed line_code (g.L.Keeps.rows b.lines) ls (l.in_order b.lines), l.fits b.lines))
    (omega (arith, length_listed mark_code (g.M.Keeps.rows b.marks) ms (m.in_order b.marks), m.fits b.marks))
