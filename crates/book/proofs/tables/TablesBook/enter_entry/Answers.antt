use Rattle.std.proofs.Common.{ap, ◌∙◌, rules, tests}
use Rattle.ordered.proofs.Kept.{listed_sound}
use Rattle.book.specs.Rows.{entry_code, sound_entry, rows_mean}
use Rattle.book.proofs.Acts.{entry_entered}
use Rattle.book.proofs.Answered.{as_fault}
use Rattle.book.proofs.tables.TablesBook.enter_entry.Goals as goal

pub returns : goal.returns
returns g c =
    let b = c.args.self.now in
    let es = g.E.Keeps.listed b.entries in
    let es' = g.E.Keeps.listed c.add.new.self in
    let ls = g.L.Keeps.listed b.lines in
    let ms = g.M.Keeps.listed b.marks in
    let nl = g.L.Keeps.places b.lines in
    let nm = g.M.Keeps.places b.marks in
    let row = c.new.ensures in
    let add = c.add.ensures in
    let s = listed_sound entry_code (g.E.Keeps.rows b.entries) es (g.met.E.Keeps.in_order b.entries) sound_entry (g.met.E.Keeps.all_sound b.entries) in
    let d = entry_entered es ls ms (g.E.Keeps.places b.entries) nl nm s c.args.pair.now row.office c.new.result c.args.new es' c.add.result row.means row.key row.sound add.answer add.after in
    record {
      answer = as_fault _ (λ e q p. search (rules, tests)) _ _ c.map_err.ensures.cases ∙ d.answer_is;
      after = ap (λ n. rows_mean es' ls ms n nl nm) add.room ∙ d.after_is;
    }
