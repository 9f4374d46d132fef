use Rattle.std.proofs.Common.{◌^◌, ◌<◌, ap, ◌∙◌, arith, rules, tests}
use Rattle.ordered.proofs.Kept.{listed_sound}
use Rattle.book.specs.Rows.{line_code, sound_line, rows_mean}
use Rattle.book.proofs.Acts.{line_entered}
use Rattle.book.proofs.Answered.{as_fault}
use Rattle.book.proofs.tables.TablesBook.enter_line.Goals as goal

pub returns : goal.returns
returns g c =
    let b = c.args.self.now in
    let es = g.E.Keeps.listed b.entries in
    let ls = g.L.Keeps.listed b.lines in
    let ls' = g.L.Keeps.listed c.add.new.self in
    let ms = g.M.Keeps.listed b.marks in
    let ne = g.E.Keeps.places b.entries in
    let nm = g.M.Keeps.places b.marks in
    let row = c.new.ensures in
    let add = c.add.ensures in
    let high = c.args.number.high in
    let small : c.args.number.value < 10 ^ 6 = omega arith in
    let s = listed_sound line_code (g.L.Keeps.rows b.lines) ls (g.met.L.Keeps.in_order b.lines) sound_line (g.met.L.Keeps.all_sound b.lines) in
    let d = line_entered es ls ms ne (g.L.Keeps.places b.lines) nm s c.args.pair.now c.args.number.value row.office row.reference small c.new.result c.args.line.now ls' c.add.result row.means row.key row.sound add.answer add.after in
    record {
      answer = as_fault _ (λ e q p. search (rules, tests)) _ _ c.map_err.ensures.cases ∙ d.answer_is;
      after = ap (λ n. rows_mean es ls' ms ne n nm) add.room ∙ d.after_is;
    }
