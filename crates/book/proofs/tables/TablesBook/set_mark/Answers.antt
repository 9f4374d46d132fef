use Rattle.std.proofs.Common.{Err, sym, ap, ◌∙◌, rules, tests}
use Rattle.std.proofs.lemmas.Result.{err_from_is_err_and}
use Rattle.ordered.proofs.Kept.{listed_sound}
use Rattle.book.specs.Rows.{mark_code, sound_mark, rows_mean}
use Rattle.book.specs.declared.fault.BookFault.TheVariants.{CountTooLarge}
use Rattle.book.specs.Actions.{and_then}
use Rattle.book.proofs.Acts.{mark_set, mark_refused}
use Rattle.book.proofs.Answered.{as_fault}
use Rattle.book.proofs.Joins.{as_book_fault}
use Rattle.book.proofs.tables.TablesBook.set_mark.Goals as goal

pub returns-then-counts_fit : goal.returns-then-counts_fit
returns-then-counts_fit g c =
    let b = c.args.self.now in
    let es = g.E.Keeps.listed b.entries in
    let ls = g.L.Keeps.listed b.lines in
    let ms = g.M.Keeps.listed b.marks in
    let ms' = g.M.Keeps.listed c.add.new.self in
    let ne = g.E.Keeps.places b.entries in
    let nl = g.L.Keeps.places b.lines in
    let row = c.new-row.ensures in
    let add = c.add.ensures in
    let s = listed_sound mark_code (g.M.Keeps.rows b.marks) ms (g.met.M.Keeps.in_order b.marks) sound_mark (g.met.M.Keeps.all_sound b.marks) in
    let d = mark_set es ls ms ne nl (g.M.Keeps.places b.marks) s c.args.file.now c.new-row.result c.args.mark row.means row.key c.add.result add.answer ms' (sym c.counts_fit.ensures ∙ c.if-counts_fit.true) add.after in
    record {
      answer = as_fault _ (λ e q p. search (rules, tests)) _ _ c.map_err.ensures.cases ∙ d.answer_is;
      after = ap (λ n. rows_mean es ls ms' ne nl n) add.room ∙ d.after_is;
    }

pub returns-in_err-admits-clause-answer : goal.returns-in_err-admits-clause-answer
returns-in_err-admits-clause-answer g c =
    let b = c.args.self.now in
    let ms = g.M.Keeps.listed b.marks in
    let row = c.new-row.ensures in
    let s = listed_sound mark_code (g.M.Keeps.rows b.marks) ms (g.met.M.Keeps.in_order b.marks) sound_mark (g.met.M.Keeps.all_sound b.marks) in
    let d = mark_refused (g.E.Keeps.listed b.entries) (g.L.Keeps.listed b.lines) ms (g.E.Keeps.places b.entries) (g.L.Keeps.places b.lines) (g.M.Keeps.places b.marks) s c.args.file.now
    c.new-row.result c.args.mark row.means row.key c.admits.result c.admits.ensures (sym c.counts_fit.ensures ∙ c.if-counts_fit.false) in
    let p = err_from_is_err_and c.from_residual.result c.from_residual.ensures.1 in
    p.1 ∙ (ap Err p.2 ∙ (ap (λ t. and_then (as_book_fault t) (Err CountTooLarge)) (sym c.in_err-admits.was) ∙ d.answer_is))

pub returns-in_ok-admits-clause-answer : goal.returns-in_ok-admits-clause-answer
returns-in_ok-admits-clause-answer g c =
    let b = c.args.self.now in
    let ms = g.M.Keeps.listed b.marks in
    let row = c.new-row.ensures in
    let s = listed_sound mark_code (g.M.Keeps.rows b.marks) ms (g.met.M.Keeps.in_order b.marks) sound_mark (g.met.M.Keeps.all_sound b.marks) in
    let d = mark_refused (g.E.Keeps.listed b.entries) (g.L.Keeps.listed b.lines) ms (g.E.Keeps.places b.entries) (g.L.Keeps.places b.lines) (g.M.Keeps.places b.marks) s c.args.file.now
    c.new-row.result c.args.mark row.means row.key c.admits.result c.admits.ensures (sym c.counts_fit.ensures ∙ c.if-counts_fit.false) in
    ap (λ t. and_then (as_book_fault t) (Err CountTooLarge)) (sym c.in_ok-admits.was) ∙ d.answer_is
