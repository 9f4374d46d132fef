use Rattle.std.proofs.Common.{refl}
use Rattle.std.proofs.lemmas.Result.{err_from_is_err_and}
use Rattle.file.specs.Records.{records}
use Rattle.promises.specs.Held.{at}
use Rattle.transaction.specs.Details.{details_of}
use Rattle.transaction.specs.Headers.{total_of}
use Rattle.settle.proofs.Answered.{lines_stop, lines_pass}
use Rattle.settle.proofs.candidate.Candidate.check_original.Goals as goal

pub returns-in_err-check_lines : goal.returns-in_err-check_lines
returns-in_err-check_lines g c =
    let p = err_from_is_err_and c.from_residual-in_err-check_lines.result c.from_residual-in_err-check_lines.ensures.1 in
    let t = c.args.self.now.sound.transaction in
    let ds = details_of (records c.args.self.now.sound.body.now) in
    let held = at (g.B.Book.meaning c.args.book.now) c.args.pair.now in
    rw (p.1, p.2) (lines_stop c.args.day t ds held c.entry-original.result c.entry-original.ensures c.set-set.result (total_of t) c.set-set.ensures refl c.in_ok-check_serving.ensures c.in_ok-check_age.ensures c.in_err-check_lines.field-0.0 c.in_err-check_lines.ensures)

pub returns : goal.returns
returns g c =
    let t = c.args.self.now.sound.transaction in
    let ds = details_of (records c.args.self.now.sound.body.now) in
    let held = at (g.B.Book.meaning c.args.book.now) c.args.pair.now in
    lines_pass c.args.day t ds held c.entry-original.result c.entry-original.ensures c.set-set.result c.total.result c.set-set.ensures c.total.ensures c.in_ok-check_serving.ensures c.in_ok-check_age.ensures _ c.in_ok-check_lines.ensures c.check_open.ensures
