use Rattle.std.proofs.Common.{suc}
use Rattle.std.proofs.lemmas.Result.{err_from_is_err_and}
use Rattle.file.specs.Records.{records}
use Rattle.promises.specs.Against.{detail_checks}
use Rattle.promises.specs.Held.{at}
use Rattle.transaction.specs.Details.{read_as, details_from}
use Rattle.transaction.specs.Headers.{set_id_of}
use Rattle.settle.proofs.Answered.{turn_on, turn_stop}
use Rattle.settle.proofs.candidate.Candidate.check_lines.Goals as goal

pub loop-detail-preserved : goal.loop-detail-preserved
loop-detail-preserved g c =
    let d = c.in-Some.detail in
    let s = c.loop-detail.detail-iterator in
    let t = c.next.new.self in (
      tt,
      tt,
      turn_on (detail_checks (set_id_of c.args.self.now.sound.transaction) (at (g.B.Book.meaning c.args.book.now) c.args.pair.now)) (read_as d.number d.«record».now d.entries) (details_from (suc s.read) (records s.records.rest.now)) (details_from (suc t.read) (records t.records.rest.now)) _ c.loop-detail.invariant.2 c.in-Some.ensures.steps c.in_ok-check_detail.ensures,
    )

pub returns-in_err-check_detail : goal.returns-in_err-check_detail
returns-in_err-check_detail g c =
    let d = c.in-Some.detail in
    let s = c.loop-detail.detail-iterator in
    let t = c.next.new.self in
    let p = err_from_is_err_and c.from_residual.result c.from_residual.ensures.1 in
    rw (p.1, p.2) (turn_stop (detail_checks (set_id_of c.args.self.now.sound.transaction) (at (g.B.Book.meaning c.args.book.now) c.args.pair.now)) (read_as d.number d.«record».now d.entries) (details_from (suc s.read) (records s.records.rest.now)) (details_from (suc t.read) (records t.records.rest.now)) _ c.loop-detail.invariant.2 c.in-Some.ensures.steps c.in_err-check_detail.field-0.0 c.in_err-check_detail.ensures)
