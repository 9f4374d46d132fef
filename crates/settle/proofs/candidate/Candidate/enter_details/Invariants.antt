use Rattle.std.proofs.Common.{suc}
use Rattle.file.specs.Records.{records}
use Rattle.promises.specs.Entering.{enter_lines}
use Rattle.transaction.specs.Details.{details_from, details_of}
use Rattle.transaction.specs.Headers.{set_id_of}
use Rattle.settle.proofs.Entering.{Left}
use Rattle.settle.proofs.candidate.Candidate.enter_details.Given as goal

abbrev pub invariant-loop-detail : goal.invariant-loop-detail
invariant-loop-detail g l =
    (goal.iterator-loop-detail g).can_next l.detail-iterator
    × (goal.iterator-loop-detail g).is_finite l.detail-iterator
    × Left (g.B.Book.meaning l.book) l.pair (set_id_of l.self.sound.transaction) l.detail-iterator.b.start (details_from (suc l.detail-iterator.a.read) (records l.detail-iterator.a.records.rest.now)) (enter_lines l.pair (set_id_of l.self.sound.transaction) 1 (details_of (records l.self.sound.body.now)) (g.B.Book.meaning l.initial.book))
