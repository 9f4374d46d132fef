use Rattle.std.proofs.Common.{◌≡◌, suc}
use Rattle.std.specs.List.{flat_map}
use Rattle.file.specs.Records.{records}
use Rattle.promises.specs.Against.{detail_checks}
use Rattle.promises.specs.Held.{at}
use Rattle.transaction.specs.Details.{details_from, details_of}
use Rattle.transaction.specs.Headers.{set_id_of}
use Rattle.transaction.specs.Verdicts.{verdict}
use Rattle.settle.proofs.candidate.Candidate.check_lines.Given as goal

-- what is left of the details gives the whole
abbrev pub invariant-loop-detail : goal.invariant-loop-detail
invariant-loop-detail g l =
    (goal.iterator-loop-detail g).can_next l.detail-iterator
    × (goal.iterator-loop-detail g).is_finite l.detail-iterator
    × (verdict (flat_map (detail_checks (set_id_of l.self.sound.transaction) (at (g.B.Book.meaning l.book) l.pair)) (details_from (suc l.detail-iterator.read) (records l.detail-iterator.records.rest.now))) ≡ verdict (flat_map (detail_checks (set_id_of l.self.sound.transaction) (at (g.B.Book.meaning l.book) l.pair)) (details_of (records l.self.sound.body.now))))
