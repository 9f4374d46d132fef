use Rattle.std.proofs.Common.{◌≡◌, ◌+◌, length}
use Rattle.file.specs.Records.{records, many, is_header, is_detail, is_entry}
use Rattle.file.proofs.tally.Tally.of.Given as goal

-- what is left of the records gives what is left of each number
abbrev pub invariant-loop-record : goal.invariant-loop-record
invariant-loop-record l =
    goal.iterator-loop-record.can_next l.record-iterator
    × goal.iterator-loop-record.is_finite l.record-iterator
    × (l.tally.records + length (records l.record-iterator.rest.now) ≡ length (records l.text))
    × (l.tally.headers + many is_header (records l.record-iterator.rest.now) ≡ many is_header (records l.text))
    × (l.tally.details + many is_detail (records l.record-iterator.rest.now) ≡ many is_detail (records l.text))
    × (l.tally.entries + many is_entry (records l.record-iterator.rest.now) ≡ many is_entry (records l.text))
