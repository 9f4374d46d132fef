use Rattle.std.proofs.Common.{map}
use Rattle.calls.specs.Asked.{handed_over}
use Rattle.file.specs.Records.{records, transactions}
use Rattle.packet.specs.Written.{written}
use Rattle.promises.specs.Calls.{checked}
use Rattle.promises.specs.Judging.{judge}
use Rattle.promises.specs.Packets.{verdict_items, accepted_count}
use Rattle.filing.proofs.Left.{Left}
use Rattle.filing.proofs.files.check_each.Given as goal

-- the verdicts of the transactions that are left give the whole packet
abbrev pub invariant-loop-text : goal.invariant-loop-text
invariant-loop-text g l =
    (goal.iterator-loop-text g).can_next l.text-iterator
    × (goal.iterator-loop-text g).is_finite l.text-iterator
    × Left l.packet l.progress.verdicts l.progress.accepted
    (map (judge (g.R.Registers.holds l.registers) (g.B.Book.meaning l.book) l.handed.day) (transactions (records l.text-iterator.rest.now)))
    (written l.initial.packet 20 (verdict_items 1 (checked (g.R.Registers.holds l.registers) (g.B.Book.meaning l.book) (handed_over l.handed))))
    (accepted_count (checked (g.R.Registers.holds l.registers) (g.B.Book.meaning l.book) (handed_over l.handed)))
