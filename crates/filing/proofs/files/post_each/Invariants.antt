use Rattle.std.proofs.Common.{◌≡◌}
use Rattle.calls.specs.Asked.{handed_over}
use Rattle.file.specs.Records.{records, transactions, transactions_of}
use Rattle.packet.specs.Written.{written}
use Rattle.promises.specs.Calls.{posted}
use Rattle.promises.specs.Entering.{verdicts, after}
use Rattle.promises.specs.Packets.{verdict_items, accepted_count}
use Rattle.filing.proofs.Left.{Left}
use Rattle.filing.proofs.files.post_each.Given as goal

-- the verdicts of the transactions that are left give the whole packet, and entering them the whole book
abbrev pub invariant-loop-text : goal.invariant-loop-text
invariant-loop-text g l =
    (goal.iterator-loop-text g).can_next l.text-iterator
    × (goal.iterator-loop-text g).is_finite l.text-iterator
    × Left l.packet l.progress.verdicts l.progress.accepted
    (verdicts (g.R.Registers.holds l.registers) (g.B.Book.meaning l.book) l.handed.day (transactions (records l.text-iterator.rest.now)))
    (written l.initial.packet 20 (verdict_items 1 (posted (g.R.Registers.holds l.registers) (g.B.Book.meaning l.initial.book) (handed_over l.handed))))
    (accepted_count (posted (g.R.Registers.holds l.registers) (g.B.Book.meaning l.initial.book) (handed_over l.handed)))
    × (after (g.R.Registers.holds l.registers) (g.B.Book.meaning l.book) l.handed.day (transactions (records l.text-iterator.rest.now))
    ≡ after (g.R.Registers.holds l.registers) (g.B.Book.meaning l.initial.book) l.handed.day (transactions_of l.handed.file.now))
