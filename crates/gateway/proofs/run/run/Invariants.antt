use Rattle.std.proofs.Common.{◌≡◌, ◌≤◌, length, take, vec_items}
use Rattle.calls.specs.Asked.{asked, replies}
use Rattle.gateway.proofs.Runs.{Made}
use Rattle.gateway.proofs.run.run.Given as goal

-- so far, the first calls are made, and each is answered
abbrev pub invariant-loop-call : goal.invariant-loop-call
invariant-loop-call g l =
    (l.call-index ≤ length l.calls)
    × (length (vec_items l.answers) ≡ l.call-index)
    × Made (g.R.Registers.holds l.registers) (g.B.Book.meaning l.initial.book) (g.B.Book.meaning l.book) (asked (take l.call-index l.calls)) (replies (vec_items l.answers))
