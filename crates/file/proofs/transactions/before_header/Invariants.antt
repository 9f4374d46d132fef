use Rattle.std.proofs.Common.{◌≡◌, ◌+◌, ◌≤◌, length}
use Rattle.file.specs.Lengths.{header_after}
use Rattle.file.proofs.transactions.before_header.Given as goal

abbrev pub invariant-loop-left : goal.invariant-loop-left
invariant-loop-left l =
    (length l.left.rest.now ≤ length l.text)
    × (header_after l.text + length l.left.rest.now ≡ length l.text + header_after l.left.rest.now)

abbrev pub decreases-loop-left : goal.decreases-loop-left
decreases-loop-left l = length l.left.rest.now
