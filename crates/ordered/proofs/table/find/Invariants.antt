use Rattle.std.proofs.Common.{◌-◌, ◌≤◌, length}
use Rattle.ordered.specs.Order.{ranks}
use Rattle.ordered.proofs.Ascending.{bytewise, Low, High}
use Rattle.ordered.proofs.table.find.Given as goal

abbrev pub invariant-loop-low : goal.invariant-loop-low
invariant-loop-low g l = (l.low ≤ l.high) × (l.high ≤ length l.rows) × Low ranks bytewise g.T.Keyed.code l.key l.rows l.low × High ranks bytewise g.T.Keyed.code l.key l.rows l.high

abbrev pub decreases-loop-low : goal.decreases-loop-low
decreases-loop-low g l = l.high - l.low
