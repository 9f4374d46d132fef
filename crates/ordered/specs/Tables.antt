-- What a table holds: one in the caller's memory, in the order of its keys, and one in itself, in order of arrival.
--     shown t         the records of a table in the caller's memory
--     arrived a       the records of a table of arrivals, as they came
--     listed key a    the same in the order of their keys
-- Assumes nothing.
use Rattle.std.specs.Prelude.{ℕ, List, take}
use Rattle.ordered.specs.Order.{ranks, sorted}
use Rattle.ordered.specs.declared.table.Table.{Table}
use Rattle.ordered.specs.declared.arrivals.Arrivals.{Arrivals}

abbrev pub shown : {X : Type 0} {k : _} → Table X k → List X
shown t = take t.n t.rows.now

abbrev pub arrived : {X : Type 0} {N : ℕ} {k : _} → Arrivals X N k → List X
arrived a = take a.n a.rows

abbrev pub listed : {X : Type 0} {N : ℕ} {k : _} → (X → List ℕ) → Arrivals X N k → List X
listed key a = sorted ranks key (arrived a)
