-- A part that is cut off where the bytes end.
use Rattle.std.proofs.Common.{◌≡◌, ℕ, ◌+◌, ◌≤◌, length, arith}
use Rattle.std.proofs.lemmas.List.{length-drop, length-take}
use Rattle.octets.specs.Classes.{Bytes}
use Rattle.octets.specs.Parts.{columns}

-- columns that a record has
pub columns_length : (first n : ℕ) (xs : Bytes) → 1 ≤ first → first + n ≤ length xs + 1 → length (columns first n xs) ≡ n
columns_length first n xs h k = simp (length-take, length-drop) (omega arith)
