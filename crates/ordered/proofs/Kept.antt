-- The records that a table keeps, in the order of their keys.
-- Assumes nothing.
use Rattle.std.proofs.Common.{◌≡◌, ℕ, Bool, true, List, length, ap, ◌∙◌}
use Rattle.ordered.specs.Order.{ranks, ascends, sorted, apart, every}
use Rattle.ordered.proofs.Ascending.{bytewise}
use Rattle.ordered.proofs.Arrive.{ascends_sorted, length_sorted}
use Rattle.ordered.proofs.Every.{every_sorted}

module _ {X : Type 0} (key : X → List ℕ) (rows listed : List X) (in_order : listed ≡ sorted ranks key rows) where
  pub listed_sound : (sound : X → Bool) → every sound rows ≡ true → every sound listed ≡ true
  listed_sound sound s = ap (every sound) in_order ∙ every_sorted sound ranks key rows s

  pub listed_ascend : apart ranks key rows ≡ true → ascends ranks key listed ≡ true
  listed_ascend a = ap (ascends ranks key) in_order ∙ ascends_sorted ranks bytewise key rows a

  pub length_listed : length listed ≡ length rows
  length_listed = ap length in_order ∙ length_sorted ranks bytewise key rows
