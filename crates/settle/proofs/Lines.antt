-- The lines of a transaction, by their number alone.
use Rattle.std.proofs.Common.{◌≡◌, ℕ, zero, suc, ◌+◌, ◌-◌, ◌≤◌, Bool, true, false, not, ◌&&◌, List, [], ◌∷◌, length, is_some, Option, refl, ap, ◌∙◌, add-one, arith}
use Rattle.book.specs.Meaning.{LineHeld}
use Rattle.transaction.specs.Details.{DetailRead}
use Rattle.promises.specs.Own.{no_lines}

-- no line is held with one of so many numbers, the first of them n
abbrev pub none_of : ℕ → ℕ → (ℕ → Option LineHeld) → Bool
none_of n zero line = true
none_of n (suc count) line = not (is_some (line n)) && none_of (suc n) count line

-- n is the next number, and e the last one
module _ (line : ℕ → Option LineHeld) (n e : ℕ) (whole : Bool) (inv : none_of n (suc e - n) line ≡ whole) where
  step : n ≤ e → (not (is_some (line n)) && none_of (suc n) (suc e - (n + 1)) line) ≡ whole
  step h = ap (λ k. none_of n k line) left ∙ inv
    where
      left : suc (suc e - (n + 1)) ≡ suc e - n
      left = omega arith

  pub none_more : n ≤ e → false ≡ is_some (line n) → none_of (n + 1) (suc e - (n + 1)) line ≡ whole
  none_more h f =
      ap (λ k. none_of k (suc e - (n + 1)) line) (add-one n)
      ∙ ap (λ v. not v && none_of (suc n) (suc e - (n + 1)) line) f
      ∙ step h

-- the details count only by how many they are
pub no_lines_law : (line : ℕ → Option LineHeld) (n : ℕ) (ds : List DetailRead) → no_lines n ds line ≡ none_of n (length ds) line
no_lines_law line n [] = refl
no_lines_law line n (d ∷ ds) = ap (λ v. not (is_some (line n)) && v) (no_lines_law line (suc n) ds)
