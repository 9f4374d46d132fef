-- A loop that joins a test of each element.
use Rattle.std.proofs.Common.{◌≡◌, ℕ, zero, suc, ◌≤◌, Bool, true, false, not, ◌&&◌, ◌||◌, List, [], ◌∷◌, length, take, drop, sym, refl, ap, ◌∙◌}
use mathlib.Core.Bool.{and-true}
use Rattle.std.proofs.lemmas.List.{at_drop_all}
use Rattle.std.proofs.lemmas.Bool.{and_parts, and_from}
use Rattle.octets.specs.Classes.{all}

pub join_end : (p : ℕ → Bool) (xs : List ℕ) (i : ℕ) (ok r : Bool) → length xs ≤ i → (ok && all p (drop i xs)) ≡ r → ok ≡ r
join_end p xs i ok r h inv = sym (and-true ok) ∙ ap (λ b. ok && b) (sym (at_drop_all (all p) xs i h)) ∙ inv

pub all_drop : (p : ℕ → Bool) (n : ℕ) (xs : List ℕ) → all p xs ≡ true → all p (drop n xs) ≡ true
all_drop p zero xs t = t
all_drop p (suc n) [] t = t
all_drop p (suc n) (x ∷ xs) t = all_drop p n xs (and_parts (p x) (all p xs) t).1

pub all_take : (p : ℕ → Bool) (n : ℕ) (xs : List ℕ) → all p xs ≡ true → all p (take n xs) ≡ true
all_take p zero xs t = refl
all_take p (suc n) [] t = t
all_take p (suc n) (x ∷ xs) t = let q = and_parts (p x) (all p xs) t in and_from (p x) (all p (take n xs)) q.0 (all_take p n xs q.1)

-- a part of what passes
pub all_part : (p : ℕ → Bool) (n a : ℕ) (xs : List ℕ) → all p xs ≡ true → all p (take n (drop a xs)) ≡ true
all_part p n a xs t = all_take p n (drop a xs) (all_drop p a xs t)

-- what is known of bytes is known of a part of them
pub known_part : (known : Bool) (p : ℕ → Bool) (n a : ℕ) (xs ys : List ℕ) → ys ≡ take n (drop a xs) → (not known || all p xs) ≡ true → (not known || all p ys) ≡ true
known_part true p n a xs ys e t = ap (all p) e ∙ all_part p n a xs t
known_part false p n a xs ys e t = refl
