-- Records that all pass a test, and what an action on them leaves.
-- Assumes nothing.
use Rattle.std.proofs.Common.{◌≡◌, ℕ, zero, suc, ◌<◌, Bool, true, false, cond, List, [], ◌∷◌, length, get_or, set, Ordering, refl, arith}
use Rattle.std.specs.Ordering.{is_lt}
use Rattle.std.specs.List.{insert}
use Rattle.std.proofs.lemmas.Bool.{and_parts, and_from}
use Rattle.ordered.specs.Order.{every, entered, sorted}

module _ {X : Type 0} (t : X → Bool) where
  pub every_inserted : (xs : List X) (i : ℕ) (x : X) → every t xs ≡ true → t x ≡ true → every t (insert xs i x) ≡ true
  every_inserted [] zero x h l = and_from _ _ l refl
  every_inserted [] (suc i) x h l = and_from _ _ l refl
  every_inserted (y ∷ ys) zero x h l = and_from _ _ l h
  every_inserted (y ∷ ys) (suc i) x h l = let p = and_parts (t y) (every t ys) h in and_from _ _ p.0 (every_inserted ys i x p.1 l)

  pub every_set : (xs : List X) (i : ℕ) (x : X) → every t xs ≡ true → t x ≡ true → every t (set xs i x) ≡ true
  every_set [] i x h l = refl
  every_set (y ∷ ys) zero x h l = and_from _ _ l (and_parts (t y) (every t ys) h).1
  every_set (y ∷ ys) (suc i) x h l = let p = and_parts (t y) (every t ys) h in and_from _ _ p.0 (every_set ys i x p.1 l)

  pub every_at : (xs : List X) (i : ℕ) (d : X) → every t xs ≡ true → i < length xs → t (get_or xs i d) ≡ true
  every_at [] i d h l = absurd (omega arith)
  every_at (y ∷ ys) zero d h l = (and_parts (t y) (every t ys) h).0
  every_at (y ∷ ys) (suc i) d h l = every_at ys i d (and_parts (t y) (every t ys) h).1 (omega arith)

  module _ {K : Type 0} (rank : K → K → Ordering) (key : X → K) where
    pub every_entered : (x : X) (xs : List X) → every t xs ≡ true → t x ≡ true → every t (entered rank key x xs) ≡ true
    every_entered x [] h l = and_from _ _ l refl
    every_entered x (y ∷ ys) h l = let p = and_parts (t y) (every t ys) h in go (is_lt (rank (key y) (key x))) (and_from _ _ p.0 (every_entered x ys p.1 l)) (and_from _ _ l h)
      where
        go : (v : Bool) → every t (y ∷ entered rank key x ys) ≡ true → every t (x ∷ y ∷ ys) ≡ true → every t (cond v (y ∷ entered rank key x ys) (x ∷ y ∷ ys)) ≡ true
        go true a b = a
        go false a b = b

    pub every_sorted : (xs : List X) → every t xs ≡ true → every t (sorted rank key xs) ≡ true
    every_sorted [] h = refl
    every_sorted (x ∷ xs) h = let p = and_parts (t x) (every t xs) h in every_entered x (sorted rank key xs) (every_sorted xs p.1) p.0
