-- What the library's searches answer, of records.
-- Assumes nothing.
use Rattle.std.proofs.Common.{◌≡◌, ℕ, ◌<◌, true, List, length, Some, None, Ok, Err, Option, Result, sym, ap, ◌∙◌, MatchOption, subst, arith}
use Rattle.std.specs.Ordering.{is_lt}
use Rattle.std.specs.Result.{result_ok}
use Rattle.std.specs.List.{AllWithin, HoldsAt}
use Rattle.ordered.specs.Order.{ranks, ascends, Found, Scanned}
use Rattle.ordered.proofs.Ascending.{bytewise, far}
use Rattle.ordered.proofs.Arrive.{less_apart, first_at, nowhere, missed}

module _ {X : Type 0} (key : X → List ℕ) (k : List ℕ) (xs : List X) where
  pub scanned : (r : Option ℕ) → MatchOption r (AllWithin (λ x. key x ≡ k → ⊥) xs 0 (length xs)) (λ i. (i < length xs) × HoldsAt (λ x. key x ≡ k) xs i × AllWithin (λ x. key x ≡ k → ⊥) xs 0 i) → Scanned ranks key k xs r
  scanned None e = nowhere ranks bytewise key k xs (λ j d l m. e j d (omega arith) l)
  scanned (Some i) e = first_at ranks bytewise key k xs i e.0 (λ j d l m. e.2 j d (omega arith) l) e.1

  -- what is found where records stand in order
  pub found_scanned : ascends ranks key xs ≡ true → (r : Result ℕ ℕ) (o : Option ℕ) → o ≡ result_ok r → Found ranks key k xs r → Scanned ranks key k xs o
  found_scanned h r o e f = subst (Scanned ranks key k xs) (sym e) (go r f)
    where
      go : (r : Result ℕ ℕ) → Found ranks key k xs r → Scanned ranks key k xs (result_ok r)
      go (Ok i) f =
          first_at ranks bytewise key k xs i f.within
          (λ j d l m s. less_apart ranks bytewise _ _ (ap is_lt (far ranks bytewise key xs h j i d l f.within)) (s ∙ sym (f.keyed d))) f.keyed
      go (Err i) f = nowhere ranks bytewise key k xs (missed ranks bytewise key k xs f.none (length xs))
