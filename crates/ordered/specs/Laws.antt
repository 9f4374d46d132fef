-- Records whose keys ascend: they are those in the order of their keys, and no two have the same key.
-- Assumes nothing.
use Rattle.std.proofs.Common.{◌≡◌, ℕ, true, cond, not, List, [], ◌∷◌, is_some, Some, None, Ordering, Less, Equal, Greater, sym, refl, ap, ◌∙◌, true≢false}
use Rattle.std.proofs.lemmas.Bool.{and_parts, and_from}
use Rattle.std.specs.Ordering.{is_lt, is_eq, ordering_reverse}
use Rattle.std.specs.Cmp.{nat_cmp_total}
use Rattle.std.specs.Cmp.Lexicographic.{lists_total}
use Rattle.ordered.specs.Order.{ranks, leads, ascends, held, entered, sorted, apart}

pub is_less : (o : Ordering) → is_lt o ≡ true → o ≡ Less
is_less Less h = refl
is_less Equal h = absurd (true≢false (sym h))
is_less Greater h = absurd (true≢false (sym h))

after : (a b : List ℕ) → is_lt (ranks a b) ≡ true → ranks b a ≡ Greater
after a b h = (lists_total nat_cmp_total).antisymm b a ∙ ap ordering_reverse (is_less (ranks a b) h)

module _ {X : Type 0} (key : X → List ℕ) where
  pub sorted_same : (xs : List X) → ascends ranks key xs ≡ true → xs ≡ sorted ranks key xs
  sorted_same [] h = refl
  sorted_same (x ∷ xs) h =
      let p = and_parts (leads ranks key (key x) xs) (ascends ranks key xs) h in
      sym (go xs p.0) ∙ ap (entered ranks key x) (sorted_same xs p.1)
    where
      go : (ys : List X) → leads ranks key (key x) ys ≡ true → entered ranks key x ys ≡ x ∷ ys
      go [] l = refl
      go (y ∷ ys) l = ap (λ o. cond (is_lt o) (y ∷ entered ranks key x ys) (x ∷ y ∷ ys)) (after (key x) (key y) l)

  -- what comes before x comes before all that x leads
  further : (k : List ℕ) (x : X) (xs : List X) → is_lt (ranks k (key x)) ≡ true → leads ranks key (key x) xs ≡ true → leads ranks key k xs ≡ true
  further k x [] l m = refl
  further k x (y ∷ ys) l m = ap is_lt ((lists_total nat_cmp_total).trans k (key x) (key y) (is_less _ l) (is_less _ m))

  none_led : (k : List ℕ) (xs : List X) → leads ranks key k xs ≡ true → ascends ranks key xs ≡ true → held ranks key k xs ≡ None
  none_led k [] l h = refl
  none_led k (x ∷ xs) l h =
      let p = and_parts (leads ranks key (key x) xs) (ascends ranks key xs) h in
      ap (λ o. cond (is_eq o) (Some x) (held ranks key k xs)) (after k (key x) l) ∙ none_led k xs (further k x xs l p.0) p.1

  pub ascends_apart : (xs : List X) → ascends ranks key xs ≡ true → apart ranks key xs ≡ true
  ascends_apart [] h = refl
  ascends_apart (x ∷ xs) h =
      let p = and_parts (leads ranks key (key x) xs) (ascends ranks key xs) h in
      and_from _ _ (ap (λ o. not (is_some o)) (none_led (key x) xs p.0 p.1)) (ascends_apart xs p.1)
