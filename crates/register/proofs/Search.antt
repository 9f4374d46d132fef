-- A search in rows that come before what is sought, then are it, then come after it.
use Rattle.std.proofs.Common.{◌≡◌, Bool, true, false, ◌&&◌, ◌||◌, List, [], ◌∷◌, ◌++◌, Ordering, Less, Equal, Greater, sym, refl, ap, ◌∙◌, ⊎_elim, true≢false}
use mathlib.Core.Bool.{or_assoc}
use Rattle.std.specs.Ordering.{is_lt, is_eq, is_gt}
use Rattle.std.proofs.lemmas.Bool.{and_parts, and_from, cases_Bool}

-- where a row stands to what is sought
module _ {X : Type 0} (place : X → Ordering) where
  -- a row is it
  abbrev pub any : List X → Bool
  any [] = false
  any (x ∷ xs) = is_eq (place x) || any xs

  -- each row comes after it
  abbrev pub after : List X → Bool
  after [] = true
  after (x ∷ xs) = is_gt (place x) && after xs

  -- behind a row that does not come before it, each comes after it
  abbrev pub parted : List X → Bool
  parted [] = true
  parted (x ∷ xs) = (is_lt (place x) || after xs) && parted xs

  front : (xs ys : List X) → after (xs ++ ys) ≡ true → after xs ≡ true
  front [] ys t = refl
  front (x ∷ xs) ys t = let p = and_parts (is_gt (place x)) (after (xs ++ ys)) t in and_from (is_gt (place x)) (after xs) p.0 (front xs ys p.1)

  back : (xs ys : List X) → after (xs ++ ys) ≡ true → after ys ≡ true
  back [] ys t = t
  back (x ∷ xs) ys t = back xs ys (and_parts (is_gt (place x)) (after (xs ++ ys)) t).1

  either : (b c d : Bool) → (c ≡ true → d ≡ true) → (b || c) ≡ true → (b || d) ≡ true
  either true c d f t = refl
  either false c d f t = f t

  pub parted_front : (xs ys : List X) → parted (xs ++ ys) ≡ true → parted xs ≡ true
  parted_front [] ys t = refl
  parted_front (x ∷ xs) ys t =
      let p = and_parts (is_lt (place x) || after (xs ++ ys)) (parted (xs ++ ys)) t in
      and_from (is_lt (place x) || after xs) (parted xs) (either (is_lt (place x)) (after (xs ++ ys)) (after xs) (front xs ys) p.0) (parted_front xs ys p.1)

  pub parted_back : (xs ys : List X) → parted (xs ++ ys) ≡ true → parted ys ≡ true
  parted_back [] ys t = t
  parted_back (x ∷ xs) ys t = parted_back xs ys (and_parts (is_lt (place x) || after (xs ++ ys)) (parted (xs ++ ys)) t).1

  any_append : (xs ys : List X) → any (xs ++ ys) ≡ (any xs || any ys)
  any_append [] ys = refl
  any_append (x ∷ xs) ys = ap (λ b. is_eq (place x) || b) (any_append xs ys) ∙ sym (or_assoc (is_eq (place x)) (any xs) (any ys))

  none_by : (o : Ordering) → is_gt o ≡ true → is_eq o ≡ false
  none_by Less t = refl
  none_by Equal t = absurd (true≢false (sym t))
  none_by Greater t = refl

  none_after : (xs : List X) → after xs ≡ true → any xs ≡ false
  none_after [] t = refl
  none_after (x ∷ xs) t =
      let p = and_parts (is_gt (place x)) (after xs) t in
      ap (λ b. b || any xs) (none_by (place x) p.0) ∙ none_after xs p.1

  or_false : (b c : Bool) → c ≡ false → (b || c) ≡ b
  or_false true c t = refl
  or_false false c t = t

  or_true : (b c : Bool) → c ≡ true → (b || c) ≡ true
  or_true true c t = refl
  or_true false c t = t

  less_only : (o : Ordering) (b : Bool) → (is_lt o || b) ≡ true → b ≡ false → is_eq o ≡ false
  less_only Less b t f = refl
  less_only Equal b t f = absurd (true≢false (sym t ∙ f))
  less_only Greater b t f = refl

  -- a row that comes before it is in the way of `after`
  not_after : (xs : List X) (y : X) (ys : List X) → place y ≡ Less → after (xs ++ y ∷ ys) ≡ false
  not_after [] y ys e = ap (λ o. is_gt o && after ys) e
  not_after (x ∷ xs) y ys e =
      ⊎_elim (λ t. absurd (true≢false (sym (and_parts (is_gt (place x)) (after (xs ++ y ∷ ys)) t).1 ∙ not_after xs y ys e))) (λ f. f) (cases_Bool (after (x ∷ xs ++ y ∷ ys)))

  none_before : (xs : List X) (y : X) (ys : List X) → place y ≡ Less → parted (xs ++ y ∷ ys) ≡ true → any xs ≡ false
  none_before [] y ys e t = refl
  none_before (x ∷ xs) y ys e t =
      let p = and_parts (is_lt (place x) || after (xs ++ y ∷ ys)) (parted (xs ++ y ∷ ys)) t in
      ap (λ b. b || any xs) (less_only (place x) (after (xs ++ y ∷ ys)) p.0 (not_after xs y ys e)) ∙ none_before xs y ys e p.1

  pub row_less : (xs : List X) (y : X) (ys : List X) → place y ≡ Less → parted (xs ++ y ∷ ys) ≡ true → any (xs ++ y ∷ ys) ≡ any ys
  row_less xs y ys e t =
      any_append xs (y ∷ ys) ∙ ap (λ b. b || any (y ∷ ys)) (none_before xs y ys e t) ∙ ap (λ o. is_eq o || any ys) e

  pub row_equal : (xs : List X) (y : X) (ys : List X) → place y ≡ Equal → any (xs ++ y ∷ ys) ≡ true
  row_equal xs y ys e = any_append xs (y ∷ ys) ∙ or_true (any xs) (any (y ∷ ys)) (ap (λ o. is_eq o || any ys) e)

  pub row_greater : (xs : List X) (y : X) (ys : List X) → place y ≡ Greater → parted (xs ++ y ∷ ys) ≡ true → any (xs ++ y ∷ ys) ≡ any xs
  row_greater xs y ys e t =
      let p = and_parts (is_lt (place y) || after ys) (parted ys) (parted_back xs (y ∷ ys) t) in
      let a : after ys ≡ true = sym (ap (λ o. is_lt o || after ys) e) ∙ p.0 in
      any_append xs (y ∷ ys) ∙ or_false (any xs) (any (y ∷ ys)) (ap (λ o. is_eq o || any ys) e ∙ none_after ys a)
