-- What a search in records in ascending order rests on.
-- Assumes nothing.
use Rattle.std.proofs.Common.{◌≡◌, ℕ, zero, suc, ◌+◌, ◌<◌, ◌≤◌, true, cond, ◌&&◌, ◌⊎◌, List, [], ◌∷◌, length, get_or, set, is_some, Some, None, Ordering, Less, Equal, Greater, sym, refl, ap, ◌∙◌, subst, inl, inr, ⊎_elim, true≢false, arith}
use Rattle.std.proofs.lemmas.Bool.{cases_lt, eqb-true, and_parts, and_from}
use Rattle.std.proofs.lemmas.List.{get_or_read}
use Rattle.std.specs.Cmp.{IsTotalOrder, unsigned_tied, nat_cmp_total}
use Rattle.std.proofs.lemmas.Cmp.{alike_right}
use Rattle.std.specs.Ordering.{is_lt, is_eq, is_gt, ordering_reverse, ordering_then, nat_cmp}
use Rattle.std.specs.Cmp.Lexicographic.{lists_total}
use Rattle.std.specs.List.{insert}
use Rattle.ordered.specs.Laws.{is_less}
use Rattle.ordered.specs.Order.{ranks, TotalOrder, leads, ascends, held, entered, altered, Here, Gap}

-- ---- the order of bytes

first_two : (x y : ℕ) (xs ys : List ℕ) (o : Ordering) → nat_cmp x y ≡ o → ordering_then o (ranks xs ys) ≡ Equal → (ranks xs ys ≡ Equal → xs ≡ ys) → x ∷ xs ≡ y ∷ ys
first_two x y xs ys Less p h f = absurd (true≢false (ap is_lt h))
first_two x y xs ys Equal p h f = λ i. eqb-true x y (sym (unsigned_tied x y) ∙ ap is_eq p) i ∷ f h i
first_two x y xs ys Greater p h f = absurd (true≢false (ap is_gt h))

same_bytes : (a b : List ℕ) → ranks a b ≡ Equal → a ≡ b
same_bytes [] [] h = refl
same_bytes [] (y ∷ ys) h = absurd (true≢false (ap is_lt h))
same_bytes (x ∷ xs) [] h = absurd (true≢false (ap is_gt h))
same_bytes (x ∷ xs) (y ∷ ys) h = first_two x y xs ys (nat_cmp x y) refl h (same_bytes xs ys)

pub bytewise : TotalOrder ranks
bytewise = record { chain = (lists_total nat_cmp_total).trans; turn = (lists_total nat_cmp_total).antisymm; same = same_bytes }

-- what the comparison with the record at m says
pub told : {X : Type 0} (key : X → List ℕ) (xs : List X) (m : ℕ) (x : X) (b k : List ℕ) (r o : Ordering) → m < length xs → x ≡ get_or xs m x → b ≡ key x → r ≡ ranks b k → r ≡ o → (d : X) → ranks (key (get_or xs m d)) k ≡ o
told key xs m x b k r o l e q h p d =
    ap (λ y. ranks (key y) k) (sym (get_or_read xs m x l e d)) ∙ (ap (λ y. ranks y k) (sym q) ∙ (sym h ∙ p))

pub is_equal : (o : Ordering) → is_eq o ≡ true → o ≡ Equal
is_equal Less h = absurd (true≢false (sym h))
is_equal Equal h = refl
is_equal Greater h = absurd (true≢false (sym h))

module _ {K : Type 0} (rank : K → K → Ordering) (total : TotalOrder rank) where
  -- ---- the order of keys

  pub turn_less : (a b : K) → rank a b ≡ Less → rank b a ≡ Greater
  turn_less a b h = total.turn b a ∙ ap ordering_reverse h

  pub turn_greater : (a b : K) → rank a b ≡ Greater → rank b a ≡ Less
  turn_greater a b h = total.turn b a ∙ ap ordering_reverse h

  pub level : (a b c : K) → rank a b ≡ Equal → rank a c ≡ rank b c
  level a b c h = ap (λ t. rank t c) (total.same a b h)

  -- the same laws as the library states them
  pub laws : IsTotalOrder rank
  laws = record { antisymm = total.turn; trans = total.chain; congr = level }

  module _ {X : Type 0} (key : X → K) where
    -- each key of xs comes after k
    abbrev pub Above : K → List X → Type 0
    Above k xs = (j : ℕ) (d : X) → j < length xs → rank k (key (get_or xs j d)) ≡ Less

    head_of : (x : X) (xs : List X) → ascends rank key (x ∷ xs) ≡ true → leads rank key (key x) xs ≡ true
    head_of x xs h = (and_parts (leads rank key (key x) xs) (ascends rank key xs) h).0

    tail_of : (x : X) (xs : List X) → ascends rank key (x ∷ xs) ≡ true → ascends rank key xs ≡ true
    tail_of x xs h = (and_parts (leads rank key (key x) xs) (ascends rank key xs) h).1

    above : (k : K) (xs : List X) → leads rank key k xs ≡ true → ascends rank key xs ≡ true → Above k xs
    above k [] l h j d b = absurd (omega arith)
    above k (x ∷ xs) l h zero d b = is_less (rank k (key x)) l
    above k (x ∷ xs) l h (suc j) d b =
        total.chain k (key x) (key (get_or xs j d)) (is_less (rank k (key x)) l)
        (above (key x) xs (head_of x xs h) (tail_of x xs h) j d (omega arith))

    -- an earlier key comes before a later one
    pub far : (xs : List X) → ascends rank key xs ≡ true → (i j : ℕ) (d : X) → i < j → j < length xs → rank (key (get_or xs i d)) (key (get_or xs j d)) ≡ Less
    far [] h i j d l b = absurd (omega arith)
    far (x ∷ xs) h zero zero d l b = absurd (omega arith)
    far (x ∷ xs) h zero (suc j) d l b = above (key x) xs (head_of x xs h) (tail_of x xs h) j d (omega arith)
    far (x ∷ xs) h (suc i) zero d l b = absurd (omega arith)
    far (x ∷ xs) h (suc i) (suc j) d l b = far xs (tail_of x xs h) i j d (omega arith) (omega arith)

    -- below n the keys come before k, and from n on after it
    abbrev pub Low : K → List X → ℕ → Type 0
    Low k xs n = (i : ℕ) (d : X) → i < n → i < length xs → rank (key (get_or xs i d)) k ≡ Less

    abbrev pub High : K → List X → ℕ → Type 0
    High k xs n = (i : ℕ) (d : X) → n ≤ i → i < length xs → rank (key (get_or xs i d)) k ≡ Greater

    low_by : (k : K) (xs : List X) (m i : ℕ) (d : X) → ascends rank key xs ≡ true → m < length xs → rank (key (get_or xs m d)) k ≡ Less → (i < m) ⊎ (i ≡ m) → rank (key (get_or xs i d)) k ≡ Less
    low_by k xs m i d h b e (inl l) = total.chain (key (get_or xs i d)) (key (get_or xs m d)) k (far xs h i m d l b) e
    low_by k xs m i d h b e (inr p) = ap (λ n. rank (key (get_or xs n d)) k) p ∙ e

    high_by : (k : K) (xs : List X) (m i : ℕ) (d : X) → ascends rank key xs ≡ true → i < length xs → rank (key (get_or xs m d)) k ≡ Greater → (m < i) ⊎ (i ≡ m) → rank (key (get_or xs i d)) k ≡ Greater
    high_by k xs m i d h b e (inl l) =
        turn_less k (key (get_or xs i d)) (total.chain k (key (get_or xs m d)) (key (get_or xs i d)) (turn_greater (key (get_or xs m d)) k e) (far xs h m i d l b))
    high_by k xs m i d h b e (inr p) = ap (λ n. rank (key (get_or xs n d)) k) p ∙ e

    split_under : (i m : ℕ) → i < m + 1 → (i < m) ⊎ (i ≡ m)
    split_under i m h = ⊎_elim inl (λ n. inr (omega arith)) (cases_lt i m)

    split_over : (i m : ℕ) → m ≤ i → (m < i) ⊎ (i ≡ m)
    split_over i m h = ⊎_elim inl (λ n. inr (omega arith)) (cases_lt m i)

    pub low_more : (k : K) (xs : List X) (m : ℕ) → ascends rank key xs ≡ true → m < length xs → ((d : X) → rank (key (get_or xs m d)) k ≡ Less) → Low k xs (m + 1)
    low_more k xs m h b e i d l _ = low_by k xs m i d h b (e d) (split_under i m l)

    pub high_at : (k : K) (xs : List X) (m : ℕ) → ascends rank key xs ≡ true → ((d : X) → rank (key (get_or xs m d)) k ≡ Greater) → High k xs m
    high_at k xs m h e i d l b = high_by k xs m i d h b (e d) (split_over i m l)

    -- ---- a key that is held

    held_at : (k : K) (xs : List X) (i : ℕ) (d : X) → ascends rank key xs ≡ true → i < length xs → rank (key (get_or xs i d)) k ≡ Equal → held rank key k xs ≡ Some (get_or xs i d)
    held_at k [] i d h b e = absurd (omega arith)
    held_at k (x ∷ xs) zero d h b e = ap (λ o. cond (is_eq o) (Some x) (held rank key k xs)) e
    held_at k (x ∷ xs) (suc i) d h b e =
        ap (λ o. cond (is_eq o) (Some x) (held rank key k xs)) (sym (alike_right laws (key (get_or xs i d)) k (key x) e) ∙ far (x ∷ xs) h zero (suc i) d (omega arith) b)
        ∙ held_at k xs i d (tail_of x xs h) (omega arith) e

    altered_at : (k : K) (f : X → X) (xs : List X) (i : ℕ) (d : X) → ascends rank key xs ≡ true → i < length xs → rank (key (get_or xs i d)) k ≡ Equal → altered rank key k f xs ≡ set xs i (f (get_or xs i d))
    altered_at k f [] i d h b e = absurd (omega arith)
    altered_at k f (x ∷ xs) zero d h b e = ap (λ o. cond (is_eq o) (f x ∷ xs) (x ∷ altered rank key k f xs)) e
    altered_at k f (x ∷ xs) (suc i) d h b e =
        ap (λ o. cond (is_eq o) (f x ∷ xs) (x ∷ altered rank key k f xs)) (sym (alike_right laws (key (get_or xs i d)) k (key x) e) ∙ far (x ∷ xs) h zero (suc i) d (omega arith) b)
        ∙ ap (λ t. x ∷ t) (altered_at k f xs i d (tail_of x xs h) (omega arith) e)

    leads_level : (a b : K) (xs : List X) → rank a b ≡ Equal → leads rank key a xs ≡ leads rank key b xs
    leads_level a b [] e = refl
    leads_level a b (x ∷ xs) e = ap is_lt (level a b (key x) e)

    leads_set : (k : K) (xs : List X) (i : ℕ) (y d : X) → rank (key (get_or xs i d)) (key y) ≡ Equal → leads rank key k xs ≡ leads rank key k (set xs i y)
    leads_set k [] i y d e = refl
    leads_set k (x ∷ xs) zero y d e = ap is_lt (alike_right laws (key x) (key y) k e)
    leads_set k (x ∷ xs) (suc i) y d e = refl

    -- another record of the same key
    pub ascends_set : (xs : List X) (i : ℕ) (y d : X) → i < length xs → rank (key (get_or xs i d)) (key y) ≡ Equal → ascends rank key (set xs i y) ≡ ascends rank key xs
    ascends_set [] i y d b e = refl
    ascends_set (x ∷ xs) zero y d b e = ap (λ t. t && ascends rank key xs) (sym (leads_level (key x) (key y) xs e))
    ascends_set (x ∷ xs) (suc i) y d b e = λ j. sym (leads_set (key x) xs i y d e) j && ascends_set xs i y d (omega arith) e j

    there_at : (k : K) (xs : List X) (i : ℕ) → ascends rank key xs ≡ true → i < length xs → ((d : X) → rank (key (get_or xs i d)) k ≡ Equal) → is_some (held rank key k xs) ≡ true
    there_at k [] i h b e = absurd (omega arith)
    there_at k (x ∷ xs) i h b e = ap is_some (held_at k (x ∷ xs) i x h b (e x))

    pub here : (k : K) (xs : List X) (i : ℕ) → ascends rank key xs ≡ true → i < length xs → ((d : X) → rank (key (get_or xs i d)) k ≡ Equal) → Here rank key k xs i
    here k xs i h b e = record {
      within = b;
      keyed = λ d. total.same (key (get_or xs i d)) k (e d);
      is = λ d. held_at k xs i d h b (e d);
      there = there_at k xs i h b e;
      change = λ f d. altered_at k f xs i d h b (e d);
      stays = λ y p. ascends_set xs i y y b (subst (λ q. rank (key (get_or xs i y)) q ≡ Equal) (sym p) (e y)) ∙ h;
    }

    -- ---- a key that is not

    held_none : (k : K) (xs : List X) (i : ℕ) → Low k xs i → High k xs i → held rank key k xs ≡ None
    held_none k [] i lo hi = refl
    held_none k (x ∷ xs) zero lo hi =
        ap (λ o. cond (is_eq o) (Some x) (held rank key k xs)) (hi zero x (omega arith) (omega arith))
        ∙ held_none k xs zero (λ j d l b. absurd (omega arith)) (λ j d l b. hi (suc j) d (omega arith) (omega arith))
    held_none k (x ∷ xs) (suc i) lo hi =
        ap (λ o. cond (is_eq o) (Some x) (held rank key k xs)) (lo zero x (omega arith) (omega arith))
        ∙ held_none k xs i (λ j d l b. lo (suc j) d (omega arith) (omega arith)) (λ j d l b. hi (suc j) d (omega arith) (omega arith))

    enters : (x : X) (xs : List X) (i : ℕ) → Low (key x) xs i → High (key x) xs i → entered rank key x xs ≡ insert xs i x
    enters x [] zero lo hi = refl
    enters x [] (suc i) lo hi = refl
    enters x (y ∷ ys) zero lo hi = ap (λ o. cond (is_lt o) (y ∷ entered rank key x ys) (x ∷ y ∷ ys)) (hi zero x (omega arith) (omega arith))
    enters x (y ∷ ys) (suc i) lo hi =
        ap (λ o. cond (is_lt o) (y ∷ entered rank key x ys) (x ∷ y ∷ ys)) (lo zero x (omega arith) (omega arith))
        ∙ ap (λ t. y ∷ t) (enters x ys i (λ j d l b. lo (suc j) d (omega arith) (omega arith)) (λ j d l b. hi (suc j) d (omega arith) (omega arith)))

    leads_inserted : (k : K) (x : X) (ys : List X) (i : ℕ) → rank k (key x) ≡ Less → leads rank key k ys ≡ true → leads rank key k (insert ys i x) ≡ true
    leads_inserted k x [] zero e h = ap is_lt e
    leads_inserted k x [] (suc i) e h = ap is_lt e
    leads_inserted k x (y ∷ ys) zero e h = ap is_lt e
    leads_inserted k x (y ∷ ys) (suc i) e h = h

    ascends_inserted : (x : X) (xs : List X) (i : ℕ) → ascends rank key xs ≡ true → Low (key x) xs i → High (key x) xs i → ascends rank key (insert xs i x) ≡ true
    ascends_inserted x [] zero h lo hi = refl
    ascends_inserted x [] (suc i) h lo hi = refl
    ascends_inserted x (y ∷ ys) zero h lo hi =
        and_from (is_lt (rank (key x) (key y))) (ascends rank key (y ∷ ys)) (ap is_lt (turn_greater (key y) (key x) (hi zero x (omega arith) (omega arith)))) h
    ascends_inserted x (y ∷ ys) (suc i) h lo hi =
        and_from (leads rank key (key y) (insert ys i x)) (ascends rank key (insert ys i x))
        (leads_inserted (key y) x ys i (lo zero x (omega arith) (omega arith)) (head_of y ys h))
        (ascends_inserted x ys i (tail_of y ys h) (λ j d l b. lo (suc j) d (omega arith) (omega arith)) (λ j d l b. hi (suc j) d (omega arith) (omega arith)))

    pub gap : (k : K) (xs : List X) (i : ℕ) → ascends rank key xs ≡ true → i ≤ length xs → Low k xs i → High k xs i → Gap rank key k xs i
    gap k xs i h b lo hi = record {
      within = b;
      none = held_none k xs i lo hi;
      enter = λ x p. enters x xs i (subst (λ q. Low q xs i) (sym p) lo) (subst (λ q. High q xs i) (sym p) hi);
      stays = λ x p. ascends_inserted x xs i h (subst (λ q. Low q xs i) (sym p) lo) (subst (λ q. High q xs i) (sym p) hi);
    }
