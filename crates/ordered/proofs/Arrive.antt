-- Records in order of arrival, and the same records in the order of their keys.
-- Assumes nothing.
use Rattle.std.proofs.Common.{◌≡◌, ℕ, zero, suc, ◌<◌, Bool, true, false, cond, not, ◌&&◌, ◌⊎◌, List, [], ◌∷◌, ◌++◌, length, get_or, set, is_some, Some, None, Option, Ordering, Less, Equal, Greater, sym, refl, ap, ◌∙◌, subst, inl, inr, ⊎_elim, true≢false, arith}
use Rattle.std.specs.Ordering.{is_lt, is_eq}
use Rattle.std.proofs.lemmas.Bool.{and_parts, and_from, cases_Bool, cond-true, cond-false, not-true, not_from_false}
use Rattle.ordered.specs.Order.{TotalOrder, leads, ascends, held, entered, altered, sorted, apart, First, Nowhere}
use Rattle.std.proofs.lemmas.Cmp.{tied_itself}
use Rattle.ordered.specs.Laws.{is_less}
use Rattle.ordered.proofs.Ascending.{level, laws, turn_less, turn_greater, is_equal}

exchange : {A : Type 0} (p q : Bool) (a b c : A) → (p ≡ true → q ≡ true → ⊥) → cond p a (cond q b c) ≡ cond q b (cond p a c)
exchange true true a b c n = absurd (n refl refl)
exchange true false a b c n = refl
exchange false true a b c n = refl
exchange false false a b c n = refl

module _ {K : Type 0} (rank : K → K → Ordering) (total : TotalOrder rank) where
  pub eq_same : (a b : K) → is_eq (rank a b) ≡ true → a ≡ b
  eq_same a b h = total.same a b (is_equal (rank a b) h)

  pub same_eq : (a b : K) → a ≡ b → is_eq (rank a b) ≡ true
  same_eq a b e = ap (λ t. is_eq (rank a t)) (sym e) ∙ ap is_eq (tied_itself (laws rank total) a)

  pub apart_eq : (a b : K) → (a ≡ b → ⊥) → is_eq (rank a b) ≡ false
  apart_eq a b n = ⊎_elim (λ h. absurd (n (eq_same a b h))) (λ h. h) (cases_Bool (is_eq (rank a b)))

  pub less_apart : (a b : K) → is_lt (rank a b) ≡ true → a ≡ b → ⊥
  less_apart a b h e = true≢false (sym h ∙ (ap (λ t. is_lt (rank a t)) (sym e) ∙ ap is_lt (tied_itself (laws rank total) a)))

  -- of two keys that differ one comes before the other
  one_first : (a b : K) (o : Ordering) → rank a b ≡ o → (a ≡ b → ⊥) → ((is_lt (rank a b) ≡ true) × (is_lt (rank b a) ≡ false)) ⊎ ((is_lt (rank a b) ≡ false) × (is_lt (rank b a) ≡ true))
  one_first a b Less h n = inl (ap is_lt h, ap is_lt (turn_less rank total a b h))
  one_first a b Equal h n = absurd (n (total.same a b h))
  one_first a b Greater h n = inr (ap is_lt h, ap is_lt (turn_greater rank total a b h))

  -- c is not before a, and is before b
  between_by : (a b c : K) (o : Ordering) → rank c a ≡ o → is_lt o ≡ false → is_lt (rank c b) ≡ true → is_lt (rank a b) ≡ true
  between_by a b c Less h l m = absurd (true≢false l)
  between_by a b c Equal h l m = ap is_lt (sym (level rank total c a b h)) ∙ m
  between_by a b c Greater h l m = ap is_lt (total.chain a c b (turn_greater rank total c a h) (is_less (rank c b) m))

  between : (a b c : K) → is_lt (rank c a) ≡ false → is_lt (rank c b) ≡ true → is_lt (rank a b) ≡ true
  between a b c l m = between_by a b c (rank c a) refl l m

  module _ {X : Type 0} (key : X → K) where
    go_on : (x y : X) (ys : List X) → is_lt (rank (key y) (key x)) ≡ true → entered rank key x (y ∷ ys) ≡ y ∷ entered rank key x ys
    go_on x y ys h = cond-true (is_lt (rank (key y) (key x))) (y ∷ entered rank key x ys) (x ∷ y ∷ ys) h

    stop : (x y : X) (ys : List X) → is_lt (rank (key y) (key x)) ≡ false → entered rank key x (y ∷ ys) ≡ x ∷ y ∷ ys
    stop x y ys h = cond-false (is_lt (rank (key y) (key x))) (y ∷ entered rank key x ys) (x ∷ y ∷ ys) h

    alter_here : (k : K) (f : X → X) (x : X) (xs : List X) → key x ≡ k → altered rank key k f (x ∷ xs) ≡ f x ∷ xs
    alter_here k f x xs e = cond-true (is_eq (rank (key x) k)) (f x ∷ xs) (x ∷ altered rank key k f xs) (same_eq (key x) k e)

    alter_on : (k : K) (f : X → X) (x : X) (xs : List X) → (key x ≡ k → ⊥) → altered rank key k f (x ∷ xs) ≡ x ∷ altered rank key k f xs
    alter_on k f x xs n = cond-false (is_eq (rank (key x) k)) (f x ∷ xs) (x ∷ altered rank key k f xs) (apart_eq (key x) k n)

    -- ---- looking up

    held_entered : (k : K) (x : X) (ys : List X) → held rank key k (entered rank key x ys) ≡ cond (is_eq (rank (key x) k)) (Some x) (held rank key k ys)
    held_entered k x [] = refl
    held_entered k x (y ∷ ys) =
        ⊎_elim
        (λ h. ap (held rank key k) (go_on x y ys h)
        ∙ (ap (cond (is_eq (rank (key y) k)) (Some y)) (held_entered k x ys)
        ∙ exchange (is_eq (rank (key y) k)) (is_eq (rank (key x) k)) (Some y) (Some x) (held rank key k ys)
        (λ p q. less_apart (key y) (key x) h (eq_same (key y) k p ∙ sym (eq_same (key x) k q)))))
        (λ h. ap (held rank key k) (stop x y ys h))
        (cases_Bool (is_lt (rank (key y) (key x))))

    pub held_sorted : (k : K) (xs : List X) → held rank key k (sorted rank key xs) ≡ held rank key k xs
    held_sorted k [] = refl
    held_sorted k (x ∷ xs) = held_entered k x (sorted rank key xs) ∙ ap (cond (is_eq (rank (key x) k)) (Some x)) (held_sorted k xs)

    -- ---- a change

    module _ (k : K) (f : X → X) (keeps : (x : X) → key (f x) ≡ key x) where
      alter_own : (x : X) (ys : List X) → key x ≡ k → altered rank key k f (entered rank key x ys) ≡ entered rank key (f x) ys
      alter_own x [] e = alter_here k f x [] e
      alter_own x (y ∷ ys) e =
          ⊎_elim
          (λ h. ap (altered rank key k f) (go_on x y ys h)
          ∙ (alter_on k f y (entered rank key x ys) (λ p. less_apart (key y) (key x) h (p ∙ sym e))
          ∙ (ap (λ t. y ∷ t) (alter_own x ys e)
          ∙ sym (go_on (f x) y ys (ap (λ t. is_lt (rank (key y) t)) (keeps x) ∙ h)))))
          (λ h. ap (altered rank key k f) (stop x y ys h)
          ∙ (alter_here k f x (y ∷ ys) e
          ∙ sym (stop (f x) y ys (ap (λ t. is_lt (rank (key y) t)) (keeps x) ∙ h))))
          (cases_Bool (is_lt (rank (key y) (key x))))

      alter_other : (x : X) (ys : List X) → (key x ≡ k → ⊥) → altered rank key k f (entered rank key x ys) ≡ entered rank key x (altered rank key k f ys)
      alter_other x [] n = alter_on k f x [] n
      alter_other x (y ∷ ys) n =
          ⊎_elim
          (λ h. ap (altered rank key k f) (go_on x y ys h)
          ∙ ⊎_elim
          (λ q. let e = eq_same (key y) k q in
          alter_here k f y (entered rank key x ys) e
          ∙ (sym (go_on x (f y) ys (ap (λ t. is_lt (rank t (key x))) (keeps y) ∙ h))
          ∙ ap (entered rank key x) (sym (alter_here k f y ys e))))
          (λ q. let m : key y ≡ k → ⊥ = λ e. true≢false (sym (same_eq (key y) k e) ∙ q) in
          alter_on k f y (entered rank key x ys) m
          ∙ (ap (λ t. y ∷ t) (alter_other x ys n)
          ∙ (sym (go_on x y (altered rank key k f ys) h)
          ∙ ap (entered rank key x) (sym (alter_on k f y ys m)))))
          (cases_Bool (is_eq (rank (key y) k))))
          (λ h. ap (altered rank key k f) (stop x y ys h)
          ∙ (alter_on k f x (y ∷ ys) n
          ∙ ⊎_elim
          (λ q. let e = eq_same (key y) k q in
          ap (λ t. x ∷ t) (alter_here k f y ys e)
          ∙ (sym (stop x (f y) ys (ap (λ t. is_lt (rank t (key x))) (keeps y) ∙ h))
          ∙ ap (entered rank key x) (sym (alter_here k f y ys e))))
          (λ q. let m : key y ≡ k → ⊥ = λ e. true≢false (sym (same_eq (key y) k e) ∙ q) in
          ap (λ t. x ∷ t) (alter_on k f y ys m)
          ∙ (sym (stop x y (altered rank key k f ys) h)
          ∙ ap (entered rank key x) (sym (alter_on k f y ys m))))
          (cases_Bool (is_eq (rank (key y) k)))))
          (cases_Bool (is_lt (rank (key y) (key x))))

    -- the keys below n are not k
    abbrev pub Missed : K → List X → ℕ → Type 0
    Missed k xs n = (j : ℕ) (d : X) → j < n → j < length xs → key (get_or xs j d) ≡ k → ⊥

    held_first : (k : K) (xs : List X) (i : ℕ) (d : X) → i < length xs → Missed k xs i → key (get_or xs i d) ≡ k → held rank key k xs ≡ Some (get_or xs i d)
    held_first k [] i d l n e = absurd (omega arith)
    held_first k (x ∷ xs) zero d l n e = cond-true (is_eq (rank (key x) k)) (Some x) (held rank key k xs) (same_eq (key x) k e)
    held_first k (x ∷ xs) (suc i) d l n e =
        cond-false (is_eq (rank (key x) k)) (Some x) (held rank key k xs) (apart_eq (key x) k (n zero x (omega arith) (omega arith)))
        ∙ held_first k xs i d (omega arith) (λ j c a b. n (suc j) c (omega arith) (omega arith)) e

    change_first : (k : K) (f : X → X) → ((x : X) → key (f x) ≡ key x) → (xs : List X) (i : ℕ) (d : X) → i < length xs → Missed k xs i → key (get_or xs i d) ≡ k → altered rank key k f (sorted rank key xs) ≡ sorted rank key (set xs i (f (get_or xs i d)))
    change_first k f keeps [] i d l n e = absurd (omega arith)
    change_first k f keeps (x ∷ xs) zero d l n e = alter_own k f keeps x (sorted rank key xs) e
    change_first k f keeps (x ∷ xs) (suc i) d l n e =
        alter_other k f keeps x (sorted rank key xs) (n zero x (omega arith) (omega arith))
        ∙ ap (entered rank key x) (change_first k f keeps xs i d (omega arith) (λ j c a b. n (suc j) c (omega arith) (omega arith)) e)

    there_first : (k : K) (xs : List X) (i : ℕ) → i < length xs → Missed k xs i → ((d : X) → key (get_or xs i d) ≡ k) → is_some (held rank key k (sorted rank key xs)) ≡ true
    there_first k [] i l n e = absurd (omega arith)
    there_first k (x ∷ xs) i l n e = ap is_some (held_sorted k (x ∷ xs) ∙ held_first k (x ∷ xs) i x l n (e x))

    pub first_at : (k : K) (xs : List X) (i : ℕ) → i < length xs → Missed k xs i → ((d : X) → key (get_or xs i d) ≡ k) → First rank key k xs i
    first_at k xs i l n e = record {
      within = l;
      keyed = e;
      is = λ d. held_sorted k xs ∙ held_first k xs i d l n (e d);
      there = there_first k xs i l n e;
      change = λ f keeps d. change_first k f keeps xs i d l n (e d);
    }

    -- ---- an arrival

    two : (x y : X) (zs : List X) → (key x ≡ key y → ⊥) → entered rank key x zs ≡ x ∷ zs → entered rank key y zs ≡ y ∷ zs → entered rank key x (y ∷ zs) ≡ entered rank key y (x ∷ zs)
    two x y zs n p q =
        ⊎_elim
        (λ h. stop x y zs h.1 ∙ (ap (λ t. x ∷ t) (sym q) ∙ sym (go_on y x zs h.0)))
        (λ h. go_on x y zs h.1 ∙ (ap (λ t. y ∷ t) p ∙ sym (stop y x zs h.0)))
        (one_first (key x) (key y) (rank (key x) (key y)) refl n)

    swap : (x y : X) (zs : List X) → (key x ≡ key y → ⊥) → entered rank key x (entered rank key y zs) ≡ entered rank key y (entered rank key x zs)
    swap x y [] n = two x y [] n refl refl
    swap x y (z ∷ zs) n =
        ⊎_elim
        (λ a. ⊎_elim
        (λ b. ap (entered rank key x) (go_on y z zs b) ∙ (go_on x z (entered rank key y zs) a ∙ (ap (λ t. z ∷ t) (swap x y zs n) ∙ (sym (go_on y z (entered rank key x zs) b) ∙ ap (entered rank key y) (sym (go_on x z zs a))))))
        (λ b. let l = between (key y) (key x) (key z) b a in
        ap (entered rank key x) (stop y z zs b) ∙ (go_on x y (z ∷ zs) l ∙ (ap (λ t. y ∷ t) (go_on x z zs a) ∙ (sym (stop y z (entered rank key x zs) b) ∙ ap (entered rank key y) (sym (go_on x z zs a))))))
        (cases_Bool (is_lt (rank (key z) (key y)))))
        (λ a. ⊎_elim
        (λ b. let l = between (key x) (key y) (key z) a b in
        ap (entered rank key x) (go_on y z zs b) ∙ (stop x z (entered rank key y zs) a ∙ (ap (λ t. x ∷ t) (sym (go_on y z zs b)) ∙ (sym (go_on y x (z ∷ zs) l) ∙ ap (entered rank key y) (sym (stop x z zs a))))))
        (λ b. ap (entered rank key x) (stop y z zs b) ∙ (two x y (z ∷ zs) n (stop x z zs a) (stop y z zs b) ∙ ap (entered rank key y) (sym (stop x z zs a))))
        (cases_Bool (is_lt (rank (key z) (key y)))))
        (cases_Bool (is_lt (rank (key z) (key x))))

    arrives : (x : X) (xs : List X) → Missed (key x) xs (length xs) → sorted rank key (xs ++ x ∷ []) ≡ entered rank key x (sorted rank key xs)
    arrives x [] n = refl
    arrives x (y ∷ ys) n =
        ap (entered rank key y) (arrives x ys (λ j d a b. n (suc j) d (omega arith) (omega arith)))
        ∙ swap y x (sorted rank key ys) (n zero y (omega arith) (omega arith))

    held_nowhere : (k : K) (xs : List X) → Missed k xs (length xs) → held rank key k xs ≡ None
    held_nowhere k [] n = refl
    held_nowhere k (x ∷ xs) n =
        cond-false (is_eq (rank (key x) k)) (Some x) (held rank key k xs) (apart_eq (key x) k (n zero x (omega arith) (omega arith)))
        ∙ held_nowhere k xs (λ j d a b. n (suc j) d (omega arith) (omega arith))

    -- ---- records that are apart

    not_held_push : (k : K) (xs : List X) (y : X) → is_some (held rank key k xs) ≡ false → (key y ≡ k → ⊥) → is_some (held rank key k (xs ++ y ∷ [])) ≡ false
    not_held_push k [] y h n = ap is_some (cond-false (is_eq (rank (key y) k)) (Some y) None (apart_eq (key y) k n))
    not_held_push k (x ∷ xs) y h n = go (is_eq (rank (key x) k)) h (not_held_push k xs y)
      where
        go : (v : Bool) → is_some (cond v (Some x) (held rank key k xs)) ≡ false → (is_some (held rank key k xs) ≡ false → (key y ≡ k → ⊥) → is_some (held rank key k (xs ++ y ∷ [])) ≡ false) → is_some (cond v (Some x) (held rank key k (xs ++ y ∷ []))) ≡ false
        go true e rest = absurd (true≢false e)
        go false e rest = rest e n

    apart_push : (y : X) (xs : List X) → Missed (key y) xs (length xs) → apart rank key xs ≡ true → apart rank key (xs ++ y ∷ []) ≡ true
    apart_push y [] n h = refl
    apart_push y (x ∷ xs) n h =
        let p = and_parts (not (is_some (held rank key (key x) xs))) (apart rank key xs) h in
        and_from _ _
        (not_from_false _ (not_held_push (key x) xs y (not-true _ p.0) (λ e. n zero x (omega arith) (omega arith) (sym e))))
        (apart_push y xs (λ j d a b. n (suc j) d (omega arith) (omega arith)) p.1)

    pub nowhere : (k : K) (xs : List X) → Missed k xs (length xs) → Nowhere rank key k xs
    nowhere k xs n = record {
      none = held_sorted k xs ∙ held_nowhere k xs n;
      arrive = λ x e. arrives x xs (subst (λ q. Missed q xs (length xs)) (sym e) n);
      stays = λ x e a. apart_push x xs (subst (λ q. Missed q xs (length xs)) (sym e) n) a;
    }

    length_entered : (x : X) (ys : List X) → length (entered rank key x ys) ≡ suc (length ys)
    length_entered x [] = refl
    length_entered x (y ∷ ys) =
        ⊎_elim (λ h. ap length (go_on x y ys h) ∙ ap suc (length_entered x ys)) (λ h. ap length (stop x y ys h)) (cases_Bool (is_lt (rank (key y) (key x))))

    pub length_sorted : (xs : List X) → length (sorted rank key xs) ≡ length xs
    length_sorted [] = refl
    length_sorted (x ∷ xs) = length_entered x (sorted rank key xs) ∙ ap suc (length_sorted xs)

    -- ---- records in order stay in order

    leads_entered : (k : K) (x : X) (ys : List X) → is_lt (rank k (key x)) ≡ true → leads rank key k ys ≡ true → leads rank key k (entered rank key x ys) ≡ true
    leads_entered k x [] h l = h
    leads_entered k x (y ∷ ys) h l =
        ⊎_elim (λ b. ap (leads rank key k) (go_on x y ys b) ∙ l) (λ b. ap (leads rank key k) (stop x y ys b) ∙ h) (cases_Bool (is_lt (rank (key y) (key x))))

    not_there : (k : K) (y : X) (ys : List X) → held rank key k (y ∷ ys) ≡ None → key y ≡ k → ⊥
    not_there k y ys n e = true≢false (ap is_some (sym (cond-true (is_eq (rank (key y) k)) (Some y) (held rank key k ys) (same_eq (key y) k e)) ∙ n))

    -- no record has a key that is not held
    pub missed : (k : K) (xs : List X) → held rank key k xs ≡ None → (n : ℕ) → Missed k xs n
    missed k [] h n j d a b e = absurd (omega arith)
    missed k (x ∷ xs) h n zero d a b e = not_there k x xs h e
    missed k (x ∷ xs) h n (suc j) d a b e =
        missed k xs (sym (cond-false (is_eq (rank (key x) k)) (Some x) (held rank key k xs) (apart_eq (key x) k (not_there k x xs h))) ∙ h) n j d (omega arith) (omega arith) e

    pub ascends_entered : (x : X) (ys : List X) → ascends rank key ys ≡ true → held rank key (key x) ys ≡ None → ascends rank key (entered rank key x ys) ≡ true
    ascends_entered x [] h n = refl
    ascends_entered x (y ∷ ys) h n =
        let p = and_parts (leads rank key (key y) ys) (ascends rank key ys) h in
        let q = not_there (key x) y ys n in
        ⊎_elim
        (λ b. ap (ascends rank key) (go_on x y ys b)
        ∙ and_from _ _ (leads_entered (key y) x ys b p.0)
        (ascends_entered x ys p.1 (sym (cond-false (is_eq (rank (key y) (key x))) (Some y) (held rank key (key x) ys) (apart_eq (key y) (key x) q)) ∙ n)))
        (λ b. ap (ascends rank key) (stop x y ys b)
        ∙ and_from _ _
        (⊎_elim (λ o. o.0) (λ o. absurd (true≢false (sym o.1 ∙ b))) (one_first (key x) (key y) (rank (key x) (key y)) refl (λ e. q (sym e))))
        h)
        (cases_Bool (is_lt (rank (key y) (key x))))

    some_held_set : (k : K) (xs : List X) (i : ℕ) (y d : X) → key y ≡ key (get_or xs i d) → is_some (held rank key k (set xs i y)) ≡ is_some (held rank key k xs)
    some_held_set k [] i y d e = refl
    some_held_set k (x ∷ xs) zero y d e = ap (λ t. is_some (cond (is_eq (rank t k)) (Some y) (held rank key k xs))) e ∙ go (is_eq (rank (key x) k))
      where
        go : (v : Bool) → is_some (cond v (Some y) (held rank key k xs)) ≡ is_some (cond v (Some x) (held rank key k xs))
        go true = refl
        go false = refl
    some_held_set k (x ∷ xs) (suc i) y d e = go (is_eq (rank (key x) k)) (some_held_set k xs i y d e)
      where
        go : (v : Bool) → is_some (held rank key k (set xs i y)) ≡ is_some (held rank key k xs) → is_some (cond v (Some x) (held rank key k (set xs i y))) ≡ is_some (cond v (Some x) (held rank key k xs))
        go true h = refl
        go false h = h

    -- another record of the same key
    pub apart_set : (xs : List X) (i : ℕ) (y d : X) → key y ≡ key (get_or xs i d) → apart rank key (set xs i y) ≡ apart rank key xs
    apart_set [] i y d e = refl
    apart_set (x ∷ xs) zero y d e = ap (λ t. not (is_some (held rank key t xs)) && apart rank key xs) e
    apart_set (x ∷ xs) (suc i) y d e = λ j. not (some_held_set (key x) xs i y d e j) && apart_set xs i y d e j

    not_some : (o : Option X) → is_some o ≡ false → o ≡ None
    not_some None h = refl
    not_some (Some x) h = absurd (true≢false h)

    pub ascends_sorted : (xs : List X) → apart rank key xs ≡ true → ascends rank key (sorted rank key xs) ≡ true
    ascends_sorted [] h = refl
    ascends_sorted (x ∷ xs) h =
        let p = and_parts (not (is_some (held rank key (key x) xs))) (apart rank key xs) h in
        ascends_entered x (sorted rank key xs) (ascends_sorted xs p.1) (held_sorted (key x) xs ∙ not_some _ (not-true _ p.0))

    held_own : (xs : List X) (i : ℕ) (d : X) → apart rank key xs ≡ true → i < length xs → held rank key (key (get_or xs i d)) xs ≡ Some (get_or xs i d)
    held_own [] i d h l = absurd (omega arith)
    held_own (x ∷ xs) zero d h l = cond-true (is_eq (rank (key x) (key x))) (Some x) (held rank key (key x) xs) (same_eq (key x) (key x) refl)
    held_own (x ∷ xs) (suc i) d h l =
        let p = and_parts (not (is_some (held rank key (key x) xs))) (apart rank key xs) h in
        let own = held_own xs i d p.1 (omega arith) in
        cond-false (is_eq (rank (key x) (key (get_or xs i d)))) (Some x) (held rank key (key (get_or xs i d)) xs)
        (apart_eq (key x) (key (get_or xs i d)) (λ e. true≢false (ap is_some (sym own) ∙ (ap (λ t. is_some (held rank key t xs)) (sym e) ∙ not-true _ p.0))))
        ∙ own

    -- a record is what is held under its own key
    pub held_at_own : (xs : List X) (i : ℕ) (d : X) → apart rank key xs ≡ true → i < length xs → held rank key (key (get_or xs i d)) (sorted rank key xs) ≡ Some (get_or xs i d)
    held_at_own xs i d h l = held_sorted (key (get_or xs i d)) xs ∙ held_own xs i d h l
