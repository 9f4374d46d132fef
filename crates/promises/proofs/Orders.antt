-- The orders of the keys, and rows put in their places in either order.
use Rattle.std.proofs.Common.{◌≡◌, ℕ, ◌<◌, Bool, true, false, cond, ◌&&◌, ◌||◌, eqb, ltb, ◌⊎◌, List, [], ◌∷◌, sym, refl, inl, inr, ⊎_elim, arith}
use Rattle.std.proofs.lemmas.Bool.Decides.{nat_tests}
use Rattle.std.proofs.lemmas.Bool.{both_ways, true≢false, cases_order, lt-ltb, eq-eqb, and_parts, or_cases, le-ltb, or_left, or_right, or_from, and_right}
use Rattle.promises.proofs.Tables.{same_is, same_self, same_pair_is, same_pair_self}
use Rattle.std.specs.Str.{bytes_eq}
use Rattle.octets.specs.Classes.{Bytes}
use Rattle.layout.specs.declared.pair.Pair.{Pair}
use Rattle.book.specs.Lists.{before, place}
use Rattle.book.specs.Meaning.{EntryHeld, LineHeld, MarkHeld, same_pair, before_pair, line_first, entry_first, mark_first}

pub record Order (K : Type 0) (eq first : K → K → Bool) : Type 0 where
  pub trans : (a b c : K) → first a b ≡ true → first b c ≡ true → first a c ≡ true
  pub asym : (a b : K) → first a b ≡ true → first b a ≡ false
  pub total : (a b : K) → eq a b ≡ false → (first a b ≡ true) ⊎ (first b a ≡ true)

module _ {X : Type 0} (first : X → X → Bool) (trans : (a b c : X) → first a b ≡ true → first b c ≡ true → first a c ≡ true) (asym : (a b : X) → first a b ≡ true → first b a ≡ false) where
  place_two : (x y : X) → first x y ≡ true → (zs : List X) → place first x (place first y zs) ≡ place first y (place first x zs)
  place_two x y lt [] = let n = asym x y lt in simp (n, lt)
  place_two x y lt (z ∷ zs) = go (first z x) refl (first z y) refl (place_two x y lt zs)
    where
      go : (a : Bool) → first z x ≡ a → (b : Bool) → first z y ≡ b → place first x (place first y zs) ≡ place first y (place first x zs)
          → place first x (cond b (z ∷ place first y zs) (y ∷ z ∷ zs)) ≡ place first y (cond a (z ∷ place first x zs) (x ∷ z ∷ zs))
      go true a true b h = simp (a, b, h)
      go true a false b h = absurd (both_ways (first z y) b (trans z x y a lt))
      go false a true b h = simp (a, b, lt)
      go false a false b h = let n = asym x y lt in simp (n, lt, b)

  pub place_swap : (x y : X) → (first x y ≡ true) ⊎ (first y x ≡ true) → (zs : List X) → place first x (place first y zs) ≡ place first y (place first x zs)
  place_swap x y (inl h) zs = place_two x y h zs
  place_swap x y (inr h) zs = sym (place_two y x h zs)

-- bytes
before_trans : (xs ys zs : Bytes) → before xs ys ≡ true → before ys zs ≡ true → before xs zs ≡ true
before_trans [] [] zs h k = absurd (true≢false (sym h))
before_trans [] (y ∷ ys) [] h k = absurd (true≢false (sym k))
before_trans [] (y ∷ ys) (z ∷ zs) h k = refl
before_trans (x ∷ xs) [] zs h k = absurd (true≢false (sym h))
before_trans (x ∷ xs) (y ∷ ys) [] h k = absurd (true≢false (sym k))
before_trans (x ∷ xs) (y ∷ ys) (z ∷ zs) h k = step x y z (before xs ys) (before ys zs) (before xs zs) (before_trans xs ys zs) h k
  where
    step : (x y z : ℕ) (p q r : Bool) → (p ≡ true → q ≡ true → r ≡ true) → (ltb x y || (eqb x y && p)) ≡ true → (ltb y z || (eqb y z && q)) ≡ true → (ltb x z || (eqb x z && r)) ≡ true
    step x y z true true true i h k = grind (arith, nat_tests)
    step x y z true true false i h k = absurd (true≢false (sym (i refl refl)))
    step x y z true false r i h k = grind (arith, nat_tests)
    step x y z false true r i h k = grind (arith, nat_tests)
    step x y z false false r i h k = grind (arith, nat_tests)

before_asym : (xs ys : Bytes) → before xs ys ≡ true → before ys xs ≡ false
before_asym [] [] h = refl
before_asym [] (y ∷ ys) h = refl
before_asym (x ∷ xs) [] h = absurd (true≢false (sym h))
before_asym (x ∷ xs) (y ∷ ys) h = step x y (before xs ys) (before ys xs) (before_asym xs ys) h
  where
    step : (x y : ℕ) (p q : Bool) → (p ≡ true → q ≡ false) → (ltb x y || (eqb x y && p)) ≡ true → (ltb y x || (eqb y x && q)) ≡ false
    step x y true true i h = absurd (true≢false (i refl))
    step x y true false i h = grind (arith, nat_tests)
    step x y false q i h = grind (arith, nat_tests)

before_total : (xs ys : Bytes) → bytes_eq xs ys ≡ false → (before xs ys ≡ true) ⊎ (before ys xs ≡ true)
before_total [] [] h = absurd (true≢false h)
before_total [] (y ∷ ys) h = inl refl
before_total (x ∷ xs) [] h = inr refl
before_total (x ∷ xs) (y ∷ ys) h = step (cases_order x y) h (before_total xs ys)
  where
    step : (x ≡ y) ⊎ ((x < y) ⊎ (y < x)) → (eqb x y && bytes_eq xs ys) ≡ false → (bytes_eq xs ys ≡ false → (before xs ys ≡ true) ⊎ (before ys xs ≡ true)) → (before (x ∷ xs) (y ∷ ys) ≡ true) ⊎ (before (y ∷ ys) (x ∷ xs) ≡ true)
    step (inl e) k i =
        let a = eq-eqb x y e in let b = eq-eqb y x (sym e) in let c = le-ltb x y (omega arith) in let d = le-ltb y x (omega arith) in
        let n : bytes_eq xs ys ≡ false = simp a at k in
        ⊎_elim (λ (p : before xs ys ≡ true). inl (simp (a, c, p))) (λ (p : before ys xs ≡ true). inr (simp (b, d, p))) (i n)
    step (inr (inl l)) k i = let a = lt-ltb x y l in inl (simp a)
    step (inr (inr l)) k i = let a = lt-ltb y x l in inr (simp a)

pub by_bytes : Order Bytes bytes_eq before
by_bytes = record { trans = before_trans; asym = before_asym; total = before_total }

-- first by one key, then by another
module _ (A B : Type 0) (eqA firstA : A → A → Bool) (eqB firstB : B → B → Bool) (oA : Order A eqA firstA) (oB : Order B eqB firstB)
    (is_a : (a b : A) → eqA a b ≡ true → a ≡ b) (selfA : (a : A) → eqA a a ≡ true) where
  abbrev lex : A → B → A → B → Bool
  lex a x b y = firstA a b || (eqA a b && firstB x y)

  pub lex_trans : (a : A) (x : B) (b : A) (y : B) (c : A) (z : B) → lex a x b y ≡ true → lex b y c z ≡ true → lex a x c z ≡ true
  lex_trans a x b y c z h k = ⊎_elim (λ p. ⊎_elim (λ q. lt_lt p q) (λ q. lt_eq p q) (or_cases (firstA b c) (eqA b c && firstB y z) k)) (λ p. ⊎_elim (λ q. eq_lt p q) (λ q. eq_eq p q) (or_cases (firstA b c) (eqA b c && firstB y z) k)) (or_cases (firstA a b) (eqA a b && firstB x y) h)
    where
      lt_lt : firstA a b ≡ true → firstA b c ≡ true → lex a x c z ≡ true
      lt_lt p q = let r = oA.trans a b c p q in simp r

      lt_eq : firstA a b ≡ true → (eqA b c && firstB y z) ≡ true → lex a x c z ≡ true
      lt_eq p q = let e = is_a b c (and_parts (eqA b c) (firstB y z) q).0 in let r : firstA a c ≡ true = rw (← e) p in simp r

      eq_lt : (eqA a b && firstB x y) ≡ true → firstA b c ≡ true → lex a x c z ≡ true
      eq_lt p q = let e = is_a a b (and_parts (eqA a b) (firstB x y) p).0 in let r : firstA a c ≡ true = rw e q in simp r

      eq_eq : (eqA a b && firstB x y) ≡ true → (eqA b c && firstB y z) ≡ true → lex a x c z ≡ true
      eq_eq p q =
          let u = and_parts (eqA a b) (firstB x y) p in let v = and_parts (eqA b c) (firstB y z) q in
          let e = is_a a b u.0 in
          let s : eqA a c ≡ true = rw e v.0 in let f = oB.trans x y z u.1 v.1 in or_right (firstA a c) (eqA a c && firstB x z) (simp (s, f))

  first_a_self : (a : A) → firstA a a ≡ false
  first_a_self a = go (firstA a a) refl
    where
      go : (v : Bool) → firstA a a ≡ v → firstA a a ≡ false
      go true e = oA.asym a a e
      go false e = e

  pub lex_asym : (a : A) (x : B) (b : A) (y : B) → lex a x b y ≡ true → lex b y a x ≡ false
  lex_asym a x b y h = ⊎_elim lt eq (or_cases (firstA a b) (eqA a b && firstB x y) h)
    where
      lt : firstA a b ≡ true → lex b y a x ≡ false
      lt p = let n = oA.asym a b p in
          let m : eqA b a ≡ false = go (eqA b a) refl p in simp (n, m)
        where
          go : (v : Bool) → eqA b a ≡ v → firstA a b ≡ true → eqA b a ≡ false
          go true e q = let i = is_a b a e in let s = first_a_self a in let z : firstA a b ≡ false = rw i s in absurd (both_ways (firstA a b) z q)
          go false e q = e

      eq : (eqA a b && firstB x y) ≡ true → lex b y a x ≡ false
      eq p =
          let u = and_parts (eqA a b) (firstB x y) p in let e = is_a a b u.0 in
          let s : firstA b a ≡ false = rw e (first_a_self b) in let f = oB.asym x y u.1 in or_from (firstA b a) (eqA b a && firstB y x) s (and_right (eqA b a) (firstB y x) f)

  pub lex_total : (a : A) (x : B) (b : A) (y : B) → (eqA a b && eqB x y) ≡ false → (lex a x b y ≡ true) ⊎ (lex b y a x ≡ true)
  lex_total a x b y h = go (eqA a b) refl h
    where
      go : (v : Bool) → eqA a b ≡ v → (v && eqB x y) ≡ false → (lex a x b y ≡ true) ⊎ (lex b y a x ≡ true)
      go true e k =
          let i = is_a a b e in let s : eqA b a ≡ true = rw i (selfA b) in
          ⊎_elim (λ (p : firstB x y ≡ true). inl (or_right (firstA a b) (eqA a b && firstB x y) (simp (e, p)))) (λ (p : firstB y x ≡ true). inr (or_right (firstA b a) (eqA b a && firstB y x) (simp (s, p)))) (oB.total x y k)
      go false e k = ⊎_elim (λ p. inl (or_left (firstA a b) (eqA a b && firstB x y) p)) (λ p. inr (or_left (firstA b a) (eqA b a && firstB y x) p)) (oA.total a b e)

-- pairs, lines, entries and marks
numbers : Order ℕ eqb ltb
numbers = record { trans = λ a b c h k. grind (arith, nat_tests); asym = λ a b h. grind (arith, nat_tests); total = λ a b h. go a b h }
  where
    go : (a b : ℕ) → eqb a b ≡ false → (ltb a b ≡ true) ⊎ (ltb b a ≡ true)
    go a b h = ⊎_elim (λ e. absurd (both_ways (eqb a b) h (eq-eqb a b e))) (λ r. ⊎_elim (λ l. inl (lt-ltb a b l)) (λ l. inr (lt-ltb b a l)) r) (cases_order a b)

pub by_pairs : Order Pair same_pair before_pair
by_pairs = record {
  trans = λ a b c h k. lex_trans Bytes Bytes bytes_eq before bytes_eq before by_bytes by_bytes same_is same_self a.office a.reference b.office b.reference c.office c.reference h k;
  asym = λ a b h. lex_asym Bytes Bytes bytes_eq before bytes_eq before by_bytes by_bytes same_is same_self a.office a.reference b.office b.reference h;
  total = λ a b h. lex_total Bytes Bytes bytes_eq before bytes_eq before by_bytes by_bytes same_is same_self a.office a.reference b.office b.reference h;
}

pub lines_swap : (l m : LineHeld) → same_pair l.pair m.pair ≡ false → (ls : List LineHeld) → place line_first l (place line_first m ls) ≡ place line_first m (place line_first l ls)
lines_swap l m apart ls =
    place_swap line_first
    (λ a b c h k. lex_trans Pair ℕ same_pair before_pair eqb ltb by_pairs numbers same_pair_is same_pair_self a.pair a.number b.pair b.number c.pair c.number h k)
    (λ a b h. lex_asym Pair ℕ same_pair before_pair eqb ltb by_pairs numbers same_pair_is same_pair_self a.pair a.number b.pair b.number h)
    l m (⊎_elim (λ p. inl (or_left (before_pair l.pair m.pair) _ p)) (λ p. inr (or_left (before_pair m.pair l.pair) _ p)) (by_pairs.total l.pair m.pair apart)) ls

pub entries_swap : (e f : EntryHeld) → same_pair e.pair f.pair ≡ false → (es : List EntryHeld) → place entry_first e (place entry_first f es) ≡ place entry_first f (place entry_first e es)
entries_swap e f apart es =
    place_swap entry_first (λ a b c h k. by_pairs.trans a.pair b.pair c.pair h k) (λ a b h. by_pairs.asym a.pair b.pair h) e f (by_pairs.total e.pair f.pair apart) es

pub marks_swap : (m n : MarkHeld) → bytes_eq m.file n.file ≡ false → (ms : List MarkHeld) → place mark_first m (place mark_first n ms) ≡ place mark_first n (place mark_first m ms)
marks_swap m n apart ms =
    place_swap mark_first (λ a b c h k. by_bytes.trans a.file b.file c.file h k) (λ a b h. by_bytes.asym a.file b.file h) m n (by_bytes.total m.file n.file apart) ms
