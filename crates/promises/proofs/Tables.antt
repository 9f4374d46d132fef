-- Laws of the tables: what is found after a row is put in its place, or changed.
use Rattle.std.proofs.Common.{◌≡◌, ℕ, suc, ◌+◌, Bool, true, false, cond, eqb, List, [], ◌∷◌, length, Some, sum_by, sym, refl, ap, ◌∙◌, arith}
use Rattle.std.specs.Option.{option_map}
use Rattle.std.proofs.lemmas.List.Sums.{sum_by-cons}
use Rattle.std.proofs.lemmas.Bool.{and_parts, eqb-true, eq-eqb, true≢false}
use Rattle.std.specs.Str.{bytes_eq}
use Rattle.octets.specs.Classes.{Bytes}
use Rattle.layout.specs.declared.pair.Pair.{Pair}
use Rattle.book.specs.Lists.{before, find, place, change}
use Rattle.book.specs.Meaning.{same_pair, before_pair}

-- keys
pub same_self : (xs : Bytes) → bytes_eq xs xs ≡ true
same_self [] = refl
same_self (x ∷ xs) = simp (eq-eqb x x refl, same_self xs)

pub same_is : (xs ys : Bytes) → bytes_eq xs ys ≡ true → xs ≡ ys
same_is [] [] h = refl
same_is [] (y ∷ ys) h = cc
same_is (x ∷ xs) [] h = cc
same_is (x ∷ xs) (y ∷ ys) h =
    let p = and_parts (eqb x y) (bytes_eq xs ys) h in
    let e = eqb-true x y p.0 in
    let f = same_is xs ys p.1 in cc

pub before_self : (xs : Bytes) → before xs xs ≡ false
before_self [] = refl
before_self (x ∷ xs) = simp (before_self xs) (grind arith)

pub same_pair_self : (p : Pair) → same_pair p p ≡ true
same_pair_self p = simp same_self

pub same_pair_is : (p q : Pair) → same_pair p q ≡ true → p ≡ q
same_pair_is p q h =
    let e = and_parts (bytes_eq p.office q.office) (bytes_eq p.reference q.reference) h in
    let a = same_is p.office q.office e.0 in
    let b = same_is p.reference q.reference e.1 in λ i. record { office = a i; reference = b i }

pub before_pair_self : (p : Pair) → before_pair p p ≡ false
before_pair_self p = simp (before_self, same_self)

pub same_pair_flip : (p q : Pair) → same_pair p q ≡ same_pair q p
same_pair_flip p q = go (same_pair p q) (same_pair q p) refl refl
  where
    go : (x y : Bool) → same_pair p q ≡ x → same_pair q p ≡ y → same_pair p q ≡ same_pair q p
    go true true e f = cc
    go false false e f = cc
    go true false e f = let k = same_pair_is p q e in let s = same_pair_self p in cc
    go false true e f = let k = same_pair_is q p f in let s = same_pair_self p in cc

-- tables
cond_swap : {X : Type 0} (s t : Bool) (x y z : X) → (s ≡ true → t ≡ false) → cond t y (cond s x z) ≡ cond s x (cond t y z)
cond_swap true true x y z h = absurd (true≢false (h refl))
cond_swap true false x y z h = refl
cond_swap false true x y z h = refl
cond_swap false false x y z h = refl

pub find_place : {X : Type 0} (first : X → X → Bool) (t : X → Bool) (x : X) → ((y : X) → first y x ≡ true → t x ≡ true → t y ≡ false) → (xs : List X) → find t (place first x xs) ≡ cond (t x) (Some x) (find t xs)
find_place first t x apart [] = refl
find_place first t x apart (y ∷ ys) = go (first y x) refl (find_place first t x apart ys)
  where
    go : (v : Bool) → first y x ≡ v → find t (place first x ys) ≡ cond (t x) (Some x) (find t ys) → find t (cond v (y ∷ place first x ys) (x ∷ y ∷ ys)) ≡ cond (t x) (Some x) (cond (t y) (Some y) (find t ys))
    go true e h = rw h (cond_swap (t x) (t y) (Some x) (Some y) (find t ys) (apart y e))
    go false e h = refl

pub length_place : {X : Type 0} (first : X → X → Bool) (x : X) (xs : List X) → length (place first x xs) ≡ suc (length xs)
length_place first x [] = refl
length_place first x (y ∷ ys) = go (first y x) (length_place first x ys)
  where
    go : (v : Bool) → length (place first x ys) ≡ suc (length ys) → length (cond v (y ∷ place first x ys) (x ∷ y ∷ ys)) ≡ suc (suc (length ys))
    go true h = ap suc h
    go false h = refl

pub sum_by_place : {X : Type 0} (f : X → ℕ) (first : X → X → Bool) (x : X) (xs : List X) → sum_by f (place first x xs) ≡ f x + sum_by f xs
sum_by_place f first x [] = sum_by-cons f x []
sum_by_place f first x (y ∷ ys) = go (first y x) (sum_by_place f first x ys)
  where
    go : (v : Bool) → sum_by f (place first x ys) ≡ f x + sum_by f ys → sum_by f (cond v (y ∷ place first x ys) (x ∷ y ∷ ys)) ≡ f x + sum_by f (y ∷ ys)
    go true h = let a = sum_by-cons f y (place first x ys) in let b = sum_by-cons f y ys in omega arith
    go false h = sum_by-cons f x (y ∷ ys)

pub length_change : {X : Type 0} (t : X → Bool) (f : X → X) (xs : List X) → length (change t f xs) ≡ length xs
length_change t f [] = refl
length_change t f (x ∷ xs) = go (t x) (length_change t f xs)
  where
    go : (v : Bool) → length (change t f xs) ≡ length xs → length (cond v (f x ∷ xs) (x ∷ change t f xs)) ≡ suc (length xs)
    go true h = refl
    go false h = ap suc h

-- the change leaves the key
pub find_change : {X : Type 0} (t u : X → Bool) (f : X → X) → ((x : X) → u (f x) ≡ u x) → ((x : X) → t x ≡ true → u x ≡ false) → (xs : List X) → find u (change t f xs) ≡ find u xs
find_change t u f keeps apart [] = refl
find_change t u f keeps apart (x ∷ xs) = go (t x) refl (find_change t u f keeps apart xs)
  where
    go : (v : Bool) → t x ≡ v → find u (change t f xs) ≡ find u xs → find u (cond v (f x ∷ xs) (x ∷ change t f xs)) ≡ cond (u x) (Some x) (find u xs)
    go true e h = let a = apart x e in let b = keeps x in simp (b, a)
    go false e h = simp h

pub find_changed : {X : Type 0} (t : X → Bool) (f : X → X) → ((x : X) → t (f x) ≡ t x) → (xs : List X) → find t (change t f xs) ≡ option_map f (find t xs)
find_changed t f keeps [] = refl
find_changed t f keeps (x ∷ xs) = go (t x) refl (find_changed t f keeps xs)
  where
    go : (v : Bool) → t x ≡ v → find t (change t f xs) ≡ option_map f (find t xs) → find t (cond v (f x ∷ xs) (x ∷ change t f xs)) ≡ option_map f (cond v (Some x) (find t xs))
    go true e h = let b = keeps x in simp (b, e)
    go false e h = simp (e, h)

-- what is found passes
pub found_passes : {X : Type 0} (t : X → Bool) (xs : List X) (x : X) → find t xs ≡ Some x → t x ≡ true
found_passes t [] x h = cc
found_passes {X} t (y ∷ ys) x h = go (t y) refl h (found_passes t ys x)
  where
    go : (v : Bool) → t y ≡ v → cond v (Some y) (find t ys) ≡ Some x → (find t ys ≡ Some x → t x ≡ true) → t x ≡ true
    go true e k rest = let is : y ≡ x = cc in cc
    go false e k rest = rest k

-- a change that leaves the keys, past a row that is not changed
module _ {X : Type 0} (first : X → X → Bool) (t : X → Bool) (f : X → X) (left : (x y : X) → first (f x) y ≡ first x y) where
  pub change_other : (y : X) (zs : List X) → t y ≡ false → change t f (place first y zs) ≡ place first y (change t f zs)
  change_other y [] e = simp e
  change_other y (z ∷ zs) e = go (first z y) refl (t z) refl (change_other y zs e)
    where
      go : (v : Bool) → first z y ≡ v → (w : Bool) → t z ≡ w → change t f (place first y zs) ≡ place first y (change t f zs)
          → change t f (cond v (z ∷ place first y zs) (y ∷ z ∷ zs)) ≡ place first y (cond w (f z ∷ zs) (z ∷ change t f zs))
      go true a true c h = let l = left z y in simp (c, l, a)
      go true a false c h = simp (c, a, h)
      go false a true c h = let l = left z y in simp (e, c, l, a)
      go false a false c h = simp (e, c, a)

-- two changes of different rows
pub change_two : {X : Type 0} (t u : X → Bool) (f g : X → X) → ((x : X) → t (g x) ≡ t x) → ((x : X) → u (f x) ≡ u x) → ((x : X) → t x ≡ true → u x ≡ false) → (xs : List X) → change t f (change u g xs) ≡ change u g (change t f xs)
change_two t u f g kt ku apart [] = refl
change_two t u f g kt ku apart (x ∷ xs) = go (t x) refl (u x) refl (change_two t u f g kt ku apart xs)
  where
    go : (a : Bool) → t x ≡ a → (b : Bool) → u x ≡ b → change t f (change u g xs) ≡ change u g (change t f xs)
        → change t f (cond b (g x ∷ xs) (x ∷ change u g xs)) ≡ change u g (cond a (f x ∷ xs) (x ∷ change t f xs))
    go true a true b h = absurd (true≢false (sym b ∙ apart x a))
    go true a false b h = let k = ku x in simp (a, k, b)
    go false a true b h = let k = kt x in simp (k, a, b)
    go false a false b h = simp (a, b, h)
