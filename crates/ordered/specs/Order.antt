-- Records with keys, as lists: in the order of their keys, and in order of arrival.
--     ascends rank key xs      each key comes before the next
--     held rank key k xs       the record with the key k
--     entered rank key x xs    x in its place among xs
--     altered rank key k f xs  xs with f done to the record of the key k
--     sorted rank key xs       the records in the order of their keys
--     apart rank key xs        no two records have the same key
--     every t xs               each record passes the test t
-- Here `rank` says how two keys compare, and `key` is the key that a record tells.
-- Assumes nothing.
use Rattle.std.specs.Prelude.{◌≡◌, ℕ, ◌+◌, ◌-◌, ◌<◌, ◌≤◌, Bool, true, cond, not, ◌&&◌, List, [], ◌∷◌, ◌++◌, length, drop, is_some, Some, None, Ok, Err, Option, Result, nat_lt, slice_index_or, slice_set}
use Rattle.std.specs.declared.cmp.Ordering.TheVariants.{Less, Equal}
use Rattle.std.specs.declared.cmp.Ordering.{Ordering}
use Rattle.std.proofs.Math.Seq.{paste}
use Rattle.std.specs.Cmp.Lexicographic.{slice_cmp}
use Rattle.std.specs.Ordering.{is_lt, is_eq, ordering_reverse, nat_cmp}
use Rattle.std.specs.List.{insert}
use Rattle.ordered.specs.declared.refusal.Refusal.{Refusal}
use Rattle.ordered.specs.declared.refusal.Refusal.TheVariants.{Held, Full}

-- how two keys of bytes compare: byte by byte, and the shorter first where it begins the longer
abbrev pub ranks : List ℕ → List ℕ → Ordering
ranks a b = slice_cmp nat_cmp a b

-- what the lemmas of this crate ask of an order, so that keys of any kind that has these laws can be used
pub record TotalOrder {K : Type 0} (rank : K → K → Ordering) : Type 0 where
  pub chain : (a b c : K) → rank a b ≡ Less → rank b c ≡ Less → rank a c ≡ Less
  pub turn : (a b : K) → rank a b ≡ ordering_reverse (rank b a)
  pub same : (a b : K) → rank a b ≡ Equal → a ≡ b

abbrev pub every : {X : Type 0} → (X → Bool) → List X → Bool
every t [] = true
every t (x ∷ xs) = t x && every t xs

-- of the n first, those from `at` on moved up by one, and x in the gap
abbrev pub shifted_in : {X : Type 0} → List X → ℕ → ℕ → X → List X
shifted_in xs n at x = slice_set (paste xs (at + 1) (drop at xs) (n - at)) at x

module _ {K X : Type 0} (rank : K → K → Ordering) (key : X → K) where
  -- k comes before the first key
  abbrev pub leads : K → List X → Bool
  leads k [] = true
  leads k (x ∷ xs) = is_lt (rank k (key x))

  abbrev pub ascends : List X → Bool
  ascends [] = true
  ascends (x ∷ xs) = leads (key x) xs && ascends xs

  abbrev pub held : K → List X → Option X
  held k [] = None
  held k (x ∷ xs) = cond (is_eq (rank (key x) k)) (Some x) (held k xs)

  abbrev pub entered : X → List X → List X
  entered x [] = x ∷ []
  entered x (y ∷ ys) = cond (is_lt (rank (key y) (key x))) (y ∷ entered x ys) (x ∷ y ∷ ys)

  abbrev pub altered : K → (X → X) → List X → List X
  altered k f [] = []
  altered k f (x ∷ xs) = cond (is_eq (rank (key x) k)) (f x ∷ xs) (x ∷ altered k f xs)

  abbrev pub sorted : List X → List X
  sorted [] = []
  sorted (x ∷ xs) = entered x (sorted xs)

  abbrev pub apart : List X → Bool
  apart [] = true
  apart (x ∷ xs) = not (is_some (held (key x) xs)) && apart xs

  -- what adding x to xs answers, where there are places for n records
  abbrev pub adds : List X → ℕ → X → Result Unit Refusal
  adds xs n x = cond (is_some (held (key x) xs)) (Err Held) (cond (nat_lt (length xs) n) (Ok tt) (Err Full))

  -- ---- what a search tells of records in the order of their keys

  -- the record with the key k stands at i
  pub record Here (k : K) (xs : List X) (i : ℕ) : Type 0 where
    pub within : i < length xs
    pub keyed : (d : X) → key (slice_index_or xs i d) ≡ k
    pub is : (d : X) → held k xs ≡ Some (slice_index_or xs i d)
    pub there : is_some (held k xs) ≡ true
    pub change : (f : X → X) (d : X) → altered k f xs ≡ slice_set xs i (f (slice_index_or xs i d))
    pub stays : (y : X) → key y ≡ k → ascends (slice_set xs i y) ≡ true

  -- no record has the key k, and one that has it goes in at i
  pub record Gap (k : K) (xs : List X) (i : ℕ) : Type 0 where
    pub within : i ≤ length xs
    pub none : held k xs ≡ None
    pub enter : (x : X) → key x ≡ k → entered x xs ≡ insert xs i x
    pub stays : (x : X) → key x ≡ k → ascends (insert xs i x) ≡ true

  abbrev pub Found : K → List X → Result ℕ ℕ → Type 0
  Found k xs (Ok i) = Here k xs i
  Found k xs (Err i) = Gap k xs i

  -- ---- what a scan tells of records in order of arrival

  -- the first record with the key k stands at i
  pub record First (k : K) (xs : List X) (i : ℕ) : Type 0 where
    pub within : i < length xs
    pub keyed : (d : X) → key (slice_index_or xs i d) ≡ k
    pub is : (d : X) → held k (sorted xs) ≡ Some (slice_index_or xs i d)
    pub there : is_some (held k (sorted xs)) ≡ true
    pub change : (f : X → X) → ((x : X) → key (f x) ≡ key x) → (d : X) → altered k f (sorted xs) ≡ sorted (slice_set xs i (f (slice_index_or xs i d)))

  -- no record has the key k
  pub record Nowhere (k : K) (xs : List X) : Type 0 where
    pub none : held k (sorted xs) ≡ None
    pub arrive : (x : X) → key x ≡ k → sorted (xs ++ x ∷ []) ≡ entered x (sorted xs)
    pub stays : (x : X) → key x ≡ k → apart xs ≡ true → apart (xs ++ x ∷ []) ≡ true

  abbrev pub Scanned : K → List X → Option ℕ → Type 0
  Scanned k xs None = Nowhere k xs
  Scanned k xs (Some i) = First k xs i
