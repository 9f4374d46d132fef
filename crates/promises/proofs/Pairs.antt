-- Pairs in common, and pairs apart.
use Rattle.std.proofs.Common.{◌≡◌, Bool, true, false, ◌||◌, List, [], ◌∷◌, All, Contains, refl, arith}
use Rattle.std.specs.List.{flat_map}
use Rattle.std.proofs.lemmas.List.Elements.{Contains-append_left, Contains-append_right, All-contains_itself, All-weaker, All-nil, All-cons}
use Rattle.std.proofs.lemmas.Bool.{or_parts, or_left, or_right}
use Rattle.octets.specs.Classes.{Bytes}
use Rattle.layout.specs.declared.pair.Pair.{Pair}
use Rattle.book.specs.Meaning.{same_pair}
use Rattle.transaction.specs.Checks.{Holds}
use Rattle.promises.specs.Related.{pairs_in}
use Rattle.promises.proofs.Tables.{same_pair_is, same_pair_self}
use Rattle.promises.proofs.Frame.{Within, all_left, all_right}

-- whether q is among them
unfoldable pub among : Pair → List Pair → Bool
among q [] = false
among q (p ∷ ps) = same_pair p q || among q ps

has_next : (p q : Pair) (ps : List Pair) → Contains ps q → Contains (p ∷ ps) q
has_next p q ps h = Contains-append_right (p ∷ []) ps q h

among_has : (q : Pair) (ps : List Pair) → among q ps ≡ true → Contains ps q
unfolding among
among_has q [] h = absurd (mathlib.Core.Bool.false≢true h)
among_has q (p ∷ ps) h = go (same_pair p q) refl h (among_has q ps)
  where
    go : (v : Bool) → same_pair p q ≡ v → (v || among q ps) ≡ true → (among q ps ≡ true → Contains ps q) → Contains (p ∷ ps) q
    go true e k rest = (0, omega arith, same_pair_is p q e)
    go false e k rest = has_next p q ps (rest k)

pub not_among : (q : Pair) (ps : List Pair) → among q ps ≡ false → All (λ p. same_pair p q ≡ false) ps
unfolding among
not_among q [] h = All-nil (λ p. same_pair p q ≡ false)
not_among q (p ∷ ps) h = let k = or_parts (same_pair p q) (among q ps) h in All-cons (λ p. same_pair p q ≡ false) p ps k.0 (not_among q ps k.1)

pub all_has : {X : Type 0} (P : X → Type 0) (xs : List X) → ((x : X) → Contains xs x → P x) → All P xs
all_has P xs h = All-weaker (Contains xs) P h xs (All-contains_itself xs)

-- each is among them all
all_among_more : (p : Pair) (ps qs : List Pair) → All (λ q. among q ps ≡ true) qs → All (λ q. among q (p ∷ ps) ≡ true) qs
unfolding among
all_among_more p ps qs h = All-weaker (λ q. among q ps ≡ true) (λ q. among q (p ∷ ps) ≡ true) (λ q e. or_right (same_pair p q) (among q ps) e) qs h

pub all_among : (ps : List Pair) → All (λ q. among q ps ≡ true) ps
unfolding among
all_among [] = All-nil (λ q. among q [] ≡ true)
all_among (p ∷ ps) = All-cons (λ q. among q (p ∷ ps) ≡ true) p ps (or_left (same_pair p p) (among p ps) (same_pair_self p)) (all_among_more p ps ps (all_among ps))

module _ (holds : Holds) where
  abbrev jointly : List (List Bytes) → List Pair
  jointly ts = flat_map (pairs_in holds) ts

  -- pairs of a list of transactions, one by one and all together
  within_has : (P : Pair → Type 0) (ts : List (List Bytes)) → ((p : Pair) → Contains (jointly ts) p → P p) → Within holds P ts
  within_has P [] h = All-nil (λ t. All P (pairs_in holds t))
  within_has P (t ∷ ts) h =
      All-cons (λ t. All P (pairs_in holds t)) t ts (all_has P (pairs_in holds t) (λ p k. h p (Contains-append_left (pairs_in holds t) (jointly ts) p k))) (within_has P ts (λ p k. h p (Contains-append_right (pairs_in holds t) (jointly ts) p k)))

  within_all : (P : Pair → Type 0) (ts : List (List Bytes)) → All P (jointly ts) → Within holds P ts
  within_all P [] h = All-nil (λ t. All P (pairs_in holds t))
  within_all P (t ∷ ts) h = All-cons (λ t. All P (pairs_in holds t)) t ts (all_left P (pairs_in holds t) (jointly ts) h) (within_all P ts (all_right P (pairs_in holds t) (jointly ts) h))

  pub apart_within : (q : Pair) (ts : List (List Bytes)) → among q (jointly ts) ≡ false → Within holds (λ p. same_pair p q ≡ false) ts
  apart_within q ts h = within_all (λ p. same_pair p q ≡ false) ts (not_among q (jointly ts) h)

  -- where two lists have none in common, the pairs of the one are not among the other's
  pub none_among : (ps : List Pair) (ts : List (List Bytes)) → ((p : Pair) → Contains ps p → Contains (jointly ts) p → ⊥) → Within holds (λ q. among q ps ≡ false) ts
  none_among ps ts apart = within_has (λ q. among q ps ≡ false) ts (λ q h. go q h (among q ps) refl)
    where
      go : (q : Pair) → Contains (jointly ts) q → (v : Bool) → among q ps ≡ v → among q ps ≡ false
      go q h true e = absurd (apart q (among_has q ps e) h)
      go q h false e = e
