-- One computed test over a whole table, carried to each of its fields.
use Rattle.std.proofs.Common.{◌≡◌, ℕ, zero, suc, ◌+◌, ◌<◌, ◌≤◌, true, eqb, List, [], ◌∷◌, length, get_or, sym, refl, ap, ◌∙◌, le_of_suc-le-suc, not-suc-le-zero, add-one, arith}
use Rattle.std.proofs.lemmas.Bool.{and_parts, eqb-true}
use Rattle.layout.specs.declared.Layout.{Layout}
use Rattle.layout.specs.declared.Layout.TheVariants.{PaymentHeader, PaymentDetail, AdjustmentHeader, AdjustmentDetail, SglEntry, ZeroDollarHeader, ZeroDollarDetail, PostSglHeader, PostSglDetail, PostSglEntry}
use Rattle.layout.specs.declared.field.Field.{Field}
use Rattle.layout.specs.Fields.{start_of, len_of}
use Rattle.layout.specs.Layouts.{fields_of, width_of, adjoin, Adjoining, Fits}
use Rattle.layout.specs.Companions.{companions_of, name_fields, in_order}

-- the test passes on every layout: antt computes it
tested : (l : Layout) → adjoin 1 (width_of l) (fields_of l) ≡ true
tested PaymentHeader = refl
tested PaymentDetail = refl
tested AdjustmentHeader = refl
tested AdjustmentDetail = refl
tested SglEntry = refl
tested ZeroDollarHeader = refl
tested ZeroDollarDetail = refl
tested PostSglHeader = refl
tested PostSglDetail = refl
tested PostSglEntry = refl

parts : (i n : ℕ) (f : Field) (fs : List Field) → adjoin i n (f ∷ fs) ≡ true → (start_of f ≡ i) × (adjoin (i + len_of f) n fs ≡ true)
parts i n f fs t = let p = and_parts (eqb (start_of f) i) (adjoin (i + len_of f) n fs) t in (eqb-true (start_of f) i p.0, p.1)

first : (i n : ℕ) (fs : List Field) (d : Field) → adjoin i n fs ≡ true → 0 < length fs → start_of (get_or fs 0 d) ≡ i
first i n [] d t h = absurd (not-suc-le-zero h)
first i n (f ∷ fs) d t h = (parts i n f fs t).0

next : (i n : ℕ) (fs : List Field) (k : ℕ) (d : Field) → adjoin i n fs ≡ true → suc k < length fs → start_of (get_or fs (suc k) d) ≡ start_of (get_or fs k d) + len_of (get_or fs k d)
next i n [] k d t h = absurd (not-suc-le-zero h)
next i n (f ∷ fs) zero d t h =
    let p = parts i n f fs t in first (i + len_of f) n fs d p.1 (le_of_suc-le-suc h) ∙ ap (λ m. m + len_of f) (sym p.0)
next i n (f ∷ fs) (suc k) d t h = next (i + len_of f) n fs k d (parts i n f fs t).1 (le_of_suc-le-suc h)

ends : (i n : ℕ) (fs : List Field) → adjoin i n fs ≡ true → i ≤ n + 1
ends i n [] t = omega (arith, eqb-true i (n + 1) t)
ends i n (f ∷ fs) t = let p = ends (i + len_of f) n fs (parts i n f fs t).1 in omega arith

last : (i n : ℕ) (fs : List Field) (k : ℕ) (d : Field) → adjoin i n fs ≡ true → suc k ≡ length fs → start_of (get_or fs k d) + len_of (get_or fs k d) ≡ n + 1
last i n [] k d t h = absurd (omega arith)
last i n (f ∷ []) zero d t h = let p = parts i n f [] t in omega (arith, p.0, eqb-true (i + len_of f) (n + 1) p.1)
last i n (f ∷ g ∷ fs) zero d t h = absurd (omega arith)
last i n (f ∷ []) (suc k) d t h = absurd (omega arith)
last i n (f ∷ g ∷ fs) (suc k) d t h = last (i + len_of f) n (g ∷ fs) k d (parts i n f (g ∷ fs) t).1 (omega arith)

within : (i n : ℕ) (fs : List Field) (k : ℕ) (d : Field) → adjoin i n fs ≡ true → k < length fs → (i ≤ start_of (get_or fs k d)) × (start_of (get_or fs k d) + len_of (get_or fs k d) ≤ n + 1)
within i n [] k d t h = absurd (not-suc-le-zero h)
within i n (f ∷ fs) zero d t h =
    let p = parts i n f fs t in let e = ends (i + len_of f) n fs p.1 in (omega (arith, p.0), omega (arith, p.0))
within i n (f ∷ fs) (suc k) d t h =
    let p = parts i n f fs t in let q = within (i + len_of f) n fs k d p.1 (le_of_suc-le-suc h) in (omega arith, q.1)

pub adjoining : (l : Layout) → Adjoining (width_of l) (fields_of l)
adjoining l = record {
  first = λ d h. first 1 (width_of l) (fields_of l) d (tested l) h;
  next = λ k d h. rw add-one (next 1 (width_of l) (fields_of l) k d (tested l) (omega arith));
  last = λ k d h. last 1 (width_of l) (fields_of l) k d (tested l) (omega arith);
}

pub fits : (l : Layout) → Fits (width_of l) (fields_of l)
fits l k d h = within 1 (width_of l) (fields_of l) k d (tested l) h

-- the same way for the companion rules
pub named : (l : Layout) → name_fields (fields_of l) (companions_of l) ≡ true
named PaymentHeader = refl
named PaymentDetail = refl
named AdjustmentHeader = refl
named AdjustmentDetail = refl
named SglEntry = refl
named ZeroDollarHeader = refl
named ZeroDollarDetail = refl
named PostSglHeader = refl
named PostSglDetail = refl
named PostSglEntry = refl

pub ordered : (l : Layout) → in_order 1 (companions_of l) ≡ true
ordered PaymentHeader = refl
ordered PaymentDetail = refl
ordered AdjustmentHeader = refl
ordered AdjustmentDetail = refl
ordered SglEntry = refl
ordered ZeroDollarHeader = refl
ordered ZeroDollarDetail = refl
ordered PostSglHeader = refl
ordered PostSglDetail = refl
ordered PostSglEntry = refl
