-- The keys of a text as an iterator gives them, each beside the next.
use Rattle.std.proofs.Common.{◌≡◌, ℕ, zero, suc, ◌+◌, ◌*◌, ◌/◌, ◌<◌, ◌≤◌, Bool, true, false, ◌&&◌, List, [], ◌∷◌, length, get_or, take, drop, Option, Some, None, option_map, IfSome, Bor, sym, refl, ap, ◌∙◌, subst, not-suc-le-zero, suc-mul, zero-mul, add-one, le-div_iff_mul-le, arith}
use Rattle.std.specs.Bool.{OnTrue, IsTrue}
use Rattle.std.specs.Iterator.Runs.{Run, IsChunksExactRun}
use Rattle.std.specs.List.{IsAllAdjacentAnswer}
use Rattle.std.specs.Ordering.{is_lt}
use Rattle.std.specs.Slice.Iter.{chunks_exact_steps}
use Rattle.std.proofs.lemmas.List.{drop-drop}
use Rattle.std.proofs.lemmas.Bool.{and_from, and_right}
use Rattle.std.proofs.lemmas.Option.{none-some, same_Some}
use Rattle.octets.specs.Classes.{Bytes}
use Rattle.register.specs.Keys.{rank, cut, keys_of, ascends}

length-cut : (m w : ℕ) (text : Bytes) → length (cut m w text) ≡ m
length-cut zero w text = refl
length-cut (suc m) w text = ap suc (length-cut m w (drop w text))

key_at : (m w : ℕ) (text : Bytes) (k : ℕ) → k < m → get_or (cut m w text) k [] ≡ take w (drop (k * w) text)
key_at zero w text k h = absurd (not-suc-le-zero h)
key_at (suc m) w text zero h = rw zero-mul
key_at (suc m) w text (suc k) h =
    let past : w + k * w ≡ suc k * w = omega (arith, suc-mul k w) in
    key_at m w (drop w text) k (omega arith) ∙ ap (take w) (drop-drop (k * w) w text ∙ ap (λ i. drop i text) past)

-- the key at k comes before the next
abbrev Before : List Bytes → ℕ → Bool
Before ks k = is_lt (rank (get_or ks k []) (get_or ks (suc k) []))

all_before : (ks : List Bytes) → ((k : ℕ) → suc k < length ks → Before ks k ≡ true) → ascends ks ≡ true
all_before [] f = refl
all_before (x ∷ []) f = refl
all_before (x ∷ y ∷ ks) f =
    and_from (is_lt (rank x y)) (ascends (y ∷ ks)) (f 0 (omega arith)) (all_before (y ∷ ks) (λ k h. f (suc k) (omega arith)))

one_not : (ks : List Bytes) (k : ℕ) → suc k < length ks → Before ks k ≡ false → ascends ks ≡ false
one_not [] k h e = absurd (omega arith)
one_not (x ∷ []) k h e = absurd (omega arith)
one_not (x ∷ y ∷ ks) zero h e = ap (λ b. b && ascends (y ∷ ks)) e
one_not (x ∷ y ∷ ks) (suc k) h e =
    ap (λ b. is_lt (rank x y) && b) (one_not (y ∷ ks) k (omega arith) e) ∙ and_right (is_lt (rank x y)) false refl

known : {A : Type 0} (P : A → Type 0) (o : Option A) (x : A) → option_map (λ y. y) o ≡ Some x → IfSome o P → P x
known P None x e h = absurd (none-some x e)
known P (Some y) x e h = subst P (same_Some y x e) h

some_item : {A : Type 0} (xs : List A) → 0 < length xs → A
some_item [] h = absurd (not-suc-le-zero h)
some_item (x ∷ xs) h = x

module _ (p : Run (chunks_exact_steps {A = ℕ})) (w : ℕ) (text : Bytes) (some : 0 < w) (run : IsChunksExactRun p w text) where
  few : p.len ≤ length text / w
  few = (le-div_iff_mul-le some).1 run.0

  -- an item is the key at its place
  item_at : (k : ℕ) (d : Bor (List ℕ)) → k < p.len → (get_or p.items k d).now ≡ take w (drop (k * w) text)
  item_at k d h = (known _ (p.at k) (get_or p.items k d) (p.reads k d h) (run.2 k)).2.0

  before_is : (k : ℕ) (d : Bor (List ℕ)) → k + 1 < p.len → Before (keys_of w text) k ≡ is_lt (rank (get_or p.items k d).now (get_or p.items (k + 1) d).now)
  before_is k d h =
      let f = few in
      ap (λ a. is_lt (rank a (get_or (keys_of w text) (suc k) []))) (key_at (length text / w) w text k (omega arith) ∙ sym (item_at k d (omega arith)))
      ∙ ap (λ b. is_lt (rank (get_or p.items k d).now b)) (key_at (length text / w) w text (suc k) (omega arith) ∙ ap (λ i. take w (drop (i * w) text)) (sym (add-one k)) ∙ sym (item_at (k + 1) d h))

  pub sorted_keys : (r : Bool) → OnTrue r (IsTrue p.whole) → IsAllAdjacentAnswer (λ x y b. is_lt (rank x.now y.now) ≡ b) p.items r → r ≡ ascends (keys_of w text)
  sorted_keys true whole answer =
      let all : p.len ≡ length text / w = run.1 whole in
      let l = length-cut (length text / w) w text in
      let m = p.long in
      sym (all_before (keys_of w text) (λ k h.
      let d = some_item p.items (omega arith) in before_is k d (omega arith) ∙ answer k d (omega arith)))
  sorted_keys false whole answer =
      let f = few in
      let l = length-cut (length text / w) w text in
      let m = p.long in
      let k = answer.0 in
      let d = some_item p.items (omega (arith, answer.1)) in
      sym (one_not (keys_of w text) k (omega (arith, answer.1)) (before_is k d (omega (arith, answer.1)) ∙ answer.2 d))
