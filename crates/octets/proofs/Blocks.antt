-- A test of each element, part by part.
use Rattle.std.proofs.Common.{◌≡◌, ℕ, zero, suc, ◌+◌, ◌-◌, ◌*◌, ◌<◌, ◌≤◌, Bool, true, false, ◌&&◌, List, [], ◌∷◌, length, take, drop, sym, refl, ap, ◌∙◌, suc-mul, zero-mul, arith}
use mathlib.Core.Bool.{and_assoc}
use Rattle.std.proofs.lemmas.List.{drop-drop, length-drop, take_rest}
use Rattle.std.proofs.lemmas.Bool.{and_parts, and_right}
use Rattle.std.specs.List.{list_all}
use Rattle.std.specs.Simd.{first_chunks}
use Rattle.octets.specs.Classes.{all}

pub all_split : (p : ℕ → Bool) (n : ℕ) (xs : List ℕ) → all p xs ≡ (all p (take n xs) && all p (drop n xs))
all_split p zero xs = refl
all_split p (suc n) [] = refl
all_split p (suc n) (x ∷ xs) = ap (λ b. p x && b) (all_split p n xs) ∙ sym (and_assoc (p x) (all p (take n xs)) (all p (drop n xs)))

-- what stands in the first k blocks of n elements, and behind them
all_blocks : (p : ℕ → Bool) (n k : ℕ) (xs : List ℕ) → all p xs ≡ (list_all (all p) (first_chunks n k xs) && all p (drop (k * n) xs))
all_blocks p n zero xs = rw zero-mul
all_blocks p n (suc k) xs =
    let past : n + k * n ≡ suc k * n = omega (arith, suc-mul k n) in
    all_split p n xs
    ∙ ap (λ b. all p (take n xs) && b) (all_blocks p n k (drop n xs) ∙ ap (λ l. list_all (all p) (first_chunks n k (drop n xs)) && all p l) (drop-drop (k * n) n xs ∙ ap (λ m. drop m xs) past))
    ∙ sym (and_assoc (all p (take n xs)) (list_all (all p) (first_chunks n k (drop n xs))) (all p (drop (suc k * n) xs)))

-- the same as the code has it
pub by_blocks : (p : ℕ → Bool) (n k : ℕ) (xs rest : List ℕ) (blocks : List (List ℕ)) (r : Bool) → blocks ≡ first_chunks n k xs → rest ≡ drop (k * n) xs → r ≡ list_all (all p) blocks → all p xs ≡ (r && all p rest)
by_blocks p n k xs rest blocks r is behind tested = rw (tested, is, behind) (all_blocks p n k xs)

-- what is left decides, and so does more of it
pub between_both : (a x t u : Bool) → a ≡ (t && x) → x ≡ (u && a) → x ≡ a
between_both true x t u e f = (and_parts t x (sym e)).1
between_both false x t u e f = f ∙ and_right u false refl

pub back : (p : ℕ → Bool) (xs : List ℕ) (m k : ℕ) → m ≤ k → all p (drop k xs) ≡ all p xs → all p (drop m xs) ≡ all p xs
back p xs m k h inv =
    let far : m + (k - m) ≡ k = omega arith in
    let e : all p (drop m xs) ≡ (all p (take (k - m) (drop m xs)) && all p (drop k xs)) = all_split p (k - m) (drop m xs) ∙ ap (λ l. all p (take (k - m) (drop m xs)) && all p l) (drop-drop (k - m) m xs ∙ ap (λ j. drop j xs) far) in
    between_both (all p xs) (all p (drop m xs)) (all p (take m xs)) (all p (take (k - m) (drop m xs))) (all_split p m xs) (e ∙ ap (λ b. all p (take (k - m) (drop m xs)) && b) inv)

-- the last elements, from m on
pub last_back : (p : ℕ → Bool) (xs : List ℕ) (m k : ℕ) → m ≤ k → all p (drop k xs) ≡ all p xs → all p (take (length xs - m) (drop m xs)) ≡ all p xs
last_back p xs m k h inv = ap (all p) (take_rest xs m) ∙ back p xs m k h inv

-- the last n elements decide, where fewer than n do that stand behind a and b others
pub last_decides : (p : ℕ → Bool) (xs rest tail last : List ℕ) (a b n : ℕ) → rest ≡ drop a xs → tail ≡ drop b rest → length tail < n → last ≡ drop (length xs - n) xs → all p xs ≡ all p tail → all p last ≡ all p xs
last_decides p xs rest tail last a b n first second few same inv =
    let e : tail ≡ drop (a + b) xs = second ∙ ap (drop b) first ∙ drop-drop b a xs in
    let l : length tail ≡ length xs - (a + b) = ap length e ∙ length-drop (a + b) xs in
    ap (all p) same ∙ back p xs (length xs - n) (a + b) (omega arith) (ap (all p) (sym e) ∙ sym inv)

-- a front of k, and the last elements from m on
pub both_ends : (p : ℕ → Bool) (xs : List ℕ) (k m : ℕ) → m ≤ k → (all p (take k xs) && all p (take (length xs - m) (drop m xs))) ≡ all p xs
both_ends p xs k m h =
    let f : Bool = all p (take k xs) in
    let go : (b : Bool) → f ≡ b → (f && all p (take (length xs - m) (drop m xs))) ≡ all p xs = λ b. elim b as (λ v. f ≡ v → (f && all p (take (length xs - m) (drop m xs))) ≡ all p xs) [
      | true ↦ λ t. ap (λ b'. b' && all p (take (length xs - m) (drop m xs))) t ∙ last_back p xs m k h (sym (all_split p k xs ∙ ap (λ b'. b' && all p (drop k xs)) t))
      | false ↦ λ t. ap (λ b'. b' && all p (take (length xs - m) (drop m xs))) t ∙ sym (all_split p k xs ∙ ap (λ b'. b' && all p (drop k xs)) t)
    ] in
    go f refl

pub joined : {a b : Bool} (x y : Bool) → a ≡ x → b ≡ y → (a && b) ≡ (x && y)
joined {a} {b} x y e f = ap (λ v. v && b) e ∙ ap (λ v. x && v) f
