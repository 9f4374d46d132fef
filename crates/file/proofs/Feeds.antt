-- Where a record ends.
use Rattle.std.proofs.Common.{◌≡◌, ℕ, zero, suc, ◌+◌, ◌<◌, ◌≤◌, true, false, eqb, leb, [], ◌∷◌, Some, None, Option, unwrap_or, length, get_or, take, drop, sym, ◌∙◌, ⊎_elim, MatchOption, not-suc-le-zero, zero-add, arith}
use Rattle.std.proofs.lemmas.List.{at_drop_more, at_drop_all}
use Rattle.std.proofs.lemmas.Bool.{eq-eqb, eqb-true, cond-true, cond-false, and_parts, leb-true, cases_Bool}
use Rattle.std.specs.List.{AllWithin, HoldsAt}
use Rattle.memchr.specs.Find.{IsFirstByte, Nowhere, Passes, is_byte}
use Rattle.octets.specs.Classes.{Bytes, all, is_printable}
use Rattle.file.specs.Lengths.{line_len}

pub line_stop : (xs : Bytes) (i : ℕ) → i < length xs → get_or xs i 0 ≡ 10 → line_len (drop i xs) ≡ 0
line_stop xs i h e =
    at_drop_more line_len xs i 0 h ∙ cond-true (eqb (get_or xs i 0) 10) 0 (suc (line_len (drop (i + 1) xs))) (eq-eqb _ _ e)

-- no line feed among the first k bytes
line_past : (xs : Bytes) (k : ℕ) → k ≤ length xs → Nowhere (Passes (is_byte 10) xs) 0 k → line_len xs ≡ k + line_len (drop k xs)
line_past xs zero h f = sym (zero-add (line_len xs))
line_past [] (suc k) h f = absurd (not-suc-le-zero h)
line_past (b ∷ bs) (suc k) h f =
    let no : eqb b 10 ≡ false = ⊎_elim (λ (t : eqb b 10 ≡ true). absurd (f 0 (omega arith) (omega arith) t)) (λ (t : eqb b 10 ≡ false). t) (cases_Bool (eqb b 10)) in
    let m : line_len bs ≡ k + line_len (drop k bs) = line_past bs k (omega arith) (λ j l g. f (suc j) (omega arith) (omega arith)) in
    cond-false (eqb b 10) 0 (suc (line_len bs)) no ∙ (omega arith)

-- the first line feed as a search has found it
pub line_found : (xs : Bytes) (r : Option ℕ) → IsFirstByte (is_byte 10) xs r → unwrap_or r (length xs) ≡ line_len xs
line_found xs (Some k) f =
    let n : line_len xs ≡ k + line_len (drop k xs) = line_past xs k (omega (arith, f.0.high)) f.0.before in
    let z : line_len (drop k xs) ≡ 0 = line_stop xs k f.0.high (eqb-true _ _ f.1) in
    omega arith
line_found xs None f =
    let n : line_len xs ≡ length xs + line_len (drop (length xs) xs) = line_past xs (length xs) (omega arith) f in
    let z : line_len (drop (length xs) xs) ≡ 0 = at_drop_all line_len xs (length xs) (omega arith) in
    omega arith

-- the same as a walk has found it
pub line_walked : (xs : Bytes) (r : Option ℕ) → MatchOption r (AllWithin (λ b. b ≡ 10 → ⊥) xs 0 (length xs)) (λ k. (k < length xs) × HoldsAt (λ b. b ≡ 10) xs k × AllWithin (λ b. b ≡ 10 → ⊥) xs 0 k) → unwrap_or r (length xs) ≡ line_len xs
line_walked xs (Some k) f =
    let n : line_len xs ≡ k + line_len (drop k xs) = line_past xs k (omega (arith, f.0)) (λ j l g e. f.2 j 0 l g (eqb-true _ _ e)) in
    let z : line_len (drop k xs) ≡ 0 = line_stop xs k f.0 (f.1 0) in
    omega arith
line_walked xs None f =
    let n : line_len xs ≡ length xs + line_len (drop (length xs) xs) = line_past xs (length xs) (omega arith) (λ j l g e. f j 0 l g (eqb-true _ _ e)) in
    let z : line_len (drop (length xs) xs) ≡ 0 = at_drop_all line_len xs (length xs) (omega arith) in
    omega arith

-- a printable byte is no line feed
no_feed : (xs : Bytes) (w : ℕ) → w ≤ length xs → all is_printable (take w xs) ≡ true → Nowhere (Passes (is_byte 10) xs) 0 w
no_feed xs zero h t = λ k l g e. omega arith
no_feed [] (suc w) h t = absurd (not-suc-le-zero h)
no_feed (b ∷ bs) (suc w) h t =
    let q : (is_printable b ≡ true) × (all is_printable (take w bs) ≡ true) = and_parts (is_printable b) (all is_printable (take w bs)) t in
    λ k l g e. go k g e q.0 (no_feed bs w (omega arith) q.1)
  where
    go : (k : ℕ) → k < suc w → eqb (get_or (b ∷ bs) k 0) 10 ≡ true → is_printable b ≡ true → Nowhere (Passes (is_byte 10) bs) 0 w → ⊥
    go zero g e p others =
        let low : 32 ≤ b = leb-true 32 b (and_parts (leb 32 b) (leb b 126) p).0 in
        let is : b ≡ 10 = eqb-true b 10 e in
        omega arith
    go (suc k) g e p others = others k (omega arith) (omega arith) e

-- a line feed after w printable bytes
pub line_exact : (xs : Bytes) (w : ℕ) → w < length xs → get_or xs w 0 ≡ 10 → all is_printable (take w xs) ≡ true → line_len xs ≡ w
line_exact xs w h e t =
    let b : line_len xs ≡ w + line_len (drop w xs) = line_past xs w (omega arith) (no_feed xs w (omega arith) t) in
    let z : line_len (drop w xs) ≡ 0 = line_stop xs w h e in
    omega arith

pub line_le : (xs : Bytes) → line_len xs ≤ length xs
line_le [] = omega arith
line_le (b ∷ bs) = let r = line_le bs in ⊎_elim (λ (t : eqb b 10 ≡ true). rw t (omega arith)) (λ (t : eqb b 10 ≡ false). rw t (omega arith)) (cases_Bool (eqb b 10))
