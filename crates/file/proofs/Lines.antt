-- The first record of a text, and those behind it.
use Rattle.std.proofs.Common.{◌≡◌, ℕ, suc, ◌+◌, ◌-◌, ◌<◌, ◌≤◌, min, true, false, eqb, [], ◌∷◌, length, take, drop, sym, refl, ap, ◌∙◌, ⊎_elim, not-suc-le-zero, arith}
use Rattle.std.proofs.lemmas.List.{length-drop, length-take, take_rest, drop_all}
use Rattle.std.proofs.lemmas.Bool.{cases_Bool, cases_lt}
use Rattle.octets.specs.Classes.{Bytes}
use Rattle.file.specs.Lengths.{line_len}
use Rattle.file.specs.Records.{records, onto, first_of, others_of}
use Rattle.file.proofs.Feeds.{line_le}

pub records_line : (xs : Bytes) → 0 < length xs → records xs ≡ take (line_len xs) xs ∷ records (drop (suc (line_len xs)) xs)
records_line [] h = absurd (not-suc-le-zero h)
records_line (b ∷ []) h =
    ⊎_elim (λ (t : eqb b 10 ≡ true). rw t) (λ (t : eqb b 10 ≡ false). rw t) (cases_Bool (eqb b 10))
records_line (b ∷ x ∷ bs) h =
    ⊎_elim
    (λ (t : eqb b 10 ≡ true). rw t)
    (λ (t : eqb b 10 ≡ false). rw t (ap (onto b) (records_line (x ∷ bs) (omega arith))))
    (cases_Bool (eqb b 10))

-- the records of a text that has bytes
pub split : (xs : Bytes) → 0 < length xs → records xs ≡ first_of (records xs) ∷ others_of (records xs)
split xs h = let e = records_line xs h in e ∙ ap (λ rs. first_of rs ∷ others_of rs) (sym e)

pub first_is : (xs : Bytes) → take (line_len xs) xs ≡ first_of (records xs)
first_is [] = refl
first_is (b ∷ bs) = sym (ap first_of (records_line (b ∷ bs) (omega arith)))

pub others_are : (xs : Bytes) → records (drop (suc (line_len xs)) xs) ≡ others_of (records xs)
others_are [] = refl
others_are (b ∷ bs) = sym (ap others_of (records_line (b ∷ bs) (omega arith)))

pub line_length : (xs : Bytes) → length (take (line_len xs) xs) ≡ line_len xs
line_length xs = let l = line_le xs in simp length-take (omega arith)

-- what is behind a record is shorter
pub behind_shorter : (xs : Bytes) (n : ℕ) → 0 < length xs → length (drop (suc n) xs) < length xs
behind_shorter xs n h = simp length-drop (omega arith)

-- what is behind the byte at n, as the code has it
pub behind_byte : (xs : Bytes) (n m : ℕ) → m ≡ min (length xs) (n + 1) → take (length xs - m) (drop m xs) ≡ drop (suc n) xs
behind_byte xs n m is =
    take_rest xs m
    ∙ ⊎_elim
    (λ (h : n < length xs). ap (λ k. drop k xs) {y = suc n} (omega arith))
    (λ (h : length xs ≤ n). drop_all m xs (omega arith) ∙ sym (drop_all (suc n) xs (omega arith)))
    (cases_lt n (length xs))
