-- Where the next header stands.
use Rattle.std.proofs.Common.{◌≡◌, ℕ, suc, ◌+◌, ◌-◌, ◌<◌, min, Bool, true, false, cond, ◌&&◌, eqb, List, [], ◌∷◌, length, take, drop, sym, refl, ap, ◌∙◌, not-suc-le-zero, arith}
use Rattle.std.proofs.lemmas.List.{length-drop, take_rest}
use Rattle.std.proofs.lemmas.Bool.{and_parts, eqb-true}
use Rattle.octets.specs.Classes.{Bytes}
use Rattle.file.specs.Lengths.{line_len, header_after}
use Rattle.file.proofs.Lines.{records_line, first_is}
use Rattle.file.specs.Records.{records, onto, begins, is_header, until_header, transactions, first_of, others_of}

-- a record is followed by a header
abbrev Stops : Bytes → Type 0
Stops xs = begins 72 (drop (suc (line_len xs)) xs) ≡ true → header_after xs ≡ suc (line_len xs)

pub header_stop : (xs : Bytes) → Stops xs
header_stop [] h = let z : ◌≡◌ {A = Bool} true false = sym h in cc
header_stop (b ∷ bs) h = go (eqb b 10) refl (header_stop bs) h
  where
    go : (v : Bool) → eqb b 10 ≡ v → Stops bs → Stops (b ∷ bs)
    go true e f = simp e (λ k. simp k)
    go false e f = simp e (λ k. ap suc (f k))

-- a record is followed by another, or by nothing
abbrev Goes_on : Bytes → Type 0
Goes_on xs = begins 72 (drop (suc (line_len xs)) xs) ≡ false → header_after xs ≡ min (suc (line_len xs)) (length xs) + header_after (drop (suc (line_len xs)) xs)

pub header_more : (xs : Bytes) → Goes_on xs
header_more [] h = refl
header_more (b ∷ bs) h = go (eqb b 10) refl (header_more bs) h
  where
    go : (v : Bool) → eqb b 10 ≡ v → Goes_on bs → Goes_on (b ∷ bs)
    go true e f = simp e (λ k. simp k (omega arith))
    go false e f = simp e (λ k. let m = f k in omega arith)

begins_some : (xs : Bytes) → begins 72 xs ≡ true → 0 < length xs
begins_some [] h = let z : ◌≡◌ {A = Bool} true false = sym h in let w : ◌≡◌ {A = ℕ} 0 1 = cc in omega arith
begins_some (b ∷ bs) h = omega arith

-- what is left, ys, behind the first record of xs
module _ (xs ys : Bytes) (behind : ys ≡ drop (suc (line_len xs)) xs) where
  pub left_stop : begins 72 ys ≡ true → header_after xs + length ys ≡ length xs
  left_stop t =
      let k = header_stop xs (ap (begins 72) (sym behind) ∙ t) in
      let l = begins_some ys t in
      let m : length ys ≡ length xs - suc (line_len xs) = ap length behind ∙ length-drop (suc (line_len xs)) xs in
      omega arith

  pub left_more : begins 72 ys ≡ false → header_after xs + length ys ≡ length xs + header_after ys
  left_more t =
      let k = header_more xs (ap (begins 72) (sym behind) ∙ t) in
      let l = ap header_after behind in
      let m : length ys ≡ length xs - suc (line_len xs) = ap length behind ∙ length-drop (suc (line_len xs)) xs in
      omega arith

-- what stands before the next header, and from it on
pub record Cut (xs : Bytes) : Type 0 where
  pub front : records (take (header_after xs) xs) ≡ first_of (records xs) ∷ until_header (others_of (records xs))
  pub later : transactions (records (drop (header_after xs) xs)) ≡ transactions (others_of (records xs))

starts : (letter b : ℕ) (bs : Bytes) → begins letter (first_of (onto b (records bs))) ≡ eqb b letter
starts letter b bs = go (records bs)
  where
    go : (rs : List Bytes) → begins letter (first_of (onto b rs)) ≡ eqb b letter
    go [] = refl
    go (r ∷ rs) = refl

-- the first byte tells the letter of the first record
pub letter_first : (letter : ℕ) (xs : Bytes) → eqb 10 letter ≡ false → begins letter (first_of (records xs)) ≡ begins letter xs
letter_first letter [] h = refl
letter_first letter (b ∷ bs) h = go (eqb b 10) refl
  where
    go : (v : Bool) → eqb b 10 ≡ v → begins letter (first_of (records (b ∷ bs))) ≡ eqb b letter
    go true e = let is : b ≡ 10 = eqb-true b 10 e in let k : eqb b letter ≡ false = ap (λ n. eqb n letter) is ∙ h in simp e (sym k)
    go false e = simp e (starts letter b bs)

pub header_first : (xs : Bytes) → is_header (first_of (records xs)) ≡ begins 72 xs
header_first xs = letter_first 72 xs refl

until_header_law : (r : Bytes) (rs : List Bytes) → is_header r ≡ true → until_header (r ∷ rs) ≡ []
until_header_law r rs h = simp h

until_other : (r : Bytes) (rs : List Bytes) → is_header r ≡ false → until_header (r ∷ rs) ≡ r ∷ until_header rs
until_other r rs h = simp h

skip_other : (r : Bytes) (rs : List Bytes) → is_header r ≡ false → transactions (r ∷ rs) ≡ transactions rs
skip_other r rs h = simp h

-- a byte and what stands behind it, ys, whose records are r and rs
module _ (b : ℕ) (ys : Bytes) (r : Bytes) (rs : List Bytes) (split : records ys ≡ r ∷ rs) where
  -- what is to be shown of b and ys, from the records of b and ys and the number of bytes before the next header
  made : (ts : List Bytes) (k : ℕ) → records (b ∷ ys) ≡ ts → header_after (b ∷ ys) ≡ k → records (take k (b ∷ ys)) ≡ first_of ts ∷ until_header (others_of ts) → transactions (records (drop k (b ∷ ys))) ≡ transactions (others_of ts) → Cut (b ∷ ys)
  made ts k is long f l = record {
    front = ap (λ n. records (take n (b ∷ ys))) long ∙ f ∙ ap (λ us. first_of us ∷ until_header (others_of us)) (sym is);
    later = ap (λ n. transactions (records (drop n (b ∷ ys)))) long ∙ l ∙ ap (λ us. transactions (others_of us)) (sym is);
  }

  feed_header : eqb b 10 ≡ true → begins 72 ys ≡ true → is_header r ≡ true → Cut (b ∷ ys)
  feed_header e f h =
      made ([] ∷ records ys) 1 (simp e) (simp (e, f))
      (simp e (ap (λ us. [] ∷ us) (sym (ap until_header split ∙ until_header_law r rs h))))
      refl

  feed_other : eqb b 10 ≡ true → begins 72 ys ≡ false → is_header r ≡ false → Cut ys → Cut (b ∷ ys)
  feed_other e f h c =
      made ([] ∷ records ys) (suc (header_after ys)) (simp e) (simp (e, f))
      (simp e (ap (λ us. [] ∷ us) (c.front ∙ ap (λ us. first_of us ∷ until_header (others_of us)) split ∙ sym (ap until_header split ∙ until_other r rs h))))
      (c.later ∙ ap (λ us. transactions (others_of us)) split ∙ sym (ap transactions split ∙ skip_other r rs h))

  other : eqb b 10 ≡ false → Cut ys → Cut (b ∷ ys)
  other e c =
      made ((b ∷ r) ∷ rs) (suc (header_after ys)) (simp e (ap (onto b) split)) (simp e)
      (simp e (ap (onto b) (c.front ∙ ap (λ us. first_of us ∷ until_header (others_of us)) split)))
      (c.later ∙ ap (λ us. transactions (others_of us)) split)

-- the bytes before the next header are the first record and those up to the header
pub first_cut : (xs : Bytes) → 0 < length xs → Cut xs
first_cut [] h = absurd (not-suc-le-zero h)
first_cut (b ∷ []) h = go (eqb b 10) refl
  where
    go : (v : Bool) → eqb b 10 ≡ v → Cut (b ∷ [])
    go true e = record { front = simp e; later = simp e }
    go false e = record { front = simp e; later = simp e }
first_cut (b ∷ x ∷ bs) h = go (eqb b 10) refl (eqb x 72) refl (first_cut (x ∷ bs) (omega arith))
  where
    r : Bytes
    r = take (line_len (x ∷ bs)) (x ∷ bs)

    split : records (x ∷ bs) ≡ take (line_len (x ∷ bs)) (x ∷ bs) ∷ records (drop (suc (line_len (x ∷ bs))) (x ∷ bs))
    split = records_line (x ∷ bs) (omega arith)

    first : is_header (take (line_len (x ∷ bs)) (x ∷ bs)) ≡ eqb x 72
    first = ap is_header (first_is (x ∷ bs)) ∙ header_first (x ∷ bs)

    go : (v : Bool) → eqb b 10 ≡ v → (w : Bool) → eqb x 72 ≡ w → Cut (x ∷ bs) → Cut (b ∷ x ∷ bs)
    go true e true f c = feed_header b (x ∷ bs) _ _ split e f (first ∙ f)
    go true e false f c = feed_other b (x ∷ bs) _ _ split e f (first ∙ f) c
    go false e w f c = other b (x ∷ bs) _ _ split e c

-- the transactions of a text that begins with a header, and of one that does not
pub cut_header : (xs : Bytes) → begins 72 xs ≡ true → transactions (records xs) ≡ records (take (header_after xs) xs) ∷ transactions (records (drop (header_after xs) xs))
cut_header xs h =
    let some = begins_some xs h in
    let c = first_cut xs some in
    let split = records_line xs some in
    let header : is_header (take (line_len xs) xs) ≡ true = ap is_header (first_is xs) ∙ header_first xs ∙ h in
    let others : others_of (records xs) ≡ records (drop (suc (line_len xs)) xs) = ap others_of split in
    ap transactions split
    ∙ taken (take (line_len xs) xs) (records (drop (suc (line_len xs)) xs)) header
    ∙ ap (λ us. (take (line_len xs) xs ∷ until_header us) ∷ transactions us) (sym others)
    ∙ ap (λ r. (r ∷ until_header (others_of (records xs))) ∷ transactions (others_of (records xs))) (first_is xs)
    ∙ ap (λ t. t ∷ transactions (others_of (records xs))) (sym c.front)
    ∙ ap (λ ts. records (take (header_after xs) xs) ∷ ts) (sym c.later)
  where
    taken : (r : Bytes) (rs : List Bytes) → is_header r ≡ true → transactions (r ∷ rs) ≡ (r ∷ until_header rs) ∷ transactions rs
    taken r rs e = simp e

pub cut_other : (xs : Bytes) → begins 72 xs ≡ false → transactions (records xs) ≡ transactions (records (drop (header_after xs) xs))
cut_other [] h = refl
cut_other (b ∷ bs) h =
    let c = first_cut (b ∷ bs) (omega arith) in
    let split = records_line (b ∷ bs) (omega arith) in
    let no_header : is_header (take (line_len (b ∷ bs)) (b ∷ bs)) ≡ false = ap is_header (first_is (b ∷ bs)) ∙ header_first (b ∷ bs) ∙ h in
    ap transactions split ∙ skip_other (take (line_len (b ∷ bs)) (b ∷ bs)) (records (drop (suc (line_len (b ∷ bs))) (b ∷ bs))) no_header ∙ ap transactions (sym (ap others_of split)) ∙ sym c.later

-- what stands before a header ends where the header begins
pub next_header : (xs : Bytes) → header_after xs < length xs → begins 72 (drop (header_after xs) xs) ≡ true
next_header [] h = absurd (not-suc-le-zero h)
next_header (b ∷ bs) h = go (eqb b 10 && begins 72 bs) refl (next_header bs) h
  where
    go : (v : Bool) → (eqb b 10 && begins 72 bs) ≡ v → (header_after bs < length bs → begins 72 (drop (header_after bs) bs) ≡ true) → header_after (b ∷ bs) < length (b ∷ bs) → begins 72 (drop (header_after (b ∷ bs)) (b ∷ bs)) ≡ true
    go true e f = simp e (λ k. (and_parts (eqb b 10) (begins 72 bs) e).1)
    go false e f = simp e (λ k. f (omega arith))

pub header_some : (xs : Bytes) → 0 < length xs → 0 < header_after xs
header_some [] h = absurd (not-suc-le-zero h)
header_some (b ∷ bs) h = go (eqb b 10 && begins 72 bs)
  where
    go : (v : Bool) → 0 < cond v 1 (suc (header_after bs))
    go true = omega arith
    go false = omega arith

-- the same of the part as the code has it
pub skip_same : (xs : Bytes) (k : ℕ) → begins 72 xs ≡ false → k ≡ header_after xs → transactions (records (take (length xs - k) (drop k xs))) ≡ transactions (records xs)
skip_same xs k h is = ap (λ l. transactions (records l)) (take_rest xs k ∙ ap (λ n. drop n xs) is) ∙ sym (cut_other xs h)

pub skip_header : (xs : Bytes) (k : ℕ) → k ≡ header_after xs → 0 < length (take (length xs - k) (drop k xs)) → begins 72 (take (length xs - k) (drop k xs)) ≡ true
skip_header xs k is h =
    let same : take (length xs - k) (drop k xs) ≡ drop (header_after xs) xs = take_rest xs k ∙ ap (λ n. drop n xs) is in
    let l = length-drop (header_after xs) xs in
    let e = ap length same in
    ap (begins 72) same ∙ next_header xs (omega arith)
