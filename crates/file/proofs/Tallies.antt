-- Tallies of records: that they fit, and that what a file holds is counted by them.
use Rattle.std.proofs.Common.{◌≡◌, ℕ, suc, ◌+◌, ◌-◌, ◌≤◌, Bool, true, false, cond, eqb, List, [], ◌∷◌, length, get_or, drop, refl, ap, ◌∙◌, ⊎_elim, arith}
use Rattle.std.proofs.lemmas.Bool.{cases_Bool}
use Rattle.octets.specs.Classes.{Bytes}
use Rattle.file.specs.declared.tally.Found.{Found}
use Rattle.file.specs.declared.tally.Tally.{Tally}
use Rattle.file.specs.Openings.{record_at}
use Rattle.file.specs.Counts.{tally_of, found_in}
use Rattle.file.specs.Records.{records, onto, many, is_header, until_header, transactions}

onto_length : (b : ℕ) (rs : List Bytes) (n : ℕ) → length rs ≤ n → length (onto b rs) ≤ suc n
onto_length b [] n h = omega arith
onto_length b (r ∷ rs) n h = omega arith

-- each record takes a byte at least
pub records_few : (xs : Bytes) → length (records xs) ≤ length xs
records_few [] = omega arith
records_few (b ∷ bs) = go (eqb b 10) (records_few bs)
  where
    go : (v : Bool) → length (records bs) ≤ length bs → length (cond v ([] ∷ records bs) (onto b (records bs))) ≤ length (b ∷ bs)
    go true h = omega arith
    go false h = onto_length b (records bs) (length bs) h

pub many_few : (p : Bytes → Bool) (rs : List Bytes) → many p rs ≤ length rs
many_few p [] = omega arith
many_few p (r ∷ rs) = let k = many_few p rs in ⊎_elim (λ (t : p r ≡ true). rw t (omega arith)) (λ (t : p r ≡ false). rw t (omega arith)) (cases_Bool (p r))

-- the records that pass of those that have been read, one more among them, are no more than the bytes
pub tally_room : (p : Bytes → Bool) (text : Bytes) (left others : List Bytes) (r : Bytes) (n t : ℕ) → left ≡ r ∷ others → t ≡ cond (p r) 1 0 → n + many p left ≡ many p (records text) → n + t ≤ length text
tally_room p text left others r n t split is inv =
    let e = ap (many p) split in
    let f = many_few p (records text) in
    let g = records_few text in
    omega arith

-- each transaction has one header
headers : (rs : List Bytes) → length (transactions rs) ≡ many is_header rs
headers [] = refl
headers (r ∷ rs) = go (is_header r) (headers rs)
  where
    go : (v : Bool) → length (transactions rs) ≡ many is_header rs → length (cond v ((r ∷ until_header rs) ∷ transactions rs) (transactions rs)) ≡ cond v 1 0 + many is_header rs
    go true h = omega arith
    go false h = omega arith

abbrev found : ℕ → ℕ → Found
found n t = record { records = n; transactions = t }

-- the headers of a file, and those that stand where its opening should
behind_two : (rs : List Bytes) → many is_header rs ≡ cond (is_header (get_or rs 0 [])) 1 0 + cond (is_header (get_or rs 1 [])) 1 0 + many is_header (drop 2 rs)
behind_two [] = refl
behind_two (a ∷ []) = omega arith
behind_two (a ∷ b ∷ rs) = omega arith

-- f and g: whether the first and the second record are headers
abbrev pub Founds : Bytes → Tally → ℕ → ℕ → Type 0
Founds file t f g = (f + g ≤ t.headers) × (found t.records (t.headers - (f + g)) ≡ found_in file)

pub found_is : (file : Bytes) (t : Tally) (f g : ℕ) → t ≡ tally_of (records file) → f ≡ cond (is_header (record_at 1 file)) 1 0 → g ≡ cond (is_header (record_at 2 file)) 1 0 → Founds file t f g
found_is file t f g is i j =
    let n : t.records ≡ length (records file) = ap (λ u. u.records) is in
    let h : t.headers ≡ many is_header (records file) = ap (λ u. u.headers) is in
    let e = behind_two (records file) in
    let k = headers (drop 2 (records file)) in
    (omega arith, ap (λ m. found m (t.headers - (f + g))) n ∙ ap (found (length (records file))) (omega arith))
