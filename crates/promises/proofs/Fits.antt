-- Every check has a code above 0, and its numbers fit the fields of a packet.
use Rattle.std.proofs.Common.{◌≡◌, ℕ, ◌<◌, ◌≤◌, Bool, true, false, cond, List, [], ◌∷◌, length, is_some, Some, None, All, Option, arith}
use Rattle.std.proofs.lemmas.List.Elements.{All-append, All-nil, All-cons, All-head, All-tail}
use Rattle.std.proofs.lemmas.Bool.Decides.{nat_tests}
use Rattle.octets.specs.Classes.{Bytes}
use Rattle.layout.specs.declared.set_id.SetId.{SetId}
use Rattle.layout.specs.Layouts.{header_of}
use Rattle.layout.specs.SetIds.{set_id_in}
use Rattle.file.specs.Records.{first_of, others_of}
use Rattle.book.specs.Meaning.{BookMeaning}
use Rattle.transaction.specs.Checks.{Holds, checks_under, checks_of_set, own_checks}
use Rattle.transaction.specs.Details.{details_of}
use Rattle.transaction.specs.Sounds.{reading_in}
use Rattle.transaction.specs.Verdicts.{Check, check, verdict, refusal}
use Rattle.promises.specs.Judging.{book_checks_any, all_checks}
use Rattle.promises.specs.ReadBack.{VerdictFits, VerdictsFit}
use Rattle.promises.proofs.Listing.{is_record_code, is_whole_code, Says, under_says, behind_header, behind_says, book_any_says}

-- of a transaction with n records behind its header
abbrev Fit : ℕ → ℕ → ℕ → ℕ → Type 0
Fit n code m column = (0 < code) × (code < 65536) × (m ≤ n) × (column < 65536)

record_code : (c : ℕ) → is_record_code c ≡ true → (0 < c) × (c < 65536)
record_code c h = (grind (arith, nat_tests), grind (arith, nat_tests))

whole_code : (c : ℕ) → is_whole_code c ≡ true → (0 < c) × (c < 65536)
whole_code c h = (grind (arith, nat_tests), grind (arith, nat_tests))

of_record : (n c m k : ℕ) → is_record_code c ≡ true → 1 ≤ m → m ≤ n → k < 65536 → Fit n c m k
of_record n c m k e l h s = let p = record_code c e in (p.0, p.1, h, s)

of_whole : (n c m k : ℕ) → is_whole_code c ≡ true → m ≤ n → k < 65536 → Fit n c m k
of_whole n c m k e h s = let p = whole_code c e in (p.0, p.1, h, s)

set_fits : (holds : Holds) (h : Bytes) (rs : List Bytes) (o : Option SetId) → All (Says (Fit (length rs))) (checks_of_set holds h rs o)
set_fits holds h rs None = All-nil (Says (Fit (length rs)))
set_fits holds h rs (Some set) =
    let n = length rs in
    All-append (Says (Fit n)) (checks_under holds 0 h (header_of set)) (behind_header holds set h rs)
    (under_says holds (Fit n) 0 (λ c k e s. let p = record_code c e in (p.0, p.1, omega arith, s)) h (header_of set))
    (behind_says (Fit n) n (of_record n) (of_whole n) holds set h rs (omega arith))

all_fit : (holds : Holds) (b : BookMeaning) (day : ℕ) (rs : List Bytes) → All (Says (Fit (length (others_of rs)))) (all_checks holds b day rs)
all_fit holds b day rs =
    let n = length (others_of rs) in
    let own : All (Says (Fit n)) (own_checks holds rs) = All-cons (Says (Fit n)) (check (is_some (set_id_in (first_of rs))) 30 0 37) (checks_of_set holds (first_of rs) (others_of rs) (set_id_in (first_of rs))) (omega arith, omega arith, omega arith, omega arith) (set_fits holds (first_of rs) (others_of rs) (set_id_in (first_of rs))) in
    All-append (Says (Fit n)) (own_checks holds rs) (book_checks_any b day (reading_in (first_of rs)) (details_of (others_of rs))) own
    (book_any_says (Fit n) n (of_record n) (of_whole n) b day (reading_in (first_of rs)) (others_of rs) (omega arith))

-- so has their verdict
verdict_fits : (n : ℕ) (cs : List Check) → n ≤ 16777216 → All (Says (Fit n)) cs → VerdictFits (verdict cs)
verdict_fits n [] h k = tt
verdict_fits n (c ∷ cs) h k = go c.passes (verdict_fits n cs h (All-tail (Says (Fit n)) c cs k))
  where
    go : (v : Bool) → VerdictFits (verdict cs) → VerdictFits (cond v (verdict cs) (refusal c))
    go true f = f
    go false f = let f = All-head (Says (Fit n)) c cs k in let l = f.2 in let m : c.at_record < 4294967296 = omega arith in (f.0, f.1, m, f.3)

others_short : (rs : List Bytes) → length (others_of rs) ≤ length rs
others_short [] = omega arith
others_short (r ∷ rs) = omega arith

pub verdicts_fit : VerdictsFit
verdicts_fit holds b day rs h =
    let k : length rs ≤ 16777216 = h in let s = others_short rs in
    verdict_fits (length (others_of rs)) (all_checks holds b day rs) (omega arith) (all_fit holds b day rs)
