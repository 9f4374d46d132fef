-- The verdict of a list of checks in two parts, and what acceptance says.
use Rattle.std.proofs.Common.{◌≡◌, ℕ, Bool, true, false, cond, List, [], ◌∷◌, ◌++◌, is_some, Some, None, Option, sym, refl, ap, ◌∙◌, subst, arith}
use Rattle.octets.specs.Classes.{Bytes}
use Rattle.layout.specs.declared.set_id.SetId.{SetId}
use Rattle.layout.specs.Layouts.{header_of}
use Rattle.layout.specs.SetIds.{set_id_in}
use Rattle.file.specs.Records.{first_of, others_of}
use Rattle.book.specs.Meaning.{BookMeaning}
use Rattle.transaction.specs.declared.header.Transaction.{Transaction}
use Rattle.transaction.specs.declared.verdict.Verdict.{Verdict}
use Rattle.transaction.specs.declared.verdict.Verdict.TheVariants.{Accepted, Refused}
use Rattle.transaction.specs.Checks.{Holds, own_checks, own_verdict, checks_under, checks_of_set}
use Rattle.transaction.specs.Details.{details_of}
use Rattle.transaction.specs.Headers.{reading_of, own_pair, original_pair}
use Rattle.transaction.specs.Pairs as touched
use Rattle.transaction.specs.Sounds.{reading_in, reading_under}
use Rattle.transaction.specs.Verdicts.{Check, check, verdict, refusal}
use Rattle.promises.specs.Judging.{book_checks, book_checks_any, judge}
use Rattle.promises.specs.Related.{listed, listed_in, pairs_in}

-- the second where the first passes
abbrev pub then : Verdict → Verdict → Verdict
then Accepted w = w
then (Refused c r k) w = Refused c r k

pub refused_not : (c r k : ℕ) → Refused c r k ≡ Accepted → ⊥
refused_not c r k h = let z : ◌≡◌ {A = ℕ} 0 1 = cc in absurd (omega arith)

pub verdict_append : (xs ys : List Check) → verdict (xs ++ ys) ≡ then (verdict xs) (verdict ys)
verdict_append [] ys = refl
verdict_append (c ∷ xs) ys = go c.passes (verdict_append xs ys)
  where
    go : (v : Bool) → verdict (xs ++ ys) ≡ then (verdict xs) (verdict ys) → cond v (verdict (xs ++ ys)) (refusal c) ≡ then (cond v (verdict xs) (refusal c)) (verdict ys)
    go true h = h
    go false h = refl

pub then_left : (v w : Verdict) → then v w ≡ Accepted → v ≡ Accepted
then_left Accepted w h = refl
then_left (Refused c r k) w h = h

pub then_right : (v w : Verdict) → then v w ≡ Accepted → w ≡ Accepted
then_right Accepted w h = h
then_right (Refused c r k) w h = absurd (refused_not c r k h)

pub accepted_left : (xs ys : List Check) → verdict (xs ++ ys) ≡ Accepted → verdict xs ≡ Accepted
accepted_left xs ys h = then_left (verdict xs) (verdict ys) (sym (verdict_append xs ys) ∙ h)

pub accepted_right : (xs ys : List Check) → verdict (xs ++ ys) ≡ Accepted → verdict ys ≡ Accepted
accepted_right xs ys h = then_right (verdict xs) (verdict ys) (sym (verdict_append xs ys) ∙ h)

pub accepted_first : (c : Check) (cs : List Check) → verdict (c ∷ cs) ≡ Accepted → c.passes ≡ true
accepted_first c cs h = go c.passes h
  where
    go : (v : Bool) → cond v (verdict cs) (refusal c) ≡ Accepted → v ≡ true
    go true k = refl
    go false k = absurd (refused_not _ _ _ k)

pub accepted_rest : (c : Check) (cs : List Check) → verdict (c ∷ cs) ≡ Accepted → verdict cs ≡ Accepted
accepted_rest c cs h = go c.passes h
  where
    go : (v : Bool) → cond v (verdict cs) (refusal c) ≡ Accepted → verdict cs ≡ Accepted
    go true k = k
    go false k = absurd (refused_not _ _ _ k)

-- a transaction that passes its own checks has a Set ID, and all its pairs
pub record Sound (holds : Holds) (rs : List Bytes) : Type 0 where
  pub what : Transaction
  pub reads : reading_in (first_of rs) ≡ Some what
  pub pairs : pairs_in holds rs ≡ listed (own_pair what) ++ listed (original_pair what)

sound_under : (holds : Holds) (h : Bytes) (rs : List Bytes) (o : Option SetId) → verdict (check (is_some o) 30 0 37 ∷ checks_of_set holds h rs o) ≡ Accepted
    → (t : Transaction) × (reading_under h o ≡ Some t) × (touched.pairs_under holds h o ≡ touched.pairs_in t)
sound_under holds h rs None e = absurd (refused_not _ _ _ e)
sound_under holds h rs (Some set) e =
    (reading_of set h, refl, ap (λ v. touched.pairs_if v (reading_of set h)) (accepted_left (checks_under holds 0 h (header_of set)) _ e))

pub sound_own : (holds : Holds) (rs : List Bytes) → own_verdict holds rs ≡ Accepted → Sound holds rs
sound_own holds rs e =
    let s = sound_under holds (first_of rs) (others_of rs) (set_id_in (first_of rs)) e in
    record { what = s.0; reads = s.1; pairs = ap listed_in s.2 }

pub sound : (holds : Holds) (b : BookMeaning) (day : ℕ) (rs : List Bytes) → judge holds b day rs ≡ Accepted → Sound holds rs
sound holds b day rs e = sound_own holds rs (accepted_left (own_checks holds rs) _ e)

-- what an accepted one passes against the book
pub book_passes : (holds : Holds) (b : BookMeaning) (day : ℕ) (rs : List Bytes) (t : Transaction) → reading_in (first_of rs) ≡ Some t → judge holds b day rs ≡ Accepted → verdict (book_checks b day t (details_of (others_of rs))) ≡ Accepted
book_passes holds b day rs t is e =
    subst (λ o. verdict (book_checks_any b day o (details_of (others_of rs))) ≡ Accepted) is (accepted_right (own_checks holds rs) _ e)

-- a verdict by its parts, as code comes to it: refused on its own, or else as the book says
pub judge_refused : (holds : Holds) (b : BookMeaning) (day : ℕ) (rs : List Bytes) (c r k : ℕ) → own_verdict holds rs ≡ Refused c r k → judge holds b day rs ≡ Refused c r k
judge_refused holds b day rs c r k e =
    let more = book_checks_any b day (reading_in (first_of rs)) (details_of (others_of rs)) in
    verdict_append (own_checks holds rs) more ∙ ap (λ v. then v (verdict more)) e

pub judge_sound : (holds : Holds) (b : BookMeaning) (day : ℕ) (rs : List Bytes) (t : Transaction) → own_verdict holds rs ≡ Accepted → reading_in (first_of rs) ≡ Some t → judge holds b day rs ≡ verdict (book_checks b day t (details_of (others_of rs)))
judge_sound holds b day rs t e is =
    let more = book_checks_any b day (reading_in (first_of rs)) (details_of (others_of rs)) in
    verdict_append (own_checks holds rs) more ∙ ap (λ v. then v (verdict more)) e ∙ ap (λ o. verdict (book_checks_any b day o (details_of (others_of rs)))) is
