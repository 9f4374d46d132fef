-- A transaction's pairs by its verdict.
use Rattle.std.proofs.Common.{◌≡◌, ℕ, eqb, ◌≤◌, Bool, true, false, cond, List, [], ◌∷◌, ◌++◌, map, length, is_some, Some, None, All, Option, sym, refl, ap, ◌∙◌, subst, arith}
use Rattle.std.specs.List.{flat_map}
use Rattle.std.proofs.lemmas.List.Elements.{All-append, All-nil, All-head, All-tail, All-cons, All-from_recursion}
use Rattle.std.proofs.lemmas.Bool.{both_ways}
use Rattle.std.proofs.lemmas.Bool.Decides.{nat_tests}
use Rattle.octets.specs.Classes.{Bytes}
use Rattle.layout.specs.declared.Layout.{Layout}
use Rattle.layout.specs.declared.field.Field.{Field}
use Rattle.layout.specs.declared.set_id.SetId.{SetId}
use Rattle.layout.specs.declared.set_id.SetId.TheVariants.{Payment, Collection, ReceiverAdjustment, SenderAdjustment, ZeroDollar, PostSgl}
use Rattle.layout.specs.Companions.{companions_of}
use Rattle.layout.specs.Layouts.{header_of, fields_of, width_of}
use Rattle.layout.specs.SetIds.{set_id_in}
use Rattle.file.specs.Records.{first_of, others_of}
use Rattle.transaction.specs.declared.header.Transaction.{Transaction}
use Rattle.transaction.specs.declared.verdict.Verdict.{Verdict}
use Rattle.transaction.specs.declared.verdict.Verdict.TheVariants.{Accepted, Refused}
use Rattle.transaction.specs.Checks.{Holds, product_passes, field_checks, companion_check, checks_under, checks_of_set}
use Rattle.transaction.specs.Details.{details_of}
use Rattle.transaction.specs.Headers.{reading_of}
use Rattle.transaction.specs.Pairs as touched
use Rattle.transaction.specs.Sounds.{reading_under}
use Rattle.transaction.specs.Verdicts.{Check, check, verdict, refusal}
use Rattle.promises.specs.Judging.{book_checks, book_checks_any}
use Rattle.promises.specs.NoPairs.{refuses_header, pairs_read, PairsByVerdict}
use Rattle.promises.specs.Related.{listed_in}
use Rattle.promises.proofs.Judged.{then, verdict_append}
use Rattle.promises.proofs.Listing.{is_record_code, is_whole_code, Says, all_joined, behind_header, behind_says, book_any_says}

-- ---- the header's checks refuse the header

abbrev Refuses : Check → Type 0
Refuses c = c.passes ≡ false → refuses_header (refusal c) ≡ true

abbrev Outcome : Verdict → Type 0
Outcome Accepted = Unit {0}
Outcome (Refused c r k) = refuses_header (Refused c r k) ≡ true

refuses_verdict : (cs : List Check) → All Refuses cs → Outcome (verdict cs)
refuses_verdict [] h = tt
refuses_verdict (c ∷ cs) h = go c.passes refl (refuses_verdict cs (All-tail Refuses c cs h))
  where
    go : (v : Bool) → c.passes ≡ v → Outcome (verdict cs) → Outcome (cond v (verdict cs) (refusal c))
    go true e k = k
    go false e k = All-head Refuses c cs h e

any_field : (xs : List Field) → All (λ f. Unit {0}) xs
any_field [] = All-nil (λ f. Unit {0})
any_field (x ∷ xs) = All-cons (λ f. Unit {0}) x xs tt (any_field xs)

header_refuses : (holds : Holds) (h : Bytes) (l : Layout) → companions_of l ≡ [] → product_passes l h ≡ true → All Refuses (checks_under holds 0 h l)
header_refuses holds h l none product =
    let F = flat_map (field_checks holds 0 h) (fields_of l) in
    let K = map (companion_check 0 h) (companions_of l) in
    let last = check (product_passes l h) 34 0 30 in
    let a = all_joined Refuses (field_checks holds 0 h) (λ f. Unit {0}) (λ f _. All-from_recursion Refuses (field_checks holds 0 h f) ((λ _. refl), ((λ _. refl), ((λ _. refl), tt)))) (fields_of l) (any_field (fields_of l)) in
    let c : All Refuses K = subst (λ cs. All Refuses (map (companion_check 0 h) cs)) (sym none) (All-nil Refuses) in
    let d : All Refuses (last ∷ []) = All-from_recursion Refuses (last ∷ []) ((λ e. absurd (both_ways (product_passes l h) e product)), tt) in
    All-cons Refuses (check (eqb (length h) (width_of l)) 32 0 1) (F ++ (K ++ last ∷ [])) (λ _. refl) (All-append Refuses F (K ++ last ∷ []) a (All-append Refuses K (last ∷ []) c d))

set_refuses : (holds : Holds) (h : Bytes) (set : SetId) → All Refuses (checks_under holds 0 h (header_of set))
set_refuses holds h Payment = header_refuses holds h (header_of Payment) refl refl
set_refuses holds h Collection = header_refuses holds h (header_of Collection) refl refl
set_refuses holds h ReceiverAdjustment = header_refuses holds h (header_of ReceiverAdjustment) refl refl
set_refuses holds h SenderAdjustment = header_refuses holds h (header_of SenderAdjustment) refl refl
set_refuses holds h ZeroDollar = header_refuses holds h (header_of ZeroDollar) refl refl
set_refuses holds h PostSgl = header_refuses holds h (header_of PostSgl) refl refl

-- ---- no other check does

abbrev Spares : ℕ → ℕ → ℕ → Type 0
Spares c m k = refuses_header (Refused c m k) ≡ false

of_record : (c m k : ℕ) → is_record_code c ≡ true → 1 ≤ m → Spares c m k
of_record c m k e l = grind (arith, nat_tests)

of_whole : (c m k : ℕ) → is_whole_code c ≡ true → Spares c m k
of_whole c m k e = grind (arith, nat_tests)

spares_verdict : (cs : List Check) → All (Says Spares) cs → refuses_header (verdict cs) ≡ false
spares_verdict [] h = refl
spares_verdict (c ∷ cs) h = go c.passes (spares_verdict cs (All-tail (Says Spares) c cs h))
  where
    go : (v : Bool) → refuses_header (verdict cs) ≡ false → refuses_header (cond v (verdict cs) (refusal c)) ≡ false
    go true k = k
    go false k = All-head (Says Spares) c cs h

-- ---- both together

spared_then : (v w : Verdict) → refuses_header v ≡ false → refuses_header w ≡ false → refuses_header (then v w) ≡ false
spared_then Accepted w h k = k
spared_then (Refused c r m) w h k = h

by_parts : (t : Transaction) (u v w : Verdict) → Outcome u → refuses_header v ≡ false → refuses_header w ≡ false →
    listed_in (touched.pairs_if u t) ≡ cond (refuses_header (then (then u v) w)) [] (listed_in (touched.pairs_in t))
by_parts t Accepted v w h k l = sym (ap (λ r. cond r [] (listed_in (touched.pairs_in t))) (spared_then v w k l))
by_parts t (Refused c r m) v w h k l = sym (ap (λ r. cond r [] (listed_in (touched.pairs_in t))) h)

pub pairs_by_verdict : PairsByVerdict
pairs_by_verdict holds b day rs = go (set_id_in (first_of rs))
  where
    go : (o : Option SetId) → listed_in (touched.pairs_under holds (first_of rs) o)
        ≡ cond (refuses_header (verdict ((check (is_some o) 30 0 37 ∷ checks_of_set holds (first_of rs) (others_of rs) o) ++ book_checks_any b day (reading_under (first_of rs) o) (details_of (others_of rs))))) [] (pairs_read (reading_under (first_of rs) o))
    go None = refl
    go (Some set) =
        let h = first_of rs in let os = others_of rs in let t = reading_of set h in
        let U = checks_under holds 0 h (header_of set) in
        let V = behind_header holds set h os in
        let W = book_checks b day t (details_of os) in
        let n = length os in
        let v = spares_verdict V (behind_says Spares n (λ c m k e l _ _. of_record c m k e l) (λ c m k e _ _. of_whole c m k e) holds set h os (omega arith)) in
        let w = spares_verdict W (book_any_says Spares n (λ c m k e l _ _. of_record c m k e l) (λ c m k e _ _. of_whole c m k e) b day (Some t) os (omega arith)) in
        let split : verdict ((U ++ V) ++ W) ≡ then (then (verdict U) (verdict V)) (verdict W) = verdict_append (U ++ V) W ∙ ap (λ x. then x (verdict W)) (verdict_append U V) in
        by_parts t (verdict U) (verdict V) (verdict W) (refuses_verdict U (set_refuses holds h set)) v w
        ∙ sym (ap (λ x. cond (refuses_header x) [] (listed_in (touched.pairs_in t))) split)
