-- From the checks of its own to those against the book.
use Rattle.std.proofs.Common.{◌≡◌, ℕ, suc, ◌+◌, ◌≤◌, Bool, true, false, cond, ◌&&◌, eqb, ltb, leb, List, [], ◌∷◌, ◌++◌, map, length, is_some, Some, None, Option, sym, refl, ap, ◌∙◌, subst, arith}
use Rattle.std.specs.List.{flat_map}
use Rattle.std.proofs.lemmas.Bool.{and_parts, leb-true}
use Rattle.octets.specs.Classes.{Bytes}
use Rattle.layout.specs.declared.set_id.SetId.{SetId}
use Rattle.layout.specs.declared.set_id.SetId.TheVariants.{Payment, Collection, ReceiverAdjustment, SenderAdjustment, ZeroDollar, PostSgl}
use Rattle.layout.specs.declared.Layout.{Layout}
use Rattle.layout.specs.Companions.{companions_of}
use Rattle.layout.specs.Layouts.{detail_of, entry_of, header_of, width_of, fields_of}
use Rattle.layout.specs.SetIds.{set_id_in}
use Rattle.file.specs.Records.{records, first_of, others_of, is_detail, is_entry, many}
use Rattle.ordered.specs.Order.{every}
use Rattle.book.specs.Meaning.{BookMeaning}
use Rattle.transaction.specs.declared.fault.RecordCause.{RecordCause}
use Rattle.transaction.specs.declared.fault.RecordCause.TheVariants.{SetIdUnknown, Letter, Length, Field, Companion, Product}
use Rattle.transaction.specs.declared.fault.TransactionFault.{TransactionFault}
use Rattle.transaction.specs.declared.fault.TransactionFault.TheVariants.{Record, DetailCount, EntrySet, Total}
use Rattle.transaction.specs.declared.header.Transaction.{Transaction}
use Rattle.transaction.specs.declared.verdict.Verdict.{Verdict}
use Rattle.transaction.specs.declared.verdict.Verdict.TheVariants.{Accepted}
use Rattle.transaction.specs.Checks.{Holds, own_checks, own_verdict, checks_of_set, checks_under, checks_under_any, layout_at, record_checks, records_checks, most_details, detail_count, entry_set_check, total_passes, field_checks, companion_check, product_passes}
use Rattle.transaction.specs.Details.{DetailRead, read_as, details_from, details_of, entry_set, until_detail}
use Rattle.transaction.specs.Headers.{reading_of, set_id_of}
use Rattle.transaction.specs.Layers.{cause_verdict, fault_verdict}
use Rattle.transaction.specs.Sounds.{reading_under, reading_in, SoundOf}
use Rattle.transaction.specs.Verdicts.{Check, check, verdict}
use Rattle.promises.specs.Entering.{apply_if, entered}
use Rattle.promises.specs.Judging.{book_checks, book_checks_any, judge}
use Rattle.promises.proofs.Judged.{then, verdict_append, accepted_left, accepted_right, accepted_first, accepted_rest}
use Rattle.promises.proofs.Passing.{some_not}
use Rattle.settle.specs.Relied.{is_wide, Relied}

-- ---- what is relied on

details_many : (n : ℕ) (rs : List Bytes) → length (details_from n rs) ≡ many is_detail rs
details_many n [] = refl
details_many n (r ∷ rs) = go (is_detail r) (details_many (suc n) rs)
  where
    go : (v : Bool) → length (details_from (suc n) rs) ≡ many is_detail rs
        → length (cond v (read_as n r (entry_set (until_detail rs)) ∷ details_from (suc n) rs) (details_from (suc n) rs)) ≡ cond v 1 0 + many is_detail rs
    go true h = omega arith
    go false h = omega arith

all_wide : (holds : Holds) (set : SetId) (n : ℕ) (rs : List Bytes) → verdict (records_checks holds set n rs) ≡ Accepted → every (is_wide set) (details_from n rs) ≡ true
all_wide holds set n [] h = refl
all_wide holds set n (r ∷ rs) h = go (is_detail r) refl (all_wide holds set (suc n) rs (accepted_right (record_checks holds set n r) (records_checks holds set (suc n) rs) h))
  where
    mine : verdict (record_checks holds set n r) ≡ Accepted
    mine = accepted_left (record_checks holds set n r) (records_checks holds set (suc n) rs) h

    behind_length : Layout → List Check
    behind_length l = flat_map (field_checks holds n r) (fields_of l) ++ (map (companion_check n r) (companions_of l) ++ (check (product_passes l r) 34 n 30 ∷ []))

    wide : is_detail r ≡ true → eqb (length r) (width_of (detail_of set)) ≡ true
    wide e =
        let l : layout_at set n r ≡ Some (detail_of set) = ap (λ v. cond v (Some (detail_of set)) (cond (is_entry r && ltb 1 n) (entry_of set) None)) e in
        let k : verdict (checks_under holds n r (detail_of set)) ≡ Accepted = subst (λ x. verdict (checks_under_any holds n r x) ≡ Accepted) l (accepted_rest (check (is_some (layout_at set n r)) 31 n 1) (checks_under_any holds n r (layout_at set n r)) mine) in
        accepted_first (check (eqb (length r) (width_of (detail_of set))) 32 n 1) (behind_length (detail_of set)) k

    go : (v : Bool) → is_detail r ≡ v → every (is_wide set) (details_from (suc n) rs) ≡ true → every (is_wide set) (cond v (read_as n r (entry_set (until_detail rs)) ∷ details_from (suc n) rs) (details_from (suc n) rs)) ≡ true
    go true e k = let w = wide e in simp (w, k)
    go false e k = k

most : (set : SetId) → most_details set ≤ 1000
most Payment = omega arith
most Collection = omega arith
most ReceiverAdjustment = omega arith
most SenderAdjustment = omega arith
most ZeroDollar = omega arith
most PostSgl = omega arith

set_read : (set : SetId) (h : Bytes) → set_id_of (reading_of set h) ≡ set
set_read Payment h = refl
set_read Collection h = refl
set_read ReceiverAdjustment h = refl
set_read SenderAdjustment h = refl
set_read ZeroDollar h = refl
set_read PostSgl h = refl

relied_under : (holds : Holds) (h : Bytes) (rs : List Bytes) (o : Option SetId) (t : Transaction) → verdict (checks_of_set holds h rs o) ≡ Accepted → reading_under h o ≡ Some t → (many is_detail rs ≤ 1000) × (every (is_wide (set_id_of t)) (details_of rs) ≡ true)
relied_under holds h rs None t ok is = absurd (some_not t is)
relied_under holds h rs (Some set) t ok is =
    let r : reading_of set h ≡ t = cc in
    let s : set ≡ set_id_of t = sym (set_read set h) ∙ ap set_id_of r in
    let back = accepted_right (checks_under holds 0 h (header_of set)) _ ok in
    let each = all_wide holds set 1 rs (accepted_left (records_checks holds set 1 rs) _ back) in
    let counted = accepted_first (check (detail_count set (many is_detail rs)) 41 0 1) (map (entry_set_check set) (details_of rs) ++ check (total_passes set h (details_of rs)) 43 0 10 ∷ []) (accepted_right (records_checks holds set 1 rs) _ back) in
    let few = leb-true (many is_detail rs) (most_details set) (and_parts (leb 1 (many is_detail rs)) (leb (many is_detail rs) (most_details set)) counted).1 in
    let m = most set in
    (omega arith, subst (λ x. every (is_wide x) (details_of rs) ≡ true) s each)

module _ (holds : Holds) (rs : List Bytes) (t : Transaction) (details : ℕ) (body : Bytes) (ok : Accepted ≡ own_verdict holds rs) (s : SoundOf rs t details body) where
  pub relied : Relied t details body
  relied =
      let p = relied_under holds (first_of rs) (others_of rs) (set_id_in (first_of rs)) t (accepted_rest (check (is_some (set_id_in (first_of rs))) 30 0 37) (checks_of_set holds (first_of rs) (others_of rs) (set_id_in (first_of rs))) (sym ok)) s.reading in
      let n : details ≡ length (details_of (records body)) = s.count ∙ sym (details_many 1 (others_of rs)) ∙ ap (λ x. length (details_of x)) (sym s.others) in
      record { count = n; few = omega (arith, p.0, s.count); wide = subst (λ x. every (is_wide (set_id_of t)) (details_of x) ≡ true) (sym s.others) p.1 }

  -- ---- the verdict

  module _ (b : BookMeaning) (day : ℕ) where
    any_is : book_checks b day t (details_of (records body)) ≡ book_checks_any b day (reading_in (first_of rs)) (details_of (others_of rs))
    any_is = ap (λ x. book_checks b day t (details_of x)) s.others ∙ ap (λ o. book_checks_any b day o (details_of (others_of rs))) (sym s.reading)

    pub judged_sound : (v : Verdict) → v ≡ verdict (book_checks b day t (details_of (records body))) → v ≡ judge holds b day rs
    judged_sound v h =
        h
        ∙ ap verdict any_is
        ∙ ap (λ x. then x (verdict (book_checks_any b day (reading_in (first_of rs)) (details_of (others_of rs))))) ok
        ∙ sym (verdict_append (own_checks holds rs) (book_checks_any b day (reading_in (first_of rs)) (details_of (others_of rs))))

    -- the book after it: v is its verdict, and c the book
    pub entered_sound : (v : Verdict) (c : BookMeaning) → v ≡ verdict (book_checks b day t (details_of (records body))) → c ≡ apply_if v day (Some t) (details_of (records body)) b → c ≡ entered holds b day rs
    entered_sound v c h k =
        k
        ∙ ap (λ x. apply_if x day (Some t) (details_of (records body)) b) (judged_sound v h)
        ∙ ap (λ o. apply_if (judge holds b day rs) day (Some t) (details_of o) b) s.others
        ∙ ap (λ o. apply_if (judge holds b day rs) day o (details_of (others_of rs)) b) (sym s.reading)

cause_refused : (n : ℕ) (f : RecordCause) (v : Verdict) → then (cause_verdict n f) v ≡ cause_verdict n f
cause_refused n SetIdUnknown v = refl
cause_refused n Letter v = refl
cause_refused n Length v = refl
cause_refused n (Field f) v = refl
cause_refused n (Companion column) v = refl
cause_refused n Product v = refl

fault_refused : (f : TransactionFault) (v : Verdict) → then (fault_verdict f) v ≡ fault_verdict f
fault_refused (Record f) v = cause_refused f.number f.cause v
fault_refused DetailCount v = refl
fault_refused (EntrySet n) v = refl
fault_refused Total v = refl

pub judged_fault : (holds : Holds) (rs : List Bytes) (b : BookMeaning) (day : ℕ) (f : TransactionFault) → fault_verdict f ≡ own_verdict holds rs → fault_verdict f ≡ judge holds b day rs
judged_fault holds rs b day f h =
    sym (fault_refused f _)
    ∙ ap (λ x. then x (verdict (book_checks_any b day (reading_in (first_of rs)) (details_of (others_of rs))))) h
    ∙ sym (verdict_append (own_checks holds rs) (book_checks_any b day (reading_in (first_of rs)) (details_of (others_of rs))))

cause_leaves : (n : ℕ) (f : RecordCause) (day : ℕ) (o : Option Transaction) (ds : List DetailRead) (b : BookMeaning) → b ≡ apply_if (cause_verdict n f) day o ds b
cause_leaves n SetIdUnknown day o ds b = refl
cause_leaves n Letter day o ds b = refl
cause_leaves n Length day o ds b = refl
cause_leaves n (Field f) day o ds b = refl
cause_leaves n (Companion column) day o ds b = refl
cause_leaves n Product day o ds b = refl

fault_leaves : (f : TransactionFault) (day : ℕ) (o : Option Transaction) (ds : List DetailRead) (b : BookMeaning) → b ≡ apply_if (fault_verdict f) day o ds b
fault_leaves (Record f) day o ds b = cause_leaves f.number f.cause day o ds b
fault_leaves DetailCount day o ds b = refl
fault_leaves (EntrySet n) day o ds b = refl
fault_leaves Total day o ds b = refl

pub entered_fault : (holds : Holds) (rs : List Bytes) (b : BookMeaning) (day : ℕ) (f : TransactionFault) → fault_verdict f ≡ own_verdict holds rs → b ≡ entered holds b day rs
entered_fault holds rs b day f h =
    fault_leaves f day (reading_in (first_of rs)) (details_of (others_of rs)) b
    ∙ ap (λ v. apply_if v day (reading_in (first_of rs)) (details_of (others_of rs)) b) (judged_fault holds rs b day f h)
