-- The layers of the code give the verdict of the one list of checks.
use Rattle.std.proofs.Common.{◌≡◌, ℕ, suc, Bool, true, false, cond, eqb, List, [], ◌∷◌, ◌++◌, map, length, is_some, Some, None, Ok, Err, Option, sym, refl, ap, ◌∙◌}
use Rattle.std.specs.List.{flat_map}
use Rattle.std.proofs.lemmas.List.Concat.{flat_map_single}
use Rattle.octets.specs.Classes.{Bytes}
use Rattle.layout.specs.declared.Layout.{Layout}
use Rattle.layout.specs.declared.companion.Companion.{Companion}
use Rattle.layout.specs.declared.field.Field.{Field}
use Rattle.layout.specs.declared.set_id.SetId.{SetId}
use Rattle.layout.specs.Companions.{companions_of, refused_start}
use Rattle.layout.specs.Fields.{is_required, kind_of, register_of}
use Rattle.layout.specs.Layouts.{header_of, width_of, fields_of}
use Rattle.layout.specs.SetIds.{set_id_in}
use Rattle.field.specs.Checks.{is_missing}
use Rattle.field.specs.Shapes.{shape}
use Rattle.file.specs.Records.{is_detail, many, first_of, others_of}
use Rattle.transaction.specs.declared.fault.RecordCause.{RecordCause}
use Rattle.transaction.specs.declared.fault.RecordCause.TheVariants.{SetIdUnknown, Letter, Length, Field as InField, Companion as Companions, Product}
use Rattle.transaction.specs.declared.fault.RecordFault.{RecordFault}
use Rattle.transaction.specs.declared.fault.TransactionFault.{TransactionFault}
use Rattle.transaction.specs.declared.fault.TransactionFault.TheVariants.{Record, DetailCount, EntrySet, Total}
use Rattle.transaction.specs.declared.verdict.Verdict.{Verdict}
use Rattle.transaction.specs.declared.verdict.Verdict.TheVariants.{Accepted, Refused}
use Rattle.transaction.specs.Checks.{Holds, cut, field_checks, keeps_companion, companion_check, product_passes, checks_under, checks_under_any, layout_at, record_checks, records_checks, detail_count, entry_set_check, has_good_set, total_passes, checks_of_set, own_checks}
use Rattle.transaction.specs.Details.{DetailRead, details_of}
use Rattle.transaction.specs.Layers.{Passed, and_then, first, named, unless, at, cause_verdict, fault_verdict, outcome, field_layer, companion_layer, layout_layer, any_layer, record_layer, records_layer, entry_set_layer, set_layer, known_layer, own_layer}
use Rattle.transaction.specs.Verdicts.{Check, check, verdict, refusal}

-- the second verdict where the first accepts
abbrev follow : Verdict → Verdict → Verdict
follow Accepted w = w
follow (Refused c r k) w = Refused c r k

verdict_append : (xs ys : List Check) → verdict (xs ++ ys) ≡ follow (verdict xs) (verdict ys)
verdict_append [] ys = refl
verdict_append (c ∷ cs) ys = go c.passes (verdict_append cs ys)
  where
    go : (v : Bool) → verdict (cs ++ ys) ≡ follow (verdict cs) (verdict ys) → cond v (verdict (cs ++ ys)) (refusal c) ≡ follow (cond v (verdict cs) (refusal c)) (verdict ys)
    go true h = h
    go false h = refl

-- faults that are verdicts, and never accept
record Refusing {E : Type 0} (v : E → Verdict) : Type 0 where
  stays : (e : E) (w : Verdict) → follow (v e) w ≡ v e

module _ {E : Type 0} (v : E → Verdict) where
  abbrev judged : Passed E → Verdict
  judged (Ok x) = Accepted
  judged (Err e) = v e

  judged_then : Refusing v → (a b : Passed E) → judged (and_then a b) ≡ follow (judged a) (judged b)
  judged_then s (Ok x) b = refl
  judged_then s (Err e) b = sym (s.stays e (judged b))

  -- a check that fails with e
  judged_unless : (t : Bool) (e : E) (c n k : ℕ) → v e ≡ Refused c n k → judged (unless t e) ≡ verdict (check t c n k ∷ [])
  judged_unless true e c n k h = refl
  judged_unless false e c n k h = h

  -- each element's own checks, one after the other
  judged_first : Refusing v → {X : Type 0} (test : X → Passed E) (checks : X → List Check) → ((x : X) → judged (test x) ≡ verdict (checks x)) → (xs : List X) → judged (first test xs) ≡ verdict (flat_map checks xs)
  judged_first s test checks h [] = refl
  judged_first s test checks h (x ∷ xs) =
      judged_then s (test x) (first test xs)
      ∙ ap (λ a. follow a (judged (first test xs))) (h x)
      ∙ ap (follow (verdict (checks x))) (judged_first s test checks h xs)
      ∙ sym (verdict_append (checks x) (flat_map checks xs))

-- what passes or fails gives the verdict of some checks
record Gives {E : Type 0} (v : E → Verdict) (a : Passed E) (xs : List Check) : Type 0 where
  is : judged v a ≡ verdict xs

-- two parts, each with its checks
both : {E : Type 0} {v : E → Verdict} {a b : Passed E} {xs ys : List Check} → Refusing v → Gives v a xs → Gives v b ys → Gives v (and_then a b) (xs ++ ys)
both {E} {v} {a} {b} {xs} {ys} s p q = record { is = judged_then v s a b ∙ ap (λ x. follow x (judged v b)) p.is ∙ ap (follow (verdict xs)) q.is ∙ sym (verdict_append xs ys) }

one : {E : Type 0} (v : E → Verdict) (t : Bool) (e : E) (c n k : ℕ) → v e ≡ Refused c n k → Gives v (unless t e) (check t c n k ∷ [])
one v t e c n k h = record { is = judged_unless v t e c n k h }

judged_named : {E F : Type 0} (v : F → Verdict) (f : E → F) (r : Passed E) → judged v (named f r) ≡ judged (λ e. v (f e)) r
judged_named v f (Ok x) = refl
judged_named v f (Err e) = refl

-- ---- a record

cause_refuses : (n : ℕ) → Refusing (cause_verdict n)
cause_refuses n = record { stays = go }
  where
    go : (e : RecordCause) (w : Verdict) → follow (cause_verdict n e) w ≡ cause_verdict n e
    go SetIdUnknown w = refl
    go Letter w = refl
    go Length w = refl
    go (InField f) w = refl
    go (Companions k) w = refl
    go Product w = refl

module _ (holds : Holds) (n : ℕ) (r : Bytes) where
  field_listed : (f : Field) → judged (cause_verdict n) (named InField (field_layer holds r f)) ≡ verdict (field_checks holds n r f)
  field_listed f = go (is_missing f (cut f r)) refl (is_required f) refl (shape (kind_of f) (cut f r)) refl (holds (register_of f) (cut f r)) refl
    where
      go : (m : Bool) → is_missing f (cut f r) ≡ m → (q : Bool) → is_required f ≡ q → (s : Bool) → shape (kind_of f) (cut f r) ≡ s → (h : Bool) → holds (register_of f) (cut f r) ≡ h → judged (cause_verdict n) (named InField (field_layer holds r f)) ≡ verdict (field_checks holds n r f)
      go true a true b s c h d = simp (a, b)
      go true a false b s c h d = simp (a, b)
      go false a q b true c true d = simp (a, c, d)
      go false a q b true c false d = simp (a, c, d)
      go false a q b false c h d = simp (a, c)

  named_first : (fs : List Field) → judged (cause_verdict n) (named InField (first (field_layer holds r) fs)) ≡ judged (cause_verdict n) (first (λ f. named InField (field_layer holds r f)) fs)
  named_first [] = refl
  named_first (f ∷ fs) = go (field_layer holds r f) (named_first fs)
    where
      go : (a : _) → judged (cause_verdict n) (named InField (first (field_layer holds r) fs)) ≡ judged (cause_verdict n) (first (λ x. named InField (field_layer holds r x)) fs) → judged (cause_verdict n) (named InField (and_then a (first (field_layer holds r) fs))) ≡ judged (cause_verdict n) (and_then (named InField a) (first (λ x. named InField (field_layer holds r x)) fs))
      go (Ok x) h = h
      go (Err e) h = refl

  fields_listed : (fs : List Field) → judged (cause_verdict n) (named InField (first (field_layer holds r) fs)) ≡ verdict (flat_map (field_checks holds n r) fs)
  fields_listed fs = named_first fs ∙ judged_first (cause_verdict n) (cause_refuses n) (λ f. named InField (field_layer holds r f)) (field_checks holds n r) field_listed fs

  companions_listed : (cs : List Companion) → judged (cause_verdict n) (first (companion_layer r) cs) ≡ verdict (map (companion_check n r) cs)
  companions_listed cs =
      judged_first (cause_verdict n) (cause_refuses n) (companion_layer r) (λ c. companion_check n r c ∷ []) (λ c. judged_unless (cause_verdict n) (keeps_companion r c) (Companions (refused_start c)) 33 n (refused_start c) refl) cs
      ∙ ap verdict (flat_map_single (companion_check n r) cs)

  fields_give : (fs : List Field) → Gives (cause_verdict n) (named InField (first (field_layer holds r) fs)) (flat_map (field_checks holds n r) fs)
  fields_give fs = record { is = fields_listed fs }

  companions_give : (cs : List Companion) → Gives (cause_verdict n) (first (companion_layer r) cs) (map (companion_check n r) cs)
  companions_give cs = record { is = companions_listed cs }

  layout_gives : (l : Layout) → Gives (cause_verdict n) (layout_layer holds r l) (checks_under holds n r l)
  layout_gives l =
      both (cause_refuses n) (one (cause_verdict n) (eqb (length r) (width_of l)) Length 32 n 1 refl)
      (both (cause_refuses n) (fields_give (fields_of l))
      (both (cause_refuses n) (companions_give (companions_of l))
      (one (cause_verdict n) (product_passes l r) Product 34 n 30 refl)))

  layout_listed : (l : Layout) → judged (cause_verdict n) (layout_layer holds r l) ≡ verdict (checks_under holds n r l)
  layout_listed l = (layout_gives l).is

  pub layout_accepts : (l : Layout) → layout_layer holds r l ≡ Ok tt → verdict (checks_under holds n r l) ≡ Accepted
  layout_accepts l p = sym (layout_listed l) ∙ ap (judged (cause_verdict n)) p

  pub layout_refuses : (l : Layout) (e : RecordCause) → layout_layer holds r l ≡ Err e → verdict (checks_under holds n r l) ≡ cause_verdict n e
  layout_refuses l e p = sym (layout_listed l) ∙ ap (judged (cause_verdict n)) p

  any_listed : (l : Option Layout) → judged (cause_verdict n) (any_layer holds r l) ≡ verdict (check (is_some l) 31 n 1 ∷ checks_under_any holds n r l)
  any_listed None = refl
  any_listed (Some l) = layout_listed l

-- ---- the whole

abbrev record_verdict : RecordFault → Verdict
record_verdict f = cause_verdict f.number f.cause

record_refuses : Refusing record_verdict
record_refuses = record { stays = λ f w. (cause_refuses f.number).stays f.cause w }

fault_refuses : Refusing fault_verdict
fault_refuses = record { stays = go }
  where
    go : (e : TransactionFault) (w : Verdict) → follow (fault_verdict e) w ≡ fault_verdict e
    go (Record f) w = record_refuses.stays f w
    go DetailCount w = refl
    go (EntrySet n) w = refl
    go Total w = refl

record_listed : (holds : Holds) (set : SetId) (n : ℕ) (r : Bytes) → judged record_verdict (record_layer holds set n r) ≡ verdict (record_checks holds set n r)
record_listed holds set n r = judged_named record_verdict (at n) (any_layer holds r (layout_at set n r)) ∙ any_listed holds n r (layout_at set n r)

record_gives : (holds : Holds) (set : SetId) (n : ℕ) (r : Bytes) → Gives record_verdict (record_layer holds set n r) (record_checks holds set n r)
record_gives holds set n r = record { is = record_listed holds set n r }

records_gives : (holds : Holds) (set : SetId) (n : ℕ) (rs : List Bytes) → Gives record_verdict (records_layer holds set n rs) (records_checks holds set n rs)
records_gives holds set n [] = record { is = refl }
records_gives holds set n (r ∷ rs) = both record_refuses (record_gives holds set n r) (records_gives holds set (suc n) rs)

sets_listed : (set : SetId) (ds : List DetailRead) → judged fault_verdict (first (entry_set_layer set) ds) ≡ verdict (map (entry_set_check set) ds)
sets_listed set ds =
    judged_first fault_verdict fault_refuses (entry_set_layer set) (λ d. entry_set_check set d ∷ []) (λ d. judged_unless fault_verdict (has_good_set set d) (EntrySet d.number) 42 d.number 1 refl) ds
    ∙ ap verdict (flat_map_single (entry_set_check set) ds)

sets_give : (set : SetId) (ds : List DetailRead) → Gives fault_verdict (first (entry_set_layer set) ds) (map (entry_set_check set) ds)
sets_give set ds = record { is = sets_listed set ds }

-- a record's fault, as the transaction's
upper : {a : Passed RecordFault} {xs : List Check} → Gives record_verdict a xs → Gives fault_verdict (named Record a) xs
upper {a} p = record { is = judged_named fault_verdict Record a ∙ p.is }

header_gives : (holds : Holds) (h : Bytes) (l : Layout) → Gives record_verdict (named (at 0) (layout_layer holds h l)) (checks_under holds 0 h l)
header_gives holds h l = record { is = judged_named record_verdict (at 0) (layout_layer holds h l) ∙ layout_listed holds 0 h l }

set_gives : (holds : Holds) (set : SetId) (h : Bytes) (rs : List Bytes) → Gives fault_verdict (set_layer holds set h rs) (checks_of_set holds h rs (Some set))
set_gives holds set h rs =
    both fault_refuses (upper (header_gives holds h (header_of set)))
    (both fault_refuses (upper (records_gives holds set 1 rs))
    (both fault_refuses (one fault_verdict (detail_count set (many is_detail rs)) DetailCount 41 0 1 refl)
    (both fault_refuses (sets_give set (details_of rs))
    (one fault_verdict (total_passes set h (details_of rs)) Total 43 0 10 refl))))

known_listed : (holds : Holds) (h : Bytes) (rs : List Bytes) (s : Option SetId) → judged fault_verdict (known_layer holds h rs s) ≡ verdict (check (is_some s) 30 0 37 ∷ checks_of_set holds h rs s)
known_listed holds h rs None = refl
known_listed holds h rs (Some set) = (set_gives holds set h rs).is

pub own_listed : (holds : Holds) (rs : List Bytes) → outcome (own_layer holds rs) ≡ verdict (own_checks holds rs)
own_listed holds rs = same (own_layer holds rs) ∙ known_listed holds (first_of rs) (others_of rs) (set_id_in (first_of rs))
  where
    same : (a : Passed TransactionFault) → outcome a ≡ judged fault_verdict a
    same (Ok x) = refl
    same (Err e) = refl
