-- A transaction asks and changes the book at its own pairs, and no more than its places.
use Rattle.std.proofs.Common.{◌≡◌, ℕ, suc, ◌+◌, ◌≤◌, Bool, true, false, cond, List, [], ◌∷◌, ◌++◌, length, Some, None, All, Option, sym, refl, ap, ◌∙◌, subst, ap₂, arith}
use Rattle.std.proofs.lemmas.List.Elements.{All-nil, All-head, All-tail, All-cons}
use Rattle.std.proofs.lemmas.Bool.{le-leb}
use Rattle.octets.specs.Classes.{Bytes}
use Rattle.layout.specs.declared.pair.Pair.{Pair}
use Rattle.layout.specs.declared.set_id.SetId.{SetId}
use Rattle.layout.specs.declared.set_id.SetId.TheVariants.{Payment, Collection, ReceiverAdjustment, SenderAdjustment, ZeroDollar, PostSgl}
use Rattle.file.specs.Records.{first_of, others_of, is_detail, many}
use Rattle.book.specs.Lists.{place}
use Rattle.book.specs.Meaning.{BookMeaning, LineHeld, same_pair, under, entry_first, line_first, fresh, line_under, free_entries, free_lines}
use Rattle.book.specs.Actions.{less}
use Rattle.transaction.specs.declared.header.Transaction.{Transaction}
use Rattle.transaction.specs.declared.verdict.Verdict.{Verdict}
use Rattle.transaction.specs.declared.verdict.Verdict.TheVariants.{Accepted, Refused}
use Rattle.transaction.specs.Checks.{Holds, own_checks, own_verdict}
use Rattle.transaction.specs.Details.{DetailRead, read_as, entry_set, until_detail, details_from, details_of, sum_of}
use Rattle.transaction.specs.Headers.{set_id_of, total_of, own_pair, original_pair}
use Rattle.transaction.specs.Sounds.{reading_in}
use Rattle.transaction.specs.Verdicts.{Check, check, verdict}
use Rattle.promises.specs.Held.{Held, at, checks_at}
use Rattle.promises.specs.Against.{adjusts, original_checks}
use Rattle.promises.specs.Own.{lines_under, lines_of, own_pair_checks, place_checks}
use Rattle.promises.specs.Judging.{book_checks, book_checks_any, judge}
use Rattle.promises.specs.Entering.{entry_of, line_of, taken_from, take_at, apply, apply_if, entered, verdicts, after}
use Rattle.promises.specs.Related.{listed, pairs_in}
use Rattle.promises.proofs.Tables.{length_place, length_change}
use Rattle.promises.proofs.Effect.{lines_put, put_own, apply_is, own_effect, take_effect, effect, at_apply}
use Rattle.promises.proofs.Judged.{then, verdict_append, Sound, sound_own, sound}

-- parts of All over an append
pub all_left : {X : Type 0} (P : X → Type 0) (xs ys : List X) → All P (xs ++ ys) → All P xs
all_left P [] ys h = All-nil P
all_left P (x ∷ xs) ys h = All-cons P x xs (All-head P x (xs ++ ys) h) (all_left P xs ys (All-tail P x (xs ++ ys) h))

pub all_right : {X : Type 0} (P : X → Type 0) (xs ys : List X) → All P (xs ++ ys) → All P ys
all_right P [] ys h = h
all_right P (x ∷ xs) ys h = all_right P xs ys (All-tail P x (xs ++ ys) h)

-- outside its pairs an accepted transaction changes nothing
own_outside : (day : ℕ) (t : Transaction) (ds : List DetailRead) (o : Option Pair) (q : Pair) (h : Held) → All (λ p. same_pair p q ≡ false) (listed o) → own_effect day t ds o q h ≡ h
unfolding own_effect
own_outside day t ds None q h apart = refl
own_outside day t ds (Some p) q h apart = simp (All-head (λ p. same_pair p q ≡ false) p [] apart)

take_outside : (n : ℕ) (o : Option Pair) (q : Pair) (h : Held) → All (λ p. same_pair p q ≡ false) (listed o) → take_effect n o q h ≡ h
unfolding take_effect
take_outside n None q h apart = refl
take_outside n (Some o) q h apart = simp (All-head (λ p. same_pair p q ≡ false) o [] apart)

pub taken_among : (P : Pair → Type 0) (t : Transaction) → All P (listed (original_pair t)) → All P (listed (taken_from t))
taken_among P t h = go (adjusts (set_id_of t))
  where
    go : (v : Bool) → All P (listed (cond v (original_pair t) None))
    go true = h
    go false = All-nil P

apply_outside : (b : BookMeaning) (day : ℕ) (t : Transaction) (ds : List DetailRead) (q : Pair) → All (λ p. same_pair p q ≡ false) (listed (own_pair t) ++ listed (original_pair t)) → at (apply day t ds b) q ≡ at b q
unfolding effect
apply_outside b day t ds q apart =
    let P : Pair → Type 0 = λ p. same_pair p q ≡ false in
    let mine = all_left P (listed (own_pair t)) (listed (original_pair t)) apart in
    let other = taken_among P t (all_right P (listed (own_pair t)) (listed (original_pair t)) apart) in
    at_apply b day t ds q ∙ take_outside (total_of t) (taken_from t) q (own_effect day t ds (own_pair t) q (at b q)) other ∙ own_outside day t ds (own_pair t) q (at b q) mine

-- a transaction that is refused does nothing; one that is accepted has a reading, which is applied
pub data Done (holds : Holds) (b : BookMeaning) (day : ℕ) (rs : List Bytes) : Type 0 where
  nothing : (c r k : ℕ) → judge holds b day rs ≡ Refused c r k → entered holds b day rs ≡ b → Done holds b day rs
  applied : (s : Sound holds rs) → judge holds b day rs ≡ Accepted → entered holds b day rs ≡ apply day s.what (details_of (others_of rs)) b → Done holds b day rs

pub done : (holds : Holds) (b : BookMeaning) (day : ℕ) (rs : List Bytes) → Done holds b day rs
done holds b day rs = go (judge holds b day rs) refl
  where
    go : (v : Verdict) → judge holds b day rs ≡ v → Done holds b day rs
    go (Refused c r k) e = nothing c r k e (ap (λ v. apply_if v day (reading_in (first_of rs)) (details_of (others_of rs)) b) e)
    go Accepted e =
        let s = sound holds b day rs e in
        applied s e (ap₂ (λ v o. apply_if v day o (details_of (others_of rs)) b) e s.reads)

pub entered_outside : (holds : Holds) (b : BookMeaning) (day : ℕ) (rs : List Bytes) (q : Pair) → All (λ p. same_pair p q ≡ false) (pairs_in holds rs) → at (entered holds b day rs) q ≡ at b q
entered_outside holds b day rs q apart = go (done holds b day rs)
  where
    go : Done holds b day rs → at (entered holds b day rs) q ≡ at b q
    go (nothing c r k v e) = ap (λ x. at x q) e
    go (applied s v e) = ap (λ x. at x q) e ∙ apply_outside b day s.what (details_of (others_of rs)) q (subst (All (λ p. same_pair p q ≡ false)) s.pairs apart)

-- the pairs of a list of transactions are all in P
abbrev pub Within : Holds → (Pair → Type 0) → List (List Bytes) → Type 0
Within holds P ts = All (λ t. All P (pairs_in holds t)) ts

pub after_outside : (holds : Holds) (day : ℕ) (q : Pair) (ts : List (List Bytes)) (b : BookMeaning) → Within holds (λ p. same_pair p q ≡ false) ts → at (after holds b day ts) q ≡ at b q
after_outside holds day q [] b apart = refl
after_outside holds day q (t ∷ ts) b apart = after_outside holds day q ts (entered holds b day t) (All-tail (λ t. All (λ p. same_pair p q ≡ false) (pairs_in holds t)) t ts apart)
    ∙ entered_outside holds b day t q (All-head (λ t. All (λ p. same_pair p q ≡ false) (pairs_in holds t)) t ts apart)

-- ---- places

-- what is used, and what stays
pub record Used (b c : BookMeaning) (e l : ℕ) : Type 0 where
  pub entry_places : c.entry_places ≡ b.entry_places
  pub line_places : c.line_places ≡ b.line_places
  pub mark_places : c.mark_places ≡ b.mark_places
  pub marks : c.marks ≡ b.marks
  pub entries_used : length c.entries ≤ length b.entries + e
  pub lines_used : length c.lines ≤ length b.lines + l

unused : (b : BookMeaning) (e l : ℕ) → Used b b e l
unused b e l = record { entry_places = refl; line_places = refl; mark_places = refl; marks = refl; entries_used = omega arith; lines_used = omega arith }

length_lines_put : (p : Pair) (set : SetId) (ds : List DetailRead) (k : ℕ) (ls : List LineHeld) → length (lines_put p set k ds ls) ≡ length ls + length ds
length_lines_put p set [] k ls = omega arith
length_lines_put p set (d ∷ ds) k ls =
    let a = length_lines_put p set ds (suc k) (place line_first (line_under p k (line_of set d)) ls) in
    let c = length_place line_first (line_under p k (line_of set d)) ls in omega arith

few : (set : SetId) (ds : List DetailRead) → length (lines_under set ds) ≤ length ds
few Payment ds = omega arith
few Collection ds = omega arith
few ReceiverAdjustment ds = omega arith
few SenderAdjustment ds = omega arith
few ZeroDollar ds = omega arith
few PostSgl ds = omega arith

-- the details are the D records
details_many : (n : ℕ) (rs : List Bytes) → length (details_from n rs) ≡ many is_detail rs
details_many n [] = refl
details_many n (r ∷ rs) = go (is_detail r) (details_many (suc n) rs)
  where
    go : (v : Bool) → length (details_from (suc n) rs) ≡ many is_detail rs
        → length (cond v (read_as n r (entry_set (until_detail rs)) ∷ details_from (suc n) rs) (details_from (suc n) rs)) ≡ cond v 1 0 + many is_detail rs
    go true h = omega arith
    go false h = omega arith

others_few : (rs : List Bytes) → many is_detail (others_of rs) ≤ many is_detail rs
others_few [] = omega arith
others_few (r ∷ rs) = omega arith

pub lines_few : (t : Transaction) (rs : List Bytes) → length (lines_of t (details_of (others_of rs))) ≤ many is_detail rs
lines_few t rs =
    let a = few (set_id_of t) (details_of (others_of rs)) in let b = details_many 1 (others_of rs) in let c = others_few rs in omega arith

own_used : (day : ℕ) (t : Transaction) (ds : List DetailRead) (n : ℕ) (o : Option Pair) (b : BookMeaning) → length (lines_of t ds) ≤ n → Used b (put_own day t ds o b) 1 n
own_used day t ds n None b h = unused b 1 n
own_used day t ds n (Some p) b h =
    let a = length_lines_put p (set_id_of t) (lines_of t ds) 1 b.lines in let c = length_place entry_first (fresh p (entry_of day t)) b.entries in
    record { entry_places = refl; line_places = refl; mark_places = refl; marks = refl; entries_used = omega arith; lines_used = omega arith }

take_used : (n : ℕ) (o : Option Pair) (b c : BookMeaning) (e l : ℕ) → Used b c e l → Used b (take_at n o c) e l
take_used n None b c e l h = h
take_used n (Some o) b c e l h =
    let k = length_change (under o) (less n) c.entries in let u = h.entries_used in
    record { entry_places = h.entry_places; line_places = h.line_places; mark_places = h.mark_places; marks = h.marks; entries_used = omega arith; lines_used = h.lines_used }

pub entered_used : (holds : Holds) (b : BookMeaning) (day : ℕ) (rs : List Bytes) → Used b (entered holds b day rs) 1 (many is_detail rs)
entered_used holds b day rs = go (done holds b day rs)
  where
    go : Done holds b day rs → Used b (entered holds b day rs) 1 (many is_detail rs)
    go (nothing c r k v e) = subst (λ x. Used b x 1 (many is_detail rs)) (sym e) (unused b 1 (many is_detail rs))
    go (applied s v e) =
        let t = s.what in let ds = details_of (others_of rs) in
        subst (λ x. Used b x 1 (many is_detail rs)) (sym (e ∙ apply_is day t ds b))
        (take_used (total_of t) (taken_from t) b (put_own day t ds (own_pair t) b) 1 (many is_detail rs) (own_used day t ds (many is_detail rs) (own_pair t) b (lines_few t rs)))

pub after_used : (holds : Holds) (day : ℕ) (ts : List (List Bytes)) (b : BookMeaning) → Used b (after holds b day ts) (length ts) (sum_of (many is_detail) ts)
after_used holds day [] b = unused b 0 0
after_used holds day (t ∷ ts) b =
    let h = entered_used holds b day t in let k = after_used holds day ts (entered holds b day t) in
    let x = h.entries_used in let y = h.lines_used in let z = k.entries_used in let w = k.lines_used in
    record { entry_places = k.entry_places ∙ h.entry_places; line_places = k.line_places ∙ h.line_places; mark_places = k.mark_places ∙ h.mark_places; marks = k.marks ∙ h.marks; entries_used = omega arith; lines_used = omega arith }

-- places enough for some transactions
pub record Room (b : BookMeaning) (ts : List (List Bytes)) : Type 0 where
  pub entries : length ts ≤ free_entries b
  pub lines : sum_of (many is_detail) ts ≤ free_lines b

abbrev places_pass : Option Pair → List Check
places_pass None = []
places_pass (Some p) = check true 67 0 1 ∷ []

places_enough : (b : BookMeaning) (t : Transaction) (rs : List Bytes) (o : Option Pair) → 1 ≤ free_entries b → many is_detail rs ≤ free_lines b → place_checks b t (details_of (others_of rs)) o ≡ places_pass o
places_enough b t rs None e l = refl
places_enough b t rs (Some p) e l =
    let k = lines_few t rs in
    let x = le-leb 1 (free_entries b) e in let y = le-leb (length (lines_of t (details_of (others_of rs)))) (free_lines b) (omega arith) in simp (x, y)

-- with places enough, and the same held at its pairs, a transaction gets the same verdict and does the same
module _ (holds : Holds) (P : Pair → Type 0) (day : ℕ) where
  abbrev pub Alike : BookMeaning → BookMeaning → Type 0
  Alike b c = (q : Pair) → P q → at b q ≡ at c q

  checks_alike : (b c : BookMeaning) (o : Option Pair) (f : Held → List Check) → Alike b c → All P (listed o) → checks_at b o f ≡ checks_at c o f
  checks_alike b c None f alike h = refl
  checks_alike b c (Some o) f alike h = ap f (alike o (All-head P o [] h))

  sound_alike : (b c : BookMeaning) (rs : List Bytes) (s : Sound holds rs) → Alike b c → All P (pairs_in holds rs) →
      1 ≤ free_entries b → many is_detail rs ≤ free_lines b → 1 ≤ free_entries c → many is_detail rs ≤ free_lines c →
      book_checks_any b day (reading_in (first_of rs)) (details_of (others_of rs)) ≡ book_checks_any c day (reading_in (first_of rs)) (details_of (others_of rs))
  sound_alike b c rs s alike h be bl ce cl =
      let t = s.what in let ds = details_of (others_of rs) in
      let ps = subst (All P) s.pairs h in
      let o = checks_alike b c (original_pair t) (original_checks day t ds) alike (all_right P (listed (own_pair t)) (listed (original_pair t)) ps) in
      let w = checks_alike b c (own_pair t) (own_pair_checks t ds) alike (all_left P (listed (own_pair t)) (listed (original_pair t)) ps) in
      let u = places_enough b t rs (own_pair t) be bl ∙ sym (places_enough c t rs (own_pair t) ce cl) in
      let all : book_checks b day t ds ≡ book_checks c day t ds = ap₂ (λ x y. x ++ y) o (ap₂ (λ x y. x ++ y) w u) in
      let was : book_checks_any b day (reading_in (first_of rs)) ds ≡ book_checks b day t ds = ap (λ r. book_checks_any b day r ds) s.reads in
      let is : book_checks_any c day (reading_in (first_of rs)) ds ≡ book_checks c day t ds = ap (λ r. book_checks_any c day r ds) s.reads in
      was ∙ all ∙ sym is

  pub judge_alike : (b c : BookMeaning) (rs : List Bytes) (ts us : List (List Bytes)) → Alike b c → All P (pairs_in holds rs) → Room b (rs ∷ ts) → Room c (rs ∷ us) → judge holds b day rs ≡ judge holds c day rs
  judge_alike b c rs ts us alike h x y = split b ∙ go (own_verdict holds rs) refl ∙ sym (split c)
    where
      split : (x : BookMeaning) → judge holds x day rs ≡ then (own_verdict holds rs) (verdict (book_checks_any x day (reading_in (first_of rs)) (details_of (others_of rs))))
      split x = verdict_append (own_checks holds rs) (book_checks_any x day (reading_in (first_of rs)) (details_of (others_of rs)))

      go : (v : Verdict) → own_verdict holds rs ≡ v →
          then (own_verdict holds rs) (verdict (book_checks_any b day (reading_in (first_of rs)) (details_of (others_of rs)))) ≡ then (own_verdict holds rs) (verdict (book_checks_any c day (reading_in (first_of rs)) (details_of (others_of rs))))
      go (Refused d r k) e = ap (λ v. then v (verdict (book_checks_any b day (reading_in (first_of rs)) (details_of (others_of rs))))) e ∙ sym (ap (λ v. then v (verdict (book_checks_any c day (reading_in (first_of rs)) (details_of (others_of rs))))) e)
      go Accepted e =
          let xe = x.entries in let xl = x.lines in let ye = y.entries in let yl = y.lines in
          ap (λ cs. then (own_verdict holds rs) (verdict cs)) (sound_alike b c rs (sound_own holds rs e) alike h (omega arith) (omega arith) (omega arith) (omega arith))

  pub entered_alike : (b c : BookMeaning) (rs : List Bytes) → Alike b c → judge holds b day rs ≡ judge holds c day rs → Alike (entered holds b day rs) (entered holds c day rs)
  entered_alike b c rs alike e q h =
      let o = reading_in (first_of rs) in let ds = details_of (others_of rs) in
      ap (λ v. at (apply_if v day o ds b) q) e ∙ go (judge holds c day rs) (reading_in (first_of rs))
    where
      go : (v : Verdict) (o : Option Transaction) → at (apply_if v day o (details_of (others_of rs)) b) q ≡ at (apply_if v day o (details_of (others_of rs)) c) q
      go (Refused x y z) o = alike q h
      go Accepted None = alike q h
      go Accepted (Some t) = at_apply b day t (details_of (others_of rs)) q ∙ ap (effect day t (details_of (others_of rs)) q) (alike q h) ∙ sym (at_apply c day t (details_of (others_of rs)) q)

  pub room_next : (b : BookMeaning) (t : List Bytes) (ts : List (List Bytes)) → Room b (t ∷ ts) → Room (entered holds b day t) ts
  room_next b t ts h =
      let k = entered_used holds b day t in let ke = k.entries_used in let kl = k.lines_used in let kp = k.entry_places in let kq = k.line_places in
      let he = h.entries in let hl = h.lines in record { entries = omega arith; lines = omega arith }

  pub verdicts_alike : (ts : List (List Bytes)) (b c : BookMeaning) → Alike b c → Within holds P ts → Room b ts → Room c ts → verdicts holds b day ts ≡ verdicts holds c day ts
  verdicts_alike [] b c alike h x y = refl
  verdicts_alike (t ∷ ts) b c alike h x y =
      let e = judge_alike b c t ts ts alike (All-head (λ t. All P (pairs_in holds t)) t ts h) x y in
      ap₂ (λ v vs. v ∷ vs) e (verdicts_alike ts (entered holds b day t) (entered holds c day t) (entered_alike b c t alike e) (All-tail (λ t. All P (pairs_in holds t)) t ts h) (room_next b t ts x) (room_next c t ts y))
