-- No action is refused for an accepted transaction: its entry, its lines one by one, its amount.
use Rattle.std.proofs.Common.{◌≡◌, ℕ, suc, ◌+◌, ◌-◌, ◌≤◌, Bool, true, false, cond, not, eqb, List, [], ◌∷◌, length, drop, is_some, Some, None, Ok, Option, sym, refl, ap, ◌∙◌, ap₂, arith}
use Rattle.std.proofs.lemmas.List.{length-drop}
use Rattle.std.proofs.lemmas.Bool.{ne_eqb, le-leb, and_parts, true≢false}
use Rattle.octets.specs.Classes.{Bytes}
use Rattle.layout.specs.declared.pair.Pair.{Pair}
use Rattle.layout.specs.declared.set_id.SetId.{SetId}
use Rattle.file.specs.declared.opening.Opening.{Opening}
use Rattle.file.specs.Openings.{opening}
use Rattle.file.specs.Records.{records, transactions_of}
use Rattle.file.proofs.Tallies.{records_few}
use Rattle.book.specs.Lists.{find}
use Rattle.book.specs.Meaning.{BookMeaning, EntryHeld, LineHeld, same_pair, under_mark, mark_under, mark_at, free_marks, fresh, line_under, entry_at, line_at, free_entries, free_lines, line_first}
use Rattle.book.specs.Actions.{enter, enter_line, take_open, entry_answer, line_answer, take_answer, mark_answer, set_mark, unless_refused, entering, entering_line}
use Rattle.transaction.specs.declared.header.Transaction.{Transaction}
use Rattle.transaction.specs.declared.verdict.Verdict.{Verdict}
use Rattle.transaction.specs.Details.{DetailRead}
use Rattle.transaction.specs.Headers.{set_id_of, total_of, own_pair}
use Rattle.promises.specs.Own.{lines_of, no_lines}
use Rattle.promises.specs.Entering.{entry_of, line_of, enter_lines, enter_own, taken_from, take_at, after}
use Rattle.promises.specs.Packets.{is_accepted, accepted_count, rejected_count}
use Rattle.promises.specs.Calls.{posted, counts_of, post_book_at}
use Rattle.promises.specs.Acting.{entering_lines, entering_own, taking_at, ActionsDo, MarkIsSet}
use Rattle.promises.proofs.Tables.{same_pair_self, same_pair_is, length_place}
use Rattle.promises.proofs.Effect.{line_placed, entry_placed, own_is}
use Rattle.promises.proofs.Frame.{after_used}
use Rattle.promises.proofs.Posts.{gate_opens, gate_free}
use Rattle.promises.proofs.ReadsBack.{short_opening, transactions_few, accepted_few}
use Rattle.promises.proofs.Replaces.{length_verdicts}
use Rattle.promises.proofs.Passing.{own_vacant, taken_open, Vacant, Open, some_not}

-- lines from number n on are not held, whatever stands below n
no_lines_above : (ds : List DetailRead) (n : ℕ) (f g : ℕ → Option LineHeld) → ((k : ℕ) → n ≤ k → g k ≡ f k) → no_lines n ds f ≡ true → no_lines n ds g ≡ true
no_lines_above [] n f g alike h = refl
no_lines_above (d ∷ ds) n f g alike h =
    let p = and_parts (not (is_some (f n))) (no_lines (suc n) ds f) h in
    let a : not (is_some (g n)) ≡ true = ap (λ x. not (is_some x)) (alike n (omega arith)) ∙ p.0 in
    let r = no_lines_above ds (suc n) f g (λ k l. alike k (omega arith)) p.1 in simp (a, r)

record Ready (b : BookMeaning) (p : Pair) (n : ℕ) (ds : List DetailRead) : Type 0 where
  vacant : no_lines n ds (λ k. line_at b p k) ≡ true
  places : length ds ≤ free_lines b

is_vacant : {X : Type 0} (x : Option X) → not (is_some x) ≡ true → is_some x ≡ false
is_vacant None h = refl
is_vacant (Some x) h = absurd (true≢false (sym h))

ready_first : (b : BookMeaning) (p : Pair) (set : SetId) (n : ℕ) (d : DetailRead) (ds : List DetailRead) → Ready b p n (d ∷ ds) → entering_line b (line_under p n (line_of set d)) ≡ enter_line (line_under p n (line_of set d)) b
ready_first b p set n d ds r =
    let h = and_parts (not (is_some (line_at b p n))) (no_lines (suc n) ds (λ k. line_at b p k)) r.vacant in
    let v = is_vacant (line_at b p n) h.0 in
    let l = r.places in let z = ne_eqb (free_lines b) 0 (λ e. omega arith) in
    let ok : line_answer b (line_under p n (line_of set d)) ≡ Ok tt = simp (v, z) in
    ap (λ a. unless_refused a (enter_line (line_under p n (line_of set d)) b) b) ok

ready_next : (b : BookMeaning) (p : Pair) (set : SetId) (n : ℕ) (d : DetailRead) (ds : List DetailRead) → Ready b p n (d ∷ ds) → Ready (enter_line (line_under p n (line_of set d)) b) p (suc n) ds
ready_next b p set n d ds r = record {
  vacant = no_lines_above ds (suc n) (λ k. line_at b p k) (λ k. line_at (enter_line (line_under p n (line_of set d)) b) p k) other (and_parts (not (is_some (line_at b p n))) (no_lines (suc n) ds (λ k. line_at b p k)) r.vacant).1;
  places = let l = r.places in let m = length_place line_first (line_under p n (line_of set d)) b.lines in omega arith;
}
  where
    other : (k : ℕ) → suc n ≤ k → line_at (enter_line (line_under p n (line_of set d)) b) p k ≡ line_at b p k
    other k l = let e = ne_eqb n k (λ z. omega arith) in line_placed (line_under p n (line_of set d)) p k b.lines ∙ simp (same_pair_self p, e)

lines_enter : (p : Pair) (set : SetId) (ds : List DetailRead) (n : ℕ) (b : BookMeaning) → Ready b p n ds → entering_lines p set n ds b ≡ enter_lines p set n ds b
lines_enter p set [] n b r = refl
lines_enter p set (d ∷ ds) n b r =
    ap (entering_lines p set (suc n) ds) (ready_first b p set n d ds r)
    ∙ lines_enter p set ds (suc n) (enter_line (line_under p n (line_of set d)) b) (ready_next b p set n d ds r)

own_enters : (b : BookMeaning) (day : ℕ) (t : Transaction) (ds : List DetailRead) (o : Option Pair) → ((p : Pair) → o ≡ Some p → Vacant b t ds p) → entering_own day t ds o b ≡ enter_own day t ds o b
own_enters b day t ds None vacant = refl
own_enters b day t ds (Some p) vacant =
    let v = vacant p refl in
    let e = v.entry in let f = v.entry_place in let z = ne_eqb (free_entries b) 0 (λ x. omega arith) in
    let ok : entry_answer b (fresh p (entry_of day t)) ≡ Ok tt = simp (e, z) in
    let one : entering b (fresh p (entry_of day t)) ≡ enter (fresh p (entry_of day t)) b = ap (λ a. unless_refused a (enter (fresh p (entry_of day t)) b) b) ok in
    ap (entering_lines p (set_id_of t) 1 (lines_of t ds)) one
    ∙ lines_enter p (set_id_of t) (lines_of t ds) 1 (enter (fresh p (entry_of day t)) b) (record { vacant = v.lines; places = v.line_places })

-- the original is another pair than the own one, so that it stands as before
still_open : (b : BookMeaning) (day : ℕ) (t : Transaction) (ds : List DetailRead) (w : Option Pair) (o : Pair) (e : EntryHeld) → ((p : Pair) → w ≡ Some p → Vacant b t ds p) → entry_at b o ≡ Some e → entry_at (enter_own day t ds w b) o ≡ Some e
still_open b day t ds None o e vacant stands = stands
still_open b day t ds (Some p) o e vacant stands =
    ap (λ c. entry_at c o) (own_is day t ds (Some p) b) ∙ entry_placed (fresh p (entry_of day t)) o b.entries ∙ go (same_pair p o) refl
  where
    go : (v : Bool) → same_pair p o ≡ v → cond v (Some (fresh p (entry_of day t))) (entry_at b o) ≡ Some e
    go true s = absurd (some_not e (sym (vacant p refl).entry ∙ ap (entry_at b) (same_pair_is p o s) ∙ stands))
    go false s = stands

taken_goes : (b c : BookMeaning) (n : ℕ) (w : Option Pair) → ((o : Pair) → w ≡ Some o → Open c n o) → taking_at n w c ≡ take_at n w c
taken_goes b c n None opens = refl
taken_goes b c n (Some o) opens =
    let r = opens o refl in
    let l = le-leb n r.entry.open_amount r.enough in let s = r.stands in
    let ok : take_answer c o n ≡ Ok tt = simp (s, l) in
    ap (λ a. unless_refused a (take_open o n c) c) ok

pub actions_do : ActionsDo
actions_do b day t ds ok =
    let own = own_enters b day t ds (own_pair t) (own_vacant b day t ds ok) in
    ap (taking_at (total_of t) (taken_from t)) own
    ∙ taken_goes b (enter_own day t ds (own_pair t) b) (total_of t) (taken_from t)
    (λ o e. let r = taken_open b day t ds ok o e in
    record { entry = r.entry; stands = still_open b day t ds (own_pair t) o r.entry (own_vacant b day t ds ok) r.stands; enough = r.enough })

-- ---- the mark

rejected_few : (vs : List Verdict) → rejected_count vs ≤ length vs
rejected_few [] = omega arith
rejected_few (v ∷ vs) = go (is_accepted v) (rejected_few vs)
  where
    go : (t : Bool) → rejected_count vs ≤ length vs → cond t 0 1 + rejected_count vs ≤ suc (length vs)
    go true h = omega arith
    go false h = omega arith

-- a file that opens is short, and so has few transactions
pub transactions_short : (file : Bytes) (o : Opening) → opening file ≡ Ok o → length (transactions_of file) ≤ 16777216
transactions_short file o opens =
    let short = (short_opening file o opens).0 in
    let f = records_few file in let d = length-drop 2 (records file) in let t = transactions_few (drop 2 (records file)) in
    omega arith

pub mark_is_set : MarkIsSet
mark_is_set holds b x o ok =
    let ts = transactions_of x.file in
    let c = after holds b x.day ts in
    let vs = posted holds b x in
    let m = mark_under o.id (counts_of vs) in
    let used = after_used holds x.day ts b in
    let free = gate_free b x o ok in
    let held : is_some (mark_at c o.id) ≡ false = ap (λ ms. is_some (find (under_mark o.id) ms)) used.marks ∙ free.0 in
    let place : eqb (free_marks c) 0 ≡ false = ap₂ (λ n ms. eqb (n - length ms) 0) used.mark_places used.marks ∙ free.1 in
    let t = transactions_short x.file o (gate_opens b x o ok) in
    let n = length_verdicts holds x.day ts b in
    let a = accepted_few vs in let r = rejected_few vs in
    let la = le-leb (accepted_count vs) 16777216 (omega arith) in let lr = le-leb (rejected_count vs) 16777216 (omega arith) in
    let answer : mark_answer c m ≡ Ok tt = simp (held, place, la, lr) in
    ap (λ w. unless_refused w (set_mark m c) c) answer ∙ sym (ap (post_book_at holds b x) ok)
