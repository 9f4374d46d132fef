-- What follows in an agency's own words.
use Rattle.std.proofs.Common.{◌≡◌, ℕ, ◌≤◌, Bool, true, false, cond, eqb, List, [], ◌∷◌, is_some, Some, None, Ok, Err, All, Contains, filter, Option, Result, sym, refl, ap, ◌∙◌, subst, ap₂, arith}
use Rattle.std.specs.Option.{option_map}
use Rattle.std.specs.Str.{bytes_eq}
use Rattle.std.proofs.lemmas.List.Elements.{All-contains, All-weaker, Contains-append_right, All-nil, All-cons}
use Rattle.std.proofs.lemmas.Bool.{both_ways}
use Rattle.octets.specs.Classes.{Bytes}
use Rattle.layout.specs.declared.pair.Pair.{Pair}
use Rattle.file.specs.declared.opening.Opening.{Opening}
use Rattle.file.specs.Openings.{opening}
use Rattle.file.specs.Records.{others_of, transactions_of}
use Rattle.book.specs.Lists.{before, find, place}
use Rattle.book.specs.Meaning.{BookMeaning, EntryHeld, MarkHeld, under_mark, mark_first, entry_at, mark_at, free_marks, mark_under, empty_book}
use Rattle.book.specs.Told.{EntryTold, entry_told}
use Rattle.transaction.specs.declared.header.Transaction.{Transaction}
use Rattle.transaction.specs.Checks.{Holds}
use Rattle.transaction.specs.Details.{details_of}
use Rattle.transaction.specs.Headers.{total_of, own_pair}
use Rattle.promises.specs.Judging.{judge}
use Rattle.promises.specs.Entering.{entered, verdicts, after}
use Rattle.promises.specs.Calls.{Handed, too_small, post_opened, post_gate, posted, answer_with, counts_of, post_answer, post_book_at, post_book, Call, checking, posting, showing, seeking, counting, called, run, show_answer}
use Rattle.promises.specs.Accounts.{Acceptance, accepted_in}
use Rattle.promises.specs.Tells.{is_pair, owners, adjusted, Shown, NeverPassTotal}
use Rattle.promises.specs.Lasting.{Lasts, NeverGrows, PostedOnce, accepted_ones, RejectedLeaveNothing}
use Rattle.promises.proofs.Tables.{same_is, same_self, before_self, same_pair_self, find_place}
use Rattle.promises.proofs.Judged.{book_passes}
use Rattle.promises.proofs.Frame.{Done, nothing, applied, done, after_used}
use Rattle.promises.proofs.Passing.{some_not}
use Rattle.promises.proofs.Posts.{gate_opens}
use Rattle.promises.proofs.Told.{entry_next, vacant_at, takes, next, show_tells}
use Rattle.promises.proofs.OneReplaced.{packed}

-- ---- an open amount never grows

abbrev Stays : Option EntryHeld → Option EntryHeld → Type 0
Stays x y = Lasts (option_map entry_told x) (option_map entry_told y)

stays_same : (x y : Option EntryHeld) → y ≡ x → Stays x y
stays_same None y e = tt
stays_same (Some a) y e = subst (λ z. Stays (Some a) z) (sym e) (refl, refl, refl, omega arith)

stays_then : (x y z : Option EntryHeld) → Stays x y → Stays y z → Stays x z
stays_then None y z h k = tt
stays_then (Some a) None z h k = absurd h
stays_then (Some a) (Some c) None h k = absurd k
stays_then (Some a) (Some c) (Some d) h k =
    let m = h.3 in let n = k.3 in (k.0 ∙ h.0, k.1 ∙ h.1, k.2 ∙ h.2, omega arith)

stays_next : (p : Pair) (day : ℕ) (t : Transaction) (w a : Bool) (x : Option EntryHeld) → (w ≡ true → x ≡ None) → Stays x (next p day t w a x)
stays_next p day t w a None vacant = tt
stays_next p day t true a (Some e) vacant = absurd (some_not e (sym (vacant refl)))
stays_next p day t false true (Some e) vacant = (refl, refl, refl, omega arith)
stays_next p day t false false (Some e) vacant = (refl, refl, refl, omega arith)

module _ (holds : Holds) (p : Pair) where
  entered_stays : (b : BookMeaning) (day : ℕ) (rs : List Bytes) → Stays (entry_at b p) (entry_at (entered holds b day rs) p)
  entered_stays b day rs = go (done holds b day rs)
    where
      go : Done holds b day rs → Stays (entry_at b p) (entry_at (entered holds b day rs) p)
      go (nothing c r k v e) = stays_same (entry_at b p) (entry_at (entered holds b day rs) p) (ap (λ x. entry_at x p) e)
      go (applied s v e) =
          let t = s.what in let ds = details_of (others_of rs) in
          subst (λ x. Stays (entry_at b p) x) (sym (ap (λ x. entry_at x p) e ∙ entry_next b day t ds p))
          (stays_next p day t (is_pair p (own_pair t)) (takes p t) (entry_at b p) (vacant_at b day t ds p (book_passes holds b day rs t s.reads v)))

  after_stays : (day : ℕ) (ts : List (List Bytes)) (b : BookMeaning) → Stays (entry_at b p) (entry_at (after holds b day ts) p)
  after_stays day [] b = stays_same (entry_at b p) (entry_at b p) refl
  after_stays day (t ∷ ts) b =
      stays_then (entry_at b p) (entry_at (entered holds b day t) p) (entry_at (after holds (entered holds b day t) day ts) p) (entered_stays b day t) (after_stays day ts (entered holds b day t))

  posted_stays : (g : Result Opening ℕ) (b : BookMeaning) (x : Handed) → Stays (entry_at b p) (entry_at (post_book_at holds b x g) p)
  posted_stays (Err c) b x = stays_same (entry_at b p) (entry_at b p) refl
  posted_stays (Ok o) b x = after_stays x.day (transactions_of x.file) b

  called_stays : (b : BookMeaning) (c : Call) → Stays (entry_at b p) (entry_at (called holds b c) p)
  called_stays b (checking x) = stays_same (entry_at b p) (entry_at b p) refl
  called_stays b (posting x) = posted_stays (post_gate b x) b x
  called_stays b (showing q) = stays_same (entry_at b p) (entry_at b p) refl
  called_stays b (seeking o) = stays_same (entry_at b p) (entry_at b p) refl
  called_stays b counting = stays_same (entry_at b p) (entry_at b p) refl

  run_stays : (cs : List Call) (b : BookMeaning) → Stays (entry_at b p) (entry_at (run holds b cs) p)
  run_stays [] b = stays_same (entry_at b p) (entry_at b p) refl
  run_stays (c ∷ cs) b =
      stays_then (entry_at b p) (entry_at (called holds b c) p) (entry_at (run holds (called holds b c) cs) p) (called_stays b c) (run_stays cs (called holds b c))

pub never_grows : NeverGrows
never_grows holds b cs p = run_stays holds p cs b

-- ---- a file is posted once

mark_apart : (m y : MarkHeld) (i : Bytes) → mark_first y m ≡ true → under_mark i m ≡ true → under_mark i y ≡ false
mark_apart m y i f u = go (under_mark i y) refl
  where
    go : (v : Bool) → under_mark i y ≡ v → under_mark i y ≡ false
    go true e =
        let s : y.file ≡ m.file = same_is y.file i e ∙ sym (same_is m.file i u) in
        let n : mark_first y m ≡ false = ap (λ r. before r m.file) s ∙ before_self m.file in
        absurd (both_ways (mark_first y m) n f)
    go false e = e

mark_placed : (m : MarkHeld) (i : Bytes) (ms : List MarkHeld) → find (under_mark i) (place mark_first m ms) ≡ cond (bytes_eq m.file i) (Some m) (find (under_mark i) ms)
mark_placed m i ms = find_place mark_first (under_mark i) m (λ y. mark_apart m y i) ms

module _ (holds : Holds) (i : Bytes) where
  abbrev Marked : BookMeaning → Type 0
  Marked b = is_some (mark_at b i) ≡ true

  marked_posted : (g : Result Opening ℕ) (b : BookMeaning) (x : Handed) → Marked b → Marked (post_book_at holds b x g)
  marked_posted (Err c) b x h = h
  marked_posted (Ok o) b x h =
      let m = mark_under o.id (counts_of (posted holds b x)) in
      let same : find (under_mark i) (after holds b x.day (transactions_of x.file)).marks ≡ mark_at b i = ap (find (under_mark i)) (after_used holds x.day (transactions_of x.file) b).marks in
      ap is_some (mark_placed m i (after holds b x.day (transactions_of x.file)).marks ∙ ap (cond (bytes_eq o.id i) (Some m)) same) ∙ go m (bytes_eq o.id i)
    where
      go : (m : MarkHeld) (v : Bool) → is_some (cond v (Some m) (mark_at b i)) ≡ true
      go m true = refl
      go m false = h

  marked_called : (b : BookMeaning) (c : Call) → Marked b → Marked (called holds b c)
  marked_called b (checking x) h = h
  marked_called b (posting x) h = marked_posted (post_gate b x) b x h
  marked_called b (showing q) h = h
  marked_called b (seeking o) h = h
  marked_called b counting h = h

  marked_run : (cs : List Call) (b : BookMeaning) → Marked b → Marked (run holds b cs)
  marked_run [] b h = h
  marked_run (c ∷ cs) b h = marked_run cs (called holds b c) (marked_called b c h)

marked_now : (holds : Holds) (b : BookMeaning) (x : Handed) (o : Opening) → Marked holds o.id (post_book_at holds b x (Ok o))
marked_now holds b x o =
    let m = mark_under o.id (counts_of (posted holds b x)) in let s = same_self o.id in
    ap is_some (mark_placed m o.id (after holds b x.day (transactions_of x.file)).marks ∙ ap (λ v. cond v (Some m) (find (under_mark o.id) (after holds b x.day (transactions_of x.file)).marks)) s)

refused_six : (b : BookMeaning) (y : Handed) (o : Opening) → opening y.file ≡ Ok o → is_some (mark_at b o.id) ≡ true → post_gate b y ≡ Err 6
refused_six b y o opens h =
    ap (post_opened b y) opens ∙ ap (λ v. cond {A = Result Opening ℕ} v (Err 6) (cond (too_small y) (Err 7) (cond (eqb (free_marks b) 0) (Err 8) (Ok o)))) h

pub posted_once : PostedOnce
posted_once holds b x y p cs ok same =
    let a = packed x (posted holds b x) (post_gate b x) p ok in
    let o = a.opened in
    let c = run holds (post_book holds b x) cs in
    let now : Marked holds o.id (post_book holds b x) = subst (λ g. Marked holds o.id (post_book_at holds b x g)) (sym a.gate) (marked_now holds b x o) in
    let six = refused_six c y o (ap opening same ∙ gate_opens b x o a.gate) (marked_run holds o.id cs (post_book holds b x) now) in
    (ap (answer_with y (posted holds c y)) six, ap (post_book_at holds c y) six)

-- ---- rejected transactions leave nothing

ones_after : (holds : Holds) (day : ℕ) (ts : List (List Bytes)) (b : BookMeaning) → after holds b day (accepted_ones (verdicts holds b day ts) ts) ≡ after holds b day ts
ones_after holds day [] b = refl
ones_after holds day (t ∷ ts) b = go (done holds b day t) (ones_after holds day ts (entered holds b day t))
  where
    go : Done holds b day t → after holds (entered holds b day t) day (accepted_ones (verdicts holds (entered holds b day t) day ts) ts) ≡ after holds (entered holds b day t) day ts
        → after holds b day (accepted_ones (judge holds b day t ∷ verdicts holds (entered holds b day t) day ts) (t ∷ ts)) ≡ after holds (entered holds b day t) day ts
    go (nothing c r k v e) h =
        let vs = verdicts holds (entered holds b day t) day ts in
        ap (λ w. after holds b day (accepted_ones (w ∷ vs) (t ∷ ts))) v ∙ ap (λ x. after holds x day (accepted_ones vs ts)) (sym e) ∙ h
    go (applied s v e) h =
        let vs = verdicts holds (entered holds b day t) day ts in
        ap (λ w. after holds b day (accepted_ones (w ∷ vs) (t ∷ ts))) v ∙ h

book_is : (holds : Holds) (b : BookMeaning) (x : Handed) (p : Bytes) → post_answer holds b x ≡ Ok p →
    ((post_book holds b x).entries ≡ (after holds b x.day (transactions_of x.file)).entries) × ((post_book holds b x).lines ≡ (after holds b x.day (transactions_of x.file)).lines)
book_is holds b x p ok =
    let a = packed x (posted holds b x) (post_gate b x) p ok in
    (ap (λ g. (post_book_at holds b x g).entries) a.gate, ap (λ g. (post_book_at holds b x g).lines) a.gate)

pub rejected_leave_nothing : RejectedLeaveNothing
rejected_leave_nothing holds b x y p q hx hy day only =
    let u = book_is holds b x p hx in let w = book_is holds b y q hy in
    let same : after holds b y.day (transactions_of y.file) ≡ after holds b x.day (transactions_of x.file) =
    ap₂ (λ d ts. after holds b d ts) day only ∙ ones_after holds x.day (transactions_of x.file) b in
    (w.0 ∙ ap (λ c. c.entries) same ∙ sym u.0, w.1 ∙ ap (λ c. c.lines) same ∙ sym u.1)

-- ---- the adjustments never pass the total

module _ {X : Type 0} (test : X → Bool) where
  pub kept_has : (xs : List X) → All (λ y. test y ≡ true → Contains (filter test xs) y) xs
  kept_has [] = All-nil (λ y. test y ≡ true → Contains [] y)
  kept_has (x ∷ xs) = let k = go (test x) refl (kept_has xs) in All-cons (λ y. test y ≡ true → Contains (filter test (x ∷ xs)) y) x xs k.0 k.1
    where
      go : (v : Bool) → test x ≡ v → All (λ y. test y ≡ true → Contains (filter test xs) y) xs
          → (test x ≡ true → Contains (cond v (x ∷ filter test xs) (filter test xs)) x) × All (λ y. test y ≡ true → Contains (cond v (x ∷ filter test xs) (filter test xs)) y) xs
      go true e h = ((λ _. (0, omega arith, refl)), All-weaker (λ y. test y ≡ true → Contains (filter test xs) y) (λ y. test y ≡ true → Contains (x ∷ filter test xs) y) (λ y k s. Contains-append_right (x ∷ []) (filter test xs) y (k s)) xs h)
      go false e h = ((λ s. absurd (both_ways (test x) e s)), h)

pub never_pass_total : NeverPassTotal
never_pass_total holds e l m cs p t has own =
    let ts = accepted_in holds (empty_book e l m) cs in
    let is : is_pair p (own_pair t.what) ≡ true = ap (is_pair p) own ∙ same_pair_self p in
    let mine : Contains (owners p ts) t = All-contains (λ y. is_pair p (own_pair y.what) ≡ true → Contains (owners p ts) y) ts t (kept_has (λ y. is_pair p (own_pair y.what)) ts) has is in
    go (show_answer (run holds (empty_book e l m) cs) p) ((show_tells holds e l m cs).shown p) mine
  where
    one : (u : Acceptance) → Contains (u ∷ []) t → t ≡ u
    one u h = All-contains (λ z. z ≡ u) (u ∷ []) t (All-cons (λ z. z ≡ u) u [] refl (All-nil (λ z. z ≡ u))) h

    go : (x : Option EntryTold) → Shown p (accepted_in holds (empty_book e l m) cs) x → Contains (owners p (accepted_in holds (empty_book e l m) cs)) t → adjusted p (accepted_in holds (empty_book e l m) cs) ≤ total_of t.what
    go None s h = let k = subst (λ ys. Contains ys t) s h in let z = k.1 in absurd (omega arith)
    go (Some a) s h =
        let f = s.2 in
        let i = one s.0 (subst (λ ys. Contains ys t) s.1 h) in
        let n : a.total ≡ total_of t.what = f.total ∙ ap (λ u. total_of u.what) (sym i) in
        let o = f.open_amount in omega arith
