-- Show and count tell what was accepted and rejected, whatever calls were made.
use Rattle.std.proofs.Common.{◌≡◌, ℕ, ◌+◌, ◌≤◌, Bool, true, false, cond, ◌&&◌, List, [], ◌∷◌, ◌++◌, length, Some, None, Ok, Err, Option, Result, sym, refl, ap, ◌∙◌, subst, ap₂, append_assoc, append-nil, arith}
use Rattle.std.specs.Option.{option_map}
use Rattle.std.proofs.lemmas.List.{length-append}
use Rattle.std.proofs.lemmas.List.Elements.{filter-append}
use Rattle.octets.specs.Classes.{Bytes}
use Rattle.layout.specs.declared.pair.Pair.{Pair}
use Rattle.file.specs.declared.opening.Opening.{Opening}
use Rattle.file.specs.Records.{first_of, others_of, transactions_of}
use Rattle.book.specs.Meaning.{BookMeaning, EntryHeld, same_pair, fresh, entry_at, empty_book}
use Rattle.book.specs.Actions.{less}
use Rattle.book.specs.Told.{entry_told}
use Rattle.transaction.specs.declared.header.Transaction.{Transaction}
use Rattle.transaction.specs.declared.verdict.Verdict.TheVariants.{Accepted}
use Rattle.transaction.specs.Checks.{Holds}
use Rattle.transaction.specs.Details.{DetailRead, details_of, sum_of}
use Rattle.transaction.specs.Headers.{set_id_of, total_of, own_pair, original_pair}
use Rattle.transaction.specs.Sounds.{reading_in}
use Rattle.promises.specs.Held.{Held, at}
use Rattle.promises.specs.Against.{adjusts}
use Rattle.promises.specs.Judging.{book_checks, judge}
use Rattle.promises.specs.Entering.{entry_of, taken_from, apply, entered, verdicts, after}
use Rattle.promises.specs.Packets.{is_accepted, accepted_count, rejected_count}
use Rattle.promises.specs.Calls.{Handed, post_gate, posted, post_book_at, Call, checking, posting, showing, seeking, counting, called, run, count_answer}
use Rattle.promises.specs.Accounts.{Acceptance, accepted_if, accepted_among, accepted_at, rejected_at, accepted_by, rejected_by, accepted_in, rejected_in}
use Rattle.promises.specs.Tells.{is_pair, owners, adjustment, adjusted, EntryOf, Shown, ShowTells}
use Rattle.transaction.specs.Verdicts.{verdict}
use Rattle.promises.proofs.Tables.{same_pair_is}
use Rattle.promises.proofs.Effect.{own_effect, take_effect, effect, at_apply}
use Rattle.promises.proofs.Judged.{book_passes}
use Rattle.promises.proofs.Frame.{Done, nothing, applied, done}
use Rattle.promises.proofs.Passing.{own_vacant, taken_open, some_not}
use Rattle.promises.proofs.Posts.{added, count_posted}

-- one pair: what stands in the book, what was accepted
abbrev Kept : Pair → List Acceptance → Option EntryHeld → Type 0
Kept p ts None = (owners p ts ≡ []) × (adjusted p ts ≡ 0)
Kept p ts (Some e) = (t : Acceptance) × (owners p ts ≡ t ∷ []) × EntryOf p (entry_told e) t ts

owners_more : (p : Pair) (ts : List Acceptance) (t : Acceptance) → owners p (ts ++ t ∷ []) ≡ owners p ts ++ cond (is_pair p (own_pair t.what)) (t ∷ []) []
owners_more p ts t = filter-append (λ u. is_pair p (own_pair u.what)) ts (t ∷ [])

sum_push : {X : Type 0} (f : X → ℕ) (xs : List X) (x : X) → sum_of f (xs ++ x ∷ []) ≡ sum_of f xs + f x
sum_push f [] x = omega arith
sum_push f (y ∷ ys) x = let h = sum_push f ys x in omega arith

adjusted_more : (p : Pair) (ts : List Acceptance) (t : Acceptance) → adjusted p (ts ++ t ∷ []) ≡ adjusted p ts + adjustment p t.what
adjusted_more p ts t = sum_push (λ u. adjustment p u.what) ts t

-- the entry under p after an accepted transaction
abbrev pub next : Pair → ℕ → Transaction → Bool → Bool → Option EntryHeld → Option EntryHeld
next p day t w a x = cond a (option_map (less (total_of t)) (cond w (Some (fresh p (entry_of day t))) x)) (cond w (Some (fresh p (entry_of day t))) x)

abbrev pub takes : Pair → Transaction → Bool
takes p t = adjusts (set_id_of t) && is_pair p (original_pair t)

kept_more : (p : Pair) (ts : List Acceptance) (day : ℕ) (t : Transaction) (w a : Bool) → is_pair p (own_pair t) ≡ w → takes p t ≡ a →
    (x : Option EntryHeld) → (w ≡ true → x ≡ None) → (a ≡ true → (e : EntryHeld) × (x ≡ Some e) × (total_of t ≤ e.open_amount)) →
    Kept p ts x → Kept p (ts ++ record { day = day; what = t } ∷ []) (next p day t w a x)
kept_more p ts day t true true mine its x vacant opens k =
    let o = opens refl in let n = vacant refl in absurd (some_not o.0 (sym n ∙ o.1))
kept_more p ts day t true false mine its (Some e) vacant opens k = absurd (some_not e (sym (vacant refl)))
kept_more p ts day t true false mine its None vacant opens k =
    let u : Acceptance = record { day = day; what = t } in
    let o : owners p (ts ++ u ∷ []) ≡ u ∷ [] = owners_more p ts u ∙ simp (k.0, mine) in
    let j : adjusted p (ts ++ u ∷ []) ≡ 0 = adjusted_more p ts u ∙ simp (k.1, its) in
    (u, o, record { set_id = refl; day = refl; total = refl; open_amount = omega arith })
kept_more p ts day t false true mine its None vacant opens k = let o = opens refl in absurd (some_not o.0 o.1)
kept_more p ts day t false true mine its (Some e) vacant opens k =
    let u : Acceptance = record { day = day; what = t } in
    let f = opens refl in
    let is : e ≡ f.0 = cc f.1 in
    let h = k.2 in
    let g : total_of t ≤ e.open_amount = rw is f.2 in
    let o : owners p (ts ++ u ∷ []) ≡ k.0 ∷ [] = owners_more p ts u ∙ simp (k.1, mine) in
    let j : adjusted p (ts ++ u ∷ []) ≡ adjusted p ts + total_of t = adjusted_more p ts u ∙ simp its in
    let q = h.open_amount in
    (k.0, o, record { set_id = h.set_id; day = h.day; total = h.total; open_amount = omega arith })
kept_more p ts day t false false mine its None vacant opens k =
    let u : Acceptance = record { day = day; what = t } in
    (owners_more p ts u ∙ simp (k.0, mine), adjusted_more p ts u ∙ simp (k.1, its))
kept_more p ts day t false false mine its (Some e) vacant opens k =
    let u : Acceptance = record { day = day; what = t } in
    let h = k.2 in
    let o : owners p (ts ++ u ∷ []) ≡ k.0 ∷ [] = owners_more p ts u ∙ simp (k.1, mine) in
    let j : adjusted p (ts ++ u ∷ []) ≡ adjusted p ts + 0 = adjusted_more p ts u ∙ simp its in
    let q = h.open_amount in
    (k.0, o, record { set_id = h.set_id; day = h.day; total = h.total; open_amount = omega arith })

-- the entry under p after an accepted transaction, as the effect has it
own_next : (day : ℕ) (t : Transaction) (ds : List DetailRead) (o : Option Pair) (p : Pair) (h : Held) → (own_effect day t ds o p h).entry ≡ cond (is_pair p o) (Some (fresh p (entry_of day t))) h.entry
unfolding own_effect
own_next day t ds None p h = refl
own_next day t ds (Some q) p h = go (same_pair q p) refl
  where
    go : (v : Bool) → same_pair q p ≡ v → cond v (Some (fresh q (entry_of day t))) h.entry ≡ cond v (Some (fresh p (entry_of day t))) h.entry
    go true e = ap (λ r. Some (fresh r (entry_of day t))) (same_pair_is q p e)
    go false e = refl

take_next : (n : ℕ) (o : Option Pair) (p : Pair) (h : Held) → (take_effect n o p h).entry ≡ cond (is_pair p o) (option_map (less n) h.entry) h.entry
unfolding take_effect
take_next n None p h = refl
take_next n (Some o) p h = refl

taken_is : (p : Pair) (t : Transaction) → is_pair p (taken_from t) ≡ takes p t
taken_is p t = go (adjusts (set_id_of t))
  where
    go : (v : Bool) → is_pair p (cond v (original_pair t) None) ≡ (v && is_pair p (original_pair t))
    go true = refl
    go false = refl

pub entry_next : (b : BookMeaning) (day : ℕ) (t : Transaction) (ds : List DetailRead) (p : Pair) → entry_at (apply day t ds b) p ≡ next p day t (is_pair p (own_pair t)) (takes p t) (entry_at b p)
unfolding effect
entry_next b day t ds p =
    ap (λ h. h.entry) (at_apply b day t ds p)
    ∙ take_next (total_of t) (taken_from t) p (own_effect day t ds (own_pair t) p (at b p))
    ∙ ap₂ (λ a x. cond a (option_map (less (total_of t)) x) x) (taken_is p t) (own_next day t ds (own_pair t) p (at b p))

pub is_pair_law : (p : Pair) (o : Option Pair) → is_pair p o ≡ true → o ≡ Some p
is_pair_law p None h = cc
is_pair_law p (Some q) h = ap Some (same_pair_is q p h)

-- what an accepted transaction finds under a pair
pub vacant_at : (b : BookMeaning) (day : ℕ) (t : Transaction) (ds : List DetailRead) (p : Pair) → verdict (book_checks b day t ds) ≡ Accepted → is_pair p (own_pair t) ≡ true → entry_at b p ≡ None
vacant_at b day t ds p h e = (own_vacant b day t ds h p (is_pair_law p (own_pair t) e)).entry

pub open_at : (b : BookMeaning) (day : ℕ) (t : Transaction) (ds : List DetailRead) (p : Pair) → verdict (book_checks b day t ds) ≡ Accepted → takes p t ≡ true → (e : EntryHeld) × (entry_at b p ≡ Some e) × (total_of t ≤ e.open_amount)
open_at b day t ds p h e = let o = taken_open b day t ds h p (is_pair_law p (taken_from t) (taken_is p t ∙ e)) in (o.entry, o.stands, o.enough)

kept_applied : (b : BookMeaning) (day : ℕ) (t : Transaction) (ds : List DetailRead) (ts : List Acceptance) (p : Pair) → verdict (book_checks b day t ds) ≡ Accepted → Kept p ts (entry_at b p) → Kept p (ts ++ record { day = day; what = t } ∷ []) (entry_at (apply day t ds b) p)
kept_applied b day t ds ts p h k =
    let u : Acceptance = record { day = day; what = t } in
    let P : Option EntryHeld → Type 0 = λ x. Kept p (ts ++ u ∷ []) x in
    subst P (sym (entry_next b day t ds p))
    (kept_more p ts day t (is_pair p (own_pair t)) (takes p t) refl refl (entry_at b p) (vacant_at b day t ds p h) (open_at b day t ds p h) k)

pub KeptAll : BookMeaning → List Acceptance → Type 0
KeptAll b ts = (p : Pair) → Kept p ts (entry_at b p)

module _ (holds : Holds) where
  -- the accepted ones, one by one
  abbrev accepted_one : BookMeaning → ℕ → List Bytes → List Acceptance
  accepted_one b day rs = accepted_if (judge holds b day rs) day (reading_in (first_of rs))

  abbrev accepted_all : BookMeaning → ℕ → List (List Bytes) → List Acceptance
  accepted_all b day ts = accepted_among day (verdicts holds b day ts) ts

  kept_one : (b : BookMeaning) (day : ℕ) (rs : List Bytes) (ts : List Acceptance) → KeptAll b ts → KeptAll (entered holds b day rs) (ts ++ accepted_one b day rs)
  unfolding KeptAll
  kept_one b day rs ts h p = go (done holds b day rs)
    where
      go : Done holds b day rs → Kept p (ts ++ accepted_one b day rs) (entry_at (entered holds b day rs) p)
      go (nothing c r k v e) =
          let none : ts ++ accepted_one b day rs ≡ ts = ap (λ w. ts ++ accepted_if w day (reading_in (first_of rs))) v ∙ append-nil ts in
          subst (λ us. Kept p us (entry_at (entered holds b day rs) p)) (sym none) (subst (λ c. Kept p ts (entry_at c p)) (sym e) (h p))
      go (applied s v e) =
          let one : accepted_one b day rs ≡ record { day = day; what = s.what } ∷ [] = ap₂ (λ w o. accepted_if w day o) v s.reads in
          subst (λ us. Kept p (ts ++ us) (entry_at (entered holds b day rs) p)) (sym one)
          (subst (λ c. Kept p (ts ++ record { day = day; what = s.what } ∷ []) (entry_at c p)) (sym e)
          (kept_applied b day s.what (details_of (others_of rs)) ts p (book_passes holds b day rs s.what s.reads v) (h p)))

  kept_after : (day : ℕ) (us : List (List Bytes)) (b : BookMeaning) (ts : List Acceptance) → KeptAll b ts → KeptAll (after holds b day us) (ts ++ accepted_all b day us)
  kept_after day [] b ts h = rw append-nil h
  kept_after day (u ∷ us) b ts h =
      rw (← append_assoc ts (accepted_one b day u) (accepted_all (entered holds b day u) day us)) (kept_after day us (entered holds b day u) (ts ++ accepted_one b day u) (kept_one b day u ts h))

  kept_posted : (g : Result Opening ℕ) (b : BookMeaning) (x : Handed) (ts : List Acceptance) → KeptAll b ts → KeptAll (post_book_at holds b x g) (ts ++ accepted_at holds b x g)
  unfolding KeptAll
  kept_posted (Err c) b x ts h = rw append-nil h
  kept_posted (Ok o) b x ts h = kept_after x.day (transactions_of x.file) b ts h

  kept_called : (b : BookMeaning) (c : Call) (ts : List Acceptance) → KeptAll b ts → KeptAll (called holds b c) (ts ++ accepted_by holds b c)
  kept_called b (checking x) ts h = rw append-nil h
  kept_called b (posting x) ts h = kept_posted (post_gate b x) b x ts h
  kept_called b (showing p) ts h = rw append-nil h
  kept_called b (seeking o) ts h = rw append-nil h
  kept_called b counting ts h = rw append-nil h

  kept_run : (cs : List Call) (b : BookMeaning) (ts : List Acceptance) → KeptAll b ts → KeptAll (run holds b cs) (ts ++ accepted_in holds b cs)
  kept_run [] b ts h = rw append-nil h
  kept_run (c ∷ cs) b ts h =
      rw (← append_assoc ts (accepted_by holds b c) (accepted_in holds (called holds b c) cs)) (kept_run cs (called holds b c) (ts ++ accepted_by holds b c) (kept_called b c ts h))

  -- counts
  one_length : (b : BookMeaning) (day : ℕ) (rs : List Bytes) → length (accepted_one b day rs) ≡ cond (is_accepted (judge holds b day rs)) 1 0
  one_length b day rs = go (done holds b day rs)
    where
      go : Done holds b day rs → length (accepted_one b day rs) ≡ cond (is_accepted (judge holds b day rs)) 1 0
      go (nothing c r k v e) = ap (λ w. length (accepted_if w day (reading_in (first_of rs)))) v ∙ sym (ap (λ w. cond (is_accepted w) 1 0) v)
      go (applied s v e) = ap₂ (λ w o. length (accepted_if w day o)) v s.reads ∙ sym (ap (λ w. cond (is_accepted w) 1 0) v)

  taken_length : (day : ℕ) (us : List (List Bytes)) (b : BookMeaning) → length (accepted_all b day us) ≡ accepted_count (verdicts holds b day us)
  taken_length day [] b = refl
  taken_length day (u ∷ us) b =
      length-append (accepted_one b day u) (accepted_all (entered holds b day u) day us)
      ∙ ap₂ (λ m n. m + n) (one_length b day u) (taken_length day us (entered holds b day u))

  Counted : BookMeaning → List Acceptance → ℕ → Type 0
  Counted b ts n = count_answer b ≡ record { accepted = length ts; rejected = n }

  counted_posted : (g : Result Opening ℕ) (b : BookMeaning) (x : Handed) (ts : List Acceptance) (n : ℕ) → Counted b ts n → Counted (post_book_at holds b x g) (ts ++ accepted_at holds b x g) (n + rejected_at holds b x g)
  unfolding Counted added
  counted_posted g b x ts n h = count_posted holds g b x ∙ ap (added g (posted holds b x)) h ∙ go g
    where
      go : (g' : Result Opening ℕ) → added g' (posted holds b x) (record { accepted = length ts; rejected = n }) ≡ record { accepted = length (ts ++ accepted_at holds b x g'); rejected = n + rejected_at holds b x g' }
      go (Err c) =
          let u : length ts ≡ length (ts ++ []) = simp append-nil in let v : n ≡ n + 0 = omega arith in λ k. record { accepted = u k; rejected = v k }
      go (Ok o) =
          let a = length-append ts (accepted_all b x.day (transactions_of x.file)) in
          let l = taken_length x.day (transactions_of x.file) b in
          let u : accepted_count (posted holds b x) + length ts ≡ length (ts ++ accepted_all b x.day (transactions_of x.file)) = omega arith in
          let v : rejected_count (posted holds b x) + n ≡ n + rejected_count (posted holds b x) = omega arith in λ k. record { accepted = u k; rejected = v k }

  counted_none : (b : BookMeaning) (ts : List Acceptance) (n : ℕ) → Counted b ts n → Counted b (ts ++ []) (n + 0)
  counted_none b ts n h = let e : n + 0 ≡ n = omega arith in rw (append-nil, e) h

  counted_called : (b : BookMeaning) (c : Call) (ts : List Acceptance) (n : ℕ) → Counted b ts n → Counted (called holds b c) (ts ++ accepted_by holds b c) (n + rejected_by holds b c)
  counted_called b (checking x) ts n h = counted_none b ts n h
  counted_called b (posting x) ts n h = counted_posted (post_gate b x) b x ts n h
  counted_called b (showing p) ts n h = counted_none b ts n h
  counted_called b (seeking o) ts n h = counted_none b ts n h
  counted_called b counting ts n h = counted_none b ts n h

  counted_run : (cs : List Call) (b : BookMeaning) (ts : List Acceptance) (n : ℕ) → Counted b ts n → Counted (run holds b cs) (ts ++ accepted_in holds b cs) (n + rejected_in holds b cs)
  counted_run [] b ts n h = counted_none b ts n h
  counted_run (c ∷ cs) b ts n h =
      let e : n + (rejected_by holds b c + rejected_in holds (called holds b c) cs) ≡ n + rejected_by holds b c + rejected_in holds (called holds b c) cs = omega arith in
      rw (← append_assoc ts (accepted_by holds b c) (accepted_in holds (called holds b c) cs), e)
      (counted_run cs (called holds b c) (ts ++ accepted_by holds b c) (n + rejected_by holds b c) (counted_called b c ts n h))

shown_from : (p : Pair) (ts : List Acceptance) (x : Option EntryHeld) → Kept p ts x → Shown p ts (option_map entry_told x)
shown_from p ts None k = k.0
shown_from p ts (Some e) k = k

new_kept : (e l m : ℕ) → KeptAll (empty_book e l m) []
unfolding KeptAll
new_kept e l m p = (refl, refl)

new_counted : (holds : Holds) (e l m : ℕ) → Counted holds (empty_book e l m) [] 0
unfolding Counted
new_counted holds e l m = refl

pub show_tells : ShowTells
unfolding KeptAll Counted
show_tells holds e l m cs =
    let z : 0 + rejected_in holds (empty_book e l m) cs ≡ rejected_in holds (empty_book e l m) cs = omega arith in
    record {
      shown = λ p. shown_from p (accepted_in holds (empty_book e l m) cs) (entry_at (run holds (empty_book e l m) cs) p) (kept_run holds cs (empty_book e l m) [] (new_kept e l m) p);
      counted = counted_run holds cs (empty_book e l m) [] 0 (new_counted holds e l m) ∙ ap (λ n. record { accepted = length (accepted_in holds (empty_book e l m) cs); rejected = n }) z;
    }
