-- One transaction replaced: what no chain of shared pairs links to it keeps its verdict.
use Rattle.std.proofs.Common.{◌≡◌, ℕ, zero, suc, ◌+◌, ◌-◌, ◌<◌, Bool, true, false, ◌⊎◌, List, [], ◌∷◌, ◌++◌, length, Some, All, sym, refl, ap, ◌∙◌, subst, ap₂, inl, inr, arith}
use Rattle.std.specs.List.{slice_get}
use Rattle.std.proofs.lemmas.List.Elements.{All-weaker, All-head, All-tail}
use Rattle.std.proofs.lemmas.Bool.{both_ways, cases_order}
use Rattle.octets.specs.Classes.{Bytes}
use Rattle.layout.specs.declared.pair.Pair.{Pair}
use Rattle.book.specs.Meaning.{BookMeaning, same_pair}
use Rattle.transaction.specs.declared.verdict.Verdict.{Verdict}
use Rattle.transaction.specs.Checks.{Holds}
use Rattle.promises.specs.Entering.{entered, verdicts, after}
use Rattle.promises.specs.Related.{pairs_in}
use Rattle.promises.specs.Replaced.{Inside, Outside}
use Rattle.promises.proofs.Tables.{same_pair_is}
use Rattle.promises.proofs.Frame.{all_left, all_right, entered_outside, Room, Alike, judge_alike, entered_alike, room_next}
use Rattle.promises.proofs.Replaces.{verdicts_append, length_verdicts}

-- the transaction at a place is outside
abbrev pub At : Holds → (Pair → Bool) → List (List Bytes) → ℕ → Type 0
At holds group ts k = (t : List Bytes) → slice_get ts k ≡ Some t → Outside holds group t

module _ (holds : Holds) (day : ℕ) (group : Pair → Bool) where
  abbrev Spared : Pair → Type 0
  Spared q = group q ≡ false

  apart : (q : Pair) (ps : List Pair) → group q ≡ false → All (λ p. group p ≡ true) ps → All (λ p. same_pair p q ≡ false) ps
  apart q ps h k = All-weaker (λ p. group p ≡ true) (λ p. same_pair p q ≡ false) (λ p e. go p e (same_pair p q) refl) ps k
    where
      go : (p : Pair) → group p ≡ true → (v : Bool) → same_pair p q ≡ v → same_pair p q ≡ false
      go p e true s = absurd (both_ways (group q) h (ap group (sym (same_pair_is p q s)) ∙ e))
      go p e false s = s

  -- a transaction inside the group changes nothing outside it
  inside_alike : (b c : BookMeaning) (t : List Bytes) → Alike holds Spared day b c → Inside holds group t → Alike holds Spared day (entered holds b day t) (entered holds c day t)
  inside_alike b c t alike i q h =
      entered_outside holds b day t q (apart q (pairs_in holds t) h i) ∙ alike q h ∙ sym (entered_outside holds c day t q (apart q (pairs_in holds t) h i))

  next_alike : (b c : BookMeaning) (t : List Bytes) (ts : List (List Bytes)) → Alike holds Spared day b c → Inside holds group t ⊎ Outside holds group t → Room b (t ∷ ts) → Room c (t ∷ ts) → Alike holds Spared day (entered holds b day t) (entered holds c day t)
  next_alike b c t ts alike (inl i) x y = inside_alike b c t alike i
  next_alike b c t ts alike (inr o) x y = entered_alike holds Spared day b c t alike (judge_alike holds Spared day b c t ts ts alike o x y)

  later : (ts : List (List Bytes)) (b c : BookMeaning) → Alike holds Spared day b c → All (λ t. Inside holds group t ⊎ Outside holds group t) ts → Room b ts → Room c ts →
      (k : ℕ) → At holds group ts k → slice_get (verdicts holds b day ts) k ≡ slice_get (verdicts holds c day ts) k
  later [] b c alike h x y k out = refl
  later (u ∷ us) b c alike h x y zero out = ap Some (judge_alike holds Spared day b c u us us alike (out u refl) x y)
  later (u ∷ us) b c alike h x y (suc k) out =
      let split : List Bytes → Type 0 = λ t. Inside holds group t ⊎ Outside holds group t in
      later us (entered holds b day u) (entered holds c day u) (next_alike b c u us alike (All-head split u us h) x y) (All-tail split u us h) (room_next holds Spared day b u us x) (room_next holds Spared day c u us y) k out

-- in front, and behind as many as stand in front
nth_front : (vs ws us : List Verdict) (k : ℕ) → k < length vs → slice_get (vs ++ ws) k ≡ slice_get (vs ++ us) k
nth_front [] ws us k h = absurd (omega arith)
nth_front (v ∷ vs) ws us zero h = refl
nth_front (v ∷ vs) ws us (suc k) h = nth_front vs ws us k (omega arith)

nth_behind : {X : Type 0} (xs ys : List X) (k : ℕ) → slice_get (xs ++ ys) (length xs + k) ≡ slice_get ys k
nth_behind [] ys k = ap (slice_get ys) (omega arith)
nth_behind (x ∷ xs) ys k = ap (slice_get (x ∷ (xs ++ ys))) step ∙ nth_behind xs ys k
  where
    step : suc (length xs) + k ≡ suc (length xs + k)
    step = omega arith

module _ (holds : Holds) (b : BookMeaning) (day : ℕ) (F R : List (List Bytes)) (old new : List Bytes) where
  abbrev middle : BookMeaning
  middle = after holds b day F

  pub front_same : (k : ℕ) → k < length F → slice_get (verdicts holds b day (F ++ old ∷ R)) k ≡ slice_get (verdicts holds b day (F ++ new ∷ R)) k
  front_same k h =
      let n = length_verdicts holds day F b in
      ap (λ vs. slice_get vs k) (verdicts_append holds day F (old ∷ R) b)
      ∙ nth_front (verdicts holds b day F) (verdicts holds middle day (old ∷ R)) (verdicts holds middle day (new ∷ R)) k (omega arith)
      ∙ sym (ap (λ vs. slice_get vs k) (verdicts_append holds day F (new ∷ R) b))

  at_behind : (t : List Bytes) (j : ℕ) → slice_get (verdicts holds b day (F ++ t ∷ R)) (length F + suc j) ≡ slice_get (verdicts holds (entered holds middle day t) day R) j
  at_behind t j =
      ap₂ (λ vs n. slice_get vs (n + suc j)) (verdicts_append holds day F (t ∷ R) b) (sym (length_verdicts holds day F b))
      ∙ nth_behind (verdicts holds b day F) (verdicts holds middle day (t ∷ R)) (suc j)

  module _ (group : Pair → Bool) (ours : All (λ p. group p ≡ true) (pairs_in holds old ++ pairs_in holds new)) (divided : All (λ t. Inside holds group t ⊎ Outside holds group t) R)
      (x : Room (entered holds middle day old) R) (y : Room (entered holds middle day new) R) where
    start : Alike holds (Spared holds day group) day (entered holds middle day old) (entered holds middle day new)
    start q h =
        let O = all_left (λ p. group p ≡ true) (pairs_in holds old) (pairs_in holds new) ours in
        let N = all_right (λ p. group p ≡ true) (pairs_in holds old) (pairs_in holds new) ours in
        entered_outside holds middle day old q (apart holds day group q (pairs_in holds old) h O) ∙ sym (entered_outside holds middle day new q (apart holds day group q (pairs_in holds new) h N))

    behind_same : (j : ℕ) → At holds group (F ++ old ∷ R) (length F + suc j) → slice_get (verdicts holds b day (F ++ old ∷ R)) (length F + suc j) ≡ slice_get (verdicts holds b day (F ++ new ∷ R)) (length F + suc j)
    behind_same j out =
        at_behind old j
        ∙ later holds day group R (entered holds middle day old) (entered holds middle day new) start divided x y j (λ t e. out t (nth_behind F (old ∷ R) (suc j) ∙ e))
        ∙ sym (at_behind new j)

    pub unlinked : (k : ℕ) → (k ≡ length F → ⊥) → At holds group (F ++ old ∷ R) k → slice_get (verdicts holds b day (F ++ old ∷ R)) k ≡ slice_get (verdicts holds b day (F ++ new ∷ R)) k
    unlinked k other out = go (cases_order k (length F))
      where
        go : (k ≡ length F) ⊎ ((k < length F) ⊎ (length F < k)) → slice_get (verdicts holds b day (F ++ old ∷ R)) k ≡ slice_get (verdicts holds b day (F ++ new ∷ R)) k
        go (inl s) = absurd (other s)
        go (inr (inl l)) = front_same k l
        go (inr (inr l)) =
            let s : length F + suc (k - length F - 1) ≡ k = omega arith in
            subst (λ n. slice_get (verdicts holds b day (F ++ old ∷ R)) n ≡ slice_get (verdicts holds b day (F ++ new ∷ R)) n) s
            (behind_same (k - length F - 1) (λ t e. out t (sym (ap (slice_get (F ++ old ∷ R)) s) ∙ e)))
