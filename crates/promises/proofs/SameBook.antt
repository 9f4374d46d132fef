-- Two unrelated files in either order: the same book.
use Rattle.std.proofs.Common.{◌≡◌, ℕ, Bool, true, false, List, [], ◌∷◌, ◌++◌, length, Some, None, Ok, Err, All, Contains, Option, Result, sym, refl, ap, ◌∙◌, subst, ap₂, arith}
use Rattle.std.specs.List.{flat_map}
use Rattle.std.specs.Str.{bytes_eq}
use Rattle.std.proofs.lemmas.List.Elements.{Contains-append_left, Contains-append_right, All-nil, All-head, All-cons, All-tail}
use Rattle.octets.specs.Classes.{Bytes}
use Rattle.layout.specs.declared.pair.Pair.{Pair}
use Rattle.file.specs.declared.opening.Opening.{Opening}
use Rattle.file.specs.Records.{first_of, others_of, is_detail, many, transactions_of}
use Rattle.book.specs.Lists.{place}
use Rattle.book.specs.Meaning.{BookMeaning, MarkHeld, same_pair, mark_first, mark_under}
use Rattle.book.specs.Actions.{with_marks, set_mark}
use Rattle.transaction.specs.declared.header.Transaction.{Transaction}
use Rattle.transaction.specs.declared.verdict.Verdict.{Verdict}
use Rattle.transaction.specs.declared.verdict.Verdict.TheVariants.{Accepted, Refused}
use Rattle.transaction.specs.Checks.{Holds, own_checks}
use Rattle.transaction.specs.Details.{DetailRead, details_of, sum_of}
use Rattle.transaction.specs.Headers.{total_of, own_pair, original_pair}
use Rattle.transaction.specs.Sounds.{reading_in}
use Rattle.transaction.specs.Verdicts.{Check, verdict}
use Rattle.promises.specs.Held.{Held, checks_at}
use Rattle.promises.specs.Against.{original_checks}
use Rattle.promises.specs.Own.{own_pair_checks, place_checks}
use Rattle.promises.specs.Judging.{book_checks_any, judge}
use Rattle.promises.specs.Entering.{taken_from, take_at, apply, apply_if, entered, after}
use Rattle.promises.specs.Calls.{Handed, Call, checking, posting, showing, seeking, counting, called, run, post_gate, posted, counts_of, post_answer, post_book_at, post_book, show_answer, count_answer}
use Rattle.promises.specs.Related.{pairs_in, transaction_count, detail_count, Enough}
use Rattle.promises.specs.EitherOrder.{Unrelated, IsNoPost, in_order, EitherOrder}
use Rattle.promises.proofs.Tables.{same_is, same_pair_is}
use Rattle.promises.proofs.Orders.{marks_swap}
use Rattle.promises.proofs.Effect.{put_own, apply_is}
use Rattle.promises.proofs.Pairs.{all_has}
use Rattle.promises.proofs.Swaps.{Apart, list_past}
use Rattle.promises.proofs.Posts.{gate_opens, opened_has, second_gate, second_posted, second_answer}

-- marks are of no account to a transaction
own_marks : (d : ℕ) (t : Transaction) (ds : List DetailRead) (o : Option Pair) (b : BookMeaning) (ms : List MarkHeld) → put_own d t ds o (with_marks b ms) ≡ with_marks (put_own d t ds o b) ms
own_marks d t ds None b ms = refl
own_marks d t ds (Some p) b ms = refl

take_marks : (n : ℕ) (o : Option Pair) (b : BookMeaning) (ms : List MarkHeld) → take_at n o (with_marks b ms) ≡ with_marks (take_at n o b) ms
take_marks n None b ms = refl
take_marks n (Some p) b ms = refl

apply_marks : (d : ℕ) (t : Transaction) (ds : List DetailRead) (b : BookMeaning) (ms : List MarkHeld) → apply d t ds (with_marks b ms) ≡ with_marks (apply d t ds b) ms
apply_marks d t ds b ms =
    apply_is d t ds (with_marks b ms)
    ∙ ap (take_at (total_of t) (taken_from t)) (own_marks d t ds (own_pair t) b ms)
    ∙ take_marks (total_of t) (taken_from t) (put_own d t ds (own_pair t) b) ms
    ∙ sym (ap (λ c. with_marks c ms) (apply_is d t ds b))

checks_marks : (b : BookMeaning) (o : Option Pair) (f : Held → List Check) (ms : List MarkHeld) → checks_at (with_marks b ms) o f ≡ checks_at b o f
checks_marks b None f ms = refl
checks_marks b (Some p) f ms = refl

places_marks : (b : BookMeaning) (t : Transaction) (ds : List DetailRead) (o : Option Pair) (ms : List MarkHeld) → place_checks (with_marks b ms) t ds o ≡ place_checks b t ds o
places_marks b t ds None ms = refl
places_marks b t ds (Some p) ms = refl

book_marks : (b : BookMeaning) (d : ℕ) (o : Option Transaction) (ds : List DetailRead) (ms : List MarkHeld) → book_checks_any (with_marks b ms) d o ds ≡ book_checks_any b d o ds
book_marks b d None ds ms = refl
book_marks b d (Some t) ds ms =
    ap₂ (λ u v. u ++ v) (checks_marks b (original_pair t) (original_checks d t ds) ms) (ap₂ (λ u v. u ++ v) (checks_marks b (own_pair t) (own_pair_checks t ds) ms) (places_marks b t ds (own_pair t) ms))

module _ (holds : Holds) where
  judge_marks : (b : BookMeaning) (d : ℕ) (rs : List Bytes) (ms : List MarkHeld) → judge holds (with_marks b ms) d rs ≡ judge holds b d rs
  judge_marks b d rs ms = ap (λ cs. verdict (own_checks holds rs ++ cs)) (book_marks b d (reading_in (first_of rs)) (details_of (others_of rs)) ms)

  entered_marks : (b : BookMeaning) (d : ℕ) (rs : List Bytes) (ms : List MarkHeld) → entered holds (with_marks b ms) d rs ≡ with_marks (entered holds b d rs) ms
  entered_marks b d rs ms =
      ap (λ v. apply_if v d (reading_in (first_of rs)) (details_of (others_of rs)) (with_marks b ms)) (judge_marks b d rs ms) ∙ go (judge holds b d rs) (reading_in (first_of rs))
    where
      go : (v : Verdict) (o : Option Transaction) → apply_if v d o (details_of (others_of rs)) (with_marks b ms) ≡ with_marks (apply_if v d o (details_of (others_of rs)) b) ms
      go (Refused c r k) o = refl
      go Accepted None = refl
      go Accepted (Some t) = apply_marks d t (details_of (others_of rs)) b ms

  after_marks : (d : ℕ) (ts : List (List Bytes)) (b : BookMeaning) (ms : List MarkHeld) → after holds (with_marks b ms) d ts ≡ with_marks (after holds b d ts) ms
  after_marks d [] b ms = refl
  after_marks d (t ∷ ts) b ms = ap (λ c. after holds c d ts) (entered_marks b d t ms) ∙ after_marks d ts (entered holds b d t) ms

  after_keeps : (d : ℕ) (ts : List (List Bytes)) (b : BookMeaning) → (after holds b d ts).marks ≡ b.marks
  after_keeps d ts b = ap (λ c. c.marks) (after_marks d ts b b.marks)

  after_mark : (m : MarkHeld) (d : ℕ) (ts : List (List Bytes)) (b : BookMeaning) → after holds (set_mark m b) d ts ≡ set_mark m (after holds b d ts)
  after_mark m d ts b = after_marks d ts b (place mark_first m b.marks) ∙ ap (λ ms. with_marks (after holds b d ts) (place mark_first m ms)) (sym (after_keeps d ts b))

  -- a post, by its gate and its verdicts
  abbrev with_verdicts : Result Opening ℕ → List Verdict → BookMeaning → Handed → BookMeaning
  with_verdicts (Err c) vs b x = b
  with_verdicts (Ok o) vs b x = set_mark (mark_under o.id (counts_of vs)) (after holds b x.day (transactions_of x.file))

  is_with : (g : Result Opening ℕ) (b : BookMeaning) (x : Handed) → post_book_at holds b x g ≡ with_verdicts g (posted holds b x) b x
  is_with (Err c) b x = refl
  is_with (Ok o) b x = refl

  not_same : (p q : Pair) → (p ≡ q → ⊥) → same_pair p q ≡ false
  not_same p q h = go (same_pair p q) refl
    where
      go : (v : Bool) → same_pair p q ≡ v → same_pair p q ≡ false
      go true e = absurd (h (same_pair_is p q e))
      go false e = e

  abbrev jointly : List (List Bytes) → List Pair
  jointly ts = flat_map (pairs_in holds) ts

  apart_one : (t : List Bytes) (us : List (List Bytes)) → ((p : Pair) → Contains (pairs_in holds t) p → Contains (jointly us) p → ⊥) → All (Apart holds t) us
  apart_one t [] h = All-nil (Apart holds t)
  apart_one t (u ∷ us) h = All-cons (Apart holds t) u us (all_has (λ q. All (λ p. same_pair p q ≡ false) (pairs_in holds t)) (pairs_in holds u) (λ q k. all_has (λ p. same_pair p q ≡ false) (pairs_in holds t) (λ p j. not_same p q (λ e. h q (rw e at j) (Contains-append_left (pairs_in holds u) (jointly us) q k))))) (apart_one t us (λ p j k. h p j (Contains-append_right (pairs_in holds u) (jointly us) p k)))

  apart_all : (ts us : List (List Bytes)) → ((p : Pair) → Contains (jointly ts) p → Contains (jointly us) p → ⊥) → All (λ t. All (Apart holds t) us) ts
  apart_all [] us h = All-nil (λ t. All (Apart holds t) us)
  apart_all (t ∷ ts) us h =
      All-cons (λ t. All (Apart holds t) us) t ts (apart_one t us (λ p j k. h p (Contains-append_left (pairs_in holds t) (jointly ts) p j) k)) (apart_all ts us (λ p j k. h p (Contains-append_right (pairs_in holds t) (jointly ts) p j) k))

  not_named : (i j : Bytes) → (i ≡ j → ⊥) → bytes_eq i j ≡ false
  not_named i j h = go (bytes_eq i j) refl
    where
      go : (v : Bool) → bytes_eq i j ≡ v → bytes_eq i j ≡ false
      go true e = absurd (h (same_is i j e))
      go false e = e

  both_ways_with : (b : BookMeaning) (x y : Handed) (g h : Result Opening ℕ) (vs ws : List Verdict) → post_gate b x ≡ g → post_gate b y ≡ h → Unrelated holds x.file y.file → Enough b (x.file ∷ y.file ∷ []) →
      with_verdicts h ws (with_verdicts g vs b x) y ≡ with_verdicts g vs (with_verdicts h ws b y) x
  both_ways_with b x y (Err c) h vs ws xs ys apart enough = refl
  both_ways_with b x y (Ok i) (Err c) vs ws xs ys apart enough = refl
  both_ways_with b x y (Ok i) (Ok j) vs ws xs ys apart enough =
      let X = transactions_of x.file in let Y = transactions_of y.file in
      let ox = gate_opens b x i xs in let oy = gate_opens b y j ys in
      let ex = opened_has x.file i ox in let ey = opened_has y.file j oy in
      let e = enough.entries in let l = enough.lines in
      let nx : transaction_count x.file ≡ length X = ap length ex in
      let ny : transaction_count y.file ≡ length Y = ap length ey in
      let lx : detail_count x.file ≡ sum_of (many is_detail) X = ap (sum_of (many is_detail)) ex in
      let ly : detail_count y.file ≡ sum_of (many is_detail) Y = ap (sum_of (many is_detail)) ey in
      let m = mark_under i.id (counts_of vs) in let n = mark_under j.id (counts_of ws) in
      let clear : (p : Pair) → Contains (jointly X) p → Contains (jointly Y) p → ⊥ = λ p hx hy. apart.pairs p (subst (λ ts. Contains (jointly ts) p) (sym ex) hx) (subst (λ ts. Contains (jointly ts) p) (sym ey) hy) in
      let swapped = list_past holds x.day y.day X Y b (apart_all X Y clear) (record { entries = omega arith; lines = omega arith }) in
      ap (set_mark n) (after_mark m y.day Y (after holds b x.day X) ∙ ap (set_mark m) swapped)
      ∙ ap (with_marks (after holds (after holds b y.day Y) x.day X)) (sym (marks_swap m n (not_named i.id j.id (apart.names i j ox oy)) (after holds (after holds b y.day Y) x.day X).marks))
      ∙ sym (ap (set_mark m) (after_mark n x.day X (after holds b y.day Y)))

  flipped : (x y : Handed) → Unrelated holds x.file y.file → Unrelated holds y.file x.file
  flipped x y h = record { names = λ o u a c e. h.names u o c a (sym e); pairs = λ p a c. h.pairs p c a }

  enough_flipped : (b : BookMeaning) (x y : Handed) → Enough b (x.file ∷ y.file ∷ []) → Enough b (y.file ∷ x.file ∷ [])
  enough_flipped b x y h = let e = h.entries in let l = h.lines in let m = h.marks in record { entries = omega arith; lines = omega arith; marks = omega arith }

  -- the second post as the verdicts that it had alone
  second_with : (b : BookMeaning) (x y : Handed) → Unrelated holds x.file y.file → Enough b (x.file ∷ y.file ∷ []) → (g : Result Opening ℕ) → post_gate b y ≡ g → (c : BookMeaning) →
      with_verdicts g (posted holds (post_book holds b x) y) c y ≡ with_verdicts g (posted holds b y) c y
  second_with b x y apart enough (Err k) e c = refl
  second_with b x y apart enough (Ok o) e c = ap (λ vs. with_verdicts (Ok o) vs c y) (second_posted holds b x y apart enough (opened_has y.file o (gate_opens b y o e)))

  half : (b : BookMeaning) (x y : Handed) → Unrelated holds x.file y.file → Enough b (x.file ∷ y.file ∷ []) →
      post_book holds (post_book holds b x) y ≡ with_verdicts (post_gate b y) (posted holds b y) (with_verdicts (post_gate b x) (posted holds b x) b x) y
  half b x y apart enough =
      is_with (post_gate (post_book holds b x) y) (post_book holds b x) y
      ∙ ap (λ g. with_verdicts g (posted holds (post_book holds b x) y) (post_book holds b x) y) (second_gate holds b x y apart enough)
      ∙ second_with b x y apart enough (post_gate b y) refl (post_book holds b x)
      ∙ ap (λ c. with_verdicts (post_gate b y) (posted holds b y) c y) (is_with (post_gate b x) b x)

  pub same_book : (b : BookMeaning) (x y : Handed) → Unrelated holds x.file y.file → Enough b (x.file ∷ y.file ∷ []) → post_book holds (post_book holds b x) y ≡ post_book holds (post_book holds b y) x
  same_book b x y apart enough =
      half b x y apart enough
      ∙ both_ways_with b x y (post_gate b x) (post_gate b y) (posted holds b x) (posted holds b y) refl refl apart enough
      ∙ sym (half b y x (flipped x y apart) (enough_flipped b x y enough))

  -- calls that are no posts change nothing
  called_none : (b : BookMeaning) (c : Call) → IsNoPost c → called holds b c ≡ b
  called_none b (checking x) h = refl
  called_none b (posting x) h = absurd h
  called_none b (showing p) h = refl
  called_none b (seeking o) h = refl
  called_none b counting h = refl

  pub run_none : (cs : List Call) (b : BookMeaning) → All IsNoPost cs → run holds b cs ≡ b
  run_none [] b h = refl
  run_none (c ∷ cs) b h = ap (λ x. run holds x cs) (called_none b c (All-head IsNoPost c cs h)) ∙ run_none cs b (All-tail IsNoPost c cs h)

  pub run_append : (cs ds : List Call) (b : BookMeaning) → run holds b (cs ++ ds) ≡ run holds (run holds b cs) ds
  run_append [] ds b = refl
  run_append (c ∷ cs) ds b = run_append cs ds (called holds b c)

  in_order_law : (b : BookMeaning) (x y : Handed) (cs : List Call) → All IsNoPost cs → run holds b (in_order x cs y) ≡ post_book holds (post_book holds b x) y
  in_order_law b x y cs h = run_append cs (posting y ∷ []) (post_book holds b x) ∙ ap (λ c. post_book holds c y) (run_none cs (post_book holds b x) h)

pub either_order : EitherOrder
either_order holds b x y cs ds hc hd apart enough =
    let whole = in_order_law holds b x y cs hc ∙ same_book holds b x y apart enough ∙ sym (in_order_law holds b y x ds hd) in
    record {
      answer = sym (ap (λ c. post_answer holds c x) (run_none holds ds (post_book holds b y) hd) ∙ second_answer holds b y x (flipped holds x y apart) (enough_flipped holds b x y enough));
      other_answer = ap (λ c. post_answer holds c y) (run_none holds cs (post_book holds b x) hc) ∙ second_answer holds b x y apart enough;
      book = whole;
      shown = λ p. ap (λ c. show_answer c p) whole;
      counted = ap count_answer whole;
    }
