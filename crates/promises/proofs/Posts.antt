-- Two unrelated files: the second post is judged as if the first had not been.
use Rattle.std.proofs.Common.{◌≡◌, ℕ, ◌+◌, ◌<◌, ◌≤◌, Bool, true, false, cond, eqb, List, [], ◌∷◌, length, is_some, Some, Ok, Err, sum_by, Result, sym, refl, ap, ◌∙◌, subst, arith}
use Rattle.std.specs.List.{flat_map}
use Rattle.std.specs.Str.{bytes_eq}
use Rattle.std.proofs.lemmas.Bool.{ne_eqb}
use Rattle.octets.specs.Classes.{Bytes}
use Rattle.layout.specs.declared.pair.Pair.{Pair}
use Rattle.file.specs.declared.opening.Opening.{Opening}
use Rattle.file.specs.declared.opening.OpeningFault.{OpeningFault}
use Rattle.file.specs.Openings.{opening, code_of}
use Rattle.file.specs.Records.{is_detail, many, transactions_of}
use Rattle.book.specs.declared.mark.Counts.{Counts}
use Rattle.book.specs.Lists.{find, place}
use Rattle.book.specs.Meaning.{BookMeaning, MarkHeld, under_mark, mark_first, mark_at, free_marks, mark_under, accepted_in, rejected_in}
use Rattle.transaction.specs.declared.verdict.Verdict.{Verdict}
use Rattle.transaction.specs.Checks.{Holds}
use Rattle.transaction.specs.Details.{sum_of}
use Rattle.promises.specs.Held.{at}
use Rattle.promises.specs.Entering.{after}
use Rattle.promises.specs.Packets.{accepted_count, rejected_count}
use Rattle.promises.specs.Calls.{Handed, too_small, post_opened, post_gate, posted, answer_with, post_answer, counts_of, post_book_at, post_book, count_answer}
use Rattle.promises.specs.Related.{pairs_in, opens_to, transactions_in, transaction_count, detail_count, file_pairs, Enough}
use Rattle.promises.specs.EitherOrder.{Unrelated}
use Rattle.promises.proofs.Tables.{same_is, find_place, length_place, sum_by_place}
use Rattle.promises.proofs.Frame.{Within, after_used, after_outside, Room, verdicts_alike}
use Rattle.promises.proofs.Pairs.{among, apart_within, none_among}

pub no_ok : {X Y : Type 0} (x : X) (y : Y) → ◌≡◌ {A = Result X Y} (Err y) (Ok x) → ⊥
no_ok x y h = let z : ◌≡◌ {A = ℕ} 0 1 = cc in absurd (omega arith)

-- marks
mark_found : (m : MarkHeld) (i : Bytes) (ms : List MarkHeld) → (m.file ≡ i → ⊥) → find (under_mark i) (place mark_first m ms) ≡ find (under_mark i) ms
mark_found m i ms other =
    find_place mark_first (under_mark i) m (λ y f t. absurd (other (same_is m.file i t))) ms ∙ go (bytes_eq m.file i) refl
  where
    go : (v : Bool) → bytes_eq m.file i ≡ v → cond v (Some m) (find (under_mark i) ms) ≡ find (under_mark i) ms
    go true e = absurd (other (same_is m.file i e))
    go false e = refl

-- a file that goes on opens so
pub gate_opens : (b : BookMeaning) (x : Handed) (o : Opening) → post_gate b x ≡ Ok o → opening x.file ≡ Ok o
gate_opens b x o h = go (opening x.file) h
  where
    past : (u v w : Bool) (i : Opening) → cond {A = Result Opening ℕ} u (Err 6) (cond v (Err 7) (cond w (Err 8) (Ok i))) ≡ Ok o → ◌≡◌ {A = Result Opening ℕ} (Ok i) (Ok o)
    past true v w i k = absurd (no_ok o 6 k)
    past false true w i k = absurd (no_ok o 7 k)
    past false false true i k = absurd (no_ok o 8 k)
    past false false false i k = k

    again : (i : Opening) → ◌≡◌ {A = Result Opening ℕ} (Ok i) (Ok o) → ◌≡◌ {A = Result Opening OpeningFault} (Ok i) (Ok o)
    again i k = let e : i ≡ o = cc in ap Ok e

    go : (r : Result Opening OpeningFault) → post_opened b x r ≡ Ok o → r ≡ Ok o
    go (Err f) k = absurd (no_ok o (code_of f) k)
    go (Ok i) k = again i (past (is_some (mark_at b i.id)) (too_small x) (eqb (free_marks b) 0) i k)

-- its File ID Number is not marked, and there is a place for its mark
pub gate_free : (b : BookMeaning) (x : Handed) (o : Opening) → post_gate b x ≡ Ok o → (is_some (mark_at b o.id) ≡ false) × (eqb (free_marks b) 0 ≡ false)
gate_free b x o h = go (is_some (mark_at b o.id)) refl (too_small x) (eqb (free_marks b) 0) refl (sym (ap (post_opened b x) (gate_opens b x o h)) ∙ h)
  where
    go : (u : Bool) → is_some (mark_at b o.id) ≡ u → (v w : Bool) → eqb (free_marks b) 0 ≡ w → cond {A = Result Opening ℕ} u (Err 6) (cond v (Err 7) (cond w (Err 8) (Ok o))) ≡ Ok o → (is_some (mark_at b o.id) ≡ false) × (eqb (free_marks b) 0 ≡ false)
    go true e v w f k = absurd (no_ok o 6 k)
    go false e true w f k = absurd (no_ok o 7 k)
    go false e false true f k = absurd (no_ok o 8 k)
    go false e false false f k = (e, f)

-- then its transactions are those that it has
pub opened_has : (file : Bytes) (o : Opening) → opening file ≡ Ok o → transactions_in file ≡ transactions_of file
opened_has file o h = ap (λ r. opens_to r (transactions_of file)) h

-- what a post leaves: outside the file's pairs, and of the places
module _ (holds : Holds) (b : BookMeaning) (x : Handed) where
  post_at : (g : Result Opening ℕ) → post_gate b x ≡ g → (q : Pair) → among q (file_pairs holds x.file) ≡ false → at (post_book_at holds b x g) q ≡ at b q
  post_at (Err c) e q h = refl
  post_at (Ok o) e q h =
      let is = opened_has x.file o (gate_opens b x o e) in
      after_outside holds x.day q (transactions_of x.file) b
      (apart_within holds q (transactions_of x.file) (ap (λ us. among q (flat_map (pairs_in holds) us)) (sym is) ∙ h))

  record Left (c : BookMeaning) : Type 0 where
    entry_places : c.entry_places ≡ b.entry_places
    line_places : c.line_places ≡ b.line_places
    mark_places : c.mark_places ≡ b.mark_places
    entries : length c.entries ≤ length b.entries + transaction_count x.file
    lines : length c.lines ≤ length b.lines + detail_count x.file
    marks : length c.marks ≤ length b.marks + 1

  post_left : (g : Result Opening ℕ) → post_gate b x ≡ g → Left (post_book_at holds b x g)
  post_left (Err c) e = record { entry_places = refl; line_places = refl; mark_places = refl; entries = omega arith; lines = omega arith; marks = omega arith }
  post_left (Ok o) e =
      let is = opened_has x.file o (gate_opens b x o e) in
      let ne : transaction_count x.file ≡ length (transactions_of x.file) = ap length is in
      let nl : detail_count x.file ≡ sum_of (many is_detail) (transactions_of x.file) = ap (sum_of (many is_detail)) is in
      let h = after_used holds x.day (transactions_of x.file) b in
      let he = h.entries_used in let hl = h.lines_used in
      let m = length_place mark_first (mark_under o.id (counts_of (posted holds b x))) (after holds b x.day (transactions_of x.file)).marks in
      let n = ap length h.marks in
      record { entry_places = h.entry_places; line_places = h.line_places; mark_places = h.mark_places; entries = omega arith; lines = omega arith; marks = omega arith }

  pub marks_after : (g : Result Opening ℕ) (i : Bytes) → ((o : Opening) → g ≡ Ok o → o.id ≡ i → ⊥) → mark_at (post_book_at holds b x g) i ≡ mark_at b i
  marks_after (Err c) i other = refl
  marks_after (Ok o) i other =
      mark_found (mark_under o.id (counts_of (posted holds b x))) i (after holds b x.day (transactions_of x.file)).marks (λ e. other o refl e)
      ∙ ap (find (under_mark i)) (after_used holds x.day (transactions_of x.file) b).marks

-- the other file's gate is as it was
opened_same : (b c : BookMeaning) (x : Handed) (r : Result Opening OpeningFault) → ((o : Opening) → r ≡ Ok o → mark_at c o.id ≡ mark_at b o.id) → 0 < free_marks b → 0 < free_marks c → post_opened c x r ≡ post_opened b x r
opened_same b c x (Err f) e h k = refl
opened_same b c x (Ok o) e h k =
    let m = e o refl in
    let u = ne_eqb (free_marks b) 0 (λ z. omega arith) in let v = ne_eqb (free_marks c) 0 (λ z. omega arith) in simp (m, u, v)

-- two files of which neither meets the other, with places enough for both
module _ (holds : Holds) (b : BookMeaning) (x y : Handed) (apart : Unrelated holds x.file y.file) (enough : Enough b (x.file ∷ y.file ∷ [])) where
  abbrev Not-x : Pair → Type 0
  Not-x q = among q (file_pairs holds x.file) ≡ false

  pub second_gate : post_gate (post_book holds b x) y ≡ post_gate b y
  second_gate =
      let u = post_left holds b x (post_gate b x) refl in let um = u.marks in let up = u.mark_places in let e = enough.marks in
      opened_same b (post_book holds b x) y (opening y.file)
      (λ o h. marks_after holds b x (post_gate b x) o.id (λ i k n. apart.names i o (gate_opens b x i k) h n))
      (omega arith) (omega arith)

  alike : (q : Pair) → Not-x q → at b q ≡ at (post_book holds b x) q
  alike q h = sym (post_at holds b x (post_gate b x) refl q h)

  module _ (is : transactions_in y.file ≡ transactions_of y.file) where
    inside : Within holds Not-x (transactions_of y.file)
    inside = subst (Within holds Not-x) is (none_among holds (file_pairs holds x.file) (transactions_in y.file) apart.pairs)

    room_before : Room b (transactions_of y.file)
    room_before =
        let e = enough.entries in let l = enough.lines in
        let ne : transaction_count y.file ≡ length (transactions_of y.file) = ap length is in
        let nl : detail_count y.file ≡ sum_of (many is_detail) (transactions_of y.file) = ap (sum_of (many is_detail)) is in
        record { entries = omega arith; lines = omega arith }

    room_after : Room (post_book holds b x) (transactions_of y.file)
    room_after =
        let e = enough.entries in let l = enough.lines in
        let u = post_left holds b x (post_gate b x) refl in let ue = u.entries in let ul = u.lines in let up = u.entry_places in let uq = u.line_places in
        let ne : transaction_count y.file ≡ length (transactions_of y.file) = ap length is in
        let nl : detail_count y.file ≡ sum_of (many is_detail) (transactions_of y.file) = ap (sum_of (many is_detail)) is in
        record { entries = omega arith; lines = omega arith }

    pub second_posted : posted holds (post_book holds b x) y ≡ posted holds b y
    second_posted = sym (verdicts_alike holds Not-x y.day (transactions_of y.file) b (post_book holds b x) alike inside room_before room_after)

  answer_at : (g : Result Opening ℕ) → post_gate b y ≡ g → answer_with y (posted holds (post_book holds b x) y) g ≡ answer_with y (posted holds b y) g
  answer_at (Err c) e = refl
  answer_at (Ok o) e = ap (λ vs. answer_with y vs (Ok o)) (second_posted (opened_has y.file o (gate_opens b y o e)))

  pub second_answer : post_answer holds (post_book holds b x) y ≡ post_answer holds b y
  second_answer = ap (answer_with y (posted holds (post_book holds b x) y)) second_gate ∙ answer_at (post_gate b y) refl

-- counts: each file adds its own
unfoldable pub added : Result Opening ℕ → List Verdict → Counts → Counts
added (Err c) vs n = n
added (Ok o) vs n = record { accepted = accepted_count vs + n.accepted; rejected = rejected_count vs + n.rejected }

sum_added : (f : MarkHeld → ℕ) (m : MarkHeld) (ms ns : List MarkHeld) → ms ≡ ns → sum_by f (place mark_first m ms) ≡ f m + sum_by f ns
sum_added f m ms ns e = sum_by_place f mark_first m ms ∙ ap (λ k. f m + sum_by f k) e

pub count_posted : (holds : Holds) (g : Result Opening ℕ) (b : BookMeaning) (x : Handed) → count_answer (post_book_at holds b x g) ≡ added g (posted holds b x) (count_answer b)
unfolding added
count_posted holds (Err c) b x = refl
count_posted holds (Ok o) b x =
    let m = mark_under o.id (counts_of (posted holds b x)) in
    let e = (after_used holds x.day (transactions_of x.file) b).marks in
    let ms = (after holds b x.day (transactions_of x.file)).marks in
    let u = sum_added accepted_in m ms b.marks e in
    let v = sum_added rejected_in m ms b.marks e in λ k. record { accepted = u k; rejected = v k }
