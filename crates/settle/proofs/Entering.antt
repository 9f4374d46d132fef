-- What an accepted transaction finds, and what its actions leave.
use Rattle.std.proofs.Common.{◌≡◌, ℕ, suc, ◌+◌, ◌<◌, ◌≤◌, Bool, true, false, cond, not, ◌&&◌, eqb, List, [], ◌∷◌, length, is_some, Some, None, Ok, Err, Option, add-one, sym, refl, ap, ◌∙◌, subst, arith}
use Rattle.std.proofs.lemmas.Bool.{and_parts, and_right, eqb-true, eq-eqb, ne_eqb, le-leb, true≢false}
use Rattle.octets.specs.Classes.{Bytes}
use Rattle.octets.proofs.Columns.{columns_length}
use Rattle.layout.specs.declared.pair.Pair.{Pair}
use Rattle.layout.specs.declared.set_id.SetId.{SetId}
use Rattle.layout.specs.declared.set_id.SetId.TheVariants.{Payment, Collection, ReceiverAdjustment, SenderAdjustment, ZeroDollar, PostSgl}
use Rattle.file.specs.Records.{records}
use Rattle.ordered.specs.Order.{every}
use Rattle.book.specs.declared.fault.BookFault.TheVariants.{Full, AboveOpen}
use Rattle.book.specs.Actions.{enter, enter_line, entering, entering_line, admits, take_open, take_answer_at, unless_refused}
use Rattle.book.specs.Meaning.{BookMeaning, EntryHeld, LineHeld, same_pair, entry_at, line_at, line_first, fresh, line_under, free_lines, free_entries}
use Rattle.transaction.specs.declared.header.Transaction.{Transaction}
use Rattle.transaction.specs.declared.verdict.Verdict.TheVariants.{Accepted}
use Rattle.transaction.specs.Details.{DetailRead, details_of, sender_in, receiver_in}
use Rattle.transaction.specs.Headers.{set_id_of, total_of, own_pair}
use Rattle.transaction.specs.Verdicts.{verdict}
use Rattle.promises.specs.Entering.{entry_of, line_of, enter_lines, enter_own, take_at, taken_from}
use Rattle.promises.specs.Judging.{book_checks}
use Rattle.promises.specs.Own.{lines_under, lines_of, no_lines}
use Rattle.promises.proofs.Effect.{own_is, put_own, entry_placed, line_placed}
use Rattle.promises.proofs.Passing.{own_vacant, taken_open, some_not}
use Rattle.promises.proofs.Tables.{same_pair_is, length_place}
use Rattle.settle.specs.Entering.{has_symbols, Ready, taking_at}
use Rattle.settle.specs.Relied.{is_wide, Relied}

-- something is admitted where nothing is held and a place is free
admitted : {X : Type 0} (held : Option X) (free : ℕ) → held ≡ None → 1 ≤ free → admits held free ≡ Ok tt
admitted held free h k =
    let e : eqb free 0 ≡ false = ne_eqb free 0 (λ z. omega (arith, z)) in
    ap (λ x. admits x free) h ∙ ap (λ v. cond v (Err Full) (Ok tt)) e

is_none : {X : Type 0} (x : Option X) → not (is_some x) ≡ true → x ≡ None
is_none None h = refl
is_none (Some x) h = absurd (true≢false (sym h))

-- ---- lines

-- the number that a line number was made of
pub made : (v : Bool) (m n : ℕ) → Some m ≡ cond v (Some n) None → m ≡ n
made true m n e = cc
made false m n e = absurd (some_not m (sym e))

-- both account symbols stand within a D record of its layout's length
both : (set : SetId) (d : DetailRead) → length (sender_in set d.detail) ≡ 27 → length (receiver_in set d.detail) ≡ 27 → has_symbols set d ≡ true
both set d s r = let a = eq-eqb (length (sender_in set d.detail)) 27 s in let b = eq-eqb (length (receiver_in set d.detail)) 27 r in simp (a, b)

each : {X : Type 0} (t u : X → Bool) → ((x : X) → t x ≡ true → u x ≡ true) → (xs : List X) → every t xs ≡ true → every u xs ≡ true
each t u f [] h = refl
each t u f (x ∷ xs) h = let p = and_parts (t x) (every t xs) h in let a = f x p.0 in let b = each t u f xs p.1 in simp (a, b)

bill : (d : DetailRead) → eqb (length d.detail) 1077 ≡ true → has_symbols Payment d ≡ true
bill d h =
    let l = eqb-true (length d.detail) 1077 h in
    both Payment d (columns_length 984 27 d.detail (omega arith) (omega arith)) (columns_length 921 27 d.detail (omega arith) (omega arith))

adjustment : (d : DetailRead) → eqb (length d.detail) 489 ≡ true → has_symbols ReceiverAdjustment d ≡ true
adjustment d h =
    let l = eqb-true (length d.detail) 489 h in
    both ReceiverAdjustment d (columns_length 100 27 d.detail (omega arith) (omega arith)) (columns_length 135 27 d.detail (omega arith) (omega arith))

with_symbols : (set : SetId) (ds : List DetailRead) → every (is_wide set) ds ≡ true → every (has_symbols set) (lines_under set ds) ≡ true
with_symbols Payment ds h = each (is_wide Payment) (has_symbols Payment) bill ds h
with_symbols Collection ds h = each (is_wide Collection) (has_symbols Collection) bill ds h
with_symbols ReceiverAdjustment ds h = each (is_wide ReceiverAdjustment) (has_symbols ReceiverAdjustment) adjustment ds h
with_symbols SenderAdjustment ds h = each (is_wide SenderAdjustment) (has_symbols SenderAdjustment) adjustment ds h
with_symbols ZeroDollar ds h = refl
with_symbols PostSgl ds h = refl

module _ (b : BookMeaning) (p : Pair) (set : SetId) (n : ℕ) (d : DetailRead) (ds : List DetailRead) (ready : Ready b p set n (d ∷ ds)) where
  parts : (line_at b p n ≡ None) × (no_lines (suc n) ds (λ k. line_at b p k) ≡ true)
  parts = let q = and_parts (not (is_some (line_at b p n))) (no_lines (suc n) ds (λ k. line_at b p k)) ready.vacant in (is_none (line_at b p n) q.0, q.1)

  halves : (has_symbols set d ≡ true) × (every (has_symbols set) ds ≡ true)
  halves = and_parts (has_symbols set d) (every (has_symbols set) ds) ready.symbols

  pub line_admitted : (l : LineHeld) → l.pair ≡ p → l.number ≡ n → entering_line b l ≡ enter_line l b
  line_admitted l e m =
      let h : line_at b l.pair l.number ≡ None = ap (λ q. line_at b q l.number) e ∙ ap (line_at b p) m ∙ parts.0 in
      let r = ready.room in
      ap (λ a. unless_refused a (enter_line l b) b) (admitted (line_at b l.pair l.number) (free_lines b) h (omega arith))

  -- the lines that are still to be entered find nothing but what was there
  same_behind : (l : LineHeld) → l.number ≡ n → (k : ℕ) → n < k → line_at (enter_line l b) p k ≡ line_at b p k
  same_behind l m k h =
      line_placed l p k b.lines
      ∙ ap (λ v. cond v (Some l) (line_at b p k)) (and_right (same_pair l.pair p) (eqb l.number k) (ne_eqb l.number k (λ e. omega (arith, e, m, h))))

  still_none : (l : LineHeld) → l.number ≡ n → (k : ℕ) (xs : List DetailRead) → n < k → no_lines k xs (λ j. line_at (enter_line l b) p j) ≡ no_lines k xs (λ j. line_at b p j)
  still_none l m k [] h = refl
  still_none l m k (x ∷ xs) h =
      ap (λ v. not (is_some v) && no_lines (suc k) xs (λ j. line_at (enter_line l b) p j)) (same_behind l m k h)
      ∙ ap (λ v. not (is_some (line_at b p k)) && v) (still_none l m (suc k) xs (omega arith))

  pub next_ready : (l : LineHeld) → l.number ≡ n → Ready (enter_line l b) p set (suc n) ds
  next_ready l m =
      let e = ready.last in let r = ready.room in
      let u = length_place line_first l b.lines in
      record { first = omega arith; last = omega arith; vacant = still_none l m (suc n) ds (omega arith) ∙ parts.1; room = omega arith; symbols = halves.1 }

-- the details that are left may be entered, the next with number n; entered, they give the whole
pub record Left (b : BookMeaning) (p : Pair) (set : SetId) (n : ℕ) (ds : List DetailRead) (whole : BookMeaning) : Type 0 where
  pub ready : Ready b p set n ds
  pub gives : enter_lines p set n ds b ≡ whole

module _ (b : BookMeaning) (p : Pair) (set : SetId) (n : ℕ) (ds : List DetailRead) (whole : BookMeaning) (left : Left b p set n ds whole) where
  module _ (d : DetailRead) (rest : List DetailRead) (m : ℕ) (is : ds ≡ d ∷ rest) (next : m ≡ n) where
    ready_now : Ready b p set m (d ∷ rest)
    ready_now = subst (λ k. Ready b p set k (d ∷ rest)) (sym next) (subst (Ready b p set n) is left.ready)

    pub left_more : (n' : ℕ) (b' : BookMeaning) → n' ≡ m + 1 → b' ≡ enter_line (line_under p m (line_of set d)) b → Left b' p set n' rest whole
    left_more n' b' en eb =
        let one = line_under p m (line_of set d) in
        let s : n' ≡ suc m = en ∙ add-one m in
        let r : Ready (enter_line one b) p set (suc m) rest = next_ready b p set m d rest ready_now one refl in
        record {
          ready = subst (λ k. Ready b' p set k rest) (sym s) (subst (λ x. Ready x p set (suc m) rest) (sym eb) r);
          gives = ap (λ k. enter_lines p set k rest b') s
              ∙ ap (enter_lines p set (suc m) rest) eb
              ∙ ap (λ k. enter_lines p set k (d ∷ rest) b) next
              ∙ ap (λ xs. enter_lines p set n xs b) (sym is)
              ∙ left.gives;
        }

-- ---- an accepted transaction

module _ (b : BookMeaning) (day : ℕ) (t : Transaction) (ds : List DetailRead) (ok : verdict (book_checks b day t ds) ≡ Accepted) where
  module _ (p : Pair) (own : own_pair t ≡ Some p) where
    pub entry_admitted : entering b (fresh p (entry_of day t)) ≡ enter (fresh p (entry_of day t)) b
    entry_admitted =
        let v = own_vacant b day t ds ok p own in
        ap (λ a. unless_refused a (enter (fresh p (entry_of day t)) b) b) (admitted (entry_at b p) (free_entries b) v.entry v.entry_place)

    pub lines_ready : length (lines_of t ds) ≤ 1000 → every (is_wide (set_id_of t)) ds ≡ true → Ready (enter (fresh p (entry_of day t)) b) p (set_id_of t) 1 (lines_of t ds)
    lines_ready few wide =
        let v = own_vacant b day t ds ok p own in
        record { first = omega arith; last = omega arith; vacant = v.lines; room = v.line_places; symbols = with_symbols (set_id_of t) ds wide }

  -- the original still has what it had
  original_kept : (o : Pair) (e : EntryHeld) → entry_at b o ≡ Some e → (q : Option Pair) → own_pair t ≡ q → entry_at (put_own day t ds q b) o ≡ Some e
  original_kept o e h None own = h
  original_kept o e h (Some p) own = entry_placed (fresh p (entry_of day t)) o b.entries ∙ go (same_pair p o) refl
    where
      go : (v : Bool) → same_pair p o ≡ v → cond v (Some (fresh p (entry_of day t))) (entry_at b o) ≡ Some e
      go false k = h
      go true k = absurd (some_not e (sym (own_vacant b day t ds ok p own).entry ∙ ap (entry_at b) (same_pair_is p o k) ∙ h))

  pub take_done : (q : Option Pair) → taken_from t ≡ q → taking_at (total_of t) q (enter_own day t ds (own_pair t) b) ≡ take_at (total_of t) q (enter_own day t ds (own_pair t) b)
  take_done None h = refl
  take_done (Some o) h =
      let w = taken_open b day t ds ok o h in
      let after = enter_own day t ds (own_pair t) b in
      let e : entry_at after o ≡ Some w.entry = ap (λ x. entry_at x o) (own_is day t ds (own_pair t) b) ∙ original_kept o w.entry w.stands (own_pair t) refl in
      let l = le-leb (total_of t) w.entry.open_amount w.enough in
      ap (λ x. unless_refused (take_answer_at x (total_of t)) (take_open o (total_of t) after) after) e
      ∙ ap (λ v. unless_refused (cond v (Ok tt) (Err AboveOpen)) (take_open o (total_of t) after) after) l

lines_fewer : (set : SetId) (ds : List DetailRead) → length (lines_under set ds) ≤ length ds
lines_fewer Payment ds = omega arith
lines_fewer Collection ds = omega arith
lines_fewer ReceiverAdjustment ds = omega arith
lines_fewer SenderAdjustment ds = omega arith
lines_fewer ZeroDollar ds = omega arith
lines_fewer PostSgl ds = omega arith

-- the own entry is entered in c, and the lines in e
module _ (b : BookMeaning) (day : ℕ) (t : Transaction) (details : ℕ) (body : Bytes) (ok : verdict (book_checks b day t (details_of (records body))) ≡ Accepted) (p : Pair) (own : Some p ≡ own_pair t) (c : BookMeaning) (is : c ≡ entering b (fresh p (entry_of day t))) where
  abbrev ds : List DetailRead
  ds = details_of (records body)

  c_is : c ≡ enter (fresh p (entry_of day t)) b
  c_is = is ∙ entry_admitted b day t ds ok p (sym own)

  pub own_ready : Relied t details body → Ready c p (set_id_of t) 1 (lines_of t ds)
  own_ready r =
      let f = lines_fewer (set_id_of t) ds in let n = r.count in let m = r.few in
      subst (λ x. Ready x p (set_id_of t) 1 (lines_of t ds)) (sym c_is) (lines_ready b day t ds ok p (sym own) (omega arith) r.wide)

  pub own_entered : (e : BookMeaning) → e ≡ enter_lines p (set_id_of t) 1 (lines_of t ds) c → e ≡ enter_own day t ds (own_pair t) b
  own_entered e h =
      h
      ∙ ap (enter_lines p (set_id_of t) 1 (lines_of t ds)) c_is
      ∙ ap (λ o. enter_own day t ds o b) own
