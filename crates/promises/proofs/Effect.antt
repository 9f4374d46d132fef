-- What an accepted transaction does, pair by pair.
use Rattle.std.proofs.Common.{◌≡◌, ℕ, suc, Bool, true, false, cond, ◌&&◌, eqb, List, [], ◌∷◌, Some, None, Option, sym, refl, ap, ◌∙◌, arith}
use mathlib.Core.Path.{fun_ext}
use Rattle.std.specs.Option.{option_map}
use Rattle.std.proofs.lemmas.Bool.{and_parts, eqb-true, both_ways}
use Rattle.layout.specs.declared.pair.Pair.{Pair}
use Rattle.layout.specs.declared.set_id.SetId.{SetId}
use Rattle.book.specs.Lists.{find, place, change}
use Rattle.book.specs.Meaning.{BookMeaning, EntryHeld, LineHeld, same_pair, before_pair, under, under_line, entry_first, line_first, fresh, line_under}
use Rattle.book.specs.Actions.{enter, less, with_lines}
use Rattle.transaction.specs.declared.header.Transaction.{Transaction}
use Rattle.transaction.specs.Details.{DetailRead}
use Rattle.transaction.specs.Headers.{set_id_of, total_of, own_pair}
use Rattle.promises.specs.Held.{Held, at}
use Rattle.promises.specs.Own.{lines_of}
use Rattle.promises.specs.Entering.{entry_of, line_of, enter_lines, enter_own, take_at, taken_from, apply}
use Rattle.promises.proofs.Tables.{same_pair_self, same_pair_is, before_pair_self, find_place, find_change, find_changed}

-- the lines put among others, one by one
abbrev pub lines_put : Pair → SetId → ℕ → List DetailRead → List LineHeld → List LineHeld
lines_put p set n [] ls = ls
lines_put p set n (d ∷ ds) ls = lines_put p set (suc n) ds (place line_first (line_under p n (line_of set d)) ls)

lines_are : (p : Pair) (set : SetId) (ds : List DetailRead) (n : ℕ) (b : BookMeaning) → enter_lines p set n ds b ≡ with_lines b (lines_put p set n ds b.lines)
lines_are p set [] n b = refl
lines_are p set (d ∷ ds) n b = lines_are p set ds (suc n) (with_lines b (place line_first (line_under p n (line_of set d)) b.lines))

-- the own entry and lines, as lists
abbrev pub put_own : ℕ → Transaction → List DetailRead → Option Pair → BookMeaning → BookMeaning
put_own day t ds None b = b
put_own day t ds (Some p) b = with_lines (enter (fresh p (entry_of day t)) b) (lines_put p (set_id_of t) 1 (lines_of t ds) b.lines)

pub own_is : (day : ℕ) (t : Transaction) (ds : List DetailRead) (o : Option Pair) (b : BookMeaning) → enter_own day t ds o b ≡ put_own day t ds o b
own_is day t ds None b = refl
own_is day t ds (Some p) b = lines_are p (set_id_of t) (lines_of t ds) 1 (enter (fresh p (entry_of day t)) b)

pub apply_is : (day : ℕ) (t : Transaction) (ds : List DetailRead) (b : BookMeaning) → apply day t ds b ≡ take_at (total_of t) (taken_from t) (put_own day t ds (own_pair t) b)
apply_is day t ds b = ap (take_at (total_of t) (taken_from t)) (own_is day t ds (own_pair t) b)

-- an entry or a line that stands before another is under another key
before_apart : (p q : Pair) → before_pair p q ≡ true → same_pair q p ≡ true → ⊥
before_apart p q h e =
    let s = same_pair_is q p e in let k = before_pair_self p in both_ways (before_pair p q) (ap (λ r. before_pair p r) s ∙ k) h

apart_from : (r p q : Pair) → (same_pair q p ≡ true → ⊥) → same_pair q r ≡ true → same_pair p r ≡ false
apart_from r p q never e = go (same_pair p r) refl
  where
    go : (v : Bool) → same_pair p r ≡ v → same_pair p r ≡ false
    go true f = absurd (never (let a = same_pair_is q r e in let b = same_pair_is p r f in let c = same_pair_self r in cc))
    go false f = f

pub entry_placed : (e : EntryHeld) (q : Pair) (es : List EntryHeld) → find (under q) (place entry_first e es) ≡ cond (same_pair e.pair q) (Some e) (find (under q) es)
entry_placed e q es = find_place entry_first (under q) e (λ y f t. apart_from q y.pair e.pair (before_apart y.pair e.pair f) t) es

line_apart : (q : Pair) (n : ℕ) (l y : LineHeld) → line_first y l ≡ true → under_line q n l ≡ true → under_line q n y ≡ false
line_apart q n l y f t = go (under_line q n y) refl
  where
    go : (v : Bool) → under_line q n y ≡ v → under_line q n y ≡ false
    go true u =
        let a = and_parts (same_pair l.pair q) (eqb l.number n) t in
        let b = and_parts (same_pair y.pair q) (eqb y.number n) u in
        let p : y.pair ≡ l.pair = same_pair_is y.pair q b.0 ∙ sym (same_pair_is l.pair q a.0) in
        let m : y.number ≡ l.number = eqb-true y.number n b.1 ∙ sym (eqb-true l.number n a.1) in
        let s : before_pair y.pair l.pair ≡ false = ap (λ r. before_pair r l.pair) p ∙ before_pair_self l.pair in
        grind (arith, s, m, f)
    go false u = u

pub line_placed : (l : LineHeld) (q : Pair) (n : ℕ) (ls : List LineHeld) → find (under_line q n) (place line_first l ls) ≡ cond (under_line q n l) (Some l) (find (under_line q n) ls)
line_placed l q n ls = find_place line_first (under_line q n) l (line_apart q n l) ls

-- the lines of one pair, after a transaction's own were put
unfoldable pub put_lines : Pair → SetId → ℕ → List DetailRead → (ℕ → Option LineHeld) → ℕ → Option LineHeld
put_lines p set k [] f n = f n
put_lines p set k (d ∷ ds) f n = put_lines p set (suc k) ds (λ m. cond (eqb k m) (Some (line_under p k (line_of set d))) (f m)) n

pub lines_put_law : (p q : Pair) (set : SetId) (ds : List DetailRead) (k : ℕ) (ls : List LineHeld) (n : ℕ) → find (under_line q n) (lines_put p set k ds ls) ≡ cond (same_pair p q) (put_lines p set k ds (λ m. find (under_line q m) ls) n) (find (under_line q n) ls)
unfolding put_lines
lines_put_law p q set [] k ls n = go (same_pair p q)
  where
    go : (v : Bool) → find (under_line q n) ls ≡ cond v (find (under_line q n) ls) (find (under_line q n) ls)
    go true = refl
    go false = refl
lines_put_law p q set (d ∷ ds) k ls n =
    lines_put_law p q set ds (suc k) (place line_first (line_under p k (line_of set d)) ls) n
    ∙ go (same_pair p q) (λ m. line_placed (line_under p k (line_of set d)) q m ls)
  where
    go : (v : Bool) → ((m : ℕ) → find (under_line q m) (place line_first (line_under p k (line_of set d)) ls) ≡ cond (v && eqb k m) (Some (line_under p k (line_of set d))) (find (under_line q m) ls))
        → cond v (put_lines p set (suc k) ds (λ m. find (under_line q m) (place line_first (line_under p k (line_of set d)) ls)) n) (find (under_line q n) (place line_first (line_under p k (line_of set d)) ls))
        ≡ cond v (put_lines p set (suc k) ds (λ m. cond (eqb k m) (Some (line_under p k (line_of set d))) (find (under_line q m) ls)) n) (find (under_line q n) ls)
    go true h = ap (λ f. put_lines p set (suc k) ds f n) (fun_ext h)
    go false h = h n

-- what is held under q, after the own entry and lines were entered, and after an amount was taken from o
unfoldable pub own_effect : ℕ → Transaction → List DetailRead → Option Pair → Pair → Held → Held
own_effect day t ds None q h = h
own_effect day t ds (Some p) q h = record { entry = cond (same_pair p q) (Some (fresh p (entry_of day t))) h.entry; line = λ n. cond (same_pair p q) (put_lines p (set_id_of t) 1 (lines_of t ds) h.line n) (h.line n) }

unfoldable pub take_effect : ℕ → Option Pair → Pair → Held → Held
take_effect n None q h = h
take_effect n (Some o) q h = record { entry = cond (same_pair o q) (option_map (less n) h.entry) h.entry; line = h.line }

at_own : (day : ℕ) (t : Transaction) (ds : List DetailRead) (o : Option Pair) (b : BookMeaning) (q : Pair) → at (put_own day t ds o b) q ≡ own_effect day t ds o q (at b q)
unfolding own_effect
at_own day t ds None b q = refl
at_own day t ds (Some p) b q =
    λ i. record { entry = entry_placed (fresh p (entry_of day t)) q b.entries i; line = λ n. lines_put_law p q (set_id_of t) (lines_of t ds) 1 b.lines n i }

entry_changed : (n : ℕ) (o q : Pair) (es : List EntryHeld) → find (under q) (change (under o) (less n) es) ≡ cond (same_pair o q) (option_map (less n) (find (under q) es)) (find (under q) es)
entry_changed n o q es = go (same_pair o q) refl
  where
    go : (v : Bool) → same_pair o q ≡ v → find (under q) (change (under o) (less n) es) ≡ cond v (option_map (less n) (find (under q) es)) (find (under q) es)
    go true e = let k = same_pair_is o q e in rw k (find_changed (under q) (less n) (λ x. refl) es)
    go false e = find_change (under o) (under q) (less n) (λ x. refl) (λ x t. rw (same_pair_is x.pair o t) e) es

at_take : (n : ℕ) (o : Option Pair) (b : BookMeaning) (q : Pair) → at (take_at n o b) q ≡ take_effect n o q (at b q)
unfolding take_effect
at_take n None b q = refl
at_take n (Some o) b q = λ i. record { entry = entry_changed n o q b.entries i; line = λ m. find (under_line q m) b.lines }

unfoldable pub effect : ℕ → Transaction → List DetailRead → Pair → Held → Held
effect day t ds q h = take_effect (total_of t) (taken_from t) q (own_effect day t ds (own_pair t) q h)

pub at_apply : (b : BookMeaning) (day : ℕ) (t : Transaction) (ds : List DetailRead) (q : Pair) → at (apply day t ds b) q ≡ effect day t ds q (at b q)
unfolding effect
at_apply b day t ds q =
    ap (λ c. at c q) (apply_is day t ds b)
    ∙ at_take (total_of t) (taken_from t) (put_own day t ds (own_pair t) b) q
    ∙ ap (take_effect (total_of t) (taken_from t) q) (at_own day t ds (own_pair t) b q)
