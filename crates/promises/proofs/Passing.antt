-- What an accepted transaction found in the book: nothing under its own pair, places enough, and an original with enough open.
use Rattle.std.proofs.Common.{◌≡◌, ℕ, ◌≤◌, Bool, true, false, cond, not, ◌&&◌, ◌||◌, leb, List, [], ◌∷◌, ◌++◌, length, is_some, Some, None, Option, sym, refl, subst, arith}
use Rattle.std.specs.List.{flat_map}
use Rattle.std.proofs.lemmas.Bool.{leb-true, and_parts, true≢false}
use Rattle.layout.specs.declared.pair.Pair.{Pair}
use Rattle.book.specs.Meaning.{BookMeaning, EntryHeld, entry_at, line_at, free_entries, free_lines}
use Rattle.transaction.specs.declared.header.Transaction.{Transaction}
use Rattle.transaction.specs.declared.verdict.Verdict.TheVariants.{Accepted}
use Rattle.transaction.specs.Details.{DetailRead}
use Rattle.transaction.specs.Headers.{set_id_of, total_of, own_pair, original_pair}
use Rattle.transaction.specs.Verdicts.{Check, check, verdict}
use Rattle.promises.specs.Held.{at, checks_at}
use Rattle.promises.specs.Against.{adjusts, original_column, latest, serves, detail_checks, entry_checks, original_checks}
use Rattle.promises.specs.Own.{own_column, lines_of, no_lines, own_pair_checks, has_places, place_checks}
use Rattle.promises.specs.Judging.{book_checks}
use Rattle.promises.specs.Entering.{taken_from}
use Rattle.promises.proofs.Judged.{accepted_left, accepted_right, accepted_first, accepted_rest}

pub some_not : {X : Type 0} (x : X) → ◌≡◌ {A = Option X} None (Some x) → ⊥
some_not x h = let z : ◌≡◌ {A = ℕ} 0 1 = cc in absurd (omega arith)

is_none : {X : Type 0} (x : Option X) → not (is_some x) ≡ true → x ≡ None
is_none None h = refl
is_none (Some x) h = absurd (true≢false (sym h))

-- the original stands, with enough open
pub record Open (b : BookMeaning) (n : ℕ) (o : Pair) : Type 0 where
  pub entry : EntryHeld
  pub stands : entry_at b o ≡ Some entry
  pub enough : n ≤ entry.open_amount

-- no entry stands under the own pair, and no line that would be entered; and there are places
pub record Vacant (b : BookMeaning) (t : Transaction) (ds : List DetailRead) (p : Pair) : Type 0 where
  pub entry : entry_at b p ≡ None
  pub lines : no_lines 1 (lines_of t ds) (λ n. line_at b p n) ≡ true
  pub entry_place : 1 ≤ free_entries b
  pub line_places : length (lines_of t ds) ≤ free_lines b

module _ (b : BookMeaning) (day : ℕ) (t : Transaction) (ds : List DetailRead) (ok : verdict (book_checks b day t ds) ≡ Accepted) where
  abbrev A : List Check
  A = checks_at b (original_pair t) (original_checks day t ds)

  abbrev B : List Check
  B = checks_at b (own_pair t) (own_pair_checks t ds)

  abbrev C : List Check
  C = place_checks b t ds (own_pair t)

  original_ok : verdict A ≡ Accepted
  original_ok = accepted_left A (B ++ C) ok

  own_ok : verdict B ≡ Accepted
  own_ok = accepted_left B C (accepted_right A (B ++ C) ok)

  places_ok : verdict C ≡ Accepted
  places_ok = accepted_right B C (accepted_right A (B ++ C) ok)

  pub own_vacant : (p : Pair) → own_pair t ≡ Some p → Vacant b t ds p
  own_vacant p e =
      let h : verdict (own_pair_checks t ds (at b p)) ≡ Accepted = subst (λ o. verdict (checks_at b o (own_pair_checks t ds)) ≡ Accepted) e own_ok in
      let k : verdict (place_checks b t ds (Some p)) ≡ Accepted = subst (λ o. verdict (place_checks b t ds o) ≡ Accepted) e places_ok in
      let u = and_parts (not (is_some (entry_at b p))) (no_lines 1 (lines_of t ds) (λ n. line_at b p n)) (accepted_first (check (not (is_some (entry_at b p)) && no_lines 1 (lines_of t ds) (λ n. line_at b p n)) 66 0 (own_column (set_id_of t))) [] h) in
      let v = and_parts (leb 1 (free_entries b)) (leb (length (lines_of t ds)) (free_lines b)) (accepted_first (check (has_places b (length (lines_of t ds))) 67 0 1) [] k) in
      record { entry = is_none (entry_at b p) u.0; lines = u.1; entry_place = leb-true 1 (free_entries b) v.0; line_places = leb-true (length (lines_of t ds)) (free_lines b) v.1 }

  against : (o : Pair) → original_pair t ≡ Some o → verdict (original_checks day t ds (at b o)) ≡ Accepted
  against o e = subst (λ x. verdict (checks_at b x (original_checks day t ds)) ≡ Accepted) e original_ok

  enough_open : (o : Pair) → adjusts (set_id_of t) ≡ true → original_pair t ≡ Some o → Open b (total_of t) o
  enough_open o a e = go (entry_at b o) refl (against o e)
    where
      go : (x : Option EntryHeld) → entry_at b o ≡ x → verdict (check (serves (set_id_of t) x) 61 0 (original_column (set_id_of t)) ∷ entry_checks day t ds (at b o) x) ≡ Accepted → Open b (total_of t) o
      go None f h = absurd (true≢false (sym (accepted_first (check (serves (set_id_of t) None) 61 0 (original_column (set_id_of t))) [] h)))
      go (Some e') f h =
          let last = check (not (adjusts (set_id_of t)) || leb (total_of t) e'.open_amount) 65 0 10 in
          let each = flat_map (detail_checks (set_id_of t) (at b o)) ds in
          let first = check (not (adjusts (set_id_of t)) || leb day (latest e')) 62 0 (original_column (set_id_of t)) in
          let r = accepted_rest (check (serves (set_id_of t) (Some e')) 61 0 (original_column (set_id_of t))) (first ∷ each ++ last ∷ []) h in
          let q = accepted_right each (last ∷ []) (accepted_rest first (each ++ last ∷ []) r) in
          let k : (not (adjusts (set_id_of t)) || leb (total_of t) e'.open_amount) ≡ true = accepted_first last [] q in
          let l : leb (total_of t) e'.open_amount ≡ true = simp a at k in
          record { entry = e'; stands = f; enough = leb-true (total_of t) e'.open_amount l }

  pub taken_open : (o : Pair) → taken_from t ≡ Some o → Open b (total_of t) o
  taken_open o e = go (adjusts (set_id_of t)) refl e
    where
      go : (v : Bool) → adjusts (set_id_of t) ≡ v → cond v (original_pair t) None ≡ Some o → Open b (total_of t) o
      go true a h = enough_open o a h
      go false a h = absurd (some_not o h)
