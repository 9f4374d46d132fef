-- One transaction of a list replaced: the others get the same verdicts.
use Rattle.std.proofs.Common.{◌≡◌, ℕ, zero, suc, ◌+◌, ◌≤◌, List, [], ◌∷◌, ◌++◌, map, length, sym, refl, ap, ◌∙◌, arith}
use Rattle.std.specs.List.{slice_get}
use Rattle.std.proofs.lemmas.List.{map-append, length-append, length-map}
use Rattle.octets.specs.Classes.{Bytes}
use Rattle.file.specs.Records.{is_detail, many}
use Rattle.book.specs.Meaning.{BookMeaning, free_entries, free_lines}
use Rattle.transaction.specs.declared.verdict.Verdict.{Verdict}
use Rattle.transaction.specs.Checks.{Holds}
use Rattle.transaction.specs.Details.{sum_of}
use Rattle.promises.specs.Judging.{judge}
use Rattle.promises.specs.Entering.{entered, verdicts, after}
use Rattle.promises.proofs.Frame.{after_used, entered_used, Room}

abbrev pub OthersAlike : ℕ → List Verdict → List Verdict → Type 0
OthersAlike place vs ws = (k : ℕ) → (k ≡ place → ⊥) → slice_get vs k ≡ slice_get ws k

others_alike : (vs : List Verdict) (v w : Verdict) (ws : List Verdict) → OthersAlike (length vs) (vs ++ v ∷ ws) (vs ++ w ∷ ws)
others_alike [] v w ws zero other = absurd (other refl)
others_alike [] v w ws (suc k) other = refl
others_alike (x ∷ vs) v w ws zero other = refl
others_alike (x ∷ vs) v w ws (suc k) other = others_alike vs v w ws k (λ e. other (ap suc e))

pub sum_append : {X : Type 0} (f : X → ℕ) (xs ys : List X) → sum_of f (xs ++ ys) ≡ sum_of f xs + sum_of f ys
sum_append f [] ys = omega arith
sum_append f (x ∷ xs) ys = let h = sum_append f xs ys in omega arith

module _ (holds : Holds) (day : ℕ) where
  pub verdicts_append : (ts us : List (List Bytes)) (b : BookMeaning) → verdicts holds b day (ts ++ us) ≡ verdicts holds b day ts ++ verdicts holds (after holds b day ts) day us
  verdicts_append [] us b = refl
  verdicts_append (t ∷ ts) us b = ap (λ vs. judge holds b day t ∷ vs) (verdicts_append ts us (entered holds b day t))

  pub length_verdicts : (ts : List (List Bytes)) (b : BookMeaning) → length (verdicts holds b day ts) ≡ length ts
  length_verdicts [] b = refl
  length_verdicts (t ∷ ts) b = ap suc (length_verdicts ts (entered holds b day t))

  -- room for what stands behind one
  pub room_behind : (b : BookMeaning) (before : List (List Bytes)) (t : List Bytes) (later : List (List Bytes)) → length (before ++ t ∷ later) ≤ free_entries b → sum_of (many is_detail) (before ++ t ∷ later) ≤ free_lines b → Room (entered holds (after holds b day before) day t) later
  room_behind b before t later e l =
      let x = after_used holds day before b in let y = entered_used holds (after holds b day before) day t in
      let n = length-append before (t ∷ later) in let m = sum_append (many is_detail) before (t ∷ later) in
      let xe = x.entries_used in let xl = x.lines_used in let xp = x.entry_places in let xq = x.line_places in
      let ye = y.entries_used in let yl = y.lines_used in let yp = y.entry_places in let yq = y.line_places in
      record { entries = omega arith; lines = omega arith }

  module _ (b : BookMeaning) (before later : List (List Bytes)) (old fresh : List Bytes) where
    pub checked_alike : OthersAlike (length before) (map (judge holds b day) (before ++ old ∷ later)) (map (judge holds b day) (before ++ fresh ∷ later))
    checked_alike k other =
        ap (λ ws. slice_get ws k) (map-append (judge holds b day) before (old ∷ later))
        ∙ others_alike (map (judge holds b day) before) (judge holds b day old) (judge holds b day fresh) (map (judge holds b day) later) k (λ e. other (e ∙ length-map before (judge holds b day)))
        ∙ sym (ap (λ ws. slice_get ws k) (map-append (judge holds b day) before (fresh ∷ later)))
