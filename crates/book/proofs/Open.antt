-- What a search for an open row finds.
-- Assumes nothing.
use Rattle.std.proofs.Common.{◌≡◌, ℕ, ◌<◌, true, false, List, [], ◌∷◌, map, length, Some, None, Option, MatchOption, suc, sym, refl, ap, ◌∙◌, cond, arith}
use Rattle.std.specs.List.{AllWithin, HoldsAt}
use Rattle.octets.specs.Classes.{Bytes}
use Rattle.book.specs.declared.entry_row.EntryRow.{EntryRow}
use Rattle.book.specs.Lists.{find}
use Rattle.book.specs.Meaning.{seekable}
use Rattle.book.specs.Rows.{entry_of, OpenAt}

module _ (office : Bytes) where
  none_open : (xs : List EntryRow) → AllWithin (λ x. false ≡ seekable office (entry_of x)) xs 0 (length xs) → find (seekable office) (map entry_of xs) ≡ None
  none_open [] h = refl
  none_open (x ∷ xs) h =
      ap (λ b. cond b (Some (entry_of x)) (find (seekable office) (map entry_of xs))) (sym (h 0 x (omega arith) (omega arith)))
      ∙ none_open xs (λ k d a b. h (suc k) d (omega arith) (omega arith))

  pub open_at : (xs : List EntryRow) (r : Option ℕ) → MatchOption r (AllWithin (λ x. false ≡ seekable office (entry_of x)) xs 0 (length xs)) (λ i. (i < length xs) × HoldsAt (λ x. true ≡ seekable office (entry_of x)) xs i × AllWithin (λ x. false ≡ seekable office (entry_of x)) xs 0 i) → OpenAt office xs r
  open_at xs None h = none_open xs h
  open_at xs (Some i) h = (h.0, λ d. sym (h.1 d))
