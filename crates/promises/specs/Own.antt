-- A transaction where it is to be entered: 66, and 67.
use Rattle.std.specs.Prelude.{ℕ, suc, Bool, true, not, ◌&&◌, List, [], ◌∷◌, length, is_some, Some, None, Option, nat_le}
use Rattle.layout.specs.declared.pair.Pair.{Pair}
use Rattle.layout.specs.declared.set_id.SetId.{SetId}
use Rattle.layout.specs.declared.set_id.SetId.TheVariants.{Payment, Collection, ReceiverAdjustment, SenderAdjustment, ZeroDollar, PostSgl}
use Rattle.book.specs.Meaning.{BookMeaning, LineHeld, free_entries, free_lines}
use Rattle.transaction.specs.declared.header.Transaction.{Transaction}
use Rattle.transaction.specs.Details.{DetailRead}
use Rattle.transaction.specs.Headers.{set_id_of}
use Rattle.transaction.specs.Verdicts.{Check, check}
use Rattle.promises.specs.Held.{Held}

-- the column of the own reference; 840 has none
abbrev pub own_column : SetId → ℕ
own_column Payment = 40
own_column Collection = 40
own_column ReceiverAdjustment = 55
own_column SenderAdjustment = 55
own_column ZeroDollar = 26
own_column PostSgl = 1

-- the details that become lines: none under 835, whose total is 0, and 840 enters nothing
abbrev pub lines_under : SetId → List DetailRead → List DetailRead
lines_under Payment ds = ds
lines_under Collection ds = ds
lines_under ReceiverAdjustment ds = ds
lines_under SenderAdjustment ds = ds
lines_under ZeroDollar ds = []
lines_under PostSgl ds = []

abbrev pub lines_of : Transaction → List DetailRead → List DetailRead
lines_of t ds = lines_under (set_id_of t) ds

-- no line is held with a number that the details would have, the first of them n
abbrev pub no_lines : ℕ → List DetailRead → (ℕ → Option LineHeld) → Bool
no_lines n [] line = true
no_lines n (d ∷ ds) line = not (is_some (line n)) && no_lines (suc n) ds line

-- 66, by what is held under the own pair
abbrev pub own_pair_checks : Transaction → List DetailRead → Held → List Check
own_pair_checks t ds h = check (not (is_some h.entry) && no_lines 1 (lines_of t ds) h.line) 66 0 (own_column (set_id_of t)) ∷ []

-- 67: a place for the entry, and for each line
abbrev pub has_places : BookMeaning → ℕ → Bool
has_places b lines = nat_le 1 (free_entries b) && nat_le lines (free_lines b)

abbrev pub place_checks : BookMeaning → Transaction → List DetailRead → Option Pair → List Check
place_checks b t ds None = []
place_checks b t ds (Some p) = check (has_places b (length (lines_of t ds))) 67 0 1 ∷ []
