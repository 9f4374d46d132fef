-- What every book keeps, whatever calls led to it: each key once and in order, no open amount above its total, line
-- numbers from 1 to 1,000, no count above its limit, and no more held than there are places.
-- Assumes nothing.
use Rattle.std.specs.Prelude.{◌≡◌, ℕ, ◌≤◌, Bool, true, ◌&&◌, length, nat_le}
use Rattle.ordered.specs.Order.{every}
use Rattle.book.specs.Lists.{ascending}
use Rattle.book.specs.Meaning.{EntryHeld, LineHeld, BookMeaning, entry_first, line_first, mark_first}
use Rattle.book.specs.Actions.{counts_fit}

abbrev pub covered : EntryHeld → Bool
covered e = nat_le e.open_amount e.total

abbrev pub is_line_number : ℕ → Bool
is_line_number n = nat_le 1 n && nat_le n 1000

abbrev pub numbered : LineHeld → Bool
numbered l = is_line_number l.number

pub record Stands (b : BookMeaning) : Type 0 where
  pub entries_ascend : ascending entry_first b.entries ≡ true
  pub lines_ascend : ascending line_first b.lines ≡ true
  pub marks_ascend : ascending mark_first b.marks ≡ true
  pub all_covered : every covered b.entries ≡ true
  pub all_numbered : every numbered b.lines ≡ true
  pub all_counts_fit : every counts_fit b.marks ≡ true
  pub entries_fit : length b.entries ≤ b.entry_places
  pub lines_fit : length b.lines ≤ b.line_places
  pub marks_fit : length b.marks ≤ b.mark_places
