-- What the three tables of a small book mean.
-- Assumes nothing.
use Rattle.ordered.specs.Tables.{listed}
use Rattle.ordered.specs.declared.arrivals.Arrivals.{Arrivals}
use Rattle.book.specs.Meaning.{BookMeaning}
use Rattle.book.specs.Rows.{entry_code, line_code, mark_code, rows_mean}
use Rattle.book.specs.declared.entry_row.EntryRow.{EntryRow}
use Rattle.book.specs.declared.line_row.LineRow.{LineRow}
use Rattle.book.specs.declared.mark_row.MarkRow.{MarkRow}
use Rattle.book.specs.declared.tables.Tables.{Tables}

-- e to m: what the tables' types ask of their rows (each row is Keyed);
-- x to z: what Tables asks of its three tables (each Keeps its kind of row)
module _ {e l m x y z : _} where
  abbrev pub small_means : Tables (Arrivals EntryRow 64 e) (Arrivals LineRow 512 l) (Arrivals MarkRow 16 m) x y z → BookMeaning
  small_means t = rows_mean (listed entry_code t.entries) (listed line_code t.lines) (listed mark_code t.marks) 64 512 16
