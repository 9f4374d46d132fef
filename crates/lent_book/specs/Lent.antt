-- What the three tables of a lent book mean.
-- Assumes nothing.
use Rattle.ordered.specs.Tables.{shown}
use Rattle.ordered.specs.declared.table.Table.{Table}
use Rattle.book.specs.Meaning.{BookMeaning}
use Rattle.book.specs.Rows.{rows_mean}
use Rattle.book.specs.declared.entry_row.EntryRow.{EntryRow}
use Rattle.book.specs.declared.line_row.LineRow.{LineRow}
use Rattle.book.specs.declared.mark_row.MarkRow.{MarkRow}
use Rattle.book.specs.declared.tables.Tables.{Tables}

-- e to m: what the tables' types ask of their rows (each row is Keyed);
-- x to z: what Tables asks of its three tables (each Keeps its kind of row)
module _ {e l m x y z : _} where
  abbrev pub lent_means : Tables (Table EntryRow e) (Table LineRow l) (Table MarkRow m) x y z → BookMeaning
  lent_means t = rows_mean (shown t.entries) (shown t.lines) (shown t.marks) t.entries.places t.lines.places t.marks.places
