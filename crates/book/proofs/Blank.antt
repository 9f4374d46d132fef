-- What a read past the end of a table would give.
-- Assumes nothing.
use Rattle.std.proofs.Common.{[]}
use Rattle.layout.specs.declared.set_id.SetId.TheVariants.{Payment}
use Rattle.book.specs.declared.entry_row.EntryRow.{EntryRow}

abbrev pub blank_entry : EntryRow
blank_entry = record { total = 0; left = 0; day = 0; key = []; set_id = Payment }
