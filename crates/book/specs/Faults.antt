-- The numbers of the book's refusals, and what a table's refusals are as the book's.
-- Assumes nothing.
use Rattle.std.specs.Prelude.{ℕ}
use Rattle.ordered.specs.declared.refusal.Refusal.{Refusal}
use Rattle.ordered.specs.declared.refusal.Refusal.TheVariants as table
use Rattle.book.specs.declared.fault.BookFault.{BookFault}
use Rattle.book.specs.declared.fault.BookFault.TheVariants.{Held, Full, Absent, AboveOpen, CountTooLarge}

abbrev pub fault_number : BookFault → ℕ
fault_number Held = 14
fault_number Full = 15
fault_number Absent = 16
fault_number AboveOpen = 17
fault_number CountTooLarge = 18

abbrev pub fault_of : Refusal → BookFault
fault_of table.Held = Held
fault_of table.Full = Full
