-- The four actions on a book: what each answers, and the book afterwards. Refused, an action leaves the book as it is.
-- Assumes nothing.
use Rattle.std.specs.Prelude.{ℕ, ◌-◌, Bool, cond, ◌&&◌, List, is_some, Some, None, Ok, Err, Option, Result, ◌==◌, nat_le}
use Rattle.layout.specs.declared.pair.Pair.{Pair}
use Rattle.book.specs.declared.fault.BookFault.{BookFault}
use Rattle.book.specs.declared.fault.BookFault.TheVariants.{Held, Full, Absent, AboveOpen, CountTooLarge}
use Rattle.book.specs.Lists.{place, change}
use Rattle.book.specs.Meaning.{EntryHeld, LineHeld, MarkHeld, BookMeaning, entry_at, line_at, mark_at, free_entries, free_lines, free_marks, under, entry_first, line_first, mark_first}

abbrev pub Answer : Type 0
Answer = Result Unit BookFault

-- ---- what an action does where it is not refused

abbrev pub with_entries : BookMeaning → List EntryHeld → BookMeaning
with_entries b es = record { entries = es; lines = b.lines; marks = b.marks; entry_places = b.entry_places; line_places = b.line_places; mark_places = b.mark_places }

abbrev pub with_lines : BookMeaning → List LineHeld → BookMeaning
with_lines b ls = record { entries = b.entries; lines = ls; marks = b.marks; entry_places = b.entry_places; line_places = b.line_places; mark_places = b.mark_places }

abbrev pub with_marks : BookMeaning → List MarkHeld → BookMeaning
with_marks b ms = record { entries = b.entries; lines = b.lines; marks = ms; entry_places = b.entry_places; line_places = b.line_places; mark_places = b.mark_places }

abbrev pub enter : EntryHeld → BookMeaning → BookMeaning
enter e b = with_entries b (place entry_first e b.entries)

abbrev pub enter_line : LineHeld → BookMeaning → BookMeaning
enter_line l b = with_lines b (place line_first l b.lines)

-- an entry with n less of its open amount
abbrev pub less : ℕ → EntryHeld → EntryHeld
less n e = record { pair = e.pair; set_id = e.set_id; day = e.day; total = e.total; open_amount = e.open_amount - n }

abbrev pub take_open : Pair → ℕ → BookMeaning → BookMeaning
take_open p n b = with_entries b (change (under p) (less n) b.entries)

abbrev pub set_mark : MarkHeld → BookMeaning → BookMeaning
set_mark m b = with_marks b (place mark_first m b.marks)

-- ---- what an action answers

-- something is entered unless its key is held, or no place is free
abbrev pub admits : {X : Type 0} → Option X → ℕ → Answer
admits held free = cond (is_some held) (Err Held) (cond (free == 0) (Err Full) (Ok tt))

abbrev pub entry_answer : BookMeaning → EntryHeld → Answer
entry_answer b e = admits (entry_at b e.pair) (free_entries b)

abbrev pub line_answer : BookMeaning → LineHeld → Answer
line_answer b l = admits (line_at b l.pair l.number) (free_lines b)

abbrev pub take_answer_at : Option EntryHeld → ℕ → Answer
take_answer_at None n = Err Absent
take_answer_at (Some e) n = cond (nat_le n e.open_amount) (Ok tt) (Err AboveOpen)

abbrev pub take_answer : BookMeaning → Pair → ℕ → Answer
take_answer b p n = take_answer_at (entry_at b p) n

-- the most that a mark may count
abbrev pub count_limit : ℕ
count_limit = 16777216

abbrev pub counts_fit : MarkHeld → Bool
counts_fit m = nat_le m.accepted count_limit && nat_le m.rejected count_limit

-- the second test where the first passes
abbrev pub and_then : Answer → Answer → Answer
and_then (Ok x) next = next
and_then (Err f) next = Err f

abbrev pub mark_answer : BookMeaning → MarkHeld → Answer
mark_answer b m = and_then (admits (mark_at b m.file) (free_marks b)) (cond (counts_fit m) (Ok tt) (Err CountTooLarge))

-- ---- the book afterwards

abbrev pub unless_refused : Answer → BookMeaning → BookMeaning → BookMeaning
unless_refused (Ok x) done left = done
unless_refused (Err f) done left = left

abbrev pub entering : BookMeaning → EntryHeld → BookMeaning
entering b e = unless_refused (entry_answer b e) (enter e b) b

abbrev pub entering_line : BookMeaning → LineHeld → BookMeaning
entering_line b l = unless_refused (line_answer b l) (enter_line l b) b

abbrev pub taking : BookMeaning → Pair → ℕ → BookMeaning
taking b p n = unless_refused (take_answer b p n) (take_open p n b) b

abbrev pub marking : BookMeaning → MarkHeld → BookMeaning
marking b m = unless_refused (mark_answer b m) (set_mark m b) b
