-- The meaning of a book: its entries by pair, its lines by pair and number, its marks by File ID Number, each kept in
-- the order of its keys, and three capacities; and the questions asked of it.
-- Assumes nothing.
use Rattle.std.specs.Prelude.{ℕ, ◌-◌, Bool, true, false, ◌&&◌, ◌||◌, List, [], length, sum_by, Option, ◌==◌, nat_lt}
use Rattle.std.specs.Str.{bytes_eq}
use Rattle.octets.specs.Classes.{Bytes}
use Rattle.layout.specs.declared.set_id.SetId.{SetId}
use Rattle.layout.specs.declared.set_id.SetId.TheVariants.{Payment, Collection, ReceiverAdjustment, SenderAdjustment, ZeroDollar, PostSgl}
use Rattle.layout.specs.declared.pair.Pair.{Pair}
use Rattle.book.specs.declared.new_entry.NewEntry.{NewEntry}
use Rattle.book.specs.declared.line.Line.{Line}
use Rattle.book.specs.declared.mark.Mark.{Mark}
use Rattle.book.specs.declared.mark.Counts.{Counts}
use Rattle.book.specs.declared.places.FreePlaces.{FreePlaces}
use Rattle.book.specs.Lists.{before, find}

-- what a book holds: an entry, a line, a mark
pub record EntryHeld : Type 0 where
  pub pair : Pair
  pub set_id : SetId
  pub day : ℕ
  pub total : ℕ
  pub open_amount : ℕ

pub record LineHeld : Type 0 where
  pub pair : Pair
  pub number : ℕ
  pub amount : ℕ
  pub sender : Bytes
  pub receiver : Bytes

pub record MarkHeld : Type 0 where
  pub file : Bytes
  pub accepted : ℕ
  pub rejected : ℕ

pub record BookMeaning : Type 0 where
  pub entries : List EntryHeld
  pub lines : List LineHeld
  pub marks : List MarkHeld
  pub entry_places : ℕ
  pub line_places : ℕ
  pub mark_places : ℕ

-- a new book, with its capacities
abbrev pub empty_book : ℕ → ℕ → ℕ → BookMeaning
empty_book e l m = record { entries = []; lines = []; marks = []; entry_places = e; line_places = l; mark_places = m }

-- ---- keys: by DO symbol, then by reference, then by number

abbrev pub same_pair : Pair → Pair → Bool
same_pair p q = bytes_eq p.office q.office && bytes_eq p.reference q.reference

abbrev pub before_pair : Pair → Pair → Bool
before_pair p q = before p.office q.office || (bytes_eq p.office q.office && before p.reference q.reference)

abbrev pub under : Pair → EntryHeld → Bool
under p e = same_pair e.pair p

abbrev pub under_line : Pair → ℕ → LineHeld → Bool
under_line p n l = same_pair l.pair p && l.number == n

abbrev pub under_mark : Bytes → MarkHeld → Bool
under_mark f m = bytes_eq m.file f

abbrev pub entry_first : EntryHeld → EntryHeld → Bool
entry_first e f = before_pair e.pair f.pair

abbrev pub line_first : LineHeld → LineHeld → Bool
line_first l m = before_pair l.pair m.pair || (same_pair l.pair m.pair && nat_lt l.number m.number)

abbrev pub mark_first : MarkHeld → MarkHeld → Bool
mark_first m n = before m.file n.file

-- ---- what is entered

abbrev pub fresh : Pair → NewEntry → EntryHeld
fresh p e = record { pair = p; set_id = e.set_id; day = e.day; total = e.total; open_amount = e.total }

abbrev pub line_under : Pair → ℕ → Line → LineHeld
line_under p n l = record { pair = p; number = n; amount = l.amount; sender = l.sender; receiver = l.receiver }

abbrev pub mark_under : Bytes → Mark → MarkHeld
mark_under f m = record { file = f; accepted = m.accepted; rejected = m.rejected }

-- ---- questions

abbrev pub entry_at : BookMeaning → Pair → Option EntryHeld
entry_at b p = find (under p) b.entries

abbrev pub line_at : BookMeaning → Pair → ℕ → Option LineHeld
line_at b p n = find (under_line p n) b.lines

abbrev pub mark_at : BookMeaning → Bytes → Option MarkHeld
mark_at b f = find (under_mark f) b.marks

-- a line and a mark as they are answered: what is entered under the key
abbrev pub line_told : LineHeld → Line
line_told l = record { amount = l.amount; sender = l.sender; receiver = l.receiver }

abbrev pub mark_told : MarkHeld → Mark
mark_told m = record { accepted = m.accepted; rejected = m.rejected }

abbrev pub free_entries : BookMeaning → ℕ
free_entries b = b.entry_places - length b.entries

abbrev pub free_lines : BookMeaning → ℕ
free_lines b = b.line_places - length b.lines

abbrev pub free_marks : BookMeaning → ℕ
free_marks b = b.mark_places - length b.marks

abbrev pub free_places : BookMeaning → FreePlaces
free_places b = record { entries = free_entries b; lines = free_lines b; marks = free_marks b }

abbrev pub accepted_in : MarkHeld → ℕ
accepted_in m = m.accepted

abbrev pub rejected_in : MarkHeld → ℕ
rejected_in m = m.rejected

-- how many were accepted, and how many rejected
abbrev pub counted_in : List MarkHeld → Counts
counted_in ms = record { accepted = sum_by accepted_in ms; rejected = sum_by rejected_in ms }

abbrev pub counted : BookMeaning → Counts
counted b = counted_in b.marks

-- 820 and 810: what an adjustment may take from
abbrev pub adjustable : SetId → Bool
adjustable Payment = true
adjustable Collection = true
adjustable ReceiverAdjustment = false
adjustable SenderAdjustment = false
adjustable ZeroDollar = false
adjustable PostSgl = false

-- what seek may answer
abbrev pub seekable : Bytes → EntryHeld → Bool
seekable office e = bytes_eq e.pair.office office && (adjustable e.set_id && nat_lt 0 e.open_amount)
