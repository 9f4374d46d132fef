-- An entry as the book answers it, and what seek may answer.
-- Assumes nothing.
use Rattle.std.specs.Prelude.{◌≡◌, ℕ, true, Some, None, Option}
use Rattle.octets.specs.Classes.{Bytes}
use Rattle.layout.specs.declared.set_id.SetId.{SetId}
use Rattle.book.specs.declared.entry.Entry.{Entry}
use Rattle.book.specs.declared.line_number.LineNumber.{LineNumber}
use Rattle.book.specs.declared.sought.Sought.{Sought}
use Rattle.book.specs.Lists.{find}
use Rattle.book.specs.Meaning.{EntryHeld, BookMeaning, entry_at, seekable}

-- all of an entry but its pair
pub record EntryTold : Type 0 where
  pub set_id : SetId
  pub day : ℕ
  pub total : ℕ
  pub open_amount : ℕ

-- of an entry that is held, and of one that is answered
abbrev pub entry_told : EntryHeld → EntryTold
entry_told e = record { set_id = e.set_id; day = e.day; total = e.total; open_amount = e.open_amount }

abbrev pub told : Entry → EntryTold
told e = record { set_id = e.set_id; day = e.day; total = e.total; open_amount = e.open_amount }

abbrev pub line_number_told : LineNumber → ℕ
line_number_told n = n.value

-- what seek tells: the reference, and the entry under it
abbrev pub sought_told : Sought → Bytes × EntryTold
sought_told s = (s.reference, told s.entry)

-- the entry told is held, and may be answered
abbrev pub SoughtAs : Bytes → EntryTold → Option EntryHeld → Type 0
SoughtAs office t None = ⊥
SoughtAs office t (Some e) = (entry_told e ≡ t) × (seekable office e ≡ true)

-- nothing where no entry may be answered, and else one that may; which one is free
abbrev pub MaySeek : BookMeaning → Bytes → Option Sought → Type 0
MaySeek b office None = find (seekable office) b.entries ≡ None
MaySeek b office (Some s) = SoughtAs office (told s.entry) (entry_at b (record { office = office; reference = s.reference }))
