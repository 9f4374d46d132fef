-- The rows that the makes' tables hold, each with its key of bytes in front, and what they mean.
--     an entry's key   the pair: DO symbol (5 bytes), reference (8)
--     a line's key     the pair, and the line's number in six digits
--     a mark's key     the File ID Number (19 bytes)
-- Assumes nothing.
use Rattle.std.specs.Prelude.{◌≡◌, ℕ, zero, suc, ◌+◌, ◌-◌, ◌/◌, ◌%◌, ◌<◌, Bool, true, ◌&&◌, List, [], ◌∷◌, ◌++◌, map, length, take, drop, replicate, Some, None, Option, slice_index_or}
use Rattle.std.specs.Str.{bytes_eq}
use Rattle.octets.specs.Classes.{Bytes}
use Rattle.octets.specs.Values.{value_of}
use Rattle.layout.specs.declared.set_id.SetId.TheVariants.{Payment}
use Rattle.layout.specs.declared.pair.Pair.{Pair}
use Rattle.book.specs.declared.entry_row.EntryRow.{EntryRow}
use Rattle.book.specs.declared.line_row.LineRow.{LineRow}
use Rattle.book.specs.declared.mark_row.MarkRow.{MarkRow}
use Rattle.book.specs.Meaning.{EntryHeld, LineHeld, MarkHeld, BookMeaning, seekable}
use Rattle.book.specs.Lists.{find}
use Rattle.book.specs.Actions.{counts_fit}
use Rattle.book.specs.Stands.{covered, is_line_number}

abbrev pub pair_key : Pair → Bytes
pair_key p = p.office ++ p.reference

-- a number in so many digits
abbrev pub digits_of : ℕ → ℕ → Bytes
digits_of zero n = []
digits_of (suc k) n = digits_of k (n / 10) ++ (48 + n % 10) ∷ []

abbrev pub line_key : Pair → ℕ → Bytes
line_key p n = pair_key p ++ digits_of 6 n

-- the pair that a key begins with
abbrev pub pair_of : Bytes → Pair
pair_of k = record { office = take 5 k; reference = drop 5 k }

-- ---- what a row means

abbrev pub entry_of : EntryRow → EntryHeld
entry_of x = record { pair = pair_of x.key; set_id = x.set_id; day = x.day; total = x.total; open_amount = x.left }

abbrev pub line_of : LineRow → LineHeld
line_of x = record { pair = pair_of (take 13 x.key); number = value_of (drop 13 x.key); amount = x.amount; sender = x.sender; receiver = x.receiver }

abbrev pub mark_of : MarkRow → MarkHeld
mark_of x = record { file = x.key; accepted = x.accepted; rejected = x.rejected }

-- ---- keys, and what each row of a table passes

abbrev pub entry_code : EntryRow → Bytes
entry_code x = x.key

abbrev pub line_code : LineRow → Bytes
line_code x = x.key

abbrev pub mark_code : MarkRow → Bytes
mark_code x = x.key

abbrev pub sound_entry : EntryRow → Bool
sound_entry x = covered (entry_of x)

abbrev pub sound_line : LineRow → Bool
sound_line x = bytes_eq (drop 13 x.key) (digits_of 6 (line_of x).number) && is_line_number (line_of x).number

abbrev pub sound_mark : MarkRow → Bool
sound_mark x = counts_fit (mark_of x)

-- what fills a place that is not used
abbrev pub unused_entry : EntryRow
unused_entry = record { total = 0; left = 0; day = 0; key = replicate 13 0; set_id = Payment }

abbrev pub unused_line : LineRow
unused_line = record { amount = 0; key = replicate 19 0; sender = replicate 27 0; receiver = replicate 27 0 }

abbrev pub unused_mark : MarkRow
unused_mark = record { accepted = 0; rejected = 0; key = replicate 19 0 }

-- a row with n less of its open amount
abbrev pub less_row : ℕ → EntryRow → EntryRow
less_row n x = record { total = x.total; left = x.left - n; day = x.day; key = x.key; set_id = x.set_id }

-- the row at i may be answered by seek, or none may
abbrev pub OpenAt : Bytes → List EntryRow → Option ℕ → Type 0
OpenAt office xs None = find (seekable office) (map entry_of xs) ≡ None
OpenAt office xs (Some i) = (i < length xs) × ((d : EntryRow) → seekable office (entry_of (slice_index_or xs i d)) ≡ true)

-- ---- what rows in the order of their keys mean, with the capacities of the tables

abbrev pub rows_mean : List EntryRow → List LineRow → List MarkRow → ℕ → ℕ → ℕ → BookMeaning
rows_mean es ls ms e l m = record { entries = map entry_of es; lines = map line_of ls; marks = map mark_of ms; entry_places = e; line_places = l; mark_places = m }
