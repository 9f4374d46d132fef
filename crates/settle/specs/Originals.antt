-- The checks of an original, one after the other, by the entry that a book answers.
use Rattle.std.specs.Prelude.{ℕ, not, ◌||◌, List, [], ◌∷◌, Some, None, Option, nat_le}
use Rattle.std.specs.Option.{option_map}
use Rattle.layout.specs.declared.pair.Pair.{Pair}
use Rattle.layout.specs.declared.set_id.SetId.{SetId}
use Rattle.book.specs.declared.entry.Entry.{Entry}
use Rattle.book.specs.declared.line.Line.{Line}
use Rattle.book.specs.Meaning.{EntryHeld, LineHeld}
use Rattle.book.specs.Told.{EntryTold, told}
use Rattle.transaction.specs.Verdicts.{Check, check}
use Rattle.promises.specs.Against.{adjusts, original_column, latest, serves}

-- no check of an entry or of a line looks at its key: what is answered is judged as if held under this one
abbrev pub unnamed : Pair
unnamed = record { office = []; reference = [] }

abbrev pub held_as : EntryTold → EntryHeld
held_as e = record { pair = unnamed; set_id = e.set_id; day = e.day; total = e.total; open_amount = e.open_amount }

abbrev pub line_as : Line → LineHeld
line_as l = record { pair = unnamed; number = 0; amount = l.amount; sender = l.sender; receiver = l.receiver }

-- the original as it is answered
abbrev pub answered : Option Entry → Option EntryHeld
answered e = option_map held_as (option_map told e)

-- 61
abbrev pub serving_check : SetId → Option EntryHeld → List Check
serving_check set e = check (serves set e) 61 0 (original_column set) ∷ []

-- 62
abbrev pub age_check : ℕ → SetId → Option EntryHeld → List Check
age_check day set None = []
age_check day set (Some e) = check (not (adjusts set) || nat_le day (latest e)) 62 0 (original_column set) ∷ []

-- 65
abbrev pub open_check : ℕ → SetId → Option EntryHeld → List Check
open_check total set None = []
open_check total set (Some e) = check (not (adjusts set) || nat_le total e.open_amount) 65 0 10 ∷ []
