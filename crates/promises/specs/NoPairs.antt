-- A transaction has no pairs exactly if its verdict is 30, or 21, 22, 32 or 51 in its header.
use Rattle.std.specs.Prelude.{◌≡◌, ℕ, Bool, false, cond, ◌&&◌, ◌||◌, List, [], Some, None, Option, ◌==◌}
use Rattle.octets.specs.Classes.{Bytes}
use Rattle.layout.specs.declared.pair.Pair.{Pair}
use Rattle.file.specs.Records.{first_of}
use Rattle.book.specs.Meaning.{BookMeaning}
use Rattle.transaction.specs.declared.header.Transaction.{Transaction}
use Rattle.transaction.specs.declared.verdict.Verdict.{Verdict}
use Rattle.transaction.specs.declared.verdict.Verdict.TheVariants.{Accepted, Refused}
use Rattle.transaction.specs.Checks.{Holds}
use Rattle.transaction.specs.Pairs as touched
use Rattle.transaction.specs.Sounds.{reading_in}
use Rattle.promises.specs.Judging.{judge}
use Rattle.promises.specs.Related.{listed_in, pairs_in}

abbrev pub is_header_code : ℕ → Bool
is_header_code c = c == 21 || (c == 22 || (c == 32 || c == 51))

abbrev pub refuses_header : Verdict → Bool
refuses_header Accepted = false
refuses_header (Refused code at_record column) = code == 30 || (at_record == 0 && is_header_code code)

abbrev pub pairs_read : Option Transaction → List Pair
pairs_read None = []
pairs_read (Some t) = listed_in (touched.pairs_in t)

-- whatever the book holds
abbrev pub PairsByVerdict : Type 0
PairsByVerdict = (holds : Holds) (b : BookMeaning) (day : ℕ) (rs : List Bytes) → pairs_in holds rs ≡ cond (refuses_header (judge holds b day rs)) [] (pairs_read (reading_in (first_of rs)))
