-- The pairs and the places of files.
use Rattle.std.specs.Prelude.{ℕ, ◌≤◌, List, [], ◌∷◌, ◌++◌, length, Some, None, Ok, Err, Option, Result}
use Rattle.std.specs.List.{flat_map}
use Rattle.octets.specs.Classes.{Bytes}
use Rattle.layout.specs.declared.pair.Pair.{Pair}
use Rattle.file.specs.declared.opening.Opening.{Opening}
use Rattle.file.specs.declared.opening.OpeningFault.{OpeningFault}
use Rattle.file.specs.Openings.{opening}
use Rattle.file.specs.Records.{is_detail, many, first_of, transactions_of}
use Rattle.book.specs.Meaning.{BookMeaning, free_entries, free_lines, free_marks}
use Rattle.transaction.specs.declared.pairs.Pairs.{Pairs}
use Rattle.transaction.specs.Checks.{Holds}
use Rattle.transaction.specs.Details.{sum_of}
use Rattle.transaction.specs.Pairs.{pairs_of}

abbrev pub listed : Option Pair → List Pair
listed None = []
listed (Some p) = p ∷ []

abbrev pub listed_in : Pairs → List Pair
listed_in ps = listed ps.own ++ listed ps.original

-- of a transaction: its own, if it has one, and its original's; none where its header is refused
abbrev pub pairs_in : Holds → List Bytes → List Pair
pairs_in holds rs = listed_in (pairs_of holds (first_of rs))

abbrev pub opens_to : Result Opening OpeningFault → List (List Bytes) → List (List Bytes)
opens_to (Ok o) ts = ts
opens_to (Err f) ts = []

-- a file refused with 1 to 5 has no transactions, and so no D records and no pairs
abbrev pub transactions_in : Bytes → List (List Bytes)
transactions_in file = opens_to (opening file) (transactions_of file)

abbrev pub transaction_count : Bytes → ℕ
transaction_count file = length (transactions_in file)

-- D records, counted by their letter
abbrev pub detail_count : Bytes → ℕ
detail_count file = sum_of (many is_detail) (transactions_in file)

abbrev pub file_pairs : Holds → Bytes → List Pair
file_pairs holds file = flat_map (pairs_in holds) (transactions_in file)

-- places are enough for some files
pub record Enough (b : BookMeaning) (files : List Bytes) : Type 0 where
  pub entries : sum_of transaction_count files ≤ free_entries b
  pub lines : sum_of detail_count files ≤ free_lines b
  pub marks : length files ≤ free_marks b
