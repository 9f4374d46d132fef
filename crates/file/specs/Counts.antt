-- What is in a file, by number.
use Rattle.std.specs.Prelude.{List, length}
use Rattle.octets.specs.Classes.{Bytes}
use Rattle.file.specs.declared.tally.Found.{Found}
use Rattle.file.specs.declared.tally.Tally.{Tally}
use Rattle.file.specs.Records.{records, is_header, is_detail, is_entry, many, transactions_of}

-- the records of a file, its opening's among them, and its transactions
abbrev pub found_in : Bytes → Found
found_in file = record { records = length (records file); transactions = length (transactions_of file) }

-- the records of a text, by their letters
abbrev pub tally_of : List Bytes → Tally
tally_of rs = record { records = length rs; headers = many is_header rs; details = many is_detail rs; entries = many is_entry rs }
