-- How a file opens: a file code, or its File ID Number and the number of records that it states.
use Rattle.std.specs.Prelude.{ℕ, ◌-◌, Bool, cond, not, ◌&&◌, [], length, Ok, Err, codes, Result, ◌==◌, nat_lt, slice_index, slice_index_or}
use Rattle.std.specs.Str.{bytes_eq}
use Rattle.octets.specs.Classes.{Bytes, type_a, type_n}
use Rattle.octets.specs.Parts.{columns}
use Rattle.octets.specs.Values.{value_of}
use Rattle.file.specs.declared.opening.Opening.{Opening}
use Rattle.file.specs.declared.opening.OpeningFault.{OpeningFault}
use Rattle.file.specs.declared.opening.OpeningFault.TheVariants.{TooLong, NoEnd, NoIdentifier, BadBatchHeader, NoTransaction}
use Rattle.file.specs.Records.{records, is_header}

abbrev pub code_of : OpeningFault → ℕ
code_of TooLong = 1
code_of NoEnd = 2
code_of NoIdentifier = 3
code_of BadBatchHeader = 4
code_of NoTransaction = 5

-- a file has at most 16 MiB
abbrev pub longest : ℕ
longest = 16777216

abbrev pub ends_in_feed : Bytes → Bool
ends_in_feed file = slice_index file (length file - 1) == 10

-- the record with a number, from 1; an absent record is empty
abbrev pub record_at : ℕ → Bytes → Bytes
record_at n file = slice_index_or (records file) (n - 1) []

abbrev pub is_file_identifier : Bytes → Bool
is_file_identifier r = bytes_eq r (codes "PCA    ")

abbrev pub is_batch_header : Bytes → Bool
is_batch_header r =
    length r == 32
    && (bytes_eq (columns 1 5 r) (codes "BIPAC")
    && (type_n (columns 6 8 r)
    && type_a (columns 14 19 r)))

abbrev pub opened : Bytes → Opening
opened r = record { id = columns 14 19 r; stated = value_of (columns 6 8 r) }

-- the first that applies
abbrev pub opening : Bytes → Result Opening OpeningFault
opening file =
    cond (nat_lt longest (length file)) (Err TooLong)
    (cond (not (ends_in_feed file)) (Err NoEnd)
    (cond (not (is_file_identifier (record_at 1 file))) (Err NoIdentifier)
    (cond (not (is_batch_header (record_at 2 file))) (Err BadBatchHeader)
    (cond (not (is_header (record_at 3 file))) (Err NoTransaction)
    (Ok (opened (record_at 2 file)))))))
