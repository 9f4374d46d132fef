-- The packet, byte by byte. An item is a length (of what follows the length), a kind, and a body; numbers are little-endian.
use Rattle.std.specs.Prelude.{ℕ, zero, suc, ◌+◌, ◌*◌, ◌/◌, ◌%◌, Bool, true, false, cond, List, [], ◌∷◌, ◌++◌, length, take, drop, ◌==◌}
use Rattle.octets.specs.Classes.{Bytes}
use Rattle.octets.specs.Parts.{part}
use Rattle.transaction.specs.declared.verdict.Verdict.{Verdict}
use Rattle.transaction.specs.declared.verdict.Verdict.TheVariants.{Accepted, Refused}

abbrev pub two : ℕ → Bytes
two n = n % 256 ∷ n / 256 % 256 ∷ []

abbrev pub four : ℕ → Bytes
four n = n % 256 ∷ n / 256 % 256 ∷ n / 65536 % 256 ∷ n / 16777216 % 256 ∷ []

abbrev pub item : ℕ → Bytes → Bytes
item kind body = two (2 + length body) ++ two kind ++ body

-- kind 1: records stated, records found, transactions, accepted
abbrev pub file_item : ℕ → ℕ → ℕ → ℕ → Bytes
file_item stated found transactions accepted = item 1 (four stated ++ four found ++ four transactions ++ four accepted)

-- kind 2: the transaction's number, code, record after the header, column; an accepted one has 0, 0, 0
abbrev pub verdict_item : ℕ → Verdict → Bytes
verdict_item n Accepted = item 2 (four n ++ two 0 ++ four 0 ++ two 0)
verdict_item n (Refused code at_record column) = item 2 (four n ++ two code ++ four at_record ++ two column)

-- kind 3, from a call of its own: a file code
abbrev pub code_item : ℕ → Bytes
code_item code = item 3 (two code)

-- from the transaction with number n on
abbrev pub verdict_items : ℕ → List Verdict → Bytes
verdict_items n [] = []
verdict_items n (v ∷ vs) = verdict_item n v ++ verdict_items (suc n) vs

abbrev pub is_accepted : Verdict → Bool
is_accepted Accepted = true
is_accepted (Refused code at_record column) = false

abbrev pub accepted_count : List Verdict → ℕ
accepted_count [] = 0
accepted_count (v ∷ vs) = cond (is_accepted v) 1 0 + accepted_count vs

abbrev pub rejected_count : List Verdict → ℕ
rejected_count [] = 0
rejected_count (v ∷ vs) = cond (is_accepted v) 0 1 + rejected_count vs

abbrev pub packet_of : ℕ → ℕ → List Verdict → Bytes
packet_of stated found vs = file_item stated found (length vs) (accepted_count vs) ++ verdict_items 1 vs

-- how long it is
abbrev pub packet_length : ℕ → ℕ
packet_length transactions = 20 + 16 * transactions

-- ---- read again

abbrev pub little : Bytes → ℕ
little [] = 0
little (b ∷ bs) = b + 256 * little bs

-- from an item of kind 2
abbrev pub verdict_from : Bytes → Verdict
verdict_from bs = cond (little (part 8 2 bs) == 0) Accepted (Refused (little (part 8 2 bs)) (little (part 10 4 bs)) (little (part 14 2 bs)))

abbrev pub verdicts_from : ℕ → Bytes → List Verdict
verdicts_from zero bs = []
verdicts_from (suc n) bs = verdict_from (take 16 bs) ∷ verdicts_from n (drop 16 bs)

-- the numbers of the item of kind 1, and the verdicts of the others
pub record PacketRead : Type 0 where
  pub stated : ℕ
  pub found : ℕ
  pub transactions : ℕ
  pub accepted : ℕ
  pub verdicts : List Verdict

abbrev pub read_packet : Bytes → PacketRead
read_packet p = record {
  stated = little (part 4 4 p);
  found = little (part 8 4 p);
  transactions = little (part 12 4 p);
  accepted = little (part 16 4 p);
  verdicts = verdicts_from (little (part 12 4 p)) (drop 20 p);
}

-- the bytes of the verdict of the transaction at place k, counted from 0
abbrev pub verdict_at : ℕ → Bytes → Bytes
verdict_at k p = part (20 + 16 * k) 16 p
