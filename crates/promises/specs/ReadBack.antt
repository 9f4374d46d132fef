-- No digit of a packet is lost.
use Rattle.std.specs.Prelude.{◌≡◌, ℕ, ◌^◌, ◌<◌, ◌≤◌, List, length, Ok}
use Rattle.octets.specs.Classes.{Bytes}
use Rattle.file.specs.declared.opening.Opening.{Opening}
use Rattle.file.specs.Openings.{opening}
use Rattle.file.specs.Records.{records}
use Rattle.book.specs.Meaning.{BookMeaning}
use Rattle.transaction.specs.declared.verdict.Verdict.{Verdict}
use Rattle.transaction.specs.declared.verdict.Verdict.TheVariants.{Accepted, Refused}
use Rattle.transaction.specs.Checks.{Holds}
use Rattle.promises.specs.Judging.{judge}
use Rattle.promises.specs.Packets.{PacketRead, read_packet, packet_length, accepted_count}
use Rattle.promises.specs.Calls.{Handed, checked, posted, check_answer, post_answer}

-- a refusal has a code above 0, and its numbers fit their fields
abbrev pub VerdictFits : Verdict → Type 0
VerdictFits Accepted = Unit {0}
VerdictFits (Refused code at_record column) = (0 < code) × (code < 2 ^ 16) × (at_record < 2 ^ 32) × (column < 2 ^ 16)

-- the record is one of the transaction's
abbrev pub VerdictsFit : Type 0
VerdictsFit = (holds : Holds) (b : BookMeaning) (day : ℕ) (rs : List Bytes) → length rs ≤ 2 ^ 24 → VerdictFits (judge holds b day rs)

-- what a packet says of a file with these verdicts
abbrev pub said_of : Opening → Handed → List Verdict → PacketRead
said_of o x vs = record { stated = o.stated; found = length (records x.file); transactions = length vs; accepted = accepted_count vs; verdicts = vs }

-- a packet of a file that opens: it has room, and what is read from it is what was said
pub record ReadsAs (x : Handed) (vs : List Verdict) (p : Bytes) : Type 0 where
  pub opened : Opening
  pub opens : opening x.file ≡ Ok opened
  pub long : length p ≡ packet_length (length vs)
  pub room : length p ≤ x.room
  pub reads : read_packet p ≡ said_of opened x vs

abbrev pub ReadsBack : Type 0
ReadsBack = (holds : Holds) (b : BookMeaning) (x : Handed) (p : Bytes) →
    (check_answer holds b x ≡ Ok p → ReadsAs x (checked holds b x) p) × (post_answer holds b x ≡ Ok p → ReadsAs x (posted holds b x) p)

-- of one book
abbrev pub ReadsBackOn : Holds → BookMeaning → Type 0
ReadsBackOn holds b = (x : Handed) (p : Bytes) →
    (check_answer holds b x ≡ Ok p → ReadsAs x (checked holds b x) p) × (post_answer holds b x ≡ Ok p → ReadsAs x (posted holds b x) p)
