-- What was accepted and rejected in a list of calls: a transaction is accepted if a post that was not itself refused gave
-- it 0, and rejected if such a post gave it another code.
use Rattle.std.specs.Prelude.{ℕ, ◌+◌, List, [], ◌∷◌, ◌++◌, Some, None, Ok, Err, Option, Result}
use Rattle.octets.specs.Classes.{Bytes}
use Rattle.file.specs.declared.opening.Opening.{Opening}
use Rattle.file.specs.Records.{first_of, transactions_of}
use Rattle.book.specs.Meaning.{BookMeaning}
use Rattle.transaction.specs.declared.header.Transaction.{Transaction}
use Rattle.transaction.specs.declared.verdict.Verdict.{Verdict}
use Rattle.transaction.specs.declared.verdict.Verdict.TheVariants.{Accepted, Refused}
use Rattle.transaction.specs.Checks.{Holds}
use Rattle.transaction.specs.Sounds.{reading_in}
use Rattle.promises.specs.Calls.{Handed, post_gate, posted, Call, checking, posting, showing, seeking, counting, called}
use Rattle.promises.specs.Packets.{rejected_count}

-- an accepted transaction, as its header tells it, and the day of the post
pub record Acceptance : Type 0 where
  pub day : ℕ
  pub what : Transaction

abbrev pub accepted_if : Verdict → ℕ → Option Transaction → List Acceptance
accepted_if (Refused code at_record column) day t = []
accepted_if Accepted day None = []
accepted_if Accepted day (Some t) = record { day = day; what = t } ∷ []

abbrev pub accepted_among : ℕ → List Verdict → List (List Bytes) → List Acceptance
accepted_among day [] more = []
accepted_among day (v ∷ vs) [] = []
accepted_among day (v ∷ vs) (rs ∷ more) = accepted_if v day (reading_in (first_of rs)) ++ accepted_among day vs more

abbrev pub accepted_at : Holds → BookMeaning → Handed → Result Opening ℕ → List Acceptance
accepted_at holds b x (Err code) = []
accepted_at holds b x (Ok o) = accepted_among x.day (posted holds b x) (transactions_of x.file)

abbrev pub rejected_at : Holds → BookMeaning → Handed → Result Opening ℕ → ℕ
rejected_at holds b x (Err code) = 0
rejected_at holds b x (Ok o) = rejected_count (posted holds b x)

abbrev pub accepted_by : Holds → BookMeaning → Call → List Acceptance
accepted_by holds b (checking x) = []
accepted_by holds b (posting x) = accepted_at holds b x (post_gate b x)
accepted_by holds b (showing p) = []
accepted_by holds b (seeking office) = []
accepted_by holds b counting = []

abbrev pub rejected_by : Holds → BookMeaning → Call → ℕ
rejected_by holds b (checking x) = 0
rejected_by holds b (posting x) = rejected_at holds b x (post_gate b x)
rejected_by holds b (showing p) = 0
rejected_by holds b (seeking office) = 0
rejected_by holds b counting = 0

-- in the calls made on a book, from left to right
abbrev pub accepted_in : Holds → BookMeaning → List Call → List Acceptance
accepted_in holds b [] = []
accepted_in holds b (c ∷ cs) = accepted_by holds b c ++ accepted_in holds (called holds b c) cs

abbrev pub rejected_in : Holds → BookMeaning → List Call → ℕ
rejected_in holds b [] = 0
rejected_in holds b (c ∷ cs) = rejected_by holds b c + rejected_in holds (called holds b c) cs
