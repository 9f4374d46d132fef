-- What calls leave standing, of every book.
use Rattle.std.specs.Prelude.{◌≡◌, ℕ, ◌≤◌, List, [], ◌∷◌, Some, None, Ok, Err, Option}
use Rattle.octets.specs.Classes.{Bytes}
use Rattle.layout.specs.declared.pair.Pair.{Pair}
use Rattle.file.specs.Records.{transactions_of}
use Rattle.book.specs.Meaning.{BookMeaning}
use Rattle.book.specs.Told.{EntryTold}
use Rattle.transaction.specs.declared.verdict.Verdict.{Verdict}
use Rattle.transaction.specs.declared.verdict.Verdict.TheVariants.{Accepted, Refused}
use Rattle.transaction.specs.Checks.{Holds}
use Rattle.transaction.specs.Verdicts.{Counts}
use Rattle.promises.specs.Judging.{all_checks, judge}
use Rattle.promises.specs.Calls.{Handed, Call, run, posted, post_answer, post_book, show_answer}

-- accepted exactly if every check passes; else the first failing one counts, all before it passing
abbrev pub FirstCounts : Type 0
FirstCounts = (holds : Holds) (b : BookMeaning) (day : ℕ) (rs : List Bytes) → Counts (all_checks holds b day rs) (judge holds b day rs)

-- an entry stays, with its Set ID, day and total, and its open amount never grows
abbrev pub Lasts : Option EntryTold → Option EntryTold → Type 0
Lasts None later = Unit {0}
Lasts (Some e) None = ⊥
Lasts (Some e) (Some later) = (later.set_id ≡ e.set_id) × (later.day ≡ e.day) × (later.total ≡ e.total) × (later.open_amount ≤ e.open_amount)

abbrev pub NeverGrows : Type 0
NeverGrows = (holds : Holds) (b : BookMeaning) (calls : List Call) (p : Pair) → Lasts (show_answer b p) (show_answer (run holds b calls) p)

-- a file that was posted is refused with 6 from then on, for any day and room, and changes nothing
abbrev pub PostedOnce : Type 0
PostedOnce = (holds : Holds) (b : BookMeaning) (x y : Handed) (p : Bytes) (calls : List Call) → post_answer holds b x ≡ Ok p → y.file ≡ x.file →
    (post_answer holds (run holds (post_book holds b x) calls) y ≡ Err 6) × (post_book holds (run holds (post_book holds b x) calls) y ≡ run holds (post_book holds b x) calls)

-- the transactions that got 0
abbrev pub accepted_ones : List Verdict → List (List Bytes) → List (List Bytes)
accepted_ones [] ts = []
accepted_ones (v ∷ vs) [] = []
accepted_ones (Accepted ∷ vs) (t ∷ ts) = t ∷ accepted_ones vs ts
accepted_ones (Refused code at_record column ∷ vs) (t ∷ ts) = accepted_ones vs ts

-- a file of a file's accepted transactions alone leaves the same entries and lines
abbrev pub RejectedLeaveNothing : Type 0
RejectedLeaveNothing = (holds : Holds) (b : BookMeaning) (x y : Handed) (p q : Bytes) → post_answer holds b x ≡ Ok p → post_answer holds b y ≡ Ok q → y.day ≡ x.day →
    transactions_of y.file ≡ accepted_ones (posted holds b x) (transactions_of x.file) →
    ((post_book holds b y).entries ≡ (post_book holds b x).entries) × ((post_book holds b y).lines ≡ (post_book holds b x).lines)

-- a file is refused with 6, for any day and room, and changes nothing
abbrev pub RefusedAgain : Holds → BookMeaning → Bytes → Type 0
RefusedAgain holds b file = (y : Handed) → y.file ≡ file → (post_answer holds b y ≡ Err 6) × (post_book holds b y ≡ b)

-- of one book: a file of a file's accepted transactions alone leaves the same entries and lines
abbrev pub RejectedLeaveOn : Holds → BookMeaning → Type 0
RejectedLeaveOn holds b = (x y : Handed) (p q : Bytes) → post_answer holds b x ≡ Ok p → post_answer holds b y ≡ Ok q → y.day ≡ x.day →
    transactions_of y.file ≡ accepted_ones (posted holds b x) (transactions_of x.file) →
    ((post_book holds b y).entries ≡ (post_book holds b x).entries) × ((post_book holds b y).lines ≡ (post_book holds b x).lines)
