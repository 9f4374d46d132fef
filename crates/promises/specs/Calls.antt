-- The calls on a book: what each answers, and the book afterwards; and lists of calls.
use Rattle.std.specs.Prelude.{ℕ, Bool, cond, List, [], ◌∷◌, map, length, is_some, Ok, Err, Option, Result, ◌==◌, nat_lt}
use Rattle.std.specs.Option.{option_map}
use Rattle.octets.specs.Classes.{Bytes}
use Rattle.layout.specs.declared.pair.Pair.{Pair}
use Rattle.file.specs.declared.opening.Opening.{Opening}
use Rattle.file.specs.declared.opening.OpeningFault.{OpeningFault}
use Rattle.file.specs.Openings.{opening, code_of}
use Rattle.file.specs.Records.{records, transactions_of}
use Rattle.book.specs.declared.mark.Mark.{Mark}
use Rattle.book.specs.declared.mark.Counts.{Counts}
use Rattle.book.specs.Meaning.{BookMeaning, entry_at, mark_at, free_marks, mark_under, counted}
use Rattle.book.specs.Actions.{set_mark}
use Rattle.book.specs.Told.{EntryTold, entry_told}
use Rattle.transaction.specs.declared.verdict.Verdict.{Verdict}
use Rattle.transaction.specs.Checks.{Holds}
use Rattle.promises.specs.Judging.{judge}
use Rattle.promises.specs.Entering.{verdicts, after}
use Rattle.promises.specs.Packets.{packet_of, packet_length, accepted_count, rejected_count}

-- a file handed over for a day, with a packet buffer of so many bytes
pub record Handed : Type 0 where
  pub file : Bytes
  pub day : ℕ
  pub room : ℕ

-- a packet, or a file code
abbrev pub Answer : Type 0
Answer = Result Bytes ℕ

-- ---- file codes, in their order

abbrev pub too_small : Handed → Bool
too_small x = nat_lt x.room (packet_length (length (transactions_of x.file)))

-- 7
abbrev pub check_opened : Handed → Result Opening OpeningFault → Result Opening ℕ
check_opened x (Err f) = Err (code_of f)
check_opened x (Ok o) = cond (too_small x) (Err 7) (Ok o)

abbrev pub check_gate : Handed → Result Opening ℕ
check_gate x = check_opened x (opening x.file)

-- 6, 7, 8
abbrev pub post_opened : BookMeaning → Handed → Result Opening OpeningFault → Result Opening ℕ
post_opened b x (Err f) = Err (code_of f)
post_opened b x (Ok o) =
    cond (is_some (mark_at b o.id)) (Err 6)
    (cond (too_small x) (Err 7)
    (cond (free_marks b == 0) (Err 8)
    (Ok o)))

abbrev pub post_gate : BookMeaning → Handed → Result Opening ℕ
post_gate b x = post_opened b x (opening x.file)

-- ---- check and post

-- each transaction alone against the book
abbrev pub checked : Holds → BookMeaning → Handed → List Verdict
checked holds b x = map (judge holds b x.day) (transactions_of x.file)

-- in file order, each against the book with the accepted ones before it entered
abbrev pub posted : Holds → BookMeaning → Handed → List Verdict
posted holds b x = verdicts holds b x.day (transactions_of x.file)

abbrev pub answer_with : Handed → List Verdict → Result Opening ℕ → Answer
answer_with x vs (Err code) = Err code
answer_with x vs (Ok o) = Ok (packet_of o.stated (length (records x.file)) vs)

abbrev pub check_answer : Holds → BookMeaning → Handed → Answer
check_answer holds b x = answer_with x (checked holds b x) (check_gate x)

abbrev pub post_answer : Holds → BookMeaning → Handed → Answer
post_answer holds b x = answer_with x (posted holds b x) (post_gate b x)

abbrev pub counts_of : List Verdict → Mark
counts_of vs = record { accepted = accepted_count vs; rejected = rejected_count vs }

-- the accepted ones entered, then the mark set; a refused file changes nothing
abbrev pub post_book_at : Holds → BookMeaning → Handed → Result Opening ℕ → BookMeaning
post_book_at holds b x (Err code) = b
post_book_at holds b x (Ok o) = set_mark (mark_under o.id (counts_of (posted holds b x))) (after holds b x.day (transactions_of x.file))

abbrev pub post_book : Holds → BookMeaning → Handed → BookMeaning
post_book holds b x = post_book_at holds b x (post_gate b x)

-- ---- show and count (what seek may answer is the book's own `MaySeek`)

abbrev pub show_answer : BookMeaning → Pair → Option EntryTold
show_answer b p = option_map entry_told (entry_at b p)

abbrev pub count_answer : BookMeaning → Counts
count_answer b = counted b

-- ---- calls, in any number and order

pub data Call : Type 0 where
  checking : Handed → Call
  posting : Handed → Call
  showing : Pair → Call
  seeking : Bytes → Call
  counting : Call

-- only a post changes the book
abbrev pub called : Holds → BookMeaning → Call → BookMeaning
called holds b (checking x) = b
called holds b (posting x) = post_book holds b x
called holds b (showing p) = b
called holds b (seeking office) = b
called holds b counting = b

abbrev pub run : Holds → BookMeaning → List Call → BookMeaning
run holds b [] = b
run holds b (c ∷ cs) = run holds (called holds b c) cs
