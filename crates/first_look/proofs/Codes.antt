-- A file code is below 20, and a packet has 20 bytes or more.
use Rattle.std.proofs.Common.{ℕ, ◌<◌, Bool, true, false, cond, eqb, List, length, is_some, Ok, Err, Result, arith}
use Rattle.file.specs.Openings.{opening, code_of}
use Rattle.file.specs.Records.{records}
use Rattle.file.specs.declared.opening.Opening.{Opening}
use Rattle.file.specs.declared.opening.OpeningFault.{OpeningFault}
use Rattle.file.specs.declared.opening.OpeningFault.TheVariants.{TooLong, NoEnd, NoIdentifier, BadBatchHeader, NoTransaction}
use Rattle.book.specs.Meaning.{BookMeaning, mark_at, free_marks}
use Rattle.transaction.specs.declared.verdict.Verdict.{Verdict}
use Rattle.promises.specs.Calls.{Handed, too_small, post_opened, post_gate, posted, answer_with}
use Rattle.promises.proofs.Items.{packet_long}
use Rattle.first_look.specs.Looks.{Texts, texts_hold, new_small_book, look_answer, Told}

abbrev LowCode : {X : Type 0} → Result X ℕ → Type 0
LowCode (Ok x) = Unit {0}
LowCode (Err code) = code < 20

low_opening : (f : OpeningFault) → code_of f < 20
low_opening TooLong = omega arith
low_opening NoEnd = omega arith
low_opening NoIdentifier = omega arith
low_opening BadBatchHeader = omega arith
low_opening NoTransaction = omega arith

low_code : (o : Opening) (marked small full : Bool) → LowCode (cond {A = Result Opening ℕ} marked (Err 6) (cond small (Err 7) (cond full (Err 8) (Ok o))))
low_code o true small full = omega arith
low_code o false true full = omega arith
low_code o false false true = omega arith
low_code o false false false = tt

low_opened : (b : BookMeaning) (x : Handed) (r : Result Opening OpeningFault) → LowCode (post_opened b x r)
low_opened b x (Err f) = low_opening f
low_opened b x (Ok o) = low_code o (is_some (mark_at b o.id)) (too_small x) (eqb (free_marks b) 0)

told_answer : (x : Handed) (vs : List Verdict) (g : Result Opening ℕ) → LowCode g → Told (answer_with x vs g)
told_answer x vs (Err code) low = low
told_answer x vs (Ok o) low = let long = packet_long o.stated (length (records x.file)) vs in omega (arith, long)

pub look_told : (t : Texts) (x : Handed) → Told (look_answer t x)
look_told t x = told_answer x (posted (texts_hold t) new_small_book x) (post_gate new_small_book x) (low_opened new_small_book x (opening x.file))
