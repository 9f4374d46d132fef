-- What holds after calls on a book that other calls led to from a new one: the three promises, and what follows from them.
use Rattle.std.specs.Prelude.{◌≡◌, ℕ, List, ◌++◌, Ok}
use Rattle.octets.specs.Classes.{Bytes}
use Rattle.layout.specs.declared.pair.Pair.{Pair}
use Rattle.book.specs.Meaning.{BookMeaning, empty_book}
use Rattle.transaction.specs.Checks.{Holds}
use Rattle.promises.specs.Calls.{Handed, Call, run, post_answer, post_book, show_answer}
use Rattle.promises.specs.Accounts.{accepted_in, rejected_in}
use Rattle.promises.specs.Tells.{Tells, NeverPass}
use Rattle.promises.specs.EitherOrder.{EitherOrderOn}
use Rattle.promises.specs.Replaced.{CheckLeavesOn, PostLeavesOn, EarlierLeftOn, UnlinkedLeftOn}
use Rattle.promises.specs.Lasting.{Lasts, RefusedAgain, RejectedLeaveOn}
use Rattle.promises.specs.ReadBack.{ReadsBackOn}

-- the calls led from the book b to the book b'
pub record PromisedAfter (holds : Holds) (b b' : BookMeaning) (calls : List Call) : Type 0 where
  -- of all calls since the book was new, before these and with them
  pub told : (e l m : ℕ) (before : List Call) → b ≡ run holds (empty_book e l m) before →
      Tells b' (accepted_in holds (empty_book e l m) (before ++ calls)) (rejected_in holds (empty_book e l m) (before ++ calls))
  pub never_pass : (e l m : ℕ) (before : List Call) → b ≡ run holds (empty_book e l m) before → NeverPass (accepted_in holds (empty_book e l m) (before ++ calls))
  -- of these calls
  pub lasts : (p : Pair) → Lasts (show_answer b p) (show_answer b' p)
  -- of the book as it then stands
  pub either_order : EitherOrderOn holds b'
  pub check_leaves : CheckLeavesOn holds b'
  pub post_leaves : PostLeavesOn holds b'
  pub earlier_left : EarlierLeftOn holds b'
  pub unlinked_left : UnlinkedLeftOn holds b'
  pub rejected_leave : RejectedLeaveOn holds b'
  pub reads_back : ReadsBackOn holds b'
  -- of a file that was posted to some book which calls then led here
  pub once : (a : BookMeaning) (x : Handed) (p : Bytes) (between : List Call) → post_answer holds a x ≡ Ok p → b' ≡ run holds (post_book holds a x) between → RefusedAgain holds b' x.file

abbrev pub PromisesAfter : Type 0
PromisesAfter = (holds : Holds) (b b' : BookMeaning) (calls : List Call) → b' ≡ run holds b calls → PromisedAfter holds b b' calls
