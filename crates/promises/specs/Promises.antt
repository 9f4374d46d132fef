-- The three promises of one run: calls made on a book that other calls led to from a new one.
use Rattle.std.specs.Prelude.{◌≡◌, ℕ, List, ◌++◌}
use Rattle.book.specs.Meaning.{BookMeaning, empty_book}
use Rattle.transaction.specs.Checks.{Holds}
use Rattle.promises.specs.Calls.{Call, run}
use Rattle.promises.specs.Accounts.{accepted_in, rejected_in}
use Rattle.promises.specs.Tells.{Tells}
use Rattle.promises.specs.EitherOrder.{EitherOrderOn}
use Rattle.promises.specs.Replaced.{CheckLeavesOn, PostLeavesOn}

pub record Promised (holds : Holds) (b : BookMeaning) (calls : List Call) : Type 0 where
  -- of all calls since the book was new
  pub told : (e l m : ℕ) (before : List Call) → b ≡ run holds (empty_book e l m) before →
      Tells (run holds b calls) (accepted_in holds (empty_book e l m) (before ++ calls)) (rejected_in holds (empty_book e l m) (before ++ calls))
  -- of the book as it then stands
  pub either_order : EitherOrderOn holds (run holds b calls)
  pub check_leaves : CheckLeavesOn holds (run holds b calls)
  pub post_leaves : PostLeavesOn holds (run holds b calls)

abbrev pub Promises : Type 0
Promises = (holds : Holds) (b : BookMeaning) (calls : List Call) → Promised holds b calls
