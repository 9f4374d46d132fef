-- The three promises of one run.
use Rattle.std.proofs.Common.{◌++◌, sym, ap, ◌∙◌, subst}
use Rattle.book.specs.Meaning.{empty_book}
use Rattle.promises.specs.Calls.{run}
use Rattle.promises.specs.Accounts.{accepted_in, rejected_in}
use Rattle.promises.specs.Tells.{Tells}
use Rattle.promises.specs.Promises.{Promises}
use Rattle.promises.proofs.OneReplaced.{check_leaves_others, post_leaves_others}
use Rattle.promises.proofs.SameBook.{either_order, run_append}
use Rattle.promises.proofs.Told.{show_tells}

pub promises : Promises
promises holds b calls = record {
  told = λ e l m before is.
      let new = empty_book e l m in
      subst (λ c. Tells c (accepted_in holds new (before ++ calls)) (rejected_in holds new (before ++ calls)))
      (run_append holds before calls new ∙ ap (λ c. run holds c calls) (sym is))
      (show_tells holds e l m (before ++ calls));
  either_order = either_order holds (run holds b calls);
  check_leaves = check_leaves_others holds (run holds b calls);
  post_leaves = post_leaves_others holds (run holds b calls);
}
