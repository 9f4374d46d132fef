-- What holds after calls on a book.
use Rattle.std.proofs.Common.{◌≡◌, List, ◌++◌, sym, ap, ◌∙◌, subst}
use Rattle.book.specs.Meaning.{BookMeaning, empty_book}
use Rattle.transaction.specs.Checks.{Holds}
use Rattle.promises.specs.Calls.{Call, run, show_answer}
use Rattle.promises.specs.Accounts.{accepted_in, rejected_in}
use Rattle.promises.specs.Tells.{Tells}
use Rattle.promises.specs.Lasting.{Lasts, RefusedAgain}
use Rattle.promises.specs.After.{PromisesAfter}
use Rattle.promises.proofs.Lasts.{never_grows, posted_once, rejected_leave_nothing, never_pass_total}
use Rattle.promises.proofs.OneReplaced.{check_leaves_others, post_leaves_others, post_leaves_earlier, post_leaves_unlinked}
use Rattle.promises.proofs.ReadsBack.{reads_back}
use Rattle.promises.proofs.SameBook.{either_order, run_append}
use Rattle.promises.proofs.Told.{show_tells}

-- calls before these and with them
since_new : (holds : Holds) (new b b' : BookMeaning) (before calls : List Call) → b ≡ run holds new before → b' ≡ run holds b calls → run holds new (before ++ calls) ≡ b'
since_new holds new b b' before calls was is = run_append holds before calls new ∙ ap (λ c. run holds c calls) (sym was) ∙ sym is

pub promises_after : PromisesAfter
promises_after holds b b' calls is = record {
  told = λ e l m before was.
      let new = empty_book e l m in
      subst (λ c. Tells c (accepted_in holds new (before ++ calls)) (rejected_in holds new (before ++ calls)))
      (since_new holds new b b' before calls was is)
      (show_tells holds e l m (before ++ calls));
  never_pass = λ e l m before was. never_pass_total holds e l m (before ++ calls);
  lasts = λ p. subst (λ c. Lasts (show_answer b p) (show_answer c p)) (sym is) (never_grows holds b calls p);
  either_order = either_order holds b';
  check_leaves = check_leaves_others holds b';
  post_leaves = post_leaves_others holds b';
  earlier_left = post_leaves_earlier holds b';
  unlinked_left = post_leaves_unlinked holds b';
  rejected_leave = rejected_leave_nothing holds b';
  reads_back = reads_back holds b';
  once = λ a x p between ok led. subst (λ c. RefusedAgain holds c x.file) (sym led) (λ y same. posted_once holds a x y p between ok same);
}
