-- An accepted transaction entered by the book's own actions, each of which may be refused: none is.
use Rattle.std.specs.Prelude.{◌≡◌, ℕ, suc, List, [], ◌∷◌, Some, None, Ok, Option}
use Rattle.layout.specs.declared.pair.Pair.{Pair}
use Rattle.layout.specs.declared.set_id.SetId.{SetId}
use Rattle.file.specs.declared.opening.Opening.{Opening}
use Rattle.file.specs.Records.{transactions_of}
use Rattle.book.specs.Meaning.{BookMeaning, fresh, line_under, mark_under}
use Rattle.book.specs.Actions.{entering, entering_line, taking, marking}
use Rattle.transaction.specs.declared.header.Transaction.{Transaction}
use Rattle.transaction.specs.declared.verdict.Verdict.TheVariants.{Accepted}
use Rattle.transaction.specs.Checks.{Holds}
use Rattle.transaction.specs.Details.{DetailRead}
use Rattle.transaction.specs.Headers.{set_id_of, total_of, own_pair}
use Rattle.transaction.specs.Verdicts.{verdict}
use Rattle.promises.specs.Own.{lines_of}
use Rattle.promises.specs.Judging.{book_checks}
use Rattle.promises.specs.Entering.{entry_of, line_of, taken_from, apply, after}
use Rattle.promises.specs.Calls.{Handed, post_gate, posted, counts_of, post_book}

-- lines, the first of them with number n
abbrev pub entering_lines : Pair → SetId → ℕ → List DetailRead → BookMeaning → BookMeaning
entering_lines p set n [] b = b
entering_lines p set n (d ∷ ds) b = entering_lines p set (suc n) ds (entering_line b (line_under p n (line_of set d)))

abbrev pub entering_own : ℕ → Transaction → List DetailRead → Option Pair → BookMeaning → BookMeaning
entering_own day t ds None b = b
entering_own day t ds (Some p) b = entering_lines p (set_id_of t) 1 (lines_of t ds) (entering b (fresh p (entry_of day t)))

abbrev pub taking_at : ℕ → Option Pair → BookMeaning → BookMeaning
taking_at n None b = b
taking_at n (Some o) b = taking b o n

abbrev pub acting : ℕ → Transaction → List DetailRead → BookMeaning → BookMeaning
acting day t ds b = taking_at (total_of t) (taken_from t) (entering_own day t ds (own_pair t) b)

-- so the actions do what an accepted transaction does
abbrev pub ActionsDo : Type 0
ActionsDo = (b : BookMeaning) (day : ℕ) (t : Transaction) (ds : List DetailRead) → verdict (book_checks b day t ds) ≡ Accepted → acting day t ds b ≡ apply day t ds b

-- and the mark of a post that is not refused is set
abbrev pub MarkIsSet : Type 0
MarkIsSet = (holds : Holds) (b : BookMeaning) (x : Handed) (o : Opening) → post_gate b x ≡ Ok o →
    marking (after holds b x.day (transactions_of x.file)) (mark_under o.id (counts_of (posted holds b x))) ≡ post_book holds b x
