-- Show tells what was accepted: what a book says after any calls, by the transactions that were accepted in them.
use Rattle.std.specs.Prelude.{◌≡◌, ℕ, ◌+◌, ◌≤◌, Bool, false, cond, ◌&&◌, List, [], ◌∷◌, length, Some, None, Contains, filter, Option}
use Rattle.layout.specs.declared.pair.Pair.{Pair}
use Rattle.book.specs.Meaning.{BookMeaning, same_pair, empty_book}
use Rattle.book.specs.Told.{EntryTold}
use Rattle.transaction.specs.declared.header.Transaction.{Transaction}
use Rattle.transaction.specs.Checks.{Holds}
use Rattle.transaction.specs.Details.{sum_of}
use Rattle.transaction.specs.Headers.{set_id_of, total_of, own_pair, original_pair}
use Rattle.promises.specs.Against.{adjusts}
use Rattle.promises.specs.Calls.{Call, run, show_answer, count_answer}
use Rattle.promises.specs.Accounts.{Acceptance, accepted_in, rejected_in}

abbrev pub is_pair : Pair → Option Pair → Bool
is_pair p None = false
is_pair p (Some q) = same_pair q p

-- the accepted transactions that have a pair as their own
abbrev pub owners : Pair → List Acceptance → List Acceptance
owners p ts = filter (λ t. is_pair p (own_pair t.what)) ts

-- the totals of the accepted 812 and 829 whose original has the pair
abbrev pub adjustment : Pair → Transaction → ℕ
adjustment p t = cond (adjusts (set_id_of t) && is_pair p (original_pair t)) (total_of t) 0

abbrev pub adjusted : Pair → List Acceptance → ℕ
adjusted p ts = sum_of (λ t. adjustment p t.what) ts

-- an entry is that of a transaction
pub record EntryOf (p : Pair) (e : EntryTold) (t : Acceptance) (ts : List Acceptance) : Type 0 where
  pub set_id : e.set_id ≡ set_id_of t.what
  pub day : e.day ≡ t.day
  pub total : e.total ≡ total_of t.what
  pub open_amount : e.open_amount + adjusted p ts ≡ e.total

-- nothing is shown where no accepted transaction has the pair as its own, and else the entry of the only one that has
abbrev pub Shown : Pair → List Acceptance → Option EntryTold → Type 0
Shown p ts None = owners p ts ≡ []
Shown p ts (Some e) = (t : Acceptance) × (owners p ts ≡ t ∷ []) × EntryOf p e t ts

pub record Tells (b : BookMeaning) (ts : List Acceptance) (rejected : ℕ) : Type 0 where
  pub shown : (p : Pair) → Shown p ts (show_answer b p)
  pub counted : count_answer b ≡ record { accepted = length ts; rejected = rejected }

-- after any calls on a new book
abbrev pub ShowTells : Type 0
ShowTells = (holds : Holds) (e l m : ℕ) (calls : List Call) →
    Tells (run holds (empty_book e l m) calls) (accepted_in holds (empty_book e l m) calls) (rejected_in holds (empty_book e l m) calls)

-- so the accepted adjustments of an accepted transaction never pass its total
abbrev pub NeverPassTotal : Type 0
NeverPassTotal = (holds : Holds) (e l m : ℕ) (calls : List Call) (p : Pair) (t : Acceptance) →
    Contains (accepted_in holds (empty_book e l m) calls) t → own_pair t.what ≡ Some p →
    adjusted p (accepted_in holds (empty_book e l m) calls) ≤ total_of t.what

-- of one list of acceptances
abbrev pub NeverPass : List Acceptance → Type 0
NeverPass ts = (p : Pair) (t : Acceptance) → Contains ts t → own_pair t.what ≡ Some p → adjusted p ts ≤ total_of t.what
