-- What an accepted transaction does to the book, and the transactions of a file one after the other.
use Rattle.std.specs.Prelude.{ℕ, suc, cond, List, [], ◌∷◌, Some, None, Option}
use Rattle.octets.specs.Classes.{Bytes}
use Rattle.layout.specs.declared.pair.Pair.{Pair}
use Rattle.layout.specs.declared.set_id.SetId.{SetId}
use Rattle.file.specs.Records.{first_of, others_of}
use Rattle.book.specs.declared.line.Line.{Line}
use Rattle.book.specs.declared.new_entry.NewEntry.{NewEntry}
use Rattle.book.specs.Meaning.{BookMeaning, fresh, line_under}
use Rattle.book.specs.Actions.{enter, enter_line, take_open}
use Rattle.transaction.specs.declared.header.Transaction.{Transaction}
use Rattle.transaction.specs.declared.verdict.Verdict.{Verdict}
use Rattle.transaction.specs.declared.verdict.Verdict.TheVariants.{Accepted, Refused}
use Rattle.transaction.specs.Checks.{Holds}
use Rattle.transaction.specs.Details.{DetailRead, details_of, amount_in, sender_in, receiver_in}
use Rattle.transaction.specs.Headers.{set_id_of, total_of, own_pair, original_pair}
use Rattle.transaction.specs.Sounds.{reading_in}
use Rattle.promises.specs.Against.{adjusts}
use Rattle.promises.specs.Own.{lines_of}
use Rattle.promises.specs.Judging.{judge}

-- the entry has the day of the post
abbrev pub entry_of : ℕ → Transaction → NewEntry
entry_of day t = record { set_id = set_id_of t; day = day; total = total_of t }

abbrev pub line_of : SetId → DetailRead → Line
line_of set d = record { amount = amount_in set d.detail; sender = sender_in set d.detail; receiver = receiver_in set d.detail }

-- lines, the first of them with number n
abbrev pub enter_lines : Pair → SetId → ℕ → List DetailRead → BookMeaning → BookMeaning
enter_lines p set n [] b = b
enter_lines p set n (d ∷ ds) b = enter_lines p set (suc n) ds (enter_line (line_under p n (line_of set d)) b)

-- the entry, then its lines
abbrev pub enter_own : ℕ → Transaction → List DetailRead → Option Pair → BookMeaning → BookMeaning
enter_own day t ds None b = b
enter_own day t ds (Some p) b = enter_lines p (set_id_of t) 1 (lines_of t ds) (enter (fresh p (entry_of day t)) b)

-- the pair that an adjustment takes from
abbrev pub taken_from : Transaction → Option Pair
taken_from t = cond (adjusts (set_id_of t)) (original_pair t) None

abbrev pub take_at : ℕ → Option Pair → BookMeaning → BookMeaning
take_at n None b = b
take_at n (Some o) b = take_open o n b

-- what an accepted transaction does
abbrev pub apply : ℕ → Transaction → List DetailRead → BookMeaning → BookMeaning
apply day t ds b = take_at (total_of t) (taken_from t) (enter_own day t ds (own_pair t) b)

abbrev pub apply_if : Verdict → ℕ → Option Transaction → List DetailRead → BookMeaning → BookMeaning
apply_if (Refused code at_record column) day t ds b = b
apply_if Accepted day None ds b = b
apply_if Accepted day (Some t) ds b = apply day t ds b

-- the book after a transaction
abbrev pub entered : Holds → BookMeaning → ℕ → List Bytes → BookMeaning
entered holds b day rs = apply_if (judge holds b day rs) day (reading_in (first_of rs)) (details_of (others_of rs)) b

-- each is judged against the book with the accepted ones before it entered
abbrev pub verdicts : Holds → BookMeaning → ℕ → List (List Bytes) → List Verdict
verdicts holds b day [] = []
verdicts holds b day (rs ∷ more) = judge holds b day rs ∷ verdicts holds (entered holds b day rs) day more

abbrev pub after : Holds → BookMeaning → ℕ → List (List Bytes) → BookMeaning
after holds b day [] = b
after holds b day (rs ∷ more) = after holds (entered holds b day rs) day more
