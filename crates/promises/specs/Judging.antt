-- Every check of a transaction, on its own and against the book, in one list, in the order in which they count.
use Rattle.std.specs.Prelude.{ℕ, List, [], ◌++◌, Some, None, Option}
use Rattle.octets.specs.Classes.{Bytes}
use Rattle.file.specs.Records.{first_of, others_of}
use Rattle.book.specs.Meaning.{BookMeaning}
use Rattle.transaction.specs.declared.header.Transaction.{Transaction}
use Rattle.transaction.specs.declared.verdict.Verdict.{Verdict}
use Rattle.transaction.specs.Checks.{Holds, own_checks}
use Rattle.transaction.specs.Details.{DetailRead, details_of}
use Rattle.transaction.specs.Headers.{own_pair, original_pair}
use Rattle.transaction.specs.Sounds.{reading_in}
use Rattle.transaction.specs.Verdicts.{Check, verdict}
use Rattle.promises.specs.Held.{checks_at}
use Rattle.promises.specs.Against.{original_checks}
use Rattle.promises.specs.Own.{own_pair_checks, place_checks}

-- 61 to 67, of a header's reading and the details
abbrev pub book_checks : BookMeaning → ℕ → Transaction → List DetailRead → List Check
book_checks b day t ds =
    checks_at b (original_pair t) (original_checks day t ds)
    ++ (checks_at b (own_pair t) (own_pair_checks t ds)
    ++ place_checks b t ds (own_pair t))

-- none where the Set ID is unknown: then 30 has failed
abbrev pub book_checks_any : BookMeaning → ℕ → Option Transaction → List DetailRead → List Check
book_checks_any b day None ds = []
book_checks_any b day (Some t) ds = book_checks b day t ds

-- of a transaction's records, its header first, judged for a day
abbrev pub all_checks : Holds → BookMeaning → ℕ → List Bytes → List Check
all_checks holds b day rs = own_checks holds rs ++ book_checks_any b day (reading_in (first_of rs)) (details_of (others_of rs))

abbrev pub judge : Holds → BookMeaning → ℕ → List Bytes → Verdict
judge holds b day rs = verdict (all_checks holds b day rs)
