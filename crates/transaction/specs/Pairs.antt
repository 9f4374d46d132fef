-- The pairs of a transaction: its own and its original's, as far as its header is good.
use Rattle.std.specs.Prelude.{Some, None, Option}
use Rattle.octets.specs.Classes.{Bytes}
use Rattle.layout.specs.declared.set_id.SetId.{SetId}
use Rattle.layout.specs.Layouts.{header_of}
use Rattle.layout.specs.SetIds.{set_id_in}
use Rattle.transaction.specs.declared.header.Transaction.{Transaction}
use Rattle.transaction.specs.declared.pairs.Pairs.{Pairs}
use Rattle.transaction.specs.declared.verdict.Verdict.{Verdict}
use Rattle.transaction.specs.declared.verdict.Verdict.TheVariants.{Accepted, Refused}
use Rattle.transaction.specs.Checks.{Holds, checks_under}
use Rattle.transaction.specs.Headers.{reading_of, own_pair, original_pair}
use Rattle.transaction.specs.Verdicts.{verdict}

abbrev pub no_pairs : Pairs
no_pairs = record { own = None; original = None }

abbrev pub pairs_in : Transaction → Pairs
pairs_in t = record { own = own_pair t; original = original_pair t }

-- none where the header is refused: with 21, 22, 32 or 51 in it
abbrev pub pairs_if : Verdict → Transaction → Pairs
pairs_if Accepted t = pairs_in t
pairs_if (Refused code at_record column) t = no_pairs

-- none where the Set ID is unknown: with 30
abbrev pub pairs_under : Holds → Bytes → Option SetId → Pairs
pairs_under holds h None = no_pairs
pairs_under holds h (Some set) = pairs_if (verdict (checks_under holds 0 h (header_of set))) (reading_of set h)

-- of a transaction, by its header
abbrev pub pairs_of : Holds → Bytes → Pairs
pairs_of holds h = pairs_under holds h (set_id_in h)
