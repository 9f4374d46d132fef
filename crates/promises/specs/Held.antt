-- What a book holds under a pair. Of what it holds, judging asks for this alone, and entering changes this alone.
use Rattle.std.specs.Prelude.{ℕ, List, [], Some, None, Option}
use Rattle.layout.specs.declared.pair.Pair.{Pair}
use Rattle.book.specs.Meaning.{BookMeaning, EntryHeld, LineHeld, entry_at, line_at}
use Rattle.transaction.specs.Verdicts.{Check}

-- the entry, and the lines by their numbers
pub record Held : Type 0 where
  pub entry : Option EntryHeld
  pub line : ℕ → Option LineHeld

abbrev pub at : BookMeaning → Pair → Held
at b p = record { entry = entry_at b p; line = λ n. line_at b p n }

-- the checks of what is held under a pair, where there is one
abbrev pub checks_at : BookMeaning → Option Pair → (Held → List Check) → List Check
checks_at b None checks = []
checks_at b (Some p) checks = checks (at b p)
