-- The letters of a transaction's records.
use Rattle.std.specs.Prelude.{ℕ, cond, Some, None, Option, ◌==◌}
use Rattle.layout.specs.declared.letter.Letter.{Letter}
use Rattle.layout.specs.declared.letter.Letter.TheVariants.{Header, Detail, Entry}

-- `H`, `D` or `E`
abbrev pub letter_of : ℕ → Option Letter
letter_of c = cond (c == 72) (Some Header) (cond (c == 68) (Some Detail) (cond (c == 69) (Some Entry) None))
