-- Why a field is refused.
use Rattle.std.specs.Prelude.{ℕ}
use Rattle.field.specs.declared.fault.Cause.{Cause}
use Rattle.field.specs.declared.fault.Cause.TheVariants.{Missing, Shape, Unknown}

abbrev pub code_of : Cause → ℕ
code_of Missing = 21
code_of Shape = 22
code_of Unknown = 51
