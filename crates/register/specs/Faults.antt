-- Why the text of a register is refused.
use Rattle.std.specs.Prelude.{ℕ}
use Rattle.register.specs.declared.fault.TextFault.{TextFault}
use Rattle.register.specs.declared.fault.TextFault.TheVariants.{Width, Order, Size}

abbrev pub code_of : TextFault → ℕ
code_of Width = 11
code_of Order = 12
code_of Size = 13
