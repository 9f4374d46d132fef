-- The five registers.
use Rattle.std.specs.Prelude.{Bool, true}
use Rattle.octets.specs.Classes.{Bytes}
use Rattle.layout.specs.declared.field.Lookup.{Lookup}
use Rattle.layout.specs.declared.field.Lookup.TheVariants.{Free, Agencies, Offices, Symbols, Units, Accounts}

-- by the set of each; a field that is not looked up is good with any key
abbrev pub held : (agencies offices symbols units accounts : Bytes → Bool) → Lookup → Bytes → Bool
held agencies offices symbols units accounts Free key = true
held agencies offices symbols units accounts Agencies key = agencies key
held agencies offices symbols units accounts Offices key = offices key
held agencies offices symbols units accounts Symbols key = symbols key
held agencies offices symbols units accounts Units key = units key
held agencies offices symbols units accounts Accounts key = accounts key
