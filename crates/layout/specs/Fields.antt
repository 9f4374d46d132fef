-- A field of a record: a row of a layout's table.
use Rattle.std.specs.Prelude.{ℕ, Bool, true, false}
use Rattle.layout.specs.declared.field.Kind.{Kind}
use Rattle.layout.specs.declared.field.Lookup.{Lookup}
use Rattle.layout.specs.declared.field.Field.{Field}

abbrev pub start_of : Field → ℕ
start_of f = f.0

abbrev pub len_of : Field → ℕ
len_of f = f.1

abbrev pub is_required : Field → Bool
is_required f = f.2

abbrev pub kind_of : Field → Kind
kind_of f = f.3

abbrev pub register_of : Field → Lookup
register_of f = f.4

-- first column, length, whether it is required, kind, register
abbrev pub field : ℕ → ℕ → Bool → Kind → Lookup → Field
field start len need kind register = record { 0 = start; 1 = len; 2 = need; 3 = kind; 4 = register }

abbrev pub required : Bool
required = true

abbrev pub optional : Bool
optional = false
