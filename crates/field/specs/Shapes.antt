-- What each kind of field asks of its bytes.
use Rattle.std.specs.Prelude.{Bool, true, false, not, ◌&&◌, ◌||◌, length, Some, None, Option, ◌==◌, slice_index}
use Rattle.octets.specs.Classes.{Bytes, all, blank, is_zero, type_a, type_n}
use Rattle.layout.specs.declared.field.Kind.{Kind}
use Rattle.layout.specs.declared.field.Kind.TheVariants.{Text, Number, Positive, Filler, Symbol, OneOf, OneSet}
use Rattle.layout.specs.declared.set_id.SetId.{SetId}
use Rattle.layout.specs.SetIds.{number_of, set_id_of}
use Rattle.field.specs.Symbols.{is_symbol}

abbrev pub is_filler : Kind → Bool
is_filler Text = false
is_filler Number = false
is_filler Positive = false
is_filler Filler = true
is_filler Symbol = false
is_filler (OneOf letters) = false
is_filler (OneSet a b) = false

-- digits, not all of them zeros
abbrev pub is_positive : Bytes → Bool
is_positive s = type_n s && not (all is_zero s)

-- one byte, the first of the letters or the second
abbrev pub is_one_of : Bytes → Bytes → Bool
is_one_of letters s = length s == 1 && (slice_index s 0 == slice_index letters 0 || slice_index s 0 == slice_index letters 1)

-- a Set ID, a or b
abbrev pub is_one_set : SetId → SetId → Option SetId → Bool
is_one_set a b None = false
is_one_set a b (Some set) = number_of set == number_of a || number_of set == number_of b

abbrev pub shape : Kind → Bytes → Bool
shape Text s = type_a s
shape Number s = type_n s
shape Positive s = is_positive s
shape Filler s = blank s
shape Symbol s = is_symbol s
shape (OneOf letters) s = is_one_of letters s
shape (OneSet a b) s = is_one_set a b (set_id_of s)
