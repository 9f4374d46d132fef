-- Ledger accounts in a map of bits.
use Rattle.std.specs.Prelude.{ℕ, ◌/◌, ◌%◌, ◌^◌, Bool, cond, ◌&&◌, [], length, is_ok, Ok, Err, Result, ◌==◌, slice_index}
use Rattle.octets.specs.Classes.{Bytes, type_n}
use Rattle.octets.specs.Values.{value_of}
use Rattle.register.specs.declared.fault.TextFault.{TextFault}
use Rattle.register.specs.declared.fault.TextFault.TheVariants.{Size}

-- bit k of a byte, the lowest being bit 0
abbrev pub is_set : ℕ → ℕ → Bool
is_set byte k = byte / 2 ^ k % 2 == 1

-- account n: bit n mod 8 of byte n div 8
abbrev pub bit_at : Bytes → ℕ → Bool
bit_at bits n = is_set (slice_index bits (n / 8)) (n % 8)

-- the key is four digits, and the bit of its number is set
abbrev pub mapped : Bytes → Bytes → Bool
mapped bits key = length key == 4 && (type_n key && bit_at bits (value_of key))

abbrev pub map_check : Bytes → Result (Unit {0}) TextFault
map_check bits = cond (length bits == 1250) (Ok tt) (Err Size)

-- bytes that the check refuses count as none, so that no bit is set
abbrev pub kept : Bytes → Bytes
kept bits = cond (is_ok (map_check bits)) bits []
