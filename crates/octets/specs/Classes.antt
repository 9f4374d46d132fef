-- Classes of bytes, and what a field's bytes may be.
use Rattle.std.specs.Prelude.{ℕ, Bool, true, false, not, ◌&&◌, List, [], ◌∷◌, ◌==◌, nat_le}

-- bytes by their values, in order
abbrev pub Bytes : Type 0
Bytes = List ℕ

abbrev pub is_space : ℕ → Bool
is_space b = b == 32

abbrev pub is_zero : ℕ → Bool
is_zero b = b == 48

abbrev pub is_digit : ℕ → Bool
is_digit b = nat_le 48 b && nat_le b 57

abbrev pub is_printable : ℕ → Bool
is_printable b = nat_le 32 b && nat_le b 126

-- no line feed
abbrev pub is_in_line : ℕ → Bool
is_in_line b = not (b == 10)

-- the test passes at each byte
abbrev pub all : (ℕ → Bool) → Bytes → Bool
all p [] = true
all p (b ∷ bs) = p b && all p bs

-- spaces only
abbrev pub blank : Bytes → Bool
blank bs = all is_space bs

abbrev pub starts_by_space : Bytes → Bool
starts_by_space [] = false
starts_by_space (b ∷ bs) = is_space b

-- type A: printable, and the first no space
abbrev pub type_a : Bytes → Bool
type_a bs = not (starts_by_space bs) && all is_printable bs

-- type N: digits only
abbrev pub type_n : Bytes → Bool
type_n bs = all is_digit bs
