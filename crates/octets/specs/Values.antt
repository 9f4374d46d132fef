-- The number that digits write.
use Rattle.std.specs.Prelude.{ℕ, ◌+◌, ◌-◌, ◌*◌, ◌^◌, cond, [], ◌∷◌, length}
use Rattle.octets.specs.Classes.{Bytes, is_digit}

-- any other byte counts as 0
abbrev pub digit_of : ℕ → ℕ
digit_of b = cond (is_digit b) (b - 48) 0

-- each digit with its weight
abbrev pub value_of : Bytes → ℕ
value_of [] = 0
value_of (b ∷ bs) = digit_of b * 10 ^ length bs + value_of bs
