-- Bytes written into a buffer.
use Rattle.std.specs.Prelude.{ℕ, ◌+◌, cond, ◌++◌, length, take, drop, nat_le}
use Rattle.octets.specs.Classes.{Bytes}
use Rattle.promises.specs.Packets.{code_item}

-- the bytes bs from place at on; all others stay
abbrev pub written : Bytes → ℕ → Bytes → Bytes
written xs at bs = take at xs ++ (bs ++ drop (at + length bs) xs)

-- nothing is written where the buffer has no room for all of them
abbrev pub written_if : Bytes → ℕ → Bytes → Bytes
written_if xs at bs = cond (nat_le (at + length bs) (length xs)) (written xs at bs) xs

-- the item of kind 3, and how many bytes it takes
abbrev pub refusal_length : Bytes → ℕ
refusal_length buffer = cond (nat_le 6 (length buffer)) 6 0

abbrev pub refusal_in : Bytes → ℕ → Bytes
refusal_in buffer code = written_if buffer 0 (code_item code)
