-- Where the first record and the first transaction of a text end, in bytes.
use Rattle.std.specs.Prelude.{ℕ, suc, cond, ◌&&◌, [], ◌∷◌, ◌==◌}
use Rattle.octets.specs.Classes.{Bytes}
use Rattle.file.specs.Records.{begins}

-- how many bytes stand before the first line feed
abbrev pub line_len : Bytes → ℕ
line_len [] = 0
line_len (b ∷ bs) = cond (b == 10) 0 (suc (line_len bs))

-- how many bytes stand before the next header: up to a line feed that an `H` follows, and with it
abbrev pub header_after : Bytes → ℕ
header_after [] = 0
header_after (b ∷ bs) = cond (b == 10 && begins 72 bs) 1 (suc (header_after bs))
