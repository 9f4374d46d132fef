-- Parts of a record.
use Rattle.std.specs.Prelude.{ℕ, ◌-◌, take, drop}
use Rattle.octets.specs.Classes.{Bytes}

-- n bytes behind the first `skipped`, or as many of them as there are
abbrev pub part : ℕ → ℕ → Bytes → Bytes
part skipped n bs = take n (drop skipped bs)

-- n columns from the column `first` on; columns count from 1
abbrev pub columns : ℕ → ℕ → Bytes → Bytes
columns first n bs = part (first - 1) n bs
