-- Account symbols, by their parts.
use Rattle.std.specs.Prelude.{ℕ, Bool, ◌&&◌, ◌||◌, length, ◌==◌, slice_index}
use Rattle.octets.specs.Classes.{Bytes, blank, type_n}
use Rattle.octets.specs.Parts.{columns}

abbrev pub digits_or_blank : Bytes → Bool
digits_or_blank bs = type_n bs || blank bs

-- `X`, `F`, `A`, `M` or a space
abbrev pub is_availability : ℕ → Bool
is_availability b = b == 88 || (b == 70 || (b == 65 || (b == 77 || b == 32)))

abbrev pub is_symbol : Bytes → Bool
is_symbol s =
    length s == 27
    && (digits_or_blank (columns 1 2 s)  -- SP, sub-level prefix
    && (digits_or_blank (columns 3 3 s)  -- ATA, allocation transfer agency
    && (type_n (columns 6 3 s)  -- AID, agency
    && (digits_or_blank (columns 9 4 s)  -- BPOA, first year of availability
    && (digits_or_blank (columns 13 4 s)  -- EPOA, last year of availability
    && (is_availability (slice_index s 16)  -- A, column 17
    && (type_n (columns 18 4 s)  -- MAIN account
    && (type_n (columns 22 3 s)  -- SUB account
    && (blank (columns 25 2 s)
    && slice_index s 26 == 67)))))))))  -- `C`, column 27
