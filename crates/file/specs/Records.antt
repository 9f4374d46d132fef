-- The records of a text, and the transactions that they make.
use Rattle.std.specs.Prelude.{ℕ, ◌+◌, Bool, false, cond, List, [], ◌∷◌, drop, ◌==◌}
use Rattle.octets.specs.Classes.{Bytes}

-- a byte put before the first record
abbrev pub onto : ℕ → List Bytes → List Bytes
onto b [] = (b ∷ []) ∷ []
onto b (r ∷ rs) = (b ∷ r) ∷ rs

-- a record is the bytes before a line feed
abbrev pub records : Bytes → List Bytes
records [] = []
records (b ∷ bs) = cond (b == 10) ([] ∷ records bs) (onto b (records bs))

-- whether a record begins with a letter
abbrev pub begins : ℕ → Bytes → Bool
begins letter [] = false
begins letter (b ∷ bs) = b == letter

abbrev pub is_header : Bytes → Bool
is_header r = begins 72 r

abbrev pub is_detail : Bytes → Bool
is_detail r = begins 68 r

abbrev pub is_entry : Bytes → Bool
is_entry r = begins 69 r

-- the records before the next header
abbrev pub until_header : List Bytes → List Bytes
until_header [] = []
until_header (r ∷ rs) = cond (is_header r) [] (r ∷ until_header rs)

-- a transaction runs from a header to the next one, or to the end
abbrev pub transactions : List Bytes → List (List Bytes)
transactions [] = []
transactions (r ∷ rs) = cond (is_header r) ((r ∷ until_header rs) ∷ transactions rs) (transactions rs)

-- a file's transactions: the first two records are its opening
abbrev pub transactions_of : Bytes → List (List Bytes)
transactions_of file = transactions (drop 2 (records file))

-- how many of the records pass
abbrev pub many : (Bytes → Bool) → List Bytes → ℕ
many p [] = 0
many p (r ∷ rs) = cond (p r) 1 0 + many p rs

-- the first record of several, and the others; an absent record is empty
abbrev pub first_of : List Bytes → Bytes
first_of [] = []
first_of (r ∷ rs) = r

abbrev pub others_of : List Bytes → List Bytes
others_of [] = []
others_of (r ∷ rs) = rs
