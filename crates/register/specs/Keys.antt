-- Keys of one width in a text.
use Rattle.std.specs.Prelude.{ℕ, zero, suc, ◌/◌, ◌%◌, Bool, true, false, cond, not, ◌&&◌, ◌||◌, List, [], ◌∷◌, length, take, drop, is_ok, Ok, Err, Result, ◌==◌, nat_lt}
use Rattle.std.specs.declared.cmp.Ordering.{Ordering}
use Rattle.std.specs.Cmp.Lexicographic.{slice_cmp}
use Rattle.std.specs.Ordering.{is_lt, nat_cmp}
use Rattle.std.specs.Str.{bytes_eq}
use Rattle.octets.specs.Classes.{Bytes}
use Rattle.register.specs.declared.fault.TextFault.{TextFault}
use Rattle.register.specs.declared.fault.TextFault.TheVariants.{Width, Order}

-- how two keys compare, byte by byte
abbrev pub rank : Bytes → Bytes → Ordering
rank a b = slice_cmp nat_cmp a b

-- the first n keys of w bytes
abbrev pub cut : ℕ → ℕ → Bytes → List Bytes
cut zero w text = []
cut (suc n) w text = take w text ∷ cut n w (drop w text)

-- all keys of a text
abbrev pub keys_of : ℕ → Bytes → List Bytes
keys_of w text = cut (length text / w) w text

-- k comes before the first key
abbrev pub leads : Bytes → List Bytes → Bool
leads k [] = true
leads k (x ∷ xs) = is_lt (rank k x)

-- each key comes before the next
abbrev pub ascends : List Bytes → Bool
ascends [] = true
ascends (x ∷ xs) = leads x xs && ascends xs

-- k is one of the keys
abbrev pub is_in : List Bytes → Bytes → Bool
is_in [] k = false
is_in (x ∷ xs) k = bytes_eq x k || is_in xs k

-- whole keys of 1 to 27 bytes, strictly ascending
abbrev pub key_check : ℕ → Bytes → Result (Unit {0}) TextFault
key_check w text =
    cond (nat_lt w 1 || (nat_lt 27 w || not (length text % w == 0))) (Err Width)
    (cond (not (ascends (keys_of w text))) (Err Order) (Ok tt))

-- the keys of a list: a text that the check refuses has none
abbrev pub listed : ℕ → Bytes → List Bytes
listed w text = cond (is_ok (key_check w text)) (keys_of w text) []
