-- The number that digits write, digit after digit.
use Rattle.std.proofs.Common.{◌≡◌, ℕ, suc, ◌+◌, ◌*◌, ◌^◌, ◌<◌, ◌≤◌, ◌∷◌, length, get_or, drop, sym, ap, ◌∙◌, mul_assoc, add-mul, pow-suc, add-one, arith}
use native.Mathlib.Nat.{pow-le-pow_right}
use Rattle.std.proofs.lemmas.List.{at_drop_more}
use Rattle.octets.specs.Classes.{Bytes}
use Rattle.octets.specs.Values.{value_of, digit_of}

-- n, and then the digits
abbrev pub onward : ℕ → Bytes → ℕ
onward n bs = n * 10 ^ length bs + value_of bs

onward_more : (n b : ℕ) (bs : Bytes) → onward n (b ∷ bs) ≡ onward (n * 10 + digit_of b) bs
onward_more n b bs =
    let w : 10 ^ suc (length bs) ≡ 10 ^ length bs * 10 = pow-suc 10 (length bs) in
    let k = 10 ^ length bs in
    let e : n * (k * 10) ≡ n * 10 * k = ap (λ m. n * m) (omega arith) ∙ sym (mul_assoc n 10 k) in
    let d : (n * 10 + digit_of b) * k ≡ n * 10 * k + digit_of b * k = add-mul (n * 10) (digit_of b) k in
    let f : n * 10 ^ suc (length bs) ≡ n * (k * 10) = ap (λ m. n * m) w in
    omega arith

module _ (xs : Bytes) (i n d r : ℕ) where
  pub value_more : i < length xs → d ≡ digit_of (get_or xs i 0) → onward n (drop i xs) ≡ r → onward (n * 10 + d) (drop (i + 1) xs) ≡ r
  value_more h e inv = rw e (sym (at_drop_more (onward n) xs i 0 h ∙ onward_more n (get_or xs i 0) (drop (i + 1) xs)) ∙ inv)

pub room : (n i m : ℕ) → n < 10 ^ i → i ≤ m → n < 10 ^ m
room n i m h k = let p : 10 ^ i ≤ 10 ^ m = pow-le-pow_right (omega arith) k in omega arith

pub room_more : (n i d : ℕ) → n < 10 ^ i → d ≤ 9 → n * 10 + d < 10 ^ (i + 1)
room_more n i d h k = rw (add-one, pow-suc) (omega arith)
