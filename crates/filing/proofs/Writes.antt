-- Bytes written into a buffer, one part behind another.
use Rattle.std.proofs.Common.{◌≡◌, ℕ, ◌+◌, ◌≤◌, [], ◌++◌, length, take, drop, sym, ap, ◌∙◌, append_assoc, add-zero, add_assoc, zero-add, arith, length-append, length-drop}
use Rattle.std.proofs.lemmas.List.{take_at, drop_at, drop-drop, length-take-le, take-append-drop}
use Rattle.octets.specs.Classes.{Bytes}
use Rattle.packet.specs.Written.{written}

-- what stands in front of a part, with it
front_long : (xs a : Bytes) (p : ℕ) → p ≤ length xs → length (take p xs ++ a) ≡ p + length a
front_long xs a p h = length-append (take p xs) a ∙ ap (λ n. n + length a) (length-take-le p xs h)

-- a part behind a part is one part
pub written_then : (xs a b : Bytes) (p : ℕ) → p ≤ length xs → written (written xs p a) (p + length a) b ≡ written xs p (a ++ b)
written_then xs a b p h =
    let F = take p xs in
    let D = drop (p + length a) xs in
    let re : written xs p a ≡ (F ++ a) ++ D = sym (append_assoc F a D) in
    let long = front_long xs a p h in
    let t : take (p + length a) ((F ++ a) ++ D) ≡ F ++ a = take_at (F ++ a) D (p + length a) long in
    let d : drop ((p + length a) + length b) ((F ++ a) ++ D) ≡ drop ((p + length a) + length b) xs =
    sym (drop-drop (length b) (p + length a) ((F ++ a) ++ D)) ∙ ap (drop (length b)) (drop_at (F ++ a) D (p + length a) long) ∙ drop-drop (length b) (p + length a) xs in
    ap (λ w. take (p + length a) w ++ (b ++ drop ((p + length a) + length b) w)) re
    ∙ ap (λ f. f ++ (b ++ drop ((p + length a) + length b) ((F ++ a) ++ D))) t
    ∙ ap (λ r. (F ++ a) ++ (b ++ r)) d
    ∙ append_assoc F a (b ++ drop ((p + length a) + length b) xs)
    ∙ ap (λ r. F ++ r) (sym (append_assoc a b (drop ((p + length a) + length b) xs)))
    ∙ ap (λ n. F ++ ((a ++ b) ++ drop n xs)) (add_assoc p (length a) (length b) ∙ ap (λ n. p + n) (sym (length-append a b)))

pub written_none : (xs : Bytes) (p : ℕ) → written xs p [] ≡ xs
written_none xs p = ap (λ n. take p xs ++ drop n xs) (add-zero p) ∙ take-append-drop p xs

-- a part keeps the buffer's length
pub written_long : (xs a : Bytes) (p : ℕ) → p + length a ≤ length xs → length (written xs p a) ≡ length xs
written_long xs a p h =
    let f : p ≤ length xs = omega arith in
    length-append (take p xs) (a ++ drop (p + length a) xs)
    ∙ ap (λ n. n + length (a ++ drop (p + length a) xs)) (length-take-le p xs f)
    ∙ ap (λ n. p + n) (length-append a (drop (p + length a) xs) ∙ ap (λ n. length a + n) (length-drop (p + length a) xs))
    ∙ omega arith

-- a part in front of the one that was written before it
pub written_front : (xs a b : Bytes) → length a + length b ≤ length xs → written (written xs (length a) b) 0 a ≡ written xs 0 (a ++ b)
written_front xs a b h =
    let f : length a ≤ length xs = omega arith in
    ap (λ n. a ++ drop n (take (length a) xs ++ (b ++ drop (length a + length b) xs))) (zero-add (length a))
    ∙ ap (λ r. a ++ r) (drop_at (take (length a) xs) (b ++ drop (length a + length b) xs) (length a) (length-take-le (length a) xs f))
    ∙ sym (append_assoc a b (drop (length a + length b) xs))
    ∙ ap (λ n. (a ++ b) ++ drop n xs) (sym (length-append a b) ∙ sym (zero-add (length (a ++ b))))
