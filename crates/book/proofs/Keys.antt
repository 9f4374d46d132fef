-- The keys of rows: the order of the bytes is the order by DO symbol, then reference, then number.
-- Assumes nothing.
use Rattle.std.proofs.Common.{◌≡◌, ℕ, zero, suc, ◌+◌, ◌-◌, ◌*◌, ◌/◌, ◌%◌, ◌^◌, ◌<◌, Bool, true, false, cond, ◌&&◌, ◌||◌, eqb, ltb, leb, [], ◌∷◌, ◌++◌, length, take, drop, Ordering, Less, Equal, Greater, sym, refl, ap, ◌∙◌, mul_assoc, pow-suc, arith, length-append}
use Rattle.std.specs.Cmp as keys
use Rattle.std.specs.Cmp.{unsigned_tied}
use Rattle.std.specs.Ordering.{is_lt, is_eq, ordering_then, MatchOrdering, nat_cmp}
use Rattle.std.specs.Str.{bytes_eq}
use Rattle.std.proofs.lemmas.Slice.Eq.{bytes_eq-Decides}
use Rattle.std.proofs.lemmas.List.{take_at, drop_at}
use Rattle.std.proofs.lemmas.Bool.{and_parts, le-leb, leb-true}
use Rattle.ordered.specs.Order.{ranks}
use Rattle.ordered.proofs.Ascending.{bytewise}
use Rattle.ordered.proofs.Arrive.{eq_same, same_eq}
use Rattle.octets.specs.Classes.{Bytes}
use Rattle.octets.specs.Values.{value_of, digit_of}
use Rattle.layout.specs.declared.pair.Pair.{Pair}
use Rattle.book.specs.Lists.{before}
use Rattle.book.specs.Meaning.{same_pair, before_pair}
use Rattle.book.specs.Stands.{is_line_number}
use Rattle.book.specs.Rows.{pair_key, digits_of, line_key, pair_of}

-- ---- tests and orderings

eq_then : (o p : Ordering) → is_eq (ordering_then o p) ≡ (is_eq o && is_eq p)
eq_then Less p = refl
eq_then Equal p = refl
eq_then Greater p = refl

lt_then : (o p : Ordering) → is_lt (ordering_then o p) ≡ (is_lt o || (is_eq o && is_lt p))
lt_then Less p = refl
lt_then Equal p = refl
lt_then Greater p = refl

lt_cmp : (x y : ℕ) → is_lt (nat_cmp x y) ≡ ltb x y
lt_cmp x y = go (ltb x y) (eqb x y)
  where
    go : (a b : Bool) → is_lt (cond a Less (cond b Equal Greater)) ≡ a
    go true b = refl
    go false true = refl
    go false false = refl

alike : (s t : Bool) → (s ≡ true → t ≡ true) → (t ≡ true → s ≡ true) → s ≡ t
alike true true f g = refl
alike true false f g = sym (f refl)
alike false true f g = g refl
alike false false f g = refl

pub same_ranks : (a b : Bytes) → bytes_eq a b ≡ is_eq (ranks a b)
same_ranks a b =
    let d = bytes_eq-Decides a b in
    alike (bytes_eq a b) (is_eq (ranks a b)) (λ h. same_eq ranks bytewise a b (d.0 h)) (λ h. d.1 (eq_same ranks bytewise a b h))

pub before_ranks : (a b : Bytes) → before a b ≡ is_lt (ranks a b)
before_ranks [] [] = refl
before_ranks [] (y ∷ ys) = refl
before_ranks (x ∷ xs) [] = refl
before_ranks (x ∷ xs) (y ∷ ys) =
    sym (lt_then (nat_cmp x y) (ranks xs ys)
    ∙ (λ i. lt_cmp x y i || (unsigned_tied x y i && sym (before_ranks xs ys) i)))

-- ---- parts of a key

then_step : (o p q r : Ordering) → r ≡ ordering_then p q → ordering_then o r ≡ ordering_then (ordering_then o p) q
then_step Less p q r h = refl
then_step Equal p q r h = h
then_step Greater p q r h = refl

pub split_ranks : (n : ℕ) (a b : Bytes) → ranks a b ≡ ordering_then (ranks (take n a) (take n b)) (ranks (drop n a) (drop n b))
split_ranks zero a b = refl
split_ranks (suc n) [] [] = refl
split_ranks (suc n) [] (y ∷ ys) = refl
split_ranks (suc n) (x ∷ xs) [] = refl
split_ranks (suc n) (x ∷ xs) (y ∷ ys) =
    then_step (nat_cmp x y) (ranks (take n xs) (take n ys)) (ranks (drop n xs) (drop n ys)) (ranks xs ys) (split_ranks n xs ys)

-- ---- pairs

pub pair_same : (a b : Bytes) → same_pair (pair_of a) (pair_of b) ≡ is_eq (ranks a b)
pair_same a b =
    (λ i. same_ranks (take 5 a) (take 5 b) i && same_ranks (drop 5 a) (drop 5 b) i)
    ∙ (sym (eq_then (ranks (take 5 a) (take 5 b)) (ranks (drop 5 a) (drop 5 b)))
    ∙ ap is_eq (sym (split_ranks 5 a b)))

pub pair_before : (a b : Bytes) → before_pair (pair_of a) (pair_of b) ≡ is_lt (ranks a b)
pair_before a b =
    (λ i. before_ranks (take 5 a) (take 5 b) i || (same_ranks (take 5 a) (take 5 b) i && before_ranks (drop 5 a) (drop 5 b) i))
    ∙ (sym (lt_then (ranks (take 5 a) (take 5 b)) (ranks (drop 5 a) (drop 5 b)))
    ∙ ap is_lt (sym (split_ranks 5 a b)))

pub pair_whole : (p : Pair) → length p.office ≡ 5 → pair_of (pair_key p) ≡ p
pair_whole p h = λ i. record { office = take_at p.office p.reference 5 h i; reference = drop_at p.office p.reference 5 h i }

-- a key is that of the pair asked for
pub pair_asked : (a : Bytes) (p : Pair) → length p.office ≡ 5 → same_pair (pair_of a) p ≡ is_eq (ranks a (pair_key p))
pair_asked a p h = ap (same_pair (pair_of a)) (sym (pair_whole p h)) ∙ pair_same a (pair_key p)

-- ---- numbers in digits

length_digits : (k n : ℕ) → length (digits_of k n) ≡ k
length_digits zero n = refl
length_digits (suc k) n = length-append (digits_of k (n / 10)) ((48 + n % 10) ∷ []) ∙ omega (arith, length_digits k (n / 10))

then_last : (o c p : Ordering) → ordering_then o (ordering_then c p) ≡ ordering_then (ordering_then o c) p
then_last Less c p = refl
then_last Equal c p = refl
then_last Greater c p = refl

then_equal : (o : Ordering) → ordering_then o Equal ≡ o
then_equal Less = refl
then_equal Equal = refl
then_equal Greater = refl

push_ranks : (cs bs : Bytes) (x y : ℕ) → length cs ≡ length bs → ranks (cs ++ x ∷ []) (bs ++ y ∷ []) ≡ ordering_then (ranks cs bs) (nat_cmp x y)
push_ranks [] [] x y h = then_equal (nat_cmp x y)
push_ranks [] (b ∷ bs) x y h = absurd (omega arith)
push_ranks (a ∷ cs) [] x y h = absurd (omega arith)
push_ranks (a ∷ cs) (b ∷ bs) x y h =
    ap (ordering_then (nat_cmp a b)) (push_ranks cs bs x y (omega arith)) ∙ then_last (nat_cmp a b) (ranks cs bs) (nat_cmp x y)

last_digit : (m n : ℕ) (o p : Ordering) → MatchOrdering o (m / 10 < n / 10) (m / 10 ≡ n / 10) (n / 10 < m / 10) → MatchOrdering p (48 + m % 10 < 48 + n % 10) (48 + m % 10 ≡ 48 + n % 10) (48 + n % 10 < 48 + m % 10) → MatchOrdering (ordering_then o p) (m < n) (m ≡ n) (n < m)
last_digit m n Less p h k = omega arith
last_digit m n Equal Less h k = omega arith
last_digit m n Equal Equal h k = omega arith
last_digit m n Equal Greater h k = omega arith
last_digit m n Greater p h k = omega arith

pub digits_rank : (k m n : ℕ) → m < 10 ^ k → n < 10 ^ k → ranks (digits_of k m) (digits_of k n) ≡ nat_cmp m n
digits_rank zero m n a b = let e : m ≡ n = omega arith in (keys.nat_cmp_is m n Equal e)
digits_rank (suc k) m n a b =
    let w : 10 ^ suc k ≡ 10 ^ k * 10 = pow-suc 10 k in
    push_ranks (digits_of k (m / 10)) (digits_of k (n / 10)) (48 + m % 10) (48 + n % 10) (length_digits k (m / 10) ∙ sym (length_digits k (n / 10)))
    ∙ (ap (λ o. ordering_then o (nat_cmp (48 + m % 10) (48 + n % 10))) (digits_rank k (m / 10) (n / 10) (omega arith) (omega arith))
    ∙ (keys.nat_cmp_is m n _ (last_digit m n (nat_cmp (m / 10) (n / 10)) (nat_cmp (48 + m % 10) (48 + n % 10)) (keys.ranks (m / 10) (n / 10)) (keys.ranks (48 + m % 10) (48 + n % 10)))))

value_push : (bs : Bytes) (b : ℕ) → value_of (bs ++ b ∷ []) ≡ value_of bs * 10 + digit_of b
value_push [] b = omega arith
value_push (x ∷ xs) b =
    let l : length (xs ++ b ∷ []) ≡ suc (length xs) = length-append xs (b ∷ []) ∙ omega arith in
    let w : 10 ^ length (xs ++ b ∷ []) ≡ 10 ^ length xs * 10 = ap (λ n. 10 ^ n) l ∙ pow-suc 10 (length xs) in
    let e : digit_of x * 10 ^ length (xs ++ b ∷ []) ≡ digit_of x * 10 ^ length xs * 10 = ap (λ n. digit_of x * n) w ∙ sym (mul_assoc (digit_of x) (10 ^ length xs) 10) in
    let v = value_push xs b in omega arith

digit_own : (r : ℕ) → r < 10 → digit_of (48 + r) ≡ r
digit_own r h =
    let a = le-leb 48 (48 + r) (omega arith) in
    let b = le-leb (48 + r) 57 (omega arith) in
    (λ i. cond (a i && b i) (48 + r - 48) 0) ∙ omega arith

pub value_digits : (k n : ℕ) → n < 10 ^ k → value_of (digits_of k n) ≡ n
value_digits zero n h = omega arith
value_digits (suc k) n h =
    let w : 10 ^ suc k ≡ 10 ^ k * 10 = pow-suc 10 k in
    let d = digit_own (n % 10) (omega arith) in
    let v = value_digits k (n / 10) (omega arith) in
    value_push (digits_of k (n / 10)) (48 + n % 10) ∙ omega arith

pub line_number_small : (n : ℕ) → is_line_number n ≡ true → n < 10 ^ 6
line_number_small n h = let l = leb-true n 1000 (and_parts (leb 1 n) (leb n 1000) h).1 in omega arith

-- ---- keys of lines: two of them with sound digits, m and n their numbers

pub number_same : (m n : ℕ) → m < 10 ^ 6 → n < 10 ^ 6 → is_eq (ranks (digits_of 6 m) (digits_of 6 n)) ≡ eqb m n
number_same m n a b = ap is_eq (digits_rank 6 m n a b) ∙ unsigned_tied m n

pub number_before : (m n : ℕ) → m < 10 ^ 6 → n < 10 ^ 6 → is_lt (ranks (digits_of 6 m) (digits_of 6 n)) ≡ ltb m n
number_before m n a b = ap is_lt (digits_rank 6 m n a b) ∙ lt_cmp m n

pub line_same : (a b : Bytes) (m n : ℕ) → drop 13 a ≡ digits_of 6 m → drop 13 b ≡ digits_of 6 n → m < 10 ^ 6 → n < 10 ^ 6 → (same_pair (pair_of (take 13 a)) (pair_of (take 13 b)) && eqb m n) ≡ is_eq (ranks a b)
line_same a b m n d e l k =
    (λ i. pair_same (take 13 a) (take 13 b) i && (sym (number_same m n l k) ∙ (λ j. is_eq (ranks (sym d j) (sym e j)))) i)
    ∙ (sym (eq_then (ranks (take 13 a) (take 13 b)) (ranks (drop 13 a) (drop 13 b)))
    ∙ ap is_eq (sym (split_ranks 13 a b)))

pub line_before : (a b : Bytes) (m n : ℕ) → drop 13 a ≡ digits_of 6 m → drop 13 b ≡ digits_of 6 n → m < 10 ^ 6 → n < 10 ^ 6 → (before_pair (pair_of (take 13 a)) (pair_of (take 13 b)) || (same_pair (pair_of (take 13 a)) (pair_of (take 13 b)) && ltb m n)) ≡ is_lt (ranks a b)
line_before a b m n d e l k =
    (λ i. pair_before (take 13 a) (take 13 b) i || (pair_same (take 13 a) (take 13 b) i && (sym (number_before m n l k) ∙ (λ j. is_lt (ranks (sym d j) (sym e j)))) i))
    ∙ (sym (lt_then (ranks (take 13 a) (take 13 b)) (ranks (drop 13 a) (drop 13 b)))
    ∙ ap is_lt (sym (split_ranks 13 a b)))

-- ---- the key of a line with this number under this pair

module _ (p : Pair) (n : ℕ) (o : length p.office ≡ 5) (r : length p.reference ≡ 8) where
  pair_long : length (pair_key p) ≡ 13
  pair_long = length-append p.office p.reference ∙ omega arith

  pub line_pair : pair_of (take 13 (line_key p n)) ≡ p
  line_pair = ap pair_of (take_at (pair_key p) (digits_of 6 n) 13 pair_long) ∙ pair_whole p o

  pub line_digits : drop 13 (line_key p n) ≡ digits_of 6 n
  line_digits = drop_at (pair_key p) (digits_of 6 n) 13 pair_long

  pub line_value : n < 10 ^ 6 → value_of (drop 13 (line_key p n)) ≡ n
  line_value h = ap value_of line_digits ∙ value_digits 6 n h
