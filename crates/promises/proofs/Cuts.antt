-- A file cut into records and transactions, with one transaction between others.
use Rattle.std.proofs.Common.{◌≡◌, ℕ, suc, ◌+◌, ◌-◌, ◌≤◌, Bool, true, false, cond, eqb, List, [], ◌∷◌, ◌++◌, length, get_or, drop, All, sym, refl, ap, ◌∙◌, append_assoc, arith}
use Rattle.std.proofs.lemmas.List.Elements.{All-nil, All-tail, All-head, All-cons}
use Rattle.std.proofs.lemmas.List.{drop-append-le}
use Rattle.std.proofs.lemmas.Bool.{eqb-true, true≢false}
use Rattle.octets.specs.Classes.{Bytes}
use Rattle.file.specs.Openings.{ends_in_feed}
use Rattle.file.specs.Records.{onto, records, is_header, many, until_header, transactions, transactions_of, first_of, others_of}
use Rattle.promises.specs.Replaced.{Whole, is_next}

onto_append : (x : ℕ) (r : Bytes) (rs ss : List Bytes) → onto x ((r ∷ rs) ++ ss) ≡ onto x (r ∷ rs) ++ ss
onto_append x r rs ss = refl

-- a text that ends in a line feed has a record, and what follows it is cut by itself
record Cut (a : Bytes) : Type 0 where
  first : Bytes
  more : List Bytes
  is : records (a ++ 10 ∷ []) ≡ first ∷ more

cut : (a : Bytes) → Cut a
cut [] = record { first = []; more = []; is = refl }
cut (x ∷ a) = go (eqb x 10) refl (cut a)
  where
    go : (v : Bool) → eqb x 10 ≡ v → Cut a → Cut (x ∷ a)
    go true e c = record { first = []; more = records (a ++ 10 ∷ []); is = simp e }
    go false e c = record { first = x ∷ c.first; more = c.more; is = simp (e, c.is) }

records_append : (a b : Bytes) → records (a ++ 10 ∷ b) ≡ records (a ++ 10 ∷ []) ++ records b
records_append [] b = refl
records_append (x ∷ a) b = go (eqb x 10) (records_append a b) (cut a)
  where
    go : (v : Bool) → records (a ++ 10 ∷ b) ≡ records (a ++ 10 ∷ []) ++ records b → Cut a
        → cond v ([] ∷ records (a ++ 10 ∷ b)) (onto x (records (a ++ 10 ∷ b))) ≡ cond v ([] ∷ records (a ++ 10 ∷ [])) (onto x (records (a ++ 10 ∷ []))) ++ records b
    go true h c = ap (λ rs. [] ∷ rs) h
    go false h c = ap (onto x) h ∙ ap (λ rs. onto x (rs ++ records b)) c.is ∙ onto_append x c.first c.more (records b) ∙ sym (ap (λ rs. onto x rs ++ records b) c.is)

-- its last byte
last : (t : Bytes) → ends_in_feed t ≡ true → (u : Bytes) × (t ≡ u ++ 10 ∷ [])
last [] h = absurd (true≢false (sym h))
last (x ∷ []) h = let e : x ≡ 10 = eqb-true x 10 h in ([], ap (λ y. y ∷ []) e)
last (x ∷ y ∷ ys) h =
    let m : suc (suc (length ys)) - 1 ≡ suc (length ys) = omega arith in
    let n : suc (length ys) - 1 ≡ length ys = omega arith in
    let k : eqb (get_or (y ∷ ys) (length ys) 0) 10 ≡ true = ap (λ i. eqb (get_or (x ∷ y ∷ ys) i 0) 10) (sym m) ∙ h in
    let r = last (y ∷ ys) (ap (λ i. eqb (get_or (y ∷ ys) i 0) 10) n ∙ k) in
    (x ∷ r.0, ap (λ zs. x ∷ zs) r.1)

pub ended_append : (a b : Bytes) → ends_in_feed a ≡ true → records (a ++ b) ≡ records a ++ records b
ended_append a b h =
    let u = last a h in
    ap (λ x. records (x ++ b)) u.1 ∙ ap records (append_assoc u.0 (10 ∷ []) b) ∙ records_append u.0 b ∙ sym (ap (λ x. records x ++ records b) u.1)

-- the record behind a transaction is a header, or there is none
abbrev StartsH : List Bytes → Type 0
StartsH [] = Unit {0}
StartsH (r ∷ rs) = is_header r ≡ true

abbrev NoneH : List Bytes → Type 0
NoneH rs = All (λ r. is_header r ≡ false) rs

none_many : (rs : List Bytes) → many is_header rs ≡ 0 → NoneH rs
none_many [] h = All-nil (λ r. is_header r ≡ false)
none_many (r ∷ rs) h = let k = go (is_header r) refl h (none_many rs) in All-cons (λ r. is_header r ≡ false) r rs k.0 k.1
  where
    go : (v : Bool) → is_header r ≡ v → cond v 1 0 + many is_header rs ≡ 0 → (many is_header rs ≡ 0 → NoneH rs) → (is_header r ≡ false) × NoneH rs
    go true e k rest = absurd (omega arith)
    go false e k rest = (e, rest (omega arith))

until_body : (body rs : List Bytes) → NoneH body → StartsH rs → until_header (body ++ rs) ≡ body
until_body [] [] h s = refl
until_body [] (r ∷ rs) h s = simp s
until_body (r ∷ body) rs h s = let k = until_body body rs (All-tail (λ r. is_header r ≡ false) r body h) s in let e = All-head (λ r. is_header r ≡ false) r body h in simp (e, k)

skip_body : (body rs : List Bytes) → NoneH body → transactions (body ++ rs) ≡ transactions rs
skip_body [] rs h = refl
skip_body (r ∷ body) rs h = let k = skip_body body rs (All-tail (λ r. is_header r ≡ false) r body h) in let e = All-head (λ r. is_header r ≡ false) r body h in simp (e, k)

until_front : (front rs : List Bytes) (r : Bytes) → is_header r ≡ true → until_header (front ++ r ∷ rs) ≡ until_header front
until_front [] rs r h = simp h
until_front (f ∷ front) rs r h = let k = until_front front rs r h in simp k

transactions_append : (front rs : List Bytes) (r : Bytes) → is_header r ≡ true → transactions (front ++ r ∷ rs) ≡ transactions front ++ transactions (r ∷ rs)
transactions_append [] rs r h = refl
transactions_append (f ∷ front) rs r h = go (is_header f) (transactions_append front rs r h) (until_front front rs r h)
  where
    go : (v : Bool) → transactions (front ++ r ∷ rs) ≡ transactions front ++ transactions (r ∷ rs) → until_header (front ++ r ∷ rs) ≡ until_header front
        → cond v ((f ∷ until_header (front ++ r ∷ rs)) ∷ transactions (front ++ r ∷ rs)) (transactions (front ++ r ∷ rs)) ≡ cond v ((f ∷ until_header front) ∷ transactions front) (transactions front) ++ transactions (r ∷ rs)
    go true e l = cc
    go false e l = e

one_between : (front : List Bytes) (h : Bytes) (body rest : List Bytes) → is_header h ≡ true → NoneH body → StartsH rest → transactions (front ++ h ∷ (body ++ rest)) ≡ transactions front ++ (h ∷ body) ∷ transactions rest
one_between front h body rest e b s =
    transactions_append front (body ++ rest) h e ∙ ap (λ x. transactions front ++ x)
    (let l = until_body body rest b s in let k = skip_body body rest b in simp (e, l, k))

starts : (rest : Bytes) → is_next rest ≡ true → StartsH (records rest)
starts [] h = tt
starts (x ∷ xs) h = let e : x ≡ 72 = eqb-true x 72 h in rw e (go (records xs))
  where
    go : (rs : List Bytes) → StartsH (onto 72 rs)
    go [] = refl
    go (r ∷ rs) = refl

some_records : (rs : List Bytes) → is_header (first_of rs) ≡ true → rs ≡ first_of rs ∷ others_of rs
some_records [] h = absurd (true≢false (sym h))
some_records (r ∷ rs) h = refl

-- the transactions of a file, with one at its place
pub between : (front t rest : Bytes) → Whole t → ends_in_feed front ≡ true → 2 ≤ length (records front) → is_next rest ≡ true →
    transactions_of (front ++ (t ++ rest)) ≡ transactions_of front ++ records t ∷ transactions (records rest)
between front t rest w ended two next =
    let split = some_records (records t) w.header in
    let inner : records (t ++ rest) ≡ first_of (records t) ∷ (others_of (records t) ++ records rest) = ended_append t rest w.ended ∙ ap (λ x. x ++ records rest) split in
    ap (λ rs. transactions (drop 2 rs)) (ended_append front (t ++ rest) ended ∙ ap (λ rs. records front ++ rs) inner)
    ∙ ap transactions (drop-append-le 2 (records front) (first_of (records t) ∷ (others_of (records t) ++ records rest)) two)
    ∙ one_between (drop 2 (records front)) (first_of (records t)) (others_of (records t)) (records rest) w.header (none_many (others_of (records t)) w.one) (starts rest next)
    ∙ ap (λ x. transactions_of front ++ x ∷ transactions (records rest)) (sym split)
