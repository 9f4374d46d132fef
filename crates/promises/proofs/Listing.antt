-- What each check of a transaction tells: a code of its record or of the whole, a record that there is, a column of a layout.
use Rattle.std.proofs.Common.{◌≡◌, ℕ, suc, ◌+◌, ◌<◌, ◌≤◌, Bool, true, false, cond, not, ◌&&◌, ◌||◌, eqb, ltb, leb, List, [], ◌∷◌, ◌++◌, map, length, is_some, Some, None, All, Option, refl, arith}
use Rattle.std.specs.List.{flat_map}
use Rattle.std.proofs.lemmas.List.Elements.{All-append, All-nil, All-cons, All-head, All-tail, All-from_recursion}
use Rattle.std.proofs.lemmas.Bool.{and_parts, ltb-true}
use Rattle.octets.specs.Classes.{Bytes}
use Rattle.layout.specs.declared.Layout.{Layout}
use Rattle.layout.specs.declared.Layout.TheVariants.{PaymentHeader, PaymentDetail, AdjustmentHeader, AdjustmentDetail, SglEntry, ZeroDollarHeader, ZeroDollarDetail, PostSglHeader, PostSglDetail, PostSglEntry}
use Rattle.layout.specs.declared.field.Field.{Field}
use Rattle.layout.specs.declared.pair.Pair.{Pair}
use Rattle.layout.specs.declared.set_id.SetId.{SetId}
use Rattle.layout.specs.declared.set_id.SetId.TheVariants.{Payment, Collection, ReceiverAdjustment, SenderAdjustment, ZeroDollar, PostSgl}
use Rattle.layout.specs.Companions.{companions_of, refused_start}
use Rattle.layout.specs.Fields.{start_of}
use Rattle.layout.specs.Layouts.{fields_of, width_of}
use Rattle.file.specs.Records.{is_detail, many}
use Rattle.book.specs.Meaning.{BookMeaning, EntryHeld, LineHeld}
use Rattle.transaction.specs.declared.header.Transaction.{Transaction}
use Rattle.transaction.specs.Checks.{Holds, product_passes, detail_count, total_passes, field_checks, companion_check, checks_under, checks_under_any, layout_at, record_checks, records_checks, entry_set_check}
use Rattle.transaction.specs.Details.{DetailRead, read_as, entry_set, until_detail, details_from, details_of}
use Rattle.transaction.specs.Headers.{set_id_of, total_of, own_pair, original_pair}
use Rattle.transaction.specs.Verdicts.{Check, check}
use Rattle.promises.specs.Held.{Held, at, checks_at}
use Rattle.promises.specs.Against.{adjusts, latest, original_column, item_column, serves, line_checks, line_checks_any, line_named, detail_checks, entry_checks, original_checks}
use Rattle.promises.specs.Own.{own_column, own_pair_checks, place_checks}
use Rattle.promises.specs.Judging.{book_checks, book_checks_any}

-- the codes of a record, and those of the whole transaction
abbrev pub is_record_code : ℕ → Bool
is_record_code c = eqb c 21 || (eqb c 22 || (eqb c 31 || (eqb c 32 || (eqb c 33 || (eqb c 34 || eqb c 51)))))

abbrev pub is_whole_code : ℕ → Bool
is_whole_code c = (leb 41 c && leb c 43) || (leb 61 c && leb c 67)

pub all_joined : {X : Type 0} (P : Check → Type 0) (f : X → List Check) (Q : X → Type 0) → ((x : X) → Q x → All P (f x)) → (xs : List X) → All Q xs → All P (flat_map f xs)
all_joined P f Q h [] k = All-nil P
all_joined P f Q h (x ∷ xs) k = All-append P (f x) (flat_map f xs) (h x (All-head Q x xs k)) (all_joined P f Q h xs (All-tail Q x xs k))

all_map : {X : Type 0} (P : Check → Type 0) (f : X → Check) (Q : X → Type 0) → ((x : X) → Q x → P (f x)) → (xs : List X) → All Q xs → All P (map f xs)
all_map P f Q h [] k = All-nil P
all_map P f Q h (x ∷ xs) k = All-cons P (f x) (map f xs) (h x (All-head Q x xs k)) (all_map P f Q h xs (All-tail Q x xs k))

-- ---- the columns of the tables

small : {X : Type 0} → (X → ℕ) → List X → Bool
small f [] = true
small f (x ∷ xs) = ltb (f x) 65536 && small f xs

all_small : {X : Type 0} (f : X → ℕ) (xs : List X) → small f xs ≡ true → All (λ x. f x < 65536) xs
unfolding small
all_small f [] h = All-nil (λ x. f x < 65536)
all_small f (x ∷ xs) h = let k = and_parts (ltb (f x) 65536) (small f xs) h in All-cons (λ x. f x < 65536) x xs (ltb-true (f x) 65536 k.0) (all_small f xs k.1)

fields_small : (l : Layout) → small start_of (fields_of l) ≡ true
unfolding small
fields_small PaymentHeader = refl
fields_small PaymentDetail = refl
fields_small AdjustmentHeader = refl
fields_small AdjustmentDetail = refl
fields_small SglEntry = refl
fields_small ZeroDollarHeader = refl
fields_small ZeroDollarDetail = refl
fields_small PostSglHeader = refl
fields_small PostSglDetail = refl
fields_small PostSglEntry = refl

companions_small : (l : Layout) → small refused_start (companions_of l) ≡ true
unfolding small
companions_small PaymentHeader = refl
companions_small PaymentDetail = refl
companions_small AdjustmentHeader = refl
companions_small AdjustmentDetail = refl
companions_small SglEntry = refl
companions_small ZeroDollarHeader = refl
companions_small ZeroDollarDetail = refl
companions_small PostSglHeader = refl
companions_small PostSglDetail = refl
companions_small PostSglEntry = refl

original_small : (set : SetId) → original_column set < 65536
original_small Payment = omega arith
original_small Collection = omega arith
original_small ReceiverAdjustment = omega arith
original_small SenderAdjustment = omega arith
original_small ZeroDollar = omega arith
original_small PostSgl = omega arith

item_small : (set : SetId) → item_column set < 65536
item_small Payment = omega arith
item_small Collection = omega arith
item_small ReceiverAdjustment = omega arith
item_small SenderAdjustment = omega arith
item_small ZeroDollar = omega arith
item_small PostSgl = omega arith

own_small : (set : SetId) → own_column set < 65536
own_small Payment = omega arith
own_small Collection = omega arith
own_small ReceiverAdjustment = omega arith
own_small SenderAdjustment = omega arith
own_small ZeroDollar = omega arith
own_small PostSgl = omega arith

-- the numbers of the details are those of records
details_within : (n m : ℕ) (rs : List Bytes) → m + length rs ≤ suc n → All (λ d. d.number ≤ n) (details_from m rs)
details_within n m [] h = All-nil (λ d. d.number ≤ n)
details_within n m (r ∷ rs) h = go (is_detail r) (details_within n (suc m) rs (omega arith))
  where
    go : (v : Bool) → All (λ d. d.number ≤ n) (details_from (suc m) rs) → All (λ d. d.number ≤ n) (cond v (read_as m r (entry_set (until_detail rs)) ∷ details_from (suc m) rs) (details_from (suc m) rs))
    go true k = All-cons (λ d. d.number ≤ n) (read_as m r (entry_set (until_detail rs))) (details_from (suc m) rs) (omega arith) k
    go false k = k

-- ---- what each tells

abbrev pub Says : (ℕ → ℕ → ℕ → Type 0) → Check → Type 0
Says Q c = Q c.code c.at_record c.column

-- a record
module _ (holds : Holds) (Q : ℕ → ℕ → ℕ → Type 0) (m : ℕ) (says : (c k : ℕ) → is_record_code c ≡ true → k < 65536 → Q c m k) where
  field_says : (r : Bytes) (f : Field) → start_of f < 65536 → All (Says Q) (field_checks holds m r f)
  field_says r f k = All-from_recursion (Says Q) (field_checks holds m r f) (says 21 (start_of f) refl k, (says 22 (start_of f) refl k, (says 51 (start_of f) refl k, tt)))

  pub under_says : (r : Bytes) (l : Layout) → All (Says Q) (checks_under holds m r l)
  under_says r l =
      let F = flat_map (field_checks holds m r) (fields_of l) in
      let K = map (companion_check m r) (companions_of l) in
      let product = check (product_passes l r) 34 m 30 in
      let a = all_joined (Says Q) (field_checks holds m r) (λ f. start_of f < 65536) (field_says r) (fields_of l) (all_small start_of (fields_of l) (fields_small l)) in
      let c = all_map (Says Q) (companion_check m r) (λ x. refused_start x < 65536) (λ x k. says 33 (refused_start x) refl k) (companions_of l) (all_small refused_start (companions_of l) (companions_small l)) in
      let p : All (Says Q) (product ∷ []) = All-from_recursion (Says Q) (product ∷ []) (says 34 30 refl (omega arith), tt) in
      All-cons (Says Q) (check (eqb (length r) (width_of l)) 32 m 1) (F ++ (K ++ product ∷ [])) (says 32 1 refl (omega arith)) (All-append (Says Q) F (K ++ product ∷ []) a (All-append (Says Q) K (product ∷ []) c p))

  any_says : (r : Bytes) (l : Option Layout) → All (Says Q) (checks_under_any holds m r l)
  any_says r None = All-nil (Says Q)
  any_says r (Some l) = under_says r l

  record_says : (set : SetId) (r : Bytes) → All (Says Q) (record_checks holds set m r)
  record_says set r = All-cons (Says Q) (check (is_some (layout_at set m r)) 31 m 1) (checks_under_any holds m r (layout_at set m r)) (says 31 1 refl (omega arith)) (any_says r (layout_at set m r))

abbrev pub behind_header : Holds → SetId → Bytes → List Bytes → List Check
behind_header holds set h rs = records_checks holds set 1 rs ++ (check (detail_count set (many is_detail rs)) 41 0 1 ∷ (map (entry_set_check set) (details_of rs) ++ check (total_passes set h (details_of rs)) 43 0 10 ∷ []))

-- the checks behind those of the header, of a transaction with n records behind it
module _ (Q : ℕ → ℕ → ℕ → Type 0) (n : ℕ) (of_record : (c m k : ℕ) → is_record_code c ≡ true → 1 ≤ m → m ≤ n → k < 65536 → Q c m k) (of_whole : (c m k : ℕ) → is_whole_code c ≡ true → m ≤ n → k < 65536 → Q c m k) where
  records_say : (holds : Holds) (set : SetId) (m : ℕ) (rs : List Bytes) → 1 ≤ m → m + length rs ≤ suc n → All (Says Q) (records_checks holds set m rs)
  records_say holds set m [] l h = All-nil (Says Q)
  records_say holds set m (r ∷ rs) l h =
      All-append (Says Q) (record_checks holds set m r) (records_checks holds set (suc m) rs)
      (record_says holds Q m (λ c k e s. of_record c m k e l (omega arith) s) set r)
      (records_say holds set (suc m) rs (omega arith) (omega arith))

  pub behind_says : (holds : Holds) (set : SetId) (h : Bytes) (rs : List Bytes) → length rs ≤ n → All (Says Q) (behind_header holds set h rs)
  behind_says holds set h rs few =
      let D = map (entry_set_check set) (details_of rs) in
      let count = check (detail_count set (many is_detail rs)) 41 0 1 in
      let total = check (total_passes set h (details_of rs)) 43 0 10 in
      let d = all_map (Says Q) (entry_set_check set) (λ x. x.number ≤ n) (λ x k. of_whole 42 x.number 1 refl k (omega arith)) (details_of rs) (details_within n 1 rs (omega arith)) in
      let last : All (Says Q) (total ∷ []) = All-from_recursion (Says Q) (total ∷ []) (of_whole 43 0 10 refl (omega arith) (omega arith), tt) in
      let end : All (Says Q) (count ∷ (D ++ total ∷ [])) = All-cons (Says Q) count (D ++ total ∷ []) (of_whole 41 0 1 refl (omega arith) (omega arith)) (All-append (Says Q) D (total ∷ []) d last) in
      All-append (Says Q) (records_checks holds set 1 rs) (count ∷ (D ++ total ∷ [])) (records_say holds set 1 rs (omega arith) (omega arith)) end

  line_says : (set : SetId) (d : DetailRead) (l : LineHeld) → d.number ≤ n → All (Says Q) (line_checks set d l)
  line_says Payment d l h = All-nil (Says Q)
  line_says Collection d l h = All-nil (Says Q)
  line_says ReceiverAdjustment d l h = All-from_recursion (Says Q) (line_checks ReceiverAdjustment d l) (of_whole 64 d.number 100 refl h (omega arith), (of_whole 64 d.number 135 refl h (omega arith), tt))
  line_says SenderAdjustment d l h = All-from_recursion (Says Q) (line_checks SenderAdjustment d l) (of_whole 64 d.number 100 refl h (omega arith), (of_whole 64 d.number 135 refl h (omega arith), tt))
  line_says ZeroDollar d l h = All-nil (Says Q)
  line_says PostSgl d l h = All-from_recursion (Says Q) (line_checks PostSgl d l) (of_whole 64 d.number 1 refl h (omega arith), tt)

  line_any_says : (set : SetId) (d : DetailRead) (l : Option LineHeld) → d.number ≤ n → All (Says Q) (line_checks_any set d l)
  line_any_says set d None h = All-nil (Says Q)
  line_any_says set d (Some l) h = line_says set d l h

  detail_says : (set : SetId) (h : Held) (d : DetailRead) → d.number ≤ n → All (Says Q) (detail_checks set h d)
  detail_says set h d k = All-cons (Says Q) (check (is_some (line_named set h d)) 63 d.number (item_column set)) (line_checks_any set d (line_named set h d)) (of_whole 63 d.number (item_column set) refl k (item_small set)) (line_any_says set d (line_named set h d) k)

  module _ (t : Transaction) (ds : List DetailRead) (within : All (λ d. d.number ≤ n) ds) where
    entry_says : (day : ℕ) (h : Held) (e : Option EntryHeld) → All (Says Q) (entry_checks day t ds h e)
    entry_says day h None = All-nil (Says Q)
    entry_says day h (Some e) =
        let a = all_joined (Says Q) (detail_checks (set_id_of t) h) (λ d. d.number ≤ n) (detail_says (set_id_of t) h) ds within in
        let F = flat_map (detail_checks (set_id_of t) h) ds in
        let late = check (not (adjusts (set_id_of t)) || leb day (latest e)) 62 0 (original_column (set_id_of t)) in
        let above = check (not (adjusts (set_id_of t)) || leb (total_of t) e.open_amount) 65 0 10 in
        All-append (Says Q) (late ∷ F) (above ∷ []) (All-cons (Says Q) late F (of_whole 62 0 (original_column (set_id_of t)) refl (omega arith) (original_small (set_id_of t))) a) (All-from_recursion (Says Q) (above ∷ []) (of_whole 65 0 10 refl (omega arith) (omega arith), tt))

    original_says : (day : ℕ) (h : Held) → All (Says Q) (original_checks day t ds h)
    original_says day h = All-cons (Says Q) (check (serves (set_id_of t) h.entry) 61 0 (original_column (set_id_of t))) (entry_checks day t ds h h.entry) (of_whole 61 0 (original_column (set_id_of t)) refl (omega arith) (original_small (set_id_of t))) (entry_says day h h.entry)

    at_says : (b : BookMeaning) (o : Option Pair) (f : Held → List Check) → ((h : Held) → All (Says Q) (f h)) → All (Says Q) (checks_at b o f)
    at_says b None f k = All-nil (Says Q)
    at_says b (Some p) f k = k (at b p)

    places_say : (b : BookMeaning) (o : Option Pair) → All (Says Q) (place_checks b t ds o)
    places_say b None = All-nil (Says Q)
    places_say b (Some p) = All-from_recursion (Says Q) (place_checks b t ds (Some p)) (of_whole 67 0 1 refl (omega arith) (omega arith), tt)

    book_says : (b : BookMeaning) (day : ℕ) → All (Says Q) (book_checks b day t ds)
    book_says b day =
        let A = checks_at b (original_pair t) (original_checks day t ds) in
        let B = checks_at b (own_pair t) (own_pair_checks t ds) in
        let C = place_checks b t ds (own_pair t) in
        All-append (Says Q) A (B ++ C) (at_says b (original_pair t) (original_checks day t ds) (original_says day))
        (All-append (Says Q) B C (at_says b (own_pair t) (own_pair_checks t ds) (λ h. All-from_recursion (Says Q) (own_pair_checks t ds h) (of_whole 66 0 (own_column (set_id_of t)) refl (omega arith) (own_small (set_id_of t)), tt))) (places_say b (own_pair t)))

  pub book_any_says : (b : BookMeaning) (day : ℕ) (o : Option Transaction) (rs : List Bytes) → length rs ≤ n → All (Says Q) (book_checks_any b day o (details_of rs))
  book_any_says b day None rs h = All-nil (Says Q)
  book_any_says b day (Some t) rs h = book_says t (details_of rs) (details_within n 1 rs (omega arith)) b day
