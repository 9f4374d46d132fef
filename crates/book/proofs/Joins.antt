-- Rows in the order of their keys, and what they mean: found, put in its place, changed, in order.
-- Assumes nothing.
use Rattle.std.proofs.Common.{◌≡◌, ℕ, ◌+◌, ◌-◌, Bool, true, false, cond, ◌&&◌, eqb, ltb, List, [], ◌∷◌, map, length, is_some, Some, None, Ok, Err, sum_by, Option, Result, sym, refl, ap, ◌∙◌, arith}
use Rattle.std.specs.Option.{option_map}
use Rattle.std.specs.Ordering.{is_lt, is_eq}
use Rattle.std.proofs.lemmas.List.{length-map}
use Rattle.std.proofs.lemmas.List.Sums.{sum_by-cons}
use Rattle.std.proofs.lemmas.Bool.{and_parts, ltb-true, ltb-false, eq-eqb, ne_eqb}
use Rattle.ordered.specs.Order.{ranks, every, leads, ascends, held, entered, altered, sorted, adds}
use Rattle.ordered.specs.declared.refusal.Refusal.TheVariants as table
use Rattle.octets.specs.Classes.{Bytes}
use Rattle.book.specs.declared.fault.BookFault.TheVariants.{Full}
use Rattle.ordered.specs.declared.refusal.Refusal.{Refusal}
use Rattle.book.specs.declared.fault.BookFault.{BookFault}
use Rattle.book.specs.Faults.{fault_of}
use Rattle.book.specs.Lists.{find, place, change, leads_by, ascending}
use Rattle.book.specs.Actions.{admits}

-- what a table's answer is as the book's
abbrev pub as_book_fault : Result Unit Refusal → Result Unit BookFault
as_book_fault (Ok x) = Ok tt
as_book_fault (Err r) = Err (fault_of r)

-- a record that is held passes what all pass
pub held_every : {X : Type 0} (t : X → Bool) (key : X → Bytes) (k : Bytes) (xs : List X) (x : X) → every t xs ≡ true → held ranks key k xs ≡ Some x → t x ≡ true
held_every t key k [] x h e = cc
held_every {X} t key k (y ∷ ys) x h e = go (is_eq (ranks (key y) k)) e (held_every t key k ys x (and_parts (t y) (every t ys) h).1)
  where
    go : (v : Bool) → cond v (Some y) (held ranks key k ys) ≡ Some x → (held ranks key k ys ≡ Some x → t x ≡ true) → t x ≡ true
    go true e rest = let is : y ≡ x = cc in ap t (sym is) ∙ (and_parts (t y) (every t ys) h).0
    go false e rest = rest e

-- a row is of type X, and f x is what it means
module _ {X Y : Type 0} (key : X → Bytes) (sound : X → Bool) (f : X → Y) where
  pub every_means : (t : Y → Bool) → ((x : X) → sound x ≡ true → t (f x) ≡ true) → (xs : List X) → every sound xs ≡ true → every t (map f xs) ≡ true
  every_means t h [] s = refl
  every_means t h (x ∷ xs) s = let p = and_parts (sound x) (every sound xs) s in λ i. (h x p.0 i && every_means t h xs p.1 i)

  -- a test of what a row means is one of its key
  module _ (t : Y → Bool) (k : Bytes) (test : (x : X) → sound x ≡ true → t (f x) ≡ is_eq (ranks (key x) k)) where
    pub found : (xs : List X) → every sound xs ≡ true → find t (map f xs) ≡ option_map f (held ranks key k xs)
    found [] s = refl
    found (x ∷ xs) s =
        let p = and_parts (sound x) (every sound xs) s in
        (λ i. cond (test x p.0 i) (Some (f x)) (found xs p.1 i)) ∙ go (is_eq (ranks (key x) k))
      where
        go : (v : Bool) → cond v (Some (f x)) (option_map f (held ranks key k xs)) ≡ option_map f (cond v (Some x) (held ranks key k xs))
        go true = refl
        go false = refl

    pub changed : (g : X → X) (h : Y → Y) → ((x : X) → f (g x) ≡ h (f x)) → (xs : List X) → every sound xs ≡ true → map f (altered ranks key k g xs) ≡ change t h (map f xs)
    changed g h same [] s = refl
    changed g h same (x ∷ xs) s =
        let p = and_parts (sound x) (every sound xs) s in
        go (is_eq (ranks (key x) k)) (changed g h same xs p.1) ∙ (λ i. cond (sym (test x p.0) i) (h (f x) ∷ map f xs) (f x ∷ change t h (map f xs)))
      where
        go : (v : Bool) → map f (altered ranks key k g xs) ≡ change t h (map f xs) → map f (cond v (g x ∷ xs) (x ∷ altered ranks key k g xs)) ≡ cond v (h (f x) ∷ map f xs) (f x ∷ change t h (map f xs))
        go true e = λ i. same x i ∷ map f xs
        go false e = λ i. f x ∷ e i

    -- what adding a row with this key answers
    pub admitted : (xs : List X) (n : ℕ) (x : X) → key x ≡ k → every sound xs ≡ true → as_book_fault (adds ranks key xs n x) ≡ admits (find t (map f xs)) (n - length (map f xs))
    admitted xs n x own s =
        ap (λ q. as_book_fault (cond (is_some (held ranks key q xs)) (Err table.Held) (cond (ltb (length xs) n) (Ok tt) (Err table.Full)))) own
        ∙ (go (held ranks key k xs) (ltb (length xs) n) refl
        ∙ (λ i. admits (sym (found xs s) i) (n - sym (length-map xs f) i)))
      where
        room : (v : Bool) → ltb (length xs) n ≡ v → as_book_fault (cond v (Ok tt) (Err table.Full)) ≡ cond (eqb (n - length xs) 0) (Err Full) (Ok tt)
        room true e = let l = ltb-true (length xs) n e in sym (ap (λ b. cond b (Err Full) (Ok tt)) (ne_eqb (n - length xs) 0 (λ z. omega arith)))
        room false e = let l = ltb-false (length xs) n e in sym (ap (λ b. cond b (Err Full) (Ok tt)) (eq-eqb (n - length xs) 0 (omega arith)))

        go : (o : Option X) (v : Bool) → ltb (length xs) n ≡ v → as_book_fault (cond (is_some o) (Err table.Held) (cond v (Ok tt) (Err table.Full))) ≡ admits (option_map f o) (n - length xs)
        go (Some y) v e = refl
        go None v e = room v e

  -- the order of what rows mean is that of their keys
  module _ (first : Y → Y → Bool) (order : (x y : X) → sound x ≡ true → sound y ≡ true → first (f x) (f y) ≡ is_lt (ranks (key x) (key y))) where
    pub placed : (x : X) (xs : List X) → sound x ≡ true → every sound xs ≡ true → map f (entered ranks key x xs) ≡ place first (f x) (map f xs)
    placed x [] h s = refl
    placed x (y ∷ ys) h s =
        let p = and_parts (sound y) (every sound ys) s in
        go (is_lt (ranks (key y) (key x))) (placed x ys h p.1) ∙ (λ i. cond (sym (order y x p.0 h) i) (f y ∷ place first (f x) (map f ys)) (f x ∷ f y ∷ map f ys))
      where
        go : (v : Bool) → map f (entered ranks key x ys) ≡ place first (f x) (map f ys) → map f (cond v (y ∷ entered ranks key x ys) (x ∷ y ∷ ys)) ≡ cond v (f y ∷ place first (f x) (map f ys)) (f x ∷ f y ∷ map f ys)
        go true e = λ i. f y ∷ e i
        go false e = refl

    pub in_order_law : (xs : List X) → every sound xs ≡ true → ascending first (map f xs) ≡ ascends ranks key xs
    in_order_law [] s = refl
    in_order_law (x ∷ xs) s = let p = and_parts (sound x) (every sound xs) s in λ i. (lead x xs p.0 p.1 i && in_order_law xs p.1 i)
      where
        lead : (x : X) (xs : List X) → sound x ≡ true → every sound xs ≡ true → leads_by first (f x) (map f xs) ≡ leads ranks key (key x) xs
        lead x [] h s = refl
        lead x (y ∷ ys) h s = order x y h (and_parts (sound y) (every sound ys) s).0

  -- ---- rows in another order

  pub sum_entered : (n : Y → ℕ) (x : X) (xs : List X) → sum_by n (map f (entered ranks key x xs)) ≡ n (f x) + sum_by n (map f xs)
  sum_entered n x [] = sum_by-cons n (f x) []
  sum_entered n x (y ∷ ys) = go (is_lt (ranks (key y) (key x))) (sum_entered n x ys)
    where
      go : (v : Bool) → sum_by n (map f (entered ranks key x ys)) ≡ n (f x) + sum_by n (map f ys) → sum_by n (map f (cond v (y ∷ entered ranks key x ys) (x ∷ y ∷ ys))) ≡ n (f x) + sum_by n (map f (y ∷ ys))
      go true h = let a = sum_by-cons n (f y) (map f (entered ranks key x ys)) in let b = sum_by-cons n (f y) (map f ys) in omega arith
      go false h = sum_by-cons n (f x) (f y ∷ map f ys)

  pub sum_sorted : (n : Y → ℕ) (xs : List X) → sum_by n (map f (sorted ranks key xs)) ≡ sum_by n (map f xs)
  sum_sorted n [] = refl
  sum_sorted n (x ∷ xs) =
      let a = sum_entered n x (sorted ranks key xs) in
      let b = sum_by-cons n (f x) (map f xs) in
      let c = sum_sorted n xs in omega arith

  pub none_entered : (t : Y → Bool) (x : X) (xs : List X) → t (f x) ≡ false → find t (map f xs) ≡ None → find t (map f (entered ranks key x xs)) ≡ None
  none_entered t x [] h e = ap (λ b. cond b (Some (f x)) None) h
  none_entered t x (y ∷ ys) h e = go (is_lt (ranks (key y) (key x))) (t (f y)) refl e (none_entered t x ys h)
    where
      go : (v w : Bool) → t (f y) ≡ w → cond w (Some (f y)) (find t (map f ys)) ≡ None → (find t (map f ys) ≡ None → find t (map f (entered ranks key x ys)) ≡ None) → find t (map f (cond v (y ∷ entered ranks key x ys) (x ∷ y ∷ ys))) ≡ None
      go v true q e rest = cc
      go true false q e rest = ap (λ b. cond b (Some (f y)) (find t (map f (entered ranks key x ys)))) q ∙ rest e
      go false false q e rest = ap (λ b. cond b (Some (f x)) (cond (t (f y)) (Some (f y)) (find t (map f ys)))) h ∙ (ap (λ b. cond b (Some (f y)) (find t (map f ys))) q ∙ e)

  pub none_sorted : (t : Y → Bool) (xs : List X) → find t (map f xs) ≡ None → find t (map f (sorted ranks key xs)) ≡ None
  none_sorted t [] e = refl
  none_sorted t (x ∷ xs) e = go (t (f x)) refl e (none_sorted t xs)
    where
      go : (w : Bool) → t (f x) ≡ w → cond w (Some (f x)) (find t (map f xs)) ≡ None → (find t (map f xs) ≡ None → find t (map f (sorted ranks key xs)) ≡ None) → find t (map f (entered ranks key x (sorted ranks key xs))) ≡ None
      go true q e rest = cc
      go false q e rest = none_entered t x (sorted ranks key xs) q (rest e)
