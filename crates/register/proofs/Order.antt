-- Keys in ascending order, as a search sees them.
use Rattle.std.proofs.Common.{◌≡◌, Bool, true, false, ◌&&◌, ◌||◌, List, [], ◌∷◌, Ordering, Less, Equal, Greater, sym, refl, ap, ◌∙◌, true≢false}
use Rattle.std.specs.Cmp.{unsigned_tied, nat_cmp_total}
use Rattle.std.specs.Ordering.{is_lt, is_eq, is_gt, ordering_reverse, ordering_then, nat_cmp}
use Rattle.std.specs.Str.{bytes_eq}
use Rattle.std.proofs.lemmas.Bool.{and_parts, and_from}
use Rattle.octets.specs.Classes.{Bytes}
use Rattle.register.specs.Keys.{rank, leads, ascends, is_in}
use Rattle.register.proofs.Search.{any, after, parted}
use Rattle.std.specs.Cmp.Lexicographic.{lists_total}

-- where a key of the list stands to k
abbrev pub standing : Bytes → Bytes → Ordering
standing k x = rank x k

both_equal : (o p : Ordering) → is_eq (ordering_then o p) ≡ (is_eq o && is_eq p)
both_equal Less p = refl
both_equal Equal p = refl
both_equal Greater p = refl

-- the same bytes stand level
same_level : (x k : Bytes) → bytes_eq x k ≡ is_eq (rank x k)
same_level [] [] = refl
same_level [] (b ∷ k) = refl
same_level (a ∷ x) [] = refl
same_level (a ∷ x) (b ∷ k) =
    ap (λ t. t && bytes_eq x k) (sym (unsigned_tied a b))
    ∙ ap (λ t. is_eq (nat_cmp a b) && t) (same_level x k)
    ∙ sym (both_equal (nat_cmp a b) (rank x k))

pub in_any : (xs : List Bytes) (k : Bytes) → is_in xs k ≡ any (standing k) xs
in_any [] k = refl
in_any (x ∷ xs) k = ap (λ b. b || is_in xs k) (same_level x k) ∙ ap (λ b. is_eq (rank x k) || b) (in_any xs k)

of_less : (o : Ordering) → is_lt o ≡ true → o ≡ Less
of_less Less t = refl
of_less Equal t = absurd (true≢false (sym t))
of_less Greater t = absurd (true≢false (sym t))

-- y comes after x, and x does not come before k
over : (k x y : Bytes) (o : Ordering) → rank y k ≡ o → rank x y ≡ Less → is_lt (rank x k) ≡ false → is_gt o ≡ true
over k x y Less e l n = absurd (true≢false (ap is_lt (sym ((lists_total nat_cmp_total).trans x y k l e)) ∙ n))
over k x y Equal e l n =
    let same : rank x y ≡ rank x k = (lists_total nat_cmp_total).antisymm x y ∙ ap ordering_reverse ((lists_total nat_cmp_total).congr y k x e) ∙ sym ((lists_total nat_cmp_total).antisymm x k) in
    absurd (true≢false (sym (ap is_lt l) ∙ ap is_lt same ∙ n))
over k x y Greater e l n = refl

-- from x on each key comes after k
all_over : (k x : Bytes) (ys : List Bytes) → is_lt (rank x k) ≡ false → leads x ys ≡ true → ascends ys ≡ true → after (standing k) ys ≡ true
all_over k x [] n l t = refl
all_over k x (y ∷ ys) n l t =
    let p = and_parts (leads y ys) (ascends ys) t in
    let g : is_gt (rank y k) ≡ true = over k x y (rank y k) refl (of_less (rank x y) l) n in
    and_from (is_gt (rank y k)) (after (standing k) ys) g (all_over k y ys (not_less (rank y k) g) p.0 p.1) where
      not_less : (o : Ordering) → is_gt o ≡ true → is_lt o ≡ false
      not_less Less g = absurd (true≢false (sym g))
      not_less Equal g = refl
      not_less Greater g = refl

pub ascends_parted : (k : Bytes) (xs : List Bytes) → ascends xs ≡ true → parted (standing k) xs ≡ true
ascends_parted k [] t = refl
ascends_parted k (x ∷ xs) t =
    let p = and_parts (leads x xs) (ascends xs) t in
    and_from (is_lt (rank x k) || after (standing k) xs) (parted (standing k) xs) (split (is_lt (rank x k)) refl) (ascends_parted k xs p.1) where
      split : (b : Bool) → is_lt (rank x k) ≡ b → (is_lt (rank x k) || after (standing k) xs) ≡ true
      split true e = ap (λ b. b || after (standing k) xs) e
      split false e =
          let p = and_parts (leads x xs) (ascends xs) t in
          ap (λ b. b || after (standing k) xs) e ∙ all_over k x xs e p.0 p.1
