-- Keys cut from a text, one after the other.
use Rattle.std.proofs.Common.{◌≡◌, ℕ, zero, suc, ◌+◌, ◌-◌, ◌*◌, ◌<◌, ◌≤◌, Bool, true, ◌∷◌, ◌++◌, take, drop, Ordering, Less, Equal, Greater, sym, ap, ◌∙◌, not-suc-le-zero, suc-mul, add-mul, one-mul, zero-mul, arith}
use Rattle.std.proofs.lemmas.List.{drop-drop}
use Rattle.std.proofs.lemmas.Bool.{and_parts}
use Rattle.octets.specs.Classes.{Bytes}
use Rattle.register.specs.Keys.{cut}
use Rattle.register.proofs.Search.{any, parted, parted_front, parted_back, row_less, row_equal, row_greater}

-- the key at m parts the keys
pub cut_at : (m n w : ℕ) (text : Bytes) → m < n → cut n w text ≡ cut m w text ++ (take w (drop (m * w) text) ∷ cut (n - m - 1) w (drop w (drop (m * w) text)))
cut_at m zero w text h = absurd (not-suc-le-zero h)
cut_at zero (suc n) w text h =
    let z : 0 * w ≡ 0 = zero-mul w in
    let s : suc n - 0 - 1 ≡ n = omega arith in rw (z, s)
cut_at (suc m) (suc n) w text h =
    let e : suc m * w ≡ m * w + w = suc-mul m w in
    let d : drop (m * w) (drop w text) ≡ drop (suc m * w) text = drop-drop (m * w) w text ∙ ap (λ i. drop i text) (omega arith) in
    let s : n - m - 1 ≡ suc n - suc m - 1 = omega arith in
    ap (λ l. take w text ∷ l) (cut_at m n w (drop w text) (omega arith))
    ∙ ap (λ t. take w text ∷ (cut m w (drop w text) ++ (take w t ∷ cut (n - m - 1) w (drop w t)))) d
    ∙ ap (λ i. take w text ∷ (cut m w (drop w text) ++ (take w (drop (suc m * w) text) ∷ cut i w (drop w (drop (suc m * w) text))))) s

-- room for the keys in front of the one at m, for it, and for those behind it
pub room_at : (m n w l : ℕ) → m < n → n * w ≤ l → (m * w + w + (n - m - 1) * w ≤ l)
room_at m n w l h k =
    let e : m + 1 + (n - m - 1) ≡ n = omega arith in
    let f : (m + 1 + (n - m - 1)) * w ≡ (m + 1) * w + (n - m - 1) * w = add-mul (m + 1) (n - m - 1) w in
    let g : (m + 1) * w ≡ m * w + 1 * w = add-mul m 1 w in
    let o : 1 * w ≡ w = one-mul w in
    let p : n * w ≡ (m + 1) * w + (n - m - 1) * w = ap (λ i. i * w) (sym e) ∙ f in omega arith

-- a turn of the search: the key at m stands to what is sought as `place` says
module _ (place : Bytes → Ordering) (m n w : ℕ) (text : Bytes) (h : m < n) where
  pub turn_less : (r : Bool) → place (take w (drop (m * w) text)) ≡ Less → parted place (cut n w text) ≡ true → any place (cut n w text) ≡ r → (any place (cut (n - m - 1) w (drop w (drop (m * w) text))) ≡ r) × (parted place (cut (n - m - 1) w (drop w (drop (m * w) text))) ≡ true)
  turn_less r e t inv =
      let c = cut_at m n w text h in
      let t' : parted place (cut m w text ++ (take w (drop (m * w) text) ∷ cut (n - m - 1) w (drop w (drop (m * w) text)))) ≡ true = sym (ap (parted place) c) ∙ t in
      let b = and_parts _ _ (parted_back place (cut m w text) _ t') in
      (sym (ap (any place) c ∙ row_less place (cut m w text) _ _ e t') ∙ inv, b.1)

  pub turn_greater : (r : Bool) → place (take w (drop (m * w) text)) ≡ Greater → parted place (cut n w text) ≡ true → any place (cut n w text) ≡ r → (any place (cut m w text) ≡ r) × (parted place (cut m w text) ≡ true)
  turn_greater r e t inv =
      let c = cut_at m n w text h in
      let t' : parted place (cut m w text ++ (take w (drop (m * w) text) ∷ cut (n - m - 1) w (drop w (drop (m * w) text)))) ≡ true = sym (ap (parted place) c) ∙ t in
      (sym (ap (any place) c ∙ row_greater place (cut m w text) _ _ e t') ∙ inv, parted_front place (cut m w text) _ t')

  pub turn_equal : (r : Bool) → place (take w (drop (m * w) text)) ≡ Equal → any place (cut n w text) ≡ r → true ≡ r
  turn_equal r e inv = sym (ap (any place) (cut_at m n w text h) ∙ row_equal place (cut m w text) _ _ e) ∙ inv
