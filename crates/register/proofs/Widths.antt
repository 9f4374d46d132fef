-- A list has only keys of its width.
use Rattle.std.proofs.Common.{◌≡◌, ℕ, zero, suc, ◌+◌, ◌-◌, ◌*◌, ◌/◌, ◌≤◌, Bool, true, false, cond, ◌||◌, [], length, take, drop, is_ok, sym, refl, ap, ◌∙◌, ⊎_elim, suc-mul, div-mul-le_self, arith}
use Rattle.std.specs.Str.{bytes_eq}
use Rattle.std.proofs.lemmas.Slice.Eq.{bytes_eq-Decides}
use Rattle.std.proofs.lemmas.List.{length-drop, length-take-le}
use Rattle.std.proofs.lemmas.Bool.{cases_Bool}
use Rattle.octets.specs.Classes.{Bytes}
use Rattle.register.specs.Keys.{cut, is_in, key_check, keys_of, listed}

not_cut : (n w : ℕ) (text k : Bytes) → n * w ≤ length text → (length k ≡ w → ⊥) → is_in (cut n w text) k ≡ false
not_cut zero w text k r d = refl
not_cut (suc n) w text k r d =
    let e : suc n * w ≡ n * w + w = suc-mul n w in
    let l : length (take w text) ≡ w = length-take-le w text (omega arith) in
    let m : length (drop w text) ≡ length text - w = length-drop w text in
    let s : bytes_eq (take w text) k ≡ false = ⊎_elim (λ t. absurd (d (sym (ap length ((bytes_eq-Decides (take w text) k).0 t)) ∙ l))) (λ f. f) (cases_Bool (bytes_eq (take w text) k)) in
    ap (λ b. b || is_in (cut n w (drop w text)) k) s ∙ not_cut n w (drop w text) k (omega arith) d

-- a key of another width is in no list
pub other_width : (w : ℕ) (text k : Bytes) → (length k ≡ w → ⊥) → is_in (listed w text) k ≡ false
other_width w text k d = split (is_ok (key_check w text)) where
  split : (b : Bool) → is_in (cond b (keys_of w text) []) k ≡ false
  split true = not_cut (length text / w) w text k (div-mul-le_self (length text) w) d
  split false = refl
