-- What adding a record answers.
-- Assumes nothing.
use Rattle.std.proofs.Common.{◌≡◌, ℕ, ◌<◌, ◌≤◌, cond, ltb, List, length, is_some, None, Ok, Err, sym, ap, ◌∙◌, arith}
use Rattle.std.proofs.lemmas.Bool.{lt-ltb, le-ltb}
use Rattle.ordered.specs.Order.{ranks, held, sorted, adds}
use Rattle.ordered.specs.declared.refusal.Refusal.TheVariants.{Held, Full}
use Rattle.ordered.proofs.Ascending.{bytewise}
use Rattle.ordered.proofs.Arrive.{length_sorted}

-- of records as they lie, where the key is not held
module _ {X : Type 0} (key : X → List ℕ) (rows listed : List X) (n : ℕ) (x : X) (k : List ℕ) (own : k ≡ key x) (in_order : listed ≡ sorted ranks key rows) (none : held ranks key k listed ≡ None) where
  room : adds ranks key listed n x ≡ cond (ltb (length listed) n) (Ok tt) (Err Full)
  room = ap (λ o. cond (is_some o) (Err Held) (cond (ltb (length listed) n) (Ok tt) (Err Full))) (ap (λ t. held ranks key t listed) (sym own) ∙ none)

  many : length listed ≡ length rows
  many = ap length in_order ∙ length_sorted ranks bytewise key rows

  pub adds_full : n ≤ length rows → Err Full ≡ adds ranks key listed n x
  adds_full l = sym (room ∙ ap (λ b. cond b (Ok tt) (Err Full)) (le-ltb (length listed) n (omega (arith, many))))

  pub adds_ok : length rows < n → Ok tt ≡ adds ranks key listed n x
  adds_ok l = sym (room ∙ ap (λ b. cond b (Ok tt) (Err Full)) (lt-ltb (length listed) n (omega (arith, many))))
