-- Arrays of zeros.
-- Assumes nothing.
use Rattle.std.proofs.Common.{◌≡◌, ℕ, ◌<◌, List, replicate, sym, ◌∙◌, arith}
use Rattle.std.specs.Array.{AllOfLen}
use Rattle.std.proofs.lemmas.List.{same_lists, length-replicate, get_or-replicate}

pub zeros : (xs : List ℕ) (n : ℕ) → AllOfLen (λ x. x ≡ 0) xs n → xs ≡ replicate n 0
zeros xs n a = same_lists xs (replicate n 0) (a.long ∙ sym (length-replicate n 0)) (λ i d b. let l : i < n = omega (arith, a.long) in a.at i d l ∙ sym (get_or-replicate n i 0 d l))
