-- Lists kept in an order: the first that passes a test, one put in its place, the first that passes changed.
-- Assumes nothing.
use Rattle.std.specs.Prelude.{Bool, true, false, cond, ◌&&◌, ◌||◌, List, [], ◌∷◌, Some, None, Option, ◌==◌, nat_lt}
use Rattle.octets.specs.Classes.{Bytes}

-- strictly before, byte by byte
abbrev pub before : Bytes → Bytes → Bool
before [] [] = false
before [] (y ∷ ys) = true
before (x ∷ xs) [] = false
before (x ∷ xs) (y ∷ ys) = nat_lt x y || (x == y && before xs ys)

module _ {X : Type 0} where
  abbrev pub find : (X → Bool) → List X → Option X
  find t [] = None
  find t (x ∷ xs) = cond (t x) (Some x) (find t xs)

  -- `first y x` says that y comes before x
  abbrev pub place : (X → X → Bool) → X → List X → List X
  place first x [] = x ∷ []
  place first x (y ∷ ys) = cond (first y x) (y ∷ place first x ys) (x ∷ y ∷ ys)

  abbrev pub change : (X → Bool) → (X → X) → List X → List X
  change t f [] = []
  change t f (x ∷ xs) = cond (t x) (f x ∷ xs) (x ∷ change t f xs)

  abbrev pub leads_by : (X → X → Bool) → X → List X → Bool
  leads_by first x [] = true
  leads_by first x (y ∷ ys) = first x y

  -- each comes before the next
  abbrev pub ascending : (X → X → Bool) → List X → Bool
  ascending first [] = true
  ascending first (x ∷ xs) = leads_by first x xs && ascending first xs
