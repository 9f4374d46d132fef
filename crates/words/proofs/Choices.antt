-- The first of two options that has anything, seen through a function.
use Rattle.std.proofs.Common.{◌≡◌, Some, None, Option, option_map, unwrap_or, refl, ap, ◌∙◌}
use Rattle.std.specs.Option.{option_or}

map-or : {A B : Type 0} (f : A → B) (a b : Option A) → option_map f (option_or a b) ≡ option_or (option_map f a) (option_map f b)
map-or f None b = refl
map-or f (Some x) b = refl

-- r is the first of a and b, of which x and y are known
pub or_known : {A B : Type 0} (f : A → B) (a b r : Option A) {x y : Option B} → r ≡ option_or a b → option_map f a ≡ x → option_map f b ≡ y → option_map f r ≡ option_or x y
or_known f a b r {x} {y} is e g = ap (option_map f) is ∙ map-or f a b ∙ ap (λ o. option_or o (option_map f b)) e ∙ ap (option_or x) g

pub map-unwrap_or : {A B : Type 0} (f : A → B) (a : Option A) (x : A) → f (unwrap_or a x) ≡ unwrap_or (option_map f a) (f x)
map-unwrap_or f None x = refl
map-unwrap_or f (Some y) x = refl
