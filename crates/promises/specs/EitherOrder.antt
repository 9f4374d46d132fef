-- Unrelated files may come in either order.
use Rattle.std.specs.Prelude.{◌≡◌, List, [], ◌∷◌, ◌++◌, Ok, All, Contains, ◌≢◌}
use Rattle.octets.specs.Classes.{Bytes}
use Rattle.layout.specs.declared.pair.Pair.{Pair}
use Rattle.file.specs.declared.opening.Opening.{Opening}
use Rattle.file.specs.Openings.{opening}
use Rattle.book.specs.Meaning.{BookMeaning}
use Rattle.transaction.specs.Checks.{Holds}
use Rattle.promises.specs.Calls.{Handed, Call, checking, posting, showing, seeking, counting, run, post_answer, show_answer, count_answer}
use Rattle.promises.specs.Related.{file_pairs, Enough}

-- different File ID Numbers, and no pair in common
pub record Unrelated (holds : Holds) (f g : Bytes) : Type 0 where
  pub names : (o u : Opening) → opening f ≡ Ok o → opening g ≡ Ok u → o.id ≢ u.id
  pub pairs : (p : Pair) → Contains (file_pairs holds f) p → Contains (file_pairs holds g) p → ⊥

abbrev pub IsNoPost : Call → Type 0
IsNoPost (checking x) = Unit {0}
IsNoPost (posting x) = ⊥
IsNoPost (showing p) = Unit {0}
IsNoPost (seeking office) = Unit {0}
IsNoPost counting = Unit {0}

-- one posted, other calls, the other posted
abbrev pub in_order : Handed → List Call → Handed → List Call
in_order x between y = posting x ∷ between ++ posting y ∷ []

-- each gets the same packet or file code, and the book is the same, so that it shows and counts the same
pub record SameEitherWay (holds : Holds) (b : BookMeaning) (x y : Handed) (between between' : List Call) : Type 0 where
  pub answer : post_answer holds b x ≡ post_answer holds (run holds b (posting y ∷ between')) x
  pub other_answer : post_answer holds (run holds b (posting x ∷ between)) y ≡ post_answer holds b y
  pub book : run holds b (in_order x between y) ≡ run holds b (in_order y between' x)
  pub shown : (p : Pair) → show_answer (run holds b (in_order x between y)) p ≡ show_answer (run holds b (in_order y between' x)) p
  pub counted : count_answer (run holds b (in_order x between y)) ≡ count_answer (run holds b (in_order y between' x))

abbrev pub EitherOrderOn : Holds → BookMeaning → Type 0
EitherOrderOn holds b = (x y : Handed) (between between' : List Call) → All IsNoPost between → All IsNoPost between' →
    Unrelated holds x.file y.file → Enough b (x.file ∷ y.file ∷ []) → SameEitherWay holds b x y between between'

-- of every book, and so of every book that calls led to
abbrev pub EitherOrder : Type 0
EitherOrder = (holds : Holds) (b : BookMeaning) → EitherOrderOn holds b
