-- What the actions of an accepted transaction rely on, and taking from an original as the book does it.
use Rattle.std.specs.Prelude.{◌≡◌, ℕ, ◌+◌, ◌≤◌, Bool, true, ◌&&◌, List, length, Some, None, Option, ◌==◌}
use Rattle.layout.specs.declared.pair.Pair.{Pair}
use Rattle.layout.specs.declared.set_id.SetId.{SetId}
use Rattle.ordered.specs.Order.{every}
use Rattle.book.specs.Actions.{taking}
use Rattle.book.specs.Meaning.{BookMeaning, line_at, free_lines}
use Rattle.transaction.specs.Details.{DetailRead, sender_in, receiver_in}
use Rattle.promises.specs.Own.{no_lines}

-- a detail has both account symbols, blank or not
abbrev pub has_symbols : SetId → DetailRead → Bool
has_symbols set d = length (sender_in set d.detail) == 27 && length (receiver_in set d.detail) == 27

-- the details may be entered as lines, the first of them with number n
pub record Ready (b : BookMeaning) (p : Pair) (set : SetId) (n : ℕ) (ds : List DetailRead) : Type 0 where
  pub first : 1 ≤ n
  pub last : n + length ds ≤ 1001
  pub vacant : no_lines n ds (λ k. line_at b p k) ≡ true
  pub room : length ds ≤ free_lines b
  pub symbols : every (has_symbols set) ds ≡ true

-- an amount from the open amount of an original, if there is one to take from
abbrev pub taking_at : ℕ → Option Pair → BookMeaning → BookMeaning
taking_at n None b = b
taking_at n (Some o) b = taking b o n
