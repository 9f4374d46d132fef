-- What a transaction that has passed its own checks is relied on for.
use Rattle.std.specs.Prelude.{◌≡◌, ℕ, ◌≤◌, Bool, true, length, ◌==◌}
use Rattle.octets.specs.Classes.{Bytes}
use Rattle.layout.specs.declared.set_id.SetId.{SetId}
use Rattle.layout.specs.Layouts.{detail_of, width_of}
use Rattle.file.specs.Records.{records}
use Rattle.ordered.specs.Order.{every}
use Rattle.transaction.specs.declared.header.Transaction.{Transaction}
use Rattle.transaction.specs.Details.{DetailRead, details_of}
use Rattle.transaction.specs.Headers.{set_id_of}

-- a D record has its layout's length
abbrev pub is_wide : SetId → DetailRead → Bool
is_wide set d = length d.detail == width_of (detail_of set)

-- how many details the text of its records has, few enough to be numbered as lines, and all of their layout's length
pub record Relied (t : Transaction) (details : ℕ) (body : Bytes) : Type 0 where
  pub count : details ≡ length (details_of (records body))
  pub few : details ≤ 1000
  pub wide : every (is_wide (set_id_of t)) (details_of (records body)) ≡ true
