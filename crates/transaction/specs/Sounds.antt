-- A transaction that has passed every check of its own.
use Rattle.std.specs.Prelude.{◌≡◌, ℕ, List, Some, None, Option}
use Rattle.octets.specs.Classes.{Bytes}
use Rattle.layout.specs.declared.set_id.SetId.{SetId}
use Rattle.layout.specs.SetIds.{set_id_in}
use Rattle.file.specs.Records.{is_detail, many, first_of, others_of, records}
use Rattle.transaction.specs.declared.header.Transaction.{Transaction}
use Rattle.transaction.specs.Headers.{reading_of}

abbrev pub reading_under : Bytes → Option SetId → Option Transaction
reading_under h None = None
reading_under h (Some set) = Some (reading_of set h)

-- the reading of a header, if its Set ID is known
abbrev pub reading_in : Bytes → Option Transaction
reading_in h = reading_under h (set_id_in h)

-- of records with the header first: a known Set ID, the header, and the text of the other records
pub record KnownOf (rs : List Bytes) (set : SetId) (header body : Bytes) : Type 0 where
  pub set_id : set_id_in (first_of rs) ≡ Some set
  pub header_is : header ≡ first_of rs
  pub others : records body ≡ others_of rs

-- of records with the header first: the header's reading, how many details, and the text of the other records
pub record SoundOf (rs : List Bytes) (t : Transaction) (details : ℕ) (body : Bytes) : Type 0 where
  pub reading : reading_in (first_of rs) ≡ Some t
  pub count : details ≡ many is_detail (others_of rs)
  pub others : records body ≡ others_of rs
