-- The six Set IDs.
use Rattle.std.specs.Prelude.{ℕ, cond, List, Some, None, codes, Option}
use Rattle.std.specs.Str.{bytes_eq}
use Rattle.octets.specs.Parts.{columns}
use Rattle.layout.specs.declared.set_id.SetId.{SetId}
use Rattle.layout.specs.declared.set_id.SetId.TheVariants.{Payment, Collection, ReceiverAdjustment, SenderAdjustment, ZeroDollar, PostSgl}

abbrev pub number_of : SetId → ℕ
number_of Payment = 820
number_of Collection = 810
number_of ReceiverAdjustment = 812
number_of SenderAdjustment = 829
number_of ZeroDollar = 835
number_of PostSgl = 840

-- as header columns 37 to 39 write it
abbrev pub set_id_of : List ℕ → Option SetId
set_id_of bs =
    cond (bytes_eq bs (codes "820")) (Some Payment)
    (cond (bytes_eq bs (codes "810")) (Some Collection)
    (cond (bytes_eq bs (codes "812")) (Some ReceiverAdjustment)
    (cond (bytes_eq bs (codes "829")) (Some SenderAdjustment)
    (cond (bytes_eq bs (codes "835")) (Some ZeroDollar)
    (cond (bytes_eq bs (codes "840")) (Some PostSgl) None)))))

-- of a header; one below 39 bytes has none
abbrev pub set_id_in : List ℕ → Option SetId
set_id_in header = set_id_of (columns 37 3 header)
