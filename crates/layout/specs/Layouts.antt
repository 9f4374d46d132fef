-- The layouts of the records.
use Rattle.std.specs.Prelude.{◌≡◌, ℕ, ◌+◌, ◌<◌, ◌≤◌, Bool, ◌&&◌, List, [], ◌∷◌, length, Some, None, Option, ◌==◌, slice_index_or}
use Rattle.layout.specs.declared.Layout.{Layout}
use Rattle.layout.specs.declared.Layout.TheVariants.{PaymentHeader, PaymentDetail, AdjustmentHeader, AdjustmentDetail, SglEntry, ZeroDollarHeader, ZeroDollarDetail, PostSglHeader, PostSglDetail, PostSglEntry}
use Rattle.layout.specs.declared.letter.Letter.{Letter}
use Rattle.layout.specs.declared.letter.Letter.TheVariants.{Header, Detail, Entry}
use Rattle.layout.specs.declared.set_id.SetId.{SetId}
use Rattle.layout.specs.declared.set_id.SetId.TheVariants.{Payment, Collection, ReceiverAdjustment, SenderAdjustment, ZeroDollar, PostSgl}
use Rattle.layout.specs.declared.field.Field.{Field}
use Rattle.layout.specs.Fields.{start_of, len_of}
use Rattle.layout.specs.Tables as table

abbrev pub header_of : SetId → Layout
header_of Payment = PaymentHeader
header_of Collection = PaymentHeader
header_of ReceiverAdjustment = AdjustmentHeader
header_of SenderAdjustment = AdjustmentHeader
header_of ZeroDollar = ZeroDollarHeader
header_of PostSgl = PostSglHeader

abbrev pub detail_of : SetId → Layout
detail_of Payment = PaymentDetail
detail_of Collection = PaymentDetail
detail_of ReceiverAdjustment = AdjustmentDetail
detail_of SenderAdjustment = AdjustmentDetail
detail_of ZeroDollar = ZeroDollarDetail
detail_of PostSgl = PostSglDetail

-- 835 has no E record
abbrev pub entry_of : SetId → Option Layout
entry_of Payment = Some SglEntry
entry_of Collection = Some SglEntry
entry_of ReceiverAdjustment = Some SglEntry
entry_of SenderAdjustment = Some SglEntry
entry_of ZeroDollar = None
entry_of PostSgl = Some PostSglEntry

-- the layout of the records with this letter in a transaction of this Set ID
abbrev pub layout_of : SetId → Letter → Option Layout
layout_of set Header = Some (header_of set)
layout_of set Detail = Some (detail_of set)
layout_of set Entry = entry_of set

-- how many bytes a record has
abbrev pub width_of : Layout → ℕ
width_of PaymentHeader = 49
width_of PaymentDetail = 1077
width_of AdjustmentHeader = 64
width_of AdjustmentDetail = 489
width_of SglEntry = 23
width_of ZeroDollarHeader = 39
width_of ZeroDollarDetail = 1056
width_of PostSglHeader = 39
width_of PostSglDetail = 262
width_of PostSglEntry = 23

abbrev pub fields_of : Layout → List Field
fields_of PaymentHeader = table.payment_header
fields_of PaymentDetail = table.payment_detail
fields_of AdjustmentHeader = table.adjustment_header
fields_of AdjustmentDetail = table.adjustment_detail
fields_of SglEntry = table.sgl_entry
fields_of ZeroDollarHeader = table.zero_dollar_header
fields_of ZeroDollarDetail = table.zero_dollar_detail
fields_of PostSglHeader = table.post_sgl_header
fields_of PostSglDetail = table.post_sgl_detail
fields_of PostSglEntry = table.post_sgl_entry

-- each field starts right after the one before it, the first at column i, and the last ends at column n
abbrev pub adjoin : ℕ → ℕ → List Field → Bool
adjoin i n [] = i == n + 1
adjoin i n (f ∷ fs) = start_of f == i && adjoin (i + len_of f) n fs

-- the same of each field of a record of n bytes, by its place in the table
pub record Adjoining (n : ℕ) (fs : List Field) : Type 0 where
  pub first : (d : Field) → 0 < length fs → start_of (slice_index_or fs 0 d) ≡ 1
  pub next : (k : ℕ) (d : Field) → k + 1 < length fs → start_of (slice_index_or fs (k + 1) d) ≡ start_of (slice_index_or fs k d) + len_of (slice_index_or fs k d)
  pub last : (k : ℕ) (d : Field) → k + 1 ≡ length fs → start_of (slice_index_or fs k d) + len_of (slice_index_or fs k d) ≡ n + 1

-- each field lies inside a record of n bytes
abbrev pub Fits : ℕ → List Field → Type 0
Fits n fs = (k : ℕ) (d : Field) → k < length fs → (1 ≤ start_of (slice_index_or fs k d)) × (start_of (slice_index_or fs k d) + len_of (slice_index_or fs k d) ≤ n + 1)
