-- Worked facts, from the bytes of records to verdicts and packets.
use Rattle.std.specs.Prelude.{◌≡◌, ℕ, true, List, [], ◌∷◌, ◌++◌, replicate, Ok, Err, codes}
use Rattle.octets.specs.Classes.{Bytes}
use Rattle.book.specs.Meaning.{BookMeaning, empty_book}
use Rattle.transaction.specs.declared.verdict.Verdict.{Verdict}
use Rattle.transaction.specs.declared.verdict.Verdict.TheVariants.{Accepted, Refused}
use Rattle.transaction.specs.Checks.{Holds}
use Rattle.promises.specs.Judging.{judge}
use Rattle.promises.specs.Entering.{verdicts, after}
use Rattle.promises.specs.Calls.{post_answer}
use Rattle.promises.specs.Packets.{code_item}
use Rattle.promises.specs.Replaced.{handed}

-- registers that hold every key, and a small new book
abbrev pub all : Holds
all register key = true

abbrev pub new : BookMeaning
new = empty_book 4 8 4

abbrev pub spaces : ℕ → Bytes
spaces n = replicate n 32

abbrev pub symbol : Bytes
symbol = spaces 5 ++ codes "097" ++ spaces 9 ++ codes "0100000  C"

-- 820: total (14 digits) and reference (8 bytes), and a detail of an amount (14 digits), one at that price
abbrev pub bill_header : Bytes → Bytes → Bytes
bill_header total reference = codes "H00000001" ++ total ++ codes "0000000200001820" ++ reference ++ spaces 2

abbrev pub bill_detail : Bytes → Bytes
bill_detail amount =
    codes "D" ++ spaces 28 ++ amount ++ spaces 430 ++ codes "INVOICE" ++ spaces 15 ++ spaces 370 ++ codes "OBLIGATION" ++ spaces 7
    ++ codes "F" ++ codes "ORDER" ++ spaces 17 ++ codes "00000000000100" ++ spaces 1 ++ spaces 27 ++ spaces 36 ++ symbol ++ spaces 36
    ++ codes "EA" ++ amount ++ spaces 15

-- 829: total, original's reference, own voucher, and a detail of an amount against a line (6 digits)
abbrev pub adjustment_header : Bytes → Bytes → Bytes → Bytes
adjustment_header total original voucher = codes "H00000001" ++ total ++ codes "0000000200001829" ++ original ++ spaces 2 ++ codes "00001" ++ voucher ++ spaces 2

abbrev pub adjustment_detail : Bytes → Bytes → Bytes
adjustment_detail amount item = codes "D" ++ amount ++ spaces 77 ++ item ++ spaces 1 ++ symbol ++ spaces 8 ++ spaces 27 ++ spaces 328

-- with one detail each
abbrev pub bill : Bytes → Bytes → List Bytes
bill amount reference = bill_header amount reference ∷ bill_detail amount ∷ []

abbrev pub adjustment : Bytes → Bytes → Bytes → Bytes → List Bytes
adjustment amount original voucher item = adjustment_header amount original voucher ∷ adjustment_detail amount item ∷ []

abbrev pub blank_reference : Bytes
blank_reference = spaces 8

-- an original of 10.00, and of three lines of 1.00
abbrev pub ten_dollars : List Bytes
ten_dollars = bill (codes "00000000001000") (codes "REF00001")

abbrev pub three_lines : List Bytes
three_lines = bill_header (codes "00000000000300") (codes "REF00001") ∷ bill_detail (codes "00000000000100") ∷ bill_detail (codes "00000000000100") ∷ bill_detail (codes "00000000000100") ∷ []

-- an adjustment of it without a voucher
abbrev pub taking : Bytes → Bytes → List Bytes
taking amount item = adjustment amount (codes "REF00001") blank_reference item

abbrev pub on_day : ℕ → Verdict
on_day day = judge all (after all new 100 (ten_dollars ∷ [])) day (taking (codes "00000000000001") (codes "000001"))

-- a file of the opening and one header whose Set ID is unknown
abbrev pub smallest_file : Bytes
smallest_file = codes "PCA    " ++ 10 ∷ codes "BIPAC000000040000123420260105001" ++ 10 ∷ codes "H00000000000000000000000000000000000999" ++ 10 ∷ []

abbrev pub smallest_packet : Bytes
smallest_packet =
    0x12 ∷ 0 ∷ 1 ∷ 0 ∷ 4 ∷ 0 ∷ 0 ∷ 0 ∷ 3 ∷ 0 ∷ 0 ∷ 0 ∷ 1 ∷ 0 ∷ 0 ∷ 0 ∷ 0 ∷ 0 ∷ 0 ∷ 0
    ∷ 0x0E ∷ 0 ∷ 2 ∷ 0 ∷ 1 ∷ 0 ∷ 0 ∷ 0 ∷ 0x1E ∷ 0 ∷ 0 ∷ 0 ∷ 0 ∷ 0 ∷ 0x25 ∷ 0 ∷ []

-- three transactions, of which the first and the third share no pair, and yet the second links them
abbrev pub second : List Bytes
second = adjustment (codes "00000000000001") (codes "REF00001") (codes "REF00002") (codes "000001")

abbrev pub third : List Bytes
third = bill (codes "00000000001000") (codes "REF00002")

pub record Facts : Type 0 where
  -- an original of day 100 may be adjusted up to day 190, and at any time before
  pub ninety_days : on_day 190 ≡ Accepted
  pub earlier : on_day 5 ≡ Accepted
  pub too_late : on_day 191 ≡ Refused 62 0 50
  -- 10.00 of 10.00, then 0.01
  pub all_taken : verdicts all new 0 (ten_dollars ∷ taking (codes "00000000001000") (codes "000001") ∷ taking (codes "00000000000001") (codes "000001") ∷ []) ≡ Accepted ∷ Accepted ∷ Refused 65 0 10 ∷ []
  -- of three lines
  pub third_line : verdicts all new 0 (three_lines ∷ taking (codes "00000000000001") (codes "000003") ∷ taking (codes "00000000000001") (codes "000004") ∷ []) ≡ Accepted ∷ Accepted ∷ Refused 63 1 93 ∷ []
  -- whatever the registers hold
  pub smallest : (holds : Holds) → post_answer holds (empty_book 64 512 16) (handed smallest_file 0 36) ≡ Ok smallest_packet
  pub no_room : (holds : Holds) → post_answer holds (empty_book 64 512 16) (handed smallest_file 0 35) ≡ Err 7
  pub code_of_file : code_item 7 ≡ 4 ∷ 0 ∷ 3 ∷ 0 ∷ 7 ∷ 0 ∷ []
  -- a chain: with the first transaction's reference blank the second is refused, and the third accepted
  pub linked : verdicts all new 0 (ten_dollars ∷ second ∷ third ∷ []) ≡ Accepted ∷ Accepted ∷ Refused 66 0 40 ∷ []
  pub unlinked : verdicts all new 0 (bill (codes "00000000001000") blank_reference ∷ second ∷ third ∷ []) ≡ Accepted ∷ Refused 61 0 50 ∷ Accepted ∷ []
