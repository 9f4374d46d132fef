-- Worked facts of whole transactions, byte by byte, judged on their own.
use Rattle.std.specs.Prelude.{List, [], ◌∷◌, ◌++◌, true, ◌≡◌, ℕ, codes, length, replicate}
use Rattle.octets.specs.Classes.{Bytes}
use Rattle.transaction.specs.declared.verdict.Verdict.TheVariants.{Accepted, Refused}
use Rattle.transaction.specs.Checks.{Holds, own_verdict}

-- registers that have every key
abbrev everything : Holds
everything which key = true

abbrev spaces : ℕ → Bytes
spaces n = replicate n 32

-- a payment's header with a total of 14 digits and no reference
abbrev header : Bytes → Bytes
header total = codes "H00001234" ++ (total ++ (codes "0000567800012820" ++ spaces 10))

-- a payment's detail: amount, quantity and unit price of 14 digits each
abbrev detail : Bytes → Bytes → Bytes → Bytes
detail amount quantity price =
    codes "D" ++ (spaces 28 ++ (amount ++ (spaces 430 ++ (codes "INV1" ++ (spaces 388 ++ (codes "OB-1" ++ (spaces 13 ++ (codes "FPO-1" ++ (spaces 18
    ++ (quantity ++ (spaces 64 ++ (codes "     09720202021 1234000  C" ++ (spaces 36 ++ (codes "EA" ++ (price ++ spaces 15)))))))))))))))

-- an E record of 1.00 or of the amount given: a debit or a credit
abbrev debit : Bytes → Bytes
debit amount = codes "EA1010SF" ++ (amount ++ codes "D")

abbrev credit : Bytes → Bytes
credit amount = codes "EA6100SF" ++ (amount ++ codes "C")

-- amounts of 6.50, 0.49 and 4.00, quantities of 2.00 and 1.50, prices of 3.25 and 0.33
abbrev c650 : Bytes
c650 = codes "00000000000650"

abbrev c49 : Bytes
c49 = codes "00000000000049"

abbrev c100 : Bytes
c100 = codes "00000000000100"

abbrev c400 : Bytes
c400 = codes "00000000000400"

abbrev c500 : Bytes
c500 = codes "00000000000500"

abbrev six_fifty : Bytes
six_fifty = detail c650 (codes "00000000000200") (codes "00000000000325")

abbrev forty_nine : Bytes
forty_nine = detail c49 (codes "00000000000150") (codes "00000000000033")

-- 4.00 as 4.00 x 1.00, and 5.00 as 5.00 x 1.00
abbrev four : Bytes
four = detail c400 c400 c100

abbrev five : Bytes
five = detail c500 c500 c100

abbrev four_debits : List Bytes → List Bytes
four_debits rs = debit c100 ∷ debit c100 ∷ debit c100 ∷ debit c100 ∷ rs

pub record Facts : Type 0 where
  pub header_length : length (header c650) ≡ 49
  pub detail_length : length six_fifty ≡ 1077
  -- 2.00 x 3.25 = 6.50
  pub product : own_verdict everything (header c650 ∷ six_fifty ∷ []) ≡ Accepted
  -- 1.50 x 0.33 is no 0.49
  pub no_product : own_verdict everything (header c49 ∷ forty_nine ∷ []) ≡ Refused 34 1 30
  -- two E records are a set, one is none
  pub two_entries : own_verdict everything (header c650 ∷ six_fifty ∷ debit c650 ∷ credit c650 ∷ []) ≡ Accepted
  pub one_entry : own_verdict everything (header c650 ∷ six_fifty ∷ debit c650 ∷ []) ≡ Refused 42 1 1
  -- four debits of 1.00 with four credits, and five with four
  pub four_and_four : own_verdict everything (header c400 ∷ four ∷ four_debits (credit c100 ∷ credit c100 ∷ credit c100 ∷ credit c100 ∷ [])) ≡ Accepted
  pub five_and_four : own_verdict everything (header c500 ∷ five ∷ debit c100 ∷ four_debits (credit c100 ∷ credit c100 ∷ credit c100 ∷ codes "EA6100SF00000000000200C" ∷ [])) ≡ Refused 42 1 1
  -- the total is the sum of the details
  pub wrong_total : own_verdict everything (header c400 ∷ six_fifty ∷ []) ≡ Refused 43 0 10
  -- a header alone
  pub no_detail : own_verdict everything (header c650 ∷ []) ≡ Refused 41 0 1
  -- an E record before any D record
  pub early_entry : own_verdict everything (header c650 ∷ debit c650 ∷ []) ≡ Refused 31 1 1
  -- a header of 35 zeros with an unknown Set ID
  pub no_set_id : own_verdict everything ((codes "H" ++ (replicate 35 48 ++ codes "999")) ∷ []) ≡ Refused 30 0 37
