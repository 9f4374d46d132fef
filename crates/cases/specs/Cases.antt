-- Worked cases, all of the same definitions: whole transactions from their bytes to their verdicts.
use Rattle.std.specs.Prelude.{true, List, [], ◌∷◌, ◌++◌, ◌≡◌, ℕ, codes, length, replicate}
use Rattle.octets.specs.Classes.{Bytes}
use Rattle.layout.specs.declared.field.Lookup.TheVariants.{Free, Agencies, Offices, Symbols, Units, Accounts}
use Rattle.register.specs.Maps.{bit_at, mapped, kept}
use Rattle.transaction.specs.declared.verdict.Verdict.{Verdict}
use Rattle.transaction.specs.declared.verdict.Verdict.TheVariants.{Accepted, Refused}
use Rattle.transaction.specs.Checks.{Holds}
use Rattle.promises.specs.Judging.{judge}
use Rattle.promises.specs.Entering.{verdicts, after}
use Rattle.promises.specs.Facts.{all, new, spaces, symbol, bill_header, bill_detail, ten_dollars, three_lines, taking, blank_reference}

-- an account symbol with its agency (AID, three bytes)
abbrev symbol_of : Bytes → Bytes
symbol_of agency = spaces 5 ++ agency ++ spaces 9 ++ codes "0100000  C"

-- 820: a detail by sender symbol, amount, quantity and unit price (14 digits each)
abbrev bill_detail_of : Bytes → Bytes → Bytes → Bytes → Bytes
bill_detail_of sender amount quantity price =
    codes "D" ++ spaces 28 ++ amount ++ spaces 430 ++ codes "INVOICE" ++ spaces 15 ++ spaces 370 ++ codes "OBLIGATION" ++ spaces 7
    ++ codes "F" ++ codes "ORDER" ++ spaces 17 ++ quantity ++ spaces 1 ++ spaces 27 ++ spaces 36 ++ sender ++ spaces 36
    ++ codes "EA" ++ price ++ spaces 15

-- ---- payments without a reference, on a new book; registers that have every key

abbrev on : Holds → List Bytes → Verdict
on holds rs = judge holds new 0 rs

-- total, and details of that total
abbrev payment : Bytes → List Bytes → List Bytes
payment total details = bill_header total blank_reference ∷ details

-- cents or hundredths in 14 digits, by their last six
abbrev cents : Bytes → Bytes
cents six = codes "00000000" ++ six

-- amount, quantity, unit price
abbrev priced : Bytes → Bytes → Bytes → List Bytes
priced amount quantity price = payment (cents amount) (bill_detail_of symbol (cents amount) (cents quantity) (cents price) ∷ [])

-- 6.50 from an agency
abbrev agency_paid : Bytes → List Bytes
agency_paid agency = payment (cents (codes "000650")) (bill_detail_of (symbol_of agency) (cents (codes "000650")) (cents (codes "000200")) (cents (codes "000325")) ∷ [])

-- an E record for an account: a debit or a credit
abbrev debit : Bytes → Bytes → Bytes
debit account amount = codes "EA" ++ account ++ codes "SF" ++ amount ++ codes "D"

abbrev credit : Bytes → Bytes → Bytes
credit account amount = codes "EA" ++ account ++ codes "SF" ++ amount ++ codes "C"

-- so many debits of 1.00, and so many credits
abbrev dollar : Bytes
dollar = cents (codes "000100")

abbrev debits : ℕ → List Bytes
debits n = replicate n (debit (codes "1010") dollar)

abbrev credits : ℕ → List Bytes
credits n = replicate n (credit (codes "6100") dollar)

-- a payment of an amount with E records
abbrev posted : Bytes → List Bytes → List Bytes
posted amount entries = payment amount (bill_detail amount ∷ entries)

-- ---- a map of ledger accounts with one bit set: bit 2 of byte 126

abbrev one_account : Bytes
one_account = replicate 126 0 ++ 4 ∷ replicate 1123 0

abbrev accounts_of : Bytes → Holds
accounts_of map Free key = true
accounts_of map Agencies key = true
accounts_of map Offices key = true
accounts_of map Symbols key = true
accounts_of map Units key = true
accounts_of map Accounts key = mapped (kept map) key

-- both E records to one account
abbrev to_account : Bytes → List Bytes
to_account account = posted dollar (debit account dollar ∷ credit account dollar ∷ [])

-- ---- an original of 10.00 of day 100, and an adjustment of 0.01 on another day

abbrev adjusted_on : ℕ → Verdict
adjusted_on day = judge all (after all new 100 (ten_dollars ∷ [])) day (taking (cents (codes "000001")) (codes "000001"))

pub record Cases : Type 0 where
  -- the records have their layouts' lengths
  pub header_length : length (bill_header dollar blank_reference) ≡ 49
  pub detail_length : length (bill_detail dollar) ≡ 1077
  pub entry_length : length (debit (codes "1010") dollar) ≡ 23
  -- 2.00 x 3.25 = 6.50
  pub product : on all (priced (codes "000650") (codes "000200") (codes "000325")) ≡ Accepted
  -- 1.50 x 0.33 is 0.495, and no 0.49
  pub no_product : on all (priced (codes "000049") (codes "000150") (codes "000033")) ≡ Refused 34 1 30
  -- an agency of three digits, and one that is padded
  pub agency : on all (agency_paid (codes "097")) ≡ Accepted
  pub padded_agency : on all (agency_paid (codes "97 ")) ≡ Refused 22 1 984
  -- two E records are a set, one is none
  pub two_entries : on all (posted dollar (debits 1 ++ credits 1)) ≡ Accepted
  pub one_entry : on all (posted dollar (debits 1)) ≡ Refused 42 1 1
  -- four debits and four credits, and one debit more
  pub four_and_four : on all (posted (cents (codes "000400")) (debits 4 ++ credits 4)) ≡ Accepted
  pub five_and_four : on all (posted (cents (codes "000500")) (debits 5 ++ (credits 3 ++ credit (codes "6100") (cents (codes "000200")) ∷ []))) ≡ Refused 42 1 1
  -- up to 90 days after the original, and at any time before it
  pub ninety_days : adjusted_on 190 ≡ Accepted
  pub earlier : adjusted_on 5 ≡ Accepted
  pub too_late : adjusted_on 191 ≡ Refused 62 0 50
  -- 10.00 of 10.00, then 0.01
  pub all_taken : verdicts all new 0 (ten_dollars ∷ taking (cents (codes "001000")) (codes "000001") ∷ taking (cents (codes "000001")) (codes "000001") ∷ []) ≡ Accepted ∷ Accepted ∷ Refused 65 0 10 ∷ []
  -- of three lines, the third and a fourth
  pub third_line : verdicts all new 0 (three_lines ∷ taking (cents (codes "000001")) (codes "000003") ∷ taking (cents (codes "000001")) (codes "000004") ∷ []) ≡ Accepted ∷ Accepted ∷ Refused 63 1 93 ∷ []
  -- account 1010 is bit 2 of byte 126
  pub account_bit : bit_at one_account 1010 ≡ true
  pub account : on (accounts_of one_account) (to_account (codes "1010")) ≡ Accepted
  pub other_account : on (accounts_of one_account) (to_account (codes "1011")) ≡ Refused 51 2 3
  -- spaces before digits
  pub padded_amount : on all (payment (codes "           100") (bill_detail dollar ∷ [])) ≡ Refused 22 0 10
