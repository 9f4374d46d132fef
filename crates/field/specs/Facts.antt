-- Worked facts of fields and registers.
use Rattle.std.specs.Prelude.{◌≡◌, ℕ, Bool, true, false, cond, List, [], ◌∷◌, length, Ok, Err, codes, Result, ◌==◌, ◌≢◌, slice_index}
use Rattle.octets.specs.Classes.{Bytes}
use Rattle.layout.specs.declared.Layout.{Layout}
use Rattle.layout.specs.declared.Layout.TheVariants.{PaymentDetail, SglEntry}
use Rattle.layout.specs.declared.field.Field.{Field}
use Rattle.layout.specs.declared.field.Lookup.{Lookup}
use Rattle.layout.specs.Fields.{start_of}
use Rattle.layout.specs.Layouts.{fields_of}
use Rattle.register.specs.declared.fault.TextFault.TheVariants.{Order}
use Rattle.register.specs.Faults as text
use Rattle.register.specs.Keys.{is_in, key_check, listed}
use Rattle.register.specs.Maps.{is_set, bit_at, mapped}
use Rattle.field.specs.declared.fault.Cause.TheVariants.{Shape}
use Rattle.field.specs.declared.fault.FieldFault.{FieldFault}
use Rattle.field.specs.Checks.{field_check}
use Rattle.field.specs.Faults.{code_of}

-- registers that have every key
abbrev everything : Lookup → Bytes → Bool
everything which key = true

-- what the fields that start at the column get with these bytes
abbrev checks_at : ℕ → Bytes → List Field → List (Result (Unit {0}) FieldFault)
checks_at column s [] = []
checks_at column s (f ∷ fs) = cond (start_of f == column) (field_check everything f s ∷ checks_at column s fs) (checks_at column s fs)

-- the one field of the layout that starts at the column is good with these bytes
abbrev Good : Layout → ℕ → Bytes → Type 0
Good l column s = checks_at column s (fields_of l) ≡ Ok tt ∷ []

-- it has the wrong shape
abbrev Misshapen : Layout → ℕ → Bytes → Type 0
Misshapen l column s = checks_at column s (fields_of l) ≡ Err (record { cause = Shape; column = column }) ∷ []

pub record Facts : Type 0 where
  -- an account symbol's agency is three digits
  pub agency_097 : Good PaymentDetail 984 (codes "     09720202021 1234000  C")
  pub agency_97 : Misshapen PaymentDetail 984 (codes "     97 20202021 1234000  C")
  -- spaces before digits are refused
  pub zeros_first : Good PaymentDetail 30 (codes "00000000000650")
  pub spaces_first : Misshapen PaymentDetail 30 (codes "           650")
  pub account_spaces_first : Misshapen SglEntry 3 (codes " 101")
  pub shape_code : code_of Shape ≡ 22
  -- account 1010 is bit 2 of byte 126
  pub bit_1010 : (bits : Bytes) → bit_at bits 1010 ≡ is_set (slice_index bits 126) 2
  pub key_1010 : (bits : Bytes) → mapped bits (codes "1010") ≡ bit_at bits 1010
  -- a key of another width is in no list
  pub other_width : (w : ℕ) (text k : Bytes) → length k ≢ w → is_in (listed w text) k ≡ false
  -- `EABA` at width 2 is not ascending
  pub keys_eaba : key_check 2 (codes "EABA") ≡ Err Order
  pub keys_baea : key_check 2 (codes "BAEA") ≡ Ok tt
  pub order_code : text.code_of Order ≡ 12
