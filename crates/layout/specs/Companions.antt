-- Companion rules: a field that goes only with another field, or never with it.
use Rattle.std.specs.Prelude.{ℕ, Bool, true, false, not, ◌&&◌, ◌||◌, List, [], ◌∷◌, ◌==◌, nat_le}
use Rattle.layout.specs.declared.Layout.{Layout}
use Rattle.layout.specs.declared.Layout.TheVariants.{PaymentHeader, PaymentDetail, AdjustmentHeader, AdjustmentDetail, SglEntry, ZeroDollarHeader, ZeroDollarDetail, PostSglHeader, PostSglDetail, PostSglEntry}
use Rattle.layout.specs.declared.companion.Rule.{Rule}
use Rattle.layout.specs.declared.companion.Rule.TheVariants.{Needs, Excludes}
use Rattle.layout.specs.declared.companion.Companion.{Companion}
use Rattle.layout.specs.declared.field.Field.{Field}
use Rattle.layout.specs.Fields.{start_of, len_of}

-- whether the field is given, and whether the other one is
abbrev pub is_kept : Rule → Bool → Bool → Bool
is_kept Needs given other = not given || other
is_kept Excludes given other = not given || not other

abbrev pub refused_start : Companion → ℕ
refused_start c = c.0

abbrev pub refused_len : Companion → ℕ
refused_len c = c.1

abbrev pub rule_of : Companion → Rule
rule_of c = c.2

abbrev pub other_start : Companion → ℕ
other_start c = c.3

abbrev pub other_len : Companion → ℕ
other_len c = c.4

-- the field that is refused, by its first column and its length, the rule, and the other field
abbrev companion : ℕ → ℕ → Rule → ℕ → ℕ → Companion
companion start len rule other other_len = record { 0 = start; 1 = len; 2 = rule; 3 = other; 4 = other_len }

abbrev pub companions_of : Layout → List Companion
companions_of PaymentHeader = []
companions_of PaymentDetail =
    companion 948 8 Needs 921 27  -- Receiver Business Event Type Code, Receiver Treasury Account Symbol
    ∷ companion 965 4 Needs 956 9  -- Receiver DUNS+4 Number, Receiver DUNS Number
    ∷ companion 1011 8 Needs 984 27  -- Sender Business Event Type Code, Sender Treasury Account Symbol
    ∷ companion 1028 4 Needs 1019 9  -- Sender DUNS+4 Number, Sender DUNS Number
    ∷ companion 1063 15 Excludes 1019 9  -- DOD Activity Address Code, Sender DUNS Number
    ∷ companion 1063 15 Excludes 1028 4  -- DOD Activity Address Code, Sender DUNS+4 Number
    ∷ []
companions_of AdjustmentHeader = []
companions_of AdjustmentDetail =
    companion 127 8 Needs 100 27  -- Sender Business Event Type Code, Sender Treasury Account Symbol
    ∷ companion 162 8 Needs 135 27  -- Receiver Business Event Type Code, Receiver Treasury Account Symbol
    ∷ []
companions_of SglEntry = []
companions_of ZeroDollarHeader = []
companions_of ZeroDollarDetail =
    companion 942 4 Needs 933 9  -- Receiver DUNS+4 Number, Receiver DUNS Number
    ∷ companion 997 4 Needs 988 9  -- Sender DUNS+4 Number, Sender DUNS Number
    ∷ companion 1032 15 Excludes 988 9  -- DOD Activity Address Code, Sender DUNS Number
    ∷ companion 1032 15 Excludes 997 4  -- DOD Activity Address Code, Sender DUNS+4 Number
    ∷ []
companions_of PostSglHeader = []
companions_of PostSglDetail = []
companions_of PostSglEntry = []

-- a field of the table starts at this column and has this length
abbrev pub is_field : ℕ → ℕ → List Field → Bool
is_field start len [] = false
is_field start len (f ∷ fs) = (start_of f == start && len_of f == len) || is_field start len fs

-- each rule names two fields of the table
abbrev pub name_fields : List Field → List Companion → Bool
name_fields fs [] = true
name_fields fs (c ∷ cs) =
    is_field (refused_start c) (refused_len c) fs && (is_field (other_start c) (other_len c) fs && name_fields fs cs)

-- the columns that are refused come in order, from the column i on
abbrev pub in_order : ℕ → List Companion → Bool
in_order i [] = true
in_order i (c ∷ cs) = nat_le i (refused_start c) && in_order (refused_start c) cs
