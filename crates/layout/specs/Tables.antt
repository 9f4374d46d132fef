-- The fields of each layout, in the layout's order: first column, length, whether required, kind, register.
use Rattle.std.specs.Prelude.{List, [], ◌∷◌, codes}
use Rattle.layout.specs.declared.set_id.SetId.TheVariants.{Payment, Collection, ReceiverAdjustment, SenderAdjustment, ZeroDollar, PostSgl}
use Rattle.layout.specs.declared.field.Kind.TheVariants.{Text, Number, Positive, Filler, Symbol, OneOf, OneSet}
use Rattle.layout.specs.declared.field.Lookup.TheVariants.{Free, Agencies, Offices, Symbols, Units, Accounts}
use Rattle.layout.specs.declared.field.Field.{Field}
use Rattle.layout.specs.Fields.{field, required, optional}

-- 820 and 810: header of 49 bytes
abbrev pub payment_header : List Field
payment_header =
    field 1 1 required (OneOf (codes "HH")) Free  -- Record Type
    ∷ field 2 8 required Number Agencies  -- ALC
    ∷ field 10 14 required Number Free  -- Transaction Total Amount
    ∷ field 24 8 required Number Agencies  -- Customer ALC
    ∷ field 32 5 required Text Offices  -- Sender DO Symbol
    ∷ field 37 3 required (OneSet Payment Collection) Free  -- Transaction Set ID
    ∷ field 40 8 optional Text Free  -- Document Reference Number
    ∷ field 48 2 optional Filler Free  -- Filler
    ∷ []

-- 820 and 810: detail of 1,077 bytes
abbrev pub payment_detail : List Field
payment_detail =
    field 1 1 required (OneOf (codes "DD")) Free  -- Record Type
    ∷ field 2 16 optional Text Free  -- Accounting Classification Code
    ∷ field 18 12 optional Text Free  -- Account Classification Reference Number
    ∷ field 30 14 required Positive Free  -- Detail Amount
    ∷ field 44 60 optional Text Free  -- Contact Name
    ∷ field 104 17 optional Text Free  -- Contact Phone Number
    ∷ field 121 6 optional Text Free  -- Contract Line Item Number
    ∷ field 127 17 optional Text Free  -- Contract Number
    ∷ field 144 2 optional Filler Free  -- Filler
    ∷ field 146 320 optional Text Free  -- Description
    ∷ field 466 8 optional Number Free  -- Fiscal Station Number
    ∷ field 474 22 required Text Free  -- Invoice Number
    ∷ field 496 30 optional Text Free  -- JAS Number
    ∷ field 526 20 optional Text Free  -- Job Number
    ∷ field 546 320 optional Text Free  -- Miscellaneous Transaction Information
    ∷ field 866 17 required Text Free  -- Obligating Document Number
    ∷ field 883 1 required (OneOf (codes "FP")) Free  -- Pay Flag
    ∷ field 884 22 required Text Free  -- Purchase Order Number
    ∷ field 906 14 required Positive Free  -- Quantity
    ∷ field 920 1 optional (OneOf (codes "CP")) Free  -- FY Obligation ID
    ∷ field 921 27 optional Symbol Symbols  -- Receiver Treasury Account Symbol
    ∷ field 948 8 optional Text Free  -- Receiver Business Event Type Code
    ∷ field 956 9 optional Text Free  -- Receiver DUNS Number
    ∷ field 965 4 optional Text Free  -- Receiver DUNS+4 Number
    ∷ field 969 15 optional Text Free  -- Requisition Number
    ∷ field 984 27 required Symbol Symbols  -- Sender Treasury Account Symbol
    ∷ field 1011 8 optional Text Free  -- Sender Business Event Type Code
    ∷ field 1019 9 optional Text Free  -- Sender DUNS Number
    ∷ field 1028 4 optional Text Free  -- Sender DUNS+4 Number
    ∷ field 1032 15 optional Text Free  -- (ACT) Trace Number
    ∷ field 1047 2 required Text Units  -- Unit of Issue
    ∷ field 1049 14 required Positive Free  -- Unit Price
    ∷ field 1063 15 optional Text Free  -- DOD Activity Address Code
    ∷ []

-- 812 and 829: header of 64 bytes
abbrev pub adjustment_header : List Field
adjustment_header =
    field 1 1 required (OneOf (codes "HH")) Free  -- Record Type
    ∷ field 2 8 required Number Agencies  -- ALC
    ∷ field 10 14 required Number Free  -- Transaction Total Amount
    ∷ field 24 8 required Number Agencies  -- Customer ALC
    ∷ field 32 5 required Text Offices  -- Sender DO Symbol
    ∷ field 37 3 required (OneSet ReceiverAdjustment SenderAdjustment) Free  -- Transaction Set ID
    ∷ field 40 8 required Text Free  -- Original Document Reference Number
    ∷ field 48 2 optional Filler Free  -- Filler
    ∷ field 50 5 required Text Free  -- Original DO Symbol
    ∷ field 55 8 optional Text Free  -- Voucher Number
    ∷ field 63 2 optional Filler Free  -- Filler
    ∷ []

-- 812 and 829: detail of 489 bytes
abbrev pub adjustment_detail : List Field
adjustment_detail =
    field 1 1 required (OneOf (codes "DD")) Free  -- Record Type
    ∷ field 2 14 required Positive Free  -- Detail Amount
    ∷ field 16 60 optional Text Free  -- Adjusting Contact Name
    ∷ field 76 17 optional Text Free  -- Adjusting Contact Phone Number
    ∷ field 93 6 required Number Free  -- Original Line Item
    ∷ field 99 1 optional (OneOf (codes "CP")) Free  -- FY Obligation ID
    ∷ field 100 27 required Symbol Symbols  -- Sender Treasury Account Symbol
    ∷ field 127 8 optional Text Free  -- Sender Business Event Type Code
    ∷ field 135 27 optional Symbol Symbols  -- Receiver Treasury Account Symbol
    ∷ field 162 8 optional Text Free  -- Receiver Business Event Type Code
    ∷ field 170 320 optional Text Free  -- Description
    ∷ []

-- 820, 810, 812 and 829: E record of 23 bytes. Every field is required
abbrev pub sgl_entry : List Field
sgl_entry =
    field 1 1 required (OneOf (codes "EE")) Free  -- Record Type
    ∷ field 2 1 required (OneOf (codes "AA")) Free  -- SGL Action Flag
    ∷ field 3 4 required Number Accounts  -- SGL Account Number
    ∷ field 7 1 required (OneOf (codes "SR")) Free  -- Sender / Receiver SGL Flag
    ∷ field 8 1 required (OneOf (codes "FN")) Free  -- Federal / Non-Federal Flag
    ∷ field 9 14 required Number Free  -- SGL Amount
    ∷ field 23 1 required (OneOf (codes "DC")) Free  -- Debit / Credit Flag
    ∷ []

-- 835: header of 39 bytes
abbrev pub zero_dollar_header : List Field
zero_dollar_header =
    field 1 1 required (OneOf (codes "HH")) Free  -- Record Type
    ∷ field 2 8 required Number Agencies  -- ALC
    ∷ field 10 8 required Number Agencies  -- Customer ALC
    ∷ field 18 5 required Text Offices  -- Sender DO Symbol
    ∷ field 23 3 optional Filler Free  -- Filler
    ∷ field 26 8 optional Text Free  -- Trace Number
    ∷ field 34 3 optional Filler Free  -- Filler
    ∷ field 37 3 required (OneSet ZeroDollar ZeroDollar) Free  -- Transaction Set ID
    ∷ []

-- 835: detail of 1,056 bytes
abbrev pub zero_dollar_detail : List Field
zero_dollar_detail =
    field 1 1 required (OneOf (codes "DD")) Free  -- Record Type
    ∷ field 2 16 optional Text Free  -- Accounting Classification Code
    ∷ field 18 12 optional Text Free  -- Account Classification Reference Number
    ∷ field 30 60 optional Text Free  -- Contact Name
    ∷ field 90 17 optional Text Free  -- Contact Phone Number
    ∷ field 107 6 optional Text Free  -- Contract Line Item Number
    ∷ field 113 17 required Text Free  -- Contract Number
    ∷ field 130 2 optional Filler Free  -- Filler
    ∷ field 132 320 optional Text Free  -- Description
    ∷ field 452 8 optional Number Free  -- Fiscal Station Number
    ∷ field 460 22 optional Text Free  -- Invoice Number
    ∷ field 482 30 optional Text Free  -- JAS Number
    ∷ field 512 20 optional Text Free  -- Job Number
    ∷ field 532 320 optional Text Free  -- Miscellaneous Transaction Information
    ∷ field 852 17 required Text Free  -- Obligating Document Number
    ∷ field 869 1 optional (OneOf (codes "FP")) Free  -- Pay Flag
    ∷ field 870 22 optional Text Free  -- Purchase Order Number
    ∷ field 892 14 optional Number Free  -- Quantity
    ∷ field 906 27 optional Symbol Symbols  -- Receiver Treasury Account Symbol
    ∷ field 933 9 optional Text Free  -- Receiver DUNS Number
    ∷ field 942 4 optional Text Free  -- Receiver DUNS+4 Number
    ∷ field 946 15 optional Text Free  -- Requisition Number
    ∷ field 961 27 optional Symbol Symbols  -- Sender Treasury Account Symbol
    ∷ field 988 9 optional Text Free  -- Sender DUNS Number
    ∷ field 997 4 optional Text Free  -- Sender DUNS+4 Number
    ∷ field 1001 15 optional Text Free  -- (ACT) Trace Number
    ∷ field 1016 2 optional Text Units  -- Unit of Issue
    ∷ field 1018 14 optional Positive Free  -- Unit Price
    ∷ field 1032 15 optional Text Free  -- DOD Activity Address Code
    ∷ field 1047 8 optional Text Free  -- Cross Reference Document Reference Number
    ∷ field 1055 2 optional Filler Free  -- Filler
    ∷ []

-- 840: header of 39 bytes
abbrev pub post_sgl_header : List Field
post_sgl_header =
    field 1 1 required (OneOf (codes "HH")) Free  -- Record Type
    ∷ field 2 8 required Number Agencies  -- ALC
    ∷ field 10 5 required Text Free  -- Original DO Symbol
    ∷ field 15 3 optional Filler Free  -- Filler
    ∷ field 18 8 required Text Free  -- Original Document Reference / Voucher Number
    ∷ field 26 11 optional Filler Free  -- Filler
    ∷ field 37 3 required (OneSet PostSgl PostSgl) Free  -- Transaction Set ID
    ∷ []

-- 840: detail of 262 bytes
abbrev pub post_sgl_detail : List Field
post_sgl_detail =
    field 1 1 required (OneOf (codes "DD")) Free  -- Record Type
    ∷ field 2 6 required Number Free  -- Original Line Item
    ∷ field 8 255 optional Text Free  -- SGL Comments
    ∷ []

-- 840: E record of 23 bytes. Every field is required, the filler aside
abbrev pub post_sgl_entry : List Field
post_sgl_entry =
    field 1 1 required (OneOf (codes "EE")) Free  -- Record Type
    ∷ field 2 1 required (OneOf (codes "AE")) Free  -- SGL Action Flag
    ∷ field 3 4 required Number Accounts  -- SGL Account Number
    ∷ field 7 1 optional Filler Free  -- Filler
    ∷ field 8 1 required (OneOf (codes "FN")) Free  -- Federal / Non-Federal Flag
    ∷ field 9 14 required Number Free  -- SGL Amount
    ∷ field 23 1 required (OneOf (codes "DC")) Free  -- Debit / Credit Flag
    ∷ []
