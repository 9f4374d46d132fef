-- What the codes say to people, and the names of the Set IDs.
use Rattle.std.specs.Prelude.{ℕ, cond, Some, None, Option, unwrap_or, codes, ◌==◌}
use Rattle.std.specs.Option.{option_or}
use Rattle.octets.specs.Classes.{Bytes}
use Rattle.layout.specs.declared.set_id.SetId.{SetId}
use Rattle.layout.specs.declared.set_id.SetId.TheVariants.{Payment, Collection, ReceiverAdjustment, SenderAdjustment, ZeroDollar, PostSgl}

-- of a file
abbrev pub file_words : ℕ → Option Bytes
file_words code =
    cond (code == 1) (Some (codes "the file is longer than 16,777,216 bytes"))
    (cond (code == 2) (Some (codes "the file is empty or does not end in a line feed"))
    (cond (code == 3) (Some (codes "record 1 is not the File Identifier, PCA and four spaces"))
    (cond (code == 4) (Some (codes "record 2 is not a good Batch Header"))
    (cond (code == 5) (Some (codes "record 3 is not the header of a transaction"))
    (cond (code == 6) (Some (codes "a file with this File ID Number was posted before"))
    (cond (code == 7) (Some (codes "the packet buffer is too short for the file's transactions"))
    (cond (code == 8) (Some (codes "the book has no place for another mark"))
    None)))))))

-- of a register's text
abbrev pub register_words : ℕ → Option Bytes
register_words code =
    cond (code == 11) (Some (codes "the keys' width is not 1 to 27, or the text is not whole keys"))
    (cond (code == 12) (Some (codes "the keys are not strictly ascending"))
    (cond (code == 13) (Some (codes "the map is not 1,250 bytes long"))
    None))

-- of an action on a book
abbrev pub action_words : ℕ → Option Bytes
action_words code =
    cond (code == 14) (Some (codes "the book holds this key already"))
    (cond (code == 15) (Some (codes "the book's places are used up"))
    (cond (code == 16) (Some (codes "the book holds no such entry to take from"))
    (cond (code == 17) (Some (codes "the amount is above the open amount"))
    (cond (code == 18) (Some (codes "a mark's count is above 16,777,216"))
    None))))

-- of a field
abbrev pub field_words : ℕ → Option Bytes
field_words code =
    cond (code == 21) (Some (codes "a required field is missing"))
    (cond (code == 22) (Some (codes "the field has a wrong shape or value"))
    (cond (code == 51) (Some (codes "the key is not in its register"))
    None))

-- of a record
abbrev pub record_words : ℕ → Option Bytes
record_words code =
    cond (code == 30) (Some (codes "the header is too short or its Set ID is unknown"))
    (cond (code == 31) (Some (codes "the record's letter is not allowed here"))
    (cond (code == 32) (Some (codes "the record has a wrong length"))
    (cond (code == 33) (Some (codes "the field does not go with another field of the record"))
    (cond (code == 34) (Some (codes "the amount is not the quantity times the unit price"))
    None))))

-- of a transaction
abbrev pub transaction_words : ℕ → Option Bytes
transaction_words code =
    cond (code == 41) (Some (codes "the number of details is not allowed"))
    (cond (code == 42) (Some (codes "the detail's E records are not a good set"))
    (cond (code == 43) (Some (codes "the total is not the sum of the details"))
    None))

-- of a transaction against the book
abbrev pub book_words : ℕ → Option Bytes
book_words code =
    cond (code == 61) (Some (codes "the original is not in the book, or cannot be adjusted"))
    (cond (code == 62) (Some (codes "the original is more than 90 days old"))
    (cond (code == 63) (Some (codes "the original has no such line"))
    (cond (code == 64) (Some (codes "the detail does not agree with the original's line"))
    (cond (code == 65) (Some (codes "the total is above the open amount of the original"))
    (cond (code == 66) (Some (codes "the book holds this reference, or one of its lines, already"))
    (cond (code == 67) (Some (codes "the book has too few places for the entry and its lines"))
    None))))))

-- of any of the seven kinds; no two share a code
abbrev pub known_words : ℕ → Option Bytes
known_words code =
    option_or
    (option_or
    (option_or
    (option_or
    (option_or
    (option_or (file_words code) (register_words code))
    (action_words code))
    (field_words code))
    (record_words code))
    (transaction_words code))
    (book_words code)

abbrev pub words_of : ℕ → Bytes
words_of code = unwrap_or (known_words code) (codes "no such code")

abbrev pub name_of : SetId → Bytes
name_of Payment = codes "payment"
name_of Collection = codes "collection"
name_of ReceiverAdjustment = codes "receiver's adjustment"
name_of SenderAdjustment = codes "sender's adjustment"
name_of ZeroDollar = codes "zero dollar"
name_of PostSgl = codes "post SGL"
