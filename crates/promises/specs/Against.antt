-- A transaction against its original: 61, 62, for each detail 63 and 64, then 65.
use Rattle.std.specs.Prelude.{ℕ, ◌+◌, Bool, true, false, not, ◌||◌, List, [], ◌∷◌, ◌++◌, is_some, Some, None, Option, ◌==◌, nat_le}
use Rattle.std.specs.List.{flat_map}
use Rattle.std.specs.Str.{bytes_eq}
use Rattle.octets.specs.Classes.{Bytes, blank}
use Rattle.layout.specs.declared.set_id.SetId.{SetId}
use Rattle.layout.specs.declared.set_id.SetId.TheVariants.{Payment, Collection, ReceiverAdjustment, SenderAdjustment, ZeroDollar, PostSgl}
use Rattle.book.specs.Meaning.{EntryHeld, LineHeld, adjustable}
use Rattle.transaction.specs.declared.header.Transaction.{Transaction}
use Rattle.transaction.specs.Details.{DetailRead, item_in, sender_in, receiver_in}
use Rattle.transaction.specs.Headers.{set_id_of, total_of}
use Rattle.transaction.specs.Verdicts.{Check, check}
use Rattle.promises.specs.Held.{Held}

-- 812 and 829: they take from their original
abbrev pub adjusts : SetId → Bool
adjusts Payment = false
adjusts Collection = false
adjusts ReceiverAdjustment = true
adjusts SenderAdjustment = true
adjusts ZeroDollar = false
adjusts PostSgl = false

-- the columns of Original DO Symbol and of Original Line Item; only 812, 829 and 840 have them
abbrev pub original_column : SetId → ℕ
original_column Payment = 1
original_column Collection = 1
original_column ReceiverAdjustment = 50
original_column SenderAdjustment = 50
original_column ZeroDollar = 1
original_column PostSgl = 10

abbrev pub item_column : SetId → ℕ
item_column Payment = 1
item_column Collection = 1
item_column ReceiverAdjustment = 93
item_column SenderAdjustment = 93
item_column ZeroDollar = 1
item_column PostSgl = 2

-- an adjustment may come up to 90 days after its original, and at any time before it
abbrev pub latest : EntryHeld → ℕ
latest e = e.day + 90

-- an original is there, and for 812 and 829 it is an 820 or 810
abbrev pub serves : SetId → Option EntryHeld → Bool
serves set None = false
serves set (Some e) = not (adjusts set) || adjustable e.set_id

-- symbols differ only where both are given
abbrev pub agree : Bytes → Bytes → Bool
agree s t = blank s || (blank t || bytes_eq s t)

-- own sender, then own receiver
abbrev pub symbol_checks : ℕ → Bytes → Bytes → Bytes → Bytes → List Check
symbol_checks n sender as_sender receiver as_receiver = check (agree sender as_sender) 64 n 100 ∷ check (agree receiver as_receiver) 64 n 135 ∷ []

-- a detail against the line that it names: 812 crosswise, 829 straight, 840 by the amount
abbrev pub line_checks : SetId → DetailRead → LineHeld → List Check
line_checks Payment d l = []
line_checks Collection d l = []
line_checks ReceiverAdjustment d l = symbol_checks d.number (sender_in ReceiverAdjustment d.detail) l.receiver (receiver_in ReceiverAdjustment d.detail) l.sender
line_checks SenderAdjustment d l = symbol_checks d.number (sender_in SenderAdjustment d.detail) l.sender (receiver_in SenderAdjustment d.detail) l.receiver
line_checks ZeroDollar d l = []
line_checks PostSgl d l = check (d.entries.debits == l.amount) 64 d.number 1 ∷ []

abbrev pub line_checks_any : SetId → DetailRead → Option LineHeld → List Check
line_checks_any set d None = []
line_checks_any set d (Some l) = line_checks set d l

-- the line of the original that a detail names
abbrev pub line_named : SetId → Held → DetailRead → Option LineHeld
line_named set h d = h.line (item_in set d.detail)

abbrev pub detail_checks : SetId → Held → DetailRead → List Check
detail_checks set h d = check (is_some (line_named set h d)) 63 d.number (item_column set) ∷ line_checks_any set d (line_named set h d)

-- where the original is there
abbrev pub entry_checks : ℕ → Transaction → List DetailRead → Held → Option EntryHeld → List Check
entry_checks day t ds h None = []
entry_checks day t ds h (Some e) =
    check (not (adjusts (set_id_of t)) || nat_le day (latest e)) 62 0 (original_column (set_id_of t))
    ∷ flat_map (detail_checks (set_id_of t) h) ds
    ++ check (not (adjusts (set_id_of t)) || nat_le (total_of t) e.open_amount) 65 0 10
    ∷ []

-- by what is held under the original's pair
abbrev pub original_checks : ℕ → Transaction → List DetailRead → Held → List Check
original_checks day t ds h = check (serves (set_id_of t) h.entry) 61 0 (original_column (set_id_of t)) ∷ entry_checks day t ds h h.entry
