-- The three tables of a book: what is found under a key, and the order.
-- Assumes nothing.
use Rattle.std.proofs.Common.{◌≡◌, ℕ, ◌^◌, ◌<◌, true, ◌&&◌, eqb, length, take, drop, sym, ap, ◌∙◌}
use Rattle.std.specs.Ordering.{is_lt, is_eq}
use Rattle.std.proofs.lemmas.Slice.Eq.{bytes_eq-Decides}
use Rattle.std.proofs.lemmas.Bool.{and_parts}
use Rattle.ordered.specs.Order.{ranks}
use Rattle.octets.specs.Classes.{Bytes}
use Rattle.layout.specs.declared.pair.Pair.{Pair}
use Rattle.book.specs.declared.entry_row.EntryRow.{EntryRow}
use Rattle.book.specs.declared.line_row.LineRow.{LineRow}
use Rattle.book.specs.declared.mark_row.MarkRow.{MarkRow}
use Rattle.book.specs.Meaning.{same_pair, under, under_line, under_mark, entry_first, line_first, mark_first}
use Rattle.book.specs.Stands.{is_line_number}
use Rattle.book.specs.Rows.{pair_key, line_key, digits_of, pair_of, entry_of, line_of, mark_of, entry_code, line_code, mark_code, sound_entry, sound_line, sound_mark}
use Rattle.book.proofs.Keys.{same_ranks, before_ranks, pair_asked, pair_before, line_same, line_before, line_pair, line_digits, line_number_small}

pub entry_test : (p : Pair) → length p.office ≡ 5 → (x : EntryRow) → sound_entry x ≡ true → under p (entry_of x) ≡ is_eq (ranks (entry_code x) (pair_key p))
entry_test p o x s = pair_asked x.key p o

pub entry_order : (x y : EntryRow) → sound_entry x ≡ true → sound_entry y ≡ true → entry_first (entry_of x) (entry_of y) ≡ is_lt (ranks (entry_code x) (entry_code y))
entry_order x y s t = pair_before x.key y.key

line_sound : (x : LineRow) → sound_line x ≡ true → (drop 13 x.key ≡ digits_of 6 (line_of x).number) × ((line_of x).number < 10 ^ 6)
line_sound x s =
    let p = and_parts _ (is_line_number (line_of x).number) s in
    ((bytes_eq-Decides (drop 13 x.key) (digits_of 6 (line_of x).number)).0 p.0, line_number_small (line_of x).number p.1)

pub line_test : (p : Pair) (n : ℕ) → length p.office ≡ 5 → length p.reference ≡ 8 → n < 10 ^ 6 → (x : LineRow) → sound_line x ≡ true → under_line p n (line_of x) ≡ is_eq (ranks (line_code x) (line_key p n))
line_test p n o r l x s =
    let d = line_sound x s in
    ap (λ q. same_pair (pair_of (take 13 x.key)) q && eqb (line_of x).number n) (sym (line_pair p n o r))
    ∙ line_same x.key (line_key p n) (line_of x).number n d.0 (line_digits p n o r) d.1 l

pub line_order : (x y : LineRow) → sound_line x ≡ true → sound_line y ≡ true → line_first (line_of x) (line_of y) ≡ is_lt (ranks (line_code x) (line_code y))
line_order x y s t =
    let d = line_sound x s in
    let e = line_sound y t in
    line_before x.key y.key (line_of x).number (line_of y).number d.0 e.0 d.1 e.1

pub mark_test : (f : Bytes) (x : MarkRow) → sound_mark x ≡ true → under_mark f (mark_of x) ≡ is_eq (ranks (mark_code x) f)
mark_test f x s = same_ranks x.key f

pub mark_order : (x y : MarkRow) → sound_mark x ≡ true → sound_mark y ≡ true → mark_first (mark_of x) (mark_of y) ≡ is_lt (ranks (mark_code x) (mark_code y))
mark_order x y s t = before_ranks x.key y.key
