-- What the actions and questions of a make do to its rows is what they do to the meaning. The rows of each table stand
-- in the order of their keys: es, ls, ms, with ne, nl, nm places.
-- Assumes nothing.
use Rattle.std.proofs.Common.{◌≡◌, ℕ, ◌-◌, ◌^◌, ◌<◌, ◌≤◌, true, false, cond, ◌&&◌, ltb, leb, List, ◌++◌, map, length, take, drop, is_some, is_ok, Some, None, Ok, Err, Option, Result, sym, refl, ap, ◌∙◌, subst, true≢false, arith}
use Rattle.std.specs.Option.{option_map}
use Rattle.std.specs.Str.{bytes_eq}
use Rattle.std.proofs.lemmas.Slice.Eq.{bytes_eq-Decides}
use Rattle.std.proofs.lemmas.List.{length-map, take-append-drop}
use Rattle.std.proofs.lemmas.Bool.{and_parts}
use Rattle.ordered.specs.Order.{ranks, every, ascends, held, entered, altered, adds}
use Rattle.ordered.specs.declared.refusal.Refusal.{Refusal}
use Rattle.ordered.specs.declared.refusal.Refusal.TheVariants as table
use Rattle.octets.specs.Classes.{Bytes}
use Rattle.layout.specs.declared.pair.Pair.{Pair}
use Rattle.book.specs.declared.new_entry.NewEntry.{NewEntry}
use Rattle.book.specs.declared.sought.Sought.{Sought}
use Rattle.book.specs.declared.line.Line.{Line}
use Rattle.book.specs.declared.mark.Mark.{Mark}
use Rattle.book.specs.declared.entry_row.EntryRow.{EntryRow}
use Rattle.book.specs.declared.line_row.LineRow.{LineRow}
use Rattle.book.specs.declared.mark_row.MarkRow.{MarkRow}
use Rattle.book.specs.declared.fault.BookFault.TheVariants.{Absent, AboveOpen, CountTooLarge}
use Rattle.book.specs.Lists.{place}
use Rattle.book.specs.Meaning.{BookMeaning, entry_at, line_at, mark_at, line_told, mark_told, fresh, line_under, mark_under, adjustable, seekable, under, under_line, under_mark, entry_first, line_first, mark_first}
use Rattle.book.specs.Told.{EntryTold, entry_told, told, sought_told, SoughtAs, MaySeek}
use Rattle.book.specs.Actions.{Answer, with_entries, with_lines, with_marks, less, take_open, set_mark, admits, entry_answer, line_answer, take_answer_at, take_answer, counts_fit, and_then, mark_answer, unless_refused, entering, entering_line, taking, marking}
use Rattle.book.specs.Stands.{Stands, is_line_number, covered, numbered}
use Rattle.book.specs.Rows.{pair_key, line_key, entry_of, line_of, mark_of, entry_code, line_code, mark_code, sound_entry, sound_line, sound_mark, less_row, rows_mean}
use Rattle.book.proofs.Joins.{as_book_fault, every_means, found, changed, admitted, placed, in_order_law}
use Rattle.book.proofs.Tests.{entry_test, entry_order, line_test, line_order, mark_test, mark_order}

-- an action's answer r and the book b' afterwards are those defined
pub record Done (r : Answer) (b' : BookMeaning) (answer : Answer) (after : BookMeaning) : Type 0 where
  pub answer_is : r ≡ answer
  pub after_is : b' ≡ after

-- rows added or not, as the table answers
added : {X : Type 0} (f : List X → BookMeaning) (xs xs' ys : List X) (r : Result Unit Refusal) → xs' ≡ cond (is_ok r) ys xs → f xs' ≡ unless_refused (as_book_fault r) (f ys) (f xs)
added f xs xs' ys (Ok x) h = ap f h
added f xs xs' ys (Err table.Held) h = ap f h
added f xs xs' ys (Err table.Full) h = ap f h

module _ (es : List EntryRow) (ls : List LineRow) (ms : List MarkRow) (ne nl nm : ℕ) where
  -- ---- entries

  module _ (s : every sound_entry es ≡ true) (p : Pair) (o : length p.office ≡ 5) where
    entry_found : entry_at (rows_mean es ls ms ne nl nm) p ≡ option_map entry_of (held ranks entry_code (pair_key p) es)
    entry_found = found entry_code sound_entry entry_of (under p) (pair_key p) (entry_test p o) es s

    pub entry_entered : (x : EntryRow) (e : NewEntry) (es' : List EntryRow) (r : Result Unit Refusal) → entry_of x ≡ fresh p e → entry_code x ≡ pair_key p → sound_entry x ≡ true → r ≡ adds ranks entry_code es ne x → es' ≡ cond (is_ok r) (entered ranks entry_code x es) es → Done (as_book_fault r) (rows_mean es' ls ms ne nl nm) (entry_answer (rows_mean es ls ms ne nl nm) (fresh p e)) (entering (rows_mean es ls ms ne nl nm) (fresh p e))
    entry_entered x e es' r m k sx a b =
        let answer : as_book_fault r ≡ entry_answer (rows_mean es ls ms ne nl nm) (fresh p e) =
        ap as_book_fault a ∙ admitted entry_code sound_entry entry_of (under p) (pair_key p) (entry_test p o) es ne x k s in
        record {
          answer_is = answer;
          after_is = added (λ t. rows_mean t ls ms ne nl nm) es es' (entered ranks entry_code x es) r b
              ∙ (λ i. unless_refused (answer i) (with_entries (rows_mean es ls ms ne nl nm) ((placed entry_code sound_entry entry_of entry_first entry_order x es sx s ∙ ap (λ t. place entry_first t (map entry_of es)) m) i)) (rows_mean es ls ms ne nl nm));
        }

    pub entry_told_law : (r : Option EntryTold) (h : Option EntryRow) → h ≡ held ranks entry_code (pair_key p) es → r ≡ option_map (λ x. entry_told (entry_of x)) h → r ≡ option_map entry_told (entry_at (rows_mean es ls ms ne nl nm) p)
    entry_told_law r h e q = q ∙ (go h ∙ ap (option_map entry_told) (ap (option_map entry_of) e ∙ sym entry_found))
      where
        go : (h : Option EntryRow) → option_map (λ x. entry_told (entry_of x)) h ≡ option_map entry_told (option_map entry_of h)
        go None = refl
        go (Some x) = refl

    -- nothing to take from
    pub take_absent : (n : ℕ) → held ranks entry_code (pair_key p) es ≡ None → Done (Err Absent) (rows_mean es ls ms ne nl nm) (take_answer (rows_mean es ls ms ne nl nm) p n) (taking (rows_mean es ls ms ne nl nm) p n)
    take_absent n h =
        let a : Err Absent ≡ take_answer (rows_mean es ls ms ne nl nm) p n = sym (ap (λ t. take_answer_at t n) (entry_found ∙ ap (option_map entry_of) h)) in
        record { answer_is = a; after_is = ap (λ t. unless_refused t (take_open p n (rows_mean es ls ms ne nl nm)) (rows_mean es ls ms ne nl nm)) a }

    module _ (n : ℕ) (x : EntryRow) (h : held ranks entry_code (pair_key p) es ≡ Some x) where
      answer_at : take_answer (rows_mean es ls ms ne nl nm) p n ≡ cond (leb n x.left) (Ok tt) (Err AboveOpen)
      answer_at = ap (λ t. take_answer_at t n) (entry_found ∙ ap (option_map entry_of) h)

      pub take_above : leb n x.left ≡ false → Done (Err AboveOpen) (rows_mean es ls ms ne nl nm) (take_answer (rows_mean es ls ms ne nl nm) p n) (taking (rows_mean es ls ms ne nl nm) p n)
      take_above l =
          let a : Err AboveOpen ≡ take_answer (rows_mean es ls ms ne nl nm) p n = sym (answer_at ∙ ap (λ b. cond b (Ok tt) (Err AboveOpen)) l) in
          record { answer_is = a; after_is = ap (λ t. unless_refused t (take_open p n (rows_mean es ls ms ne nl nm)) (rows_mean es ls ms ne nl nm)) a }

      pub take_done : (es' : List EntryRow) → leb n x.left ≡ true → es' ≡ altered ranks entry_code (pair_key p) (less_row n) es → Done (Ok tt) (rows_mean es' ls ms ne nl nm) (take_answer (rows_mean es ls ms ne nl nm) p n) (taking (rows_mean es ls ms ne nl nm) p n)
      take_done es' l e =
          let a : Ok tt ≡ take_answer (rows_mean es ls ms ne nl nm) p n = sym (answer_at ∙ ap (λ b. cond b (Ok tt) (Err AboveOpen)) l) in
          record {
            answer_is = a;
            after_is = ap (with_entries (rows_mean es ls ms ne nl nm)) (ap (map entry_of) e ∙ changed entry_code sound_entry entry_of (under p) (pair_key p) (entry_test p o) (less_row n) (less n) (λ y. refl) es s)
                ∙ ap (λ t. unless_refused t (take_open p n (rows_mean es ls ms ne nl nm)) (rows_mean es ls ms ne nl nm)) a;
          }

  -- ---- seek: the row x is held under its key, and may be answered

  pub sought_held : (r : Option Sought) (office : Bytes) (x : EntryRow) → every sound_entry es ≡ true → length office ≡ 5 → held ranks entry_code x.key es ≡ Some x → seekable office (entry_of x) ≡ true → option_map sought_told r ≡ Some (drop 5 x.key, entry_told (entry_of x)) → MaySeek (rows_mean es ls ms ne nl nm) office r
  sought_held None office x s l h k e = absurd (none_some e)
    where
      none_some : {A : Type 0} {a : A} → None ≡ Some a → ⊥
      none_some e = true≢false (sym (ap is_some e))
  sought_held (Some t) office x s l h k e =
      let same : take 5 x.key ≡ office = (bytes_eq-Decides (take 5 x.key) office).0 (and_parts (bytes_eq (take 5 x.key) office) (adjustable x.set_id && ltb 0 x.left) k).0 in
      let pair : sought_told t ≡ (drop 5 x.key, entry_told (entry_of x)) = cc in
      let ref : t.reference ≡ drop 5 x.key = λ i. (pair i).0 in
      let is : told t.entry ≡ entry_told (entry_of x) = λ i. (pair i).1 in
      let own : pair_key (record { office = office; reference = t.reference }) ≡ x.key = (λ i. sym same i ++ ref i) ∙ take-append-drop 5 x.key in
      let at : entry_at (rows_mean es ls ms ne nl nm) (record { office = office; reference = t.reference }) ≡ Some (entry_of x) =
      entry_found s (record { office = office; reference = t.reference }) l ∙ (ap (λ q. option_map entry_of (held ranks entry_code q es)) own ∙ ap (option_map entry_of) h) in
      subst (SoughtAs office (told t.entry)) (sym at) (sym is, k)

  -- ---- lines

  module _ (s : every sound_line ls ≡ true) (p : Pair) (n : ℕ) (o : length p.office ≡ 5) (q : length p.reference ≡ 8) (small : n < 10 ^ 6) where
    line_found : line_at (rows_mean es ls ms ne nl nm) p n ≡ option_map line_of (held ranks line_code (line_key p n) ls)
    line_found = found line_code sound_line line_of (under_line p n) (line_key p n) (line_test p n o q small) ls s

    pub line_entered : (x : LineRow) (l : Line) (ls' : List LineRow) (r : Result Unit Refusal) → line_of x ≡ line_under p n l → line_code x ≡ line_key p n → sound_line x ≡ true → r ≡ adds ranks line_code ls nl x → ls' ≡ cond (is_ok r) (entered ranks line_code x ls) ls → Done (as_book_fault r) (rows_mean es ls' ms ne nl nm) (line_answer (rows_mean es ls ms ne nl nm) (line_under p n l)) (entering_line (rows_mean es ls ms ne nl nm) (line_under p n l))
    line_entered x l ls' r m k sx a b =
        let answer : as_book_fault r ≡ line_answer (rows_mean es ls ms ne nl nm) (line_under p n l) =
        ap as_book_fault a ∙ admitted line_code sound_line line_of (under_line p n) (line_key p n) (line_test p n o q small) ls nl x k s in
        record {
          answer_is = answer;
          after_is = added (λ t. rows_mean es t ms ne nl nm) ls ls' (entered ranks line_code x ls) r b
              ∙ (λ i. unless_refused (answer i) (with_lines (rows_mean es ls ms ne nl nm) ((placed line_code sound_line line_of line_first line_order x ls sx s ∙ ap (λ t. place line_first t (map line_of ls)) m) i)) (rows_mean es ls ms ne nl nm));
        }

    pub line_told_law : (r : Option Line) (h : Option LineRow) → h ≡ held ranks line_code (line_key p n) ls → r ≡ option_map (λ x. line_told (line_of x)) h → r ≡ option_map line_told (line_at (rows_mean es ls ms ne nl nm) p n)
    line_told_law r h e w = w ∙ (go h ∙ ap (option_map line_told) (ap (option_map line_of) e ∙ sym line_found))
      where
        go : (h : Option LineRow) → option_map (λ x. line_told (line_of x)) h ≡ option_map line_told (option_map line_of h)
        go None = refl
        go (Some x) = refl

  -- ---- marks

  module _ (s : every sound_mark ms ≡ true) (f : Bytes) where
    mark_found : mark_at (rows_mean es ls ms ne nl nm) f ≡ option_map mark_of (held ranks mark_code f ms)
    mark_found = found mark_code sound_mark mark_of (under_mark f) f (mark_test f) ms s

    pub mark_told_law : (r : Option Mark) (h : Option MarkRow) → h ≡ held ranks mark_code f ms → r ≡ option_map (λ x. mark_told (mark_of x)) h → r ≡ option_map mark_told (mark_at (rows_mean es ls ms ne nl nm) f)
    mark_told_law r h e w = w ∙ (go h ∙ ap (option_map mark_told) (ap (option_map mark_of) e ∙ sym mark_found))
      where
        go : (h : Option MarkRow) → option_map (λ x. mark_told (mark_of x)) h ≡ option_map mark_told (option_map mark_of h)
        go None = refl
        go (Some x) = refl

    module _ (x : MarkRow) (m : Mark) (w : mark_of x ≡ mark_under f m) (k : mark_code x ≡ f) (r : Result Unit Refusal) (a : r ≡ adds ranks mark_code ms nm x) where
      admits_is : as_book_fault r ≡ admits (mark_at (rows_mean es ls ms ne nl nm) f) (nm - length (map mark_of ms))
      admits_is = ap as_book_fault a ∙ admitted mark_code sound_mark mark_of (under_mark f) f (mark_test f) ms nm x k s

      fitting : counts_fit (mark_under f m) ≡ true → and_then (as_book_fault r) (cond (counts_fit (mark_under f m)) (Ok tt) (Err CountTooLarge)) ≡ as_book_fault r
      fitting h = ap (λ b. and_then (as_book_fault r) (cond b (Ok tt) (Err CountTooLarge))) h ∙ go r
        where
          go : (r : Result Unit Refusal) → and_then (as_book_fault r) (Ok tt) ≡ as_book_fault r
          go (Ok y) = refl
          go (Err table.Held) = refl
          go (Err table.Full) = refl

      pub mark_set : (ms' : List MarkRow) → counts_fit (mark_of x) ≡ true → ms' ≡ cond (is_ok r) (entered ranks mark_code x ms) ms → Done (as_book_fault r) (rows_mean es ls ms' ne nl nm) (mark_answer (rows_mean es ls ms ne nl nm) (mark_under f m)) (marking (rows_mean es ls ms ne nl nm) (mark_under f m))
      mark_set ms' h b =
          let answer : as_book_fault r ≡ mark_answer (rows_mean es ls ms ne nl nm) (mark_under f m) =
          sym (fitting (ap counts_fit (sym w) ∙ h)) ∙ ap (λ t. and_then t (cond (counts_fit (mark_under f m)) (Ok tt) (Err CountTooLarge))) admits_is in
          record {
            answer_is = answer;
            after_is = added (λ t. rows_mean es ls t ne nl nm) ms ms' (entered ranks mark_code x ms) r b
                ∙ (λ i. unless_refused (answer i) (with_marks (rows_mean es ls ms ne nl nm) ((placed mark_code sound_mark mark_of mark_first mark_order x ms h s ∙ ap (λ t. place mark_first t (map mark_of ms)) w) i)) (rows_mean es ls ms ne nl nm));
          }

      -- a count is above the limit
      pub mark_refused : counts_fit (mark_of x) ≡ false → Done (and_then (as_book_fault r) (Err CountTooLarge)) (rows_mean es ls ms ne nl nm) (mark_answer (rows_mean es ls ms ne nl nm) (mark_under f m)) (marking (rows_mean es ls ms ne nl nm) (mark_under f m))
      mark_refused h =
          let answer : and_then (as_book_fault r) (Err CountTooLarge) ≡ mark_answer (rows_mean es ls ms ne nl nm) (mark_under f m) =
          λ i. and_then (admits_is i) (cond (sym (ap counts_fit (sym w) ∙ h) i) (Ok tt) (Err CountTooLarge)) in
          record {
            answer_is = answer;
            after_is = go (as_book_fault r) ∙ ap (λ t. unless_refused t (set_mark (mark_under f m) (rows_mean es ls ms ne nl nm)) (rows_mean es ls ms ne nl nm)) answer;
          }
        where
          go : (q : Answer) → rows_mean es ls ms ne nl nm ≡ unless_refused (and_then q (Err CountTooLarge)) (set_mark (mark_under f m) (rows_mean es ls ms ne nl nm)) (rows_mean es ls ms ne nl nm)
          go (Ok y) = refl
          go (Err y) = refl

  -- ---- what every book keeps

  pub rows_stand : every sound_entry es ≡ true → every sound_line ls ≡ true → every sound_mark ms ≡ true → ascends ranks entry_code es ≡ true → ascends ranks line_code ls ≡ true → ascends ranks mark_code ms ≡ true → length es ≤ ne → length ls ≤ nl → length ms ≤ nm → Stands (rows_mean es ls ms ne nl nm)
  rows_stand s t u a b c i j k = record {
    entries_ascend = in_order_law entry_code sound_entry entry_of entry_first entry_order es s ∙ a;
    lines_ascend = in_order_law line_code sound_line line_of line_first line_order ls t ∙ b;
    marks_ascend = in_order_law mark_code sound_mark mark_of mark_first mark_order ms u ∙ c;
    all_covered = every_means entry_code sound_entry entry_of covered (λ x h. h) es s;
    all_numbered = every_means line_code sound_line line_of numbered (λ x h. (and_parts _ (is_line_number (line_of x).number) h).1) ls t;
    all_counts_fit = every_means mark_code sound_mark mark_of counts_fit (λ x h. h) ms u;
    entries_fit = omega (arith, length-map es entry_of);
    lines_fit = omega (arith, length-map ls line_of);
    marks_fit = omega (arith, length-map ms mark_of);
  }
