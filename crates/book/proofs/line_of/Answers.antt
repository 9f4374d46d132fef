use Rattle.std.proofs.Common.{◌≡◌, ℕ, Bool, true, false, cond, eqb, List, [], ◌∷◌, is_some, Some, None, sym, refl, ap, ◌∙◌, true≢false}
use Rattle.std.specs.Option.{option_map}
use Rattle.std.proofs.lemmas.Bool.{and_parts, and_right, ne_eqb, cond-false}
use Rattle.ordered.specs.Order.{every}
use Rattle.layout.specs.declared.pair.Pair.{Pair}
use Rattle.book.specs.Lists.{find}
use Rattle.book.specs.Meaning.{LineHeld, same_pair, under_line, line_told}
use Rattle.book.specs.Stands.{is_line_number, numbered}
use Rattle.book.proofs.line_of.Goals as goal

-- no line number is made from n
unmade : (v : Bool) (n : ℕ) → None ≡ cond v (Some n) None → v ≡ false
unmade true n e = absurd (true≢false (sym (ap is_some e)))
unmade false n e = refl

-- where each line is numbered as lines may be, none has another number
none_numbered : (p : Pair) (n : ℕ) → is_line_number n ≡ false → (ls : List LineHeld) → every numbered ls ≡ true → find (under_line p n) ls ≡ None
none_numbered p n h [] s = refl
none_numbered p n h (l ∷ ls) s =
    let q = and_parts (numbered l) (every numbered ls) s in
    cond-false (under_line p n l) (Some l) (find (under_line p n) ls) (and_right (same_pair l.pair p) (eqb l.number n) (ne_eqb l.number n (λ e. true≢false (sym q.0 ∙ (ap is_line_number e ∙ h)))))
    ∙ none_numbered p n h ls q.1

pub returns-in-None : goal.returns-in-None
returns-in-None g c =
    sym (ap (option_map line_told) (none_numbered c.args.pair.now c.args.number (unmade (is_line_number c.args.number) c.args.number c.in-None.ensures) (g.B.Book.meaning c.args.book.now).lines c.stands.ensures.all_numbered))
