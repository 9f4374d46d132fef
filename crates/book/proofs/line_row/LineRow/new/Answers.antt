use Rattle.std.proofs.Common.{◌^◌, ◌<◌, take, drop, sym, ap, ◌∙◌, arith}
use Rattle.std.proofs.lemmas.Slice.Eq.{bytes_eq-Decides}
use Rattle.std.proofs.lemmas.Bool.{and_from, le-leb}
use Rattle.octets.specs.Values.{value_of}
use Rattle.book.specs.Stands.{is_line_number}
use Rattle.book.specs.Rows.{pair_of, digits_of}
use Rattle.book.proofs.Keys.{line_pair, line_digits, line_value}
use Rattle.book.proofs.line_row.LineRow.new.Goals as goal

pub returns-clause-means : goal.returns-clause-means
returns-clause-means c =
    let p = c.args.pair.now in
    let n = c.args.number.value in
    let l = c.args.line.now in
    let k = c.line_key.ensures in
    let high = c.args.number.high in
    let small : n < 10 ^ 6 = omega arith in
    let w = ap (λ t. pair_of (take 13 t)) k.is ∙ line_pair p n k.office k.reference in
    let v = ap (λ t. value_of (drop 13 t)) k.is ∙ line_value p n k.office k.reference small in
    λ i. record { pair = w i; number = v i; amount = l.amount; sender = l.sender; receiver = l.receiver }

pub returns-clause-sound : goal.returns-clause-sound
returns-clause-sound c =
    let p = c.args.pair.now in
    let n = c.args.number.value in
    let k = c.line_key.ensures in
    let high = c.args.number.high in
    let small : n < 10 ^ 6 = omega arith in
    let v = ap (λ t. value_of (drop 13 t)) k.is ∙ line_value p n k.office k.reference small in
    and_from _ _
    ((bytes_eq-Decides _ _).1 (ap (drop 13) k.is ∙ (line_digits p n k.office k.reference ∙ ap (digits_of 6) (sym v))))
    (ap is_line_number v ∙ and_from _ _ (le-leb 1 n c.args.number.low) (le-leb n 1000 high))
