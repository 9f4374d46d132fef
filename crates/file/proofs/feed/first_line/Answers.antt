use Rattle.std.proofs.Common.{◌≡◌, ◌<◌, true, length, get_or, take, sym, ap, ◌∙◌, arith}
use Rattle.std.proofs.lemmas.Grind.{common_steps}
use Rattle.octets.specs.Classes.{all, is_printable}
use Rattle.file.proofs.Feeds.{line_exact}
use Rattle.file.proofs.feed.first_line.Goals as goal

pub returns-then-is_known_printable : goal.returns-then-is_known_printable
returns-then-is_known_printable c =
    let text = c.args.text.now in
    let w = c.args.expected in
    let seen : all is_printable (take w text) ≡ true = sym c.seen-line.ensures.printable ∙ sym c.if-is_known_printable.ensures in
    let within : w < length text = grind (arith, common_steps) in
    let feed : get_or text w 0 ≡ 10 = grind (arith, common_steps) in
    c.seen-line.ensures.same ∙ ap (λ n. take n text) (sym (line_exact text w within feed seen))
