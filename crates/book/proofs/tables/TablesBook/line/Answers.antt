use Rattle.std.proofs.Common.{◌^◌, ◌<◌, ap, ◌∙◌, arith, rules, tests}
use Rattle.ordered.specs.Order.{ranks, held}
use Rattle.ordered.proofs.Kept.{listed_sound}
use Rattle.book.specs.Meaning.{line_told}
use Rattle.book.specs.Rows.{line_of, line_code, sound_line}
use Rattle.book.proofs.Acts.{line_told_law}
use Rattle.book.proofs.Answered.{mapped}
use Rattle.book.proofs.tables.TablesBook.line.Goals as goal

pub returns : goal.returns
returns g c =
    let b = c.args.self.now in
    let ls = g.L.Keeps.listed b.lines in
    let k = c.line_key.ensures in
    let high = c.args.number.high in
    let small : c.args.number.value < 10 ^ 6 = omega arith in
    let s = listed_sound line_code (g.L.Keeps.rows b.lines) ls (g.met.L.Keeps.in_order b.lines) sound_line (g.met.L.Keeps.all_sound b.lines) in
    line_told_law (g.E.Keeps.listed b.entries) ls (g.M.Keeps.listed b.marks) (g.E.Keeps.places b.entries) (g.L.Keeps.places b.lines) (g.M.Keeps.places b.marks) s c.args.pair.now c.args.number.value k.office k.reference small
    _ c.get.result (c.get.ensures ∙ ap (λ q. held ranks line_code q ls) k.is)
    (mapped _ (λ x. line_told (line_of x)) (λ x y p. search (rules, tests)) _ _ c.map.ensures.cases)
