use Rattle.std.proofs.Common.{rules, tests}
use Rattle.ordered.proofs.Kept.{listed_sound}
use Rattle.book.specs.Meaning.{mark_told}
use Rattle.book.specs.Rows.{mark_of, mark_code, sound_mark}
use Rattle.book.proofs.Acts.{mark_told_law}
use Rattle.book.proofs.Answered.{mapped}
use Rattle.book.proofs.tables.TablesBook.mark.Goals as goal

pub returns : goal.returns
returns g c =
    let b = c.args.self.now in
    let ms = g.M.Keeps.listed b.marks in
    let s = listed_sound mark_code (g.M.Keeps.rows b.marks) ms (g.met.M.Keeps.in_order b.marks) sound_mark (g.met.M.Keeps.all_sound b.marks) in
    mark_told_law (g.E.Keeps.listed b.entries) (g.L.Keeps.listed b.lines) ms (g.E.Keeps.places b.entries) (g.L.Keeps.places b.lines) (g.M.Keeps.places b.marks) s c.args.file.now
    _ c.get.result c.get.ensures (mapped _ (λ x. mark_told (mark_of x)) (λ x y p. search (rules, tests)) _ _ c.map.ensures.cases)
