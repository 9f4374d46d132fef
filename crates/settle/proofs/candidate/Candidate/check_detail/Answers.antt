use Rattle.std.proofs.Common.{ap, ◌∙◌}
use Rattle.std.specs.Option.{option_map}
use Rattle.book.specs.Meaning.{line_at, line_told}
use Rattle.transaction.specs.Details.{read_as}
use Rattle.transaction.specs.Verdicts.{verdict}
use Rattle.promises.specs.Against.{detail_checks}
use Rattle.promises.specs.Held.{at}
use Rattle.settle.proofs.Answered.{line_held}
use Rattle.settle.proofs.candidate.Candidate.check_detail.Goals as goal

pub returns-in-Some : goal.returns-in-Some
returns-in-Some g c =
    let d = c.args.detail.now in
    c.check_line.ensures
    ∙ line_held c.set-set.result (read_as d.number d.«record».now d.entries) c.in-Some.line _ (c.in-Some.ensures ∙ ap (λ n. option_map line_told (line_at (g.B.Book.meaning c.args.book.now) c.args.pair.now n)) c.item_of.ensures)
    ∙ ap (λ s. verdict (detail_checks s (at (g.B.Book.meaning c.args.book.now) c.args.pair.now) (read_as d.number d.«record».now d.entries))) c.set-set.ensures
