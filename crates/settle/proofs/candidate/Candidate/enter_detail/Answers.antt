use Rattle.std.proofs.Common.{[], refl, ap, ◌∙◌}
use Rattle.book.specs.Actions.{entering_line}
use Rattle.book.specs.Meaning.{line_under}
use Rattle.book.specs.Stands.{is_line_number}
use Rattle.promises.specs.Entering.{line_of}
use Rattle.transaction.specs.Details.{read_as}
use Rattle.transaction.specs.Headers.{set_id_of}
use Rattle.settle.proofs.Entering.{line_admitted, made}
use Rattle.settle.proofs.candidate.Candidate.enter_detail.Goals as goal

pub returns-in-Some : goal.returns-in-Some
returns-in-Some g c =
    let d = c.args.detail.now in
    let p = c.args.pair.now in
    let b = g.B.Book.meaning c.args.book.now in
    let set = set_id_of c.args.self.now.sound.transaction in
    let one = read_as d.number d.«record».now d.entries in
    c.enter_line.ensures.after
    ∙ ap (λ n. entering_line b (line_under p n c.line_from.result)) (made (is_line_number c.args.number) _ c.args.number c.in-Some.ensures)
    ∙ ap (λ x. entering_line b (line_under p c.args.number x)) (c.line_from.ensures ∙ ap (λ s. line_of s one) c.set.ensures)
    ∙ line_admitted b p set c.args.number one [] c.requires (line_under p c.args.number (line_of set one)) refl refl
