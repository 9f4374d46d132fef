use Rattle.std.proofs.Common.{length, sym, ◌∙◌, arith}
use Rattle.std.proofs.lemmas.Bool.{eqb-false}
use Rattle.file.proofs.Lines.{split}
use Rattle.file.proofs.records.RecordsIterator.next.Goals as goal

pub returns-clause-steps : goal.returns-clause-steps
returns-clause-steps c =
    let text = c.args.self.now.rest.now in
    let e = split text (omega (arith, eqb-false (length text) 0 (sym c.is_done.ensures ∙ c.if-is_done.false))) in
    cc
