use Rattle.std.proofs.Common.{◌≡◌, suc, ◌-◌, sym, ap, ◌∙◌, arith}
use Rattle.book.specs.Meaning.{line_at}
use Rattle.file.specs.Records.{records}
use Rattle.promises.specs.Own.{lines_of}
use Rattle.transaction.specs.Details.{details_of}
use Rattle.settle.proofs.Lines.{none_of, no_lines_law, none_more}
use Rattle.settle.proofs.candidate.Candidate.has_no_line.Goals as goal

pub loop-number-init : goal.loop-number-init
loop-number-init g c =
    let s = c.args.self.now.sound in
    let left : suc c.lines-number-end.result - 1 ≡ c.lines-number-end.result = omega arith in
    let line = line_at (g.B.Book.meaning c.args.book.now) c.args.pair.now in
    ap (λ n. none_of 1 n line) (left ∙ c.lines-number-end.ensures.value) ∙ sym (no_lines_law line 1 (lines_of s.transaction (details_of (records s.body.now))))

pub loop-number-preserved : goal.loop-number-preserved
loop-number-preserved g c = none_more _ c.loop-number.number c.lines-number-end.result _ c.loop-number.invariant c.loop-number-test.true (sym c.if-has_line.false ∙ c.has_line.ensures)
