use Rattle.std.proofs.Common.{◌≡◌, suc, [], length, sym, ap, ◌∙◌, arith}
use Rattle.std.proofs.lemmas.List.{nil_from_length, length-drop}
use Rattle.std.proofs.lemmas.Bool.{eqb-true}
use Rattle.file.specs.Lengths.{line_len, header_after}
use Rattle.file.specs.Records.{begins}
use Rattle.file.proofs.Headers.{left_stop, left_more}
use Rattle.file.proofs.transactions.before_header.Goals as goal

pub returns-then-begins_header-clause-value : goal.returns-then-begins_header-clause-value
returns-then-begins_header-clause-value c =
    let e = left_stop c.loop-left.left.rest.now c.next_line.new.self.rest.now c.next_line.ensures.behind (ap (begins 72) (sym c.rest.ensures) ∙ sym c.begins_header.ensures ∙ c.if-begins_header.true) in
    omega (arith, ap length c.rest-then-begins_header.ensures)

pub loop-left-preserved : goal.loop-left-preserved
loop-left-preserved c =
    let e = left_more c.loop-left.left.rest.now c.next_line.new.self.rest.now c.next_line.ensures.behind (ap (begins 72) (sym c.rest.ensures) ∙ sym c.begins_header.ensures ∙ c.if-begins_header.false) in
    let m = ap length c.next_line.ensures.behind ∙ length-drop (suc (line_len c.loop-left.left.rest.now)) c.loop-left.left.rest.now in
    (omega arith, omega arith)

pub returns-clause-value : goal.returns-clause-value
returns-clause-value c =
    let rest = c.loop-left.left.rest.now in
    let none : rest ≡ [] = nil_from_length rest (eqb-true (length rest) 0 (sym c.is_done.ensures ∙ c.loop-left-test.false)) in
    omega (arith, ap length none, ap header_after none)
