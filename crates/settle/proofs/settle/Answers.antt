use Rattle.std.proofs.Common.{sym, ◌∙◌, subst}
use Rattle.file.specs.Records.{records}
use Rattle.transaction.proofs.Passes.{first_counts}
use Rattle.transaction.specs.Verdicts.{Counts}
use Rattle.promises.specs.Judging.{all_checks}
use Rattle.settle.proofs.Judging.{judged_sound, judged_fault, entered_sound, entered_fault}
use Rattle.settle.proofs.settle.Goals as goal

pub returns-in-Ok : goal.returns-in-Ok
returns-in-Ok g c =
    let s = c.in-Ok.candidate.sound in
    let holds = g.R.Registers.holds c.args.registers.now in
    let b = g.B.Book.meaning c.args.book.now in
    let rs = records c.args.text.now in
    let ok = c.in-Ok.ensures.verdict in
    let sound = c.in-Ok.ensures.reading in
    let e = c.settle.ensures in
    let v = judged_sound holds rs s.transaction s.details s.body.now ok sound b c.args.day c.settle.result e.verdict in
    record {
      verdict = v;
      first = subst (Counts (all_checks holds b c.args.day rs)) (sym v) (first_counts (all_checks holds b c.args.day rs));
      after = entered_sound holds rs s.transaction s.details s.body.now ok sound b c.args.day c.settle.result (g.B.Book.meaning c.settle.new.book) e.verdict e.after;
    }

pub returns-in-Err : goal.returns-in-Err
returns-in-Err g c =
    let holds = g.R.Registers.holds c.args.registers.now in
    let b = g.B.Book.meaning c.args.book.now in
    let rs = records c.args.text.now in
    let f = c.in-Err.ensures.verdict in
    let v = c.verdict.ensures ∙ judged_fault holds rs b c.args.day c.in-Err.fault f in
    record {
      verdict = v;
      first = subst (Counts (all_checks holds b c.args.day rs)) (sym v) (first_counts (all_checks holds b c.args.day rs));
      after = entered_fault holds rs b c.args.day c.in-Err.fault f;
    }
