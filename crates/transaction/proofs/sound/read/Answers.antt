use Rattle.std.proofs.Common.{Ok, sym, ap, ◌∙◌}
use Rattle.std.proofs.lemmas.Result.{err_from_is_err_and}
use Rattle.file.specs.Records.{records, is_detail, many}
use Rattle.transaction.specs.Headers.{reading_of}
use Rattle.transaction.proofs.Chains.{telling_ok, telling_err}
use Rattle.transaction.proofs.Whole.{no_set_id, verdict_is, counts_so, known, unknown, reading_is}
use Rattle.transaction.proofs.sound.read.Goals as goal

pub returns-in_err-details : goal.returns-in_err-details
returns-in_err-details g c =
    let p = err_from_is_err_and c.from_residual.result c.from_residual.ensures.1 in
    let rs = records c.args.text.now in
    let holds = g.R.Registers.holds c.args.registers.now in
    let layer = sym (telling_err _ _ _ c.in_err-details.ensures.value) ∙ known holds rs c.in-Some.known.set c.in-Some.known.header.bytes.now c.in-Some.known.body.now c.in-Some.ensures in
    rw (p.1, p.2) (record { verdict = verdict_is holds rs _ layer; first = counts_so holds rs _ layer; reading = tt })

pub returns-in_default-clause-first : goal.returns-in_default-clause-first
returns-in_default-clause-first g c =
    let rs = records c.args.text.now in
    let holds = g.R.Registers.holds c.args.registers.now in counts_so holds rs no_set_id (unknown holds rs c.in_default.ensures)

pub returns : goal.returns
returns g c =
    let rs = records c.args.text.now in
    let holds = g.R.Registers.holds c.args.registers.now in
    let k = c.in-Some.ensures in
    let told = telling_ok _ _ _ c.in_ok-details.ensures.value in
    let layer = sym told.0 ∙ known holds rs c.in-Some.known.set c.in-Some.known.header.bytes.now c.in-Some.known.body.now k in
    record {
      verdict = verdict_is holds rs (Ok tt) layer;
      first = counts_so holds rs (Ok tt) layer;
      reading = record {
        reading = reading_is rs c.in-Some.known.set c.in-Some.known.header.bytes.now c.in-Some.known.body.now _ k (c.of-2.ensures ∙ ap (reading_of c.in-Some.known.set) c.bytes.ensures);
        count = told.1 ∙ ap (many is_detail) k.others;
        others = k.others;
      };
    }
