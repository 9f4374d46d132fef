use Rattle.std.proofs.Common.{true, false, length, sym, ap, ◌∙◌}
use Rattle.std.specs.Result.{is_ok}
use Rattle.file.specs.Records.{records}
use Rattle.transaction.specs.Headers.{reading_of, own_pair, original_pair}
use Rattle.transaction.proofs.Touches.{touches, touches_long, pairs_are}
use Rattle.transaction.proofs.pairs.pairs_of.Goals as goal

pub of-transaction-requires : goal.of-transaction-requires
of-transaction-requires g c =
    let passes = sym (ap is_ok c.check_header.ensures) ∙ sym c.is_ok.ensures.value ∙ c.if-is_ok.true in
    ap length c.bytes.ensures ∙ touches_long (g.R.Registers.holds c.args.registers.now) c.in-Some.known.header.bytes.now c.in-Some.known.set passes

pub returns-in-Some : goal.returns-in-Some
returns-in-Some g c =
    let h = c.in-Some.known.header.bytes.now in
    let passes = sym (ap is_ok c.check_header.ensures) ∙ sym c.is_ok.ensures.value ∙ c.if-is_ok.true in
    let is = c.of-transaction.ensures ∙ ap (reading_of c.in-Some.known.set) c.bytes.ensures in
    pairs_are _ _ (reading_of c.in-Some.known.set h) (c.own.ensures ∙ ap own_pair is) (c.original.ensures ∙ ap original_pair is)
    ∙ sym (touches (g.R.Registers.holds c.args.registers.now) h c.in-Some.known.set (records c.args.text.now) c.in-Some.known.body.now true c.in-Some.ensures passes)

pub returns-in_default : goal.returns-in_default
returns-in_default g c =
    let fails = sym (ap is_ok c.check_header.ensures) ∙ sym c.is_ok.ensures.value ∙ c.if-is_ok.false in
    sym (touches (g.R.Registers.holds c.args.registers.now) c.in-Some.known.header.bytes.now c.in-Some.known.set (records c.args.text.now) c.in-Some.known.body.now false c.in-Some.ensures fails)
