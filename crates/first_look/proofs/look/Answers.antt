use Rattle.std.proofs.Common.{length, rules}
use Rattle.promises.specs.Replaced.{handed}
use Rattle.first_look.specs.Looks.{texts}
use Rattle.first_look.proofs.Numbers.{texts_hold_law, look_is}
use Rattle.first_look.proofs.look.Goals as goal

pub returns : goal.returns
returns c =
    let r = c.args.registers.now in
    let t = texts r.agencies.now r.offices.now r.symbols.now r.units.now r.accounts.now in
    let hold = texts_hold_law t _ _ _ _ _ c.of.ensures.value c.of-2.ensures.value c.of-3.ensures.value c.of-4.ensures.value c.of-5.ensures.value in
    let same = look_is t _ _ (handed c.args.file.now c.args.day (length c.args.packet.now)) hold c.new-book.ensures in
    record { answer = rw (← same) (search rules); packet = rw (← same) (search rules) }
