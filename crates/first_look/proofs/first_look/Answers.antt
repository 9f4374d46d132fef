use Rattle.std.proofs.Common.{length, ◌∙◌}
use Rattle.first_look.specs.Looks.{texts}
use Rattle.promises.specs.Replaced.{handed}
use Rattle.first_look.proofs.Codes.{look_told}
use Rattle.first_look.proofs.Numbers.{length_number, code_number}
use Rattle.first_look.proofs.first_look.Goals as goal

pub returns-in-Ok : goal.returns-in-Ok
returns-in-Ok c = record { answer = length_number c.in-Ok.length _ c.in-Ok.ensures.answer; told = look_told (texts c.args.alc.now c.args.office.now c.args.symbol.now c.args.unit.now c.args.map.now) (handed c.args.file.now c.args.day (length c.args.packet.now)); packet = c.in-Ok.ensures.packet }

pub returns-in-Err : goal.returns-in-Err
returns-in-Err c = record { answer = c.from.ensures ∙ c.code.ensures ∙ code_number c.in-Err.fault _ c.in-Err.ensures.answer; told = look_told (texts c.args.alc.now c.args.office.now c.args.symbol.now c.args.unit.now c.args.map.now) (handed c.args.file.now c.args.day (length c.args.packet.now)); packet = c.in-Err.ensures.packet }
