use Rattle.std.proofs.Common.{◌≡◌, length, ap, ◌∙◌, arith}
use Rattle.std.proofs.lemmas.List.{with_items_is}
use Rattle.promises.specs.Replaced.{handed}
use Rattle.first_look.specs.Looks.{texts, look_answer}
use Rattle.look_files.specs.Output.{registers_in, output_in}
use Rattle.look_files.proofs.Outputs.{output_is, look_same}
use Rattle.look_files.proofs.look.Goals as goal

pub returns : goal.returns
returns c =
    let bulk = c.first_bytes-6.result.now in
    let t = texts c.first_bytes.result.now c.first_bytes-2.result.now c.first_bytes-3.result.now c.first_bytes-4.result.now c.first_bytes-5.result.now in
    let slice = c.as_mut_slice.result.now in
    let long = c.as_mut_slice.ensures.len in
    let room : length slice ≡ 65536 = long ∙ c.in_ok-packet.ensures.len in
    let answer = c.look-answer.result in
    let out = c.look-answer.new.packet in
    c.output_of.ensures
    ∙ ap (output_in answer) (with_items_is c.in_ok-packet.packet out (c.look-answer.auto.packet ∙ long))
    ∙ output_is answer (look_answer t (handed bulk 0 (length slice))) slice out c.look-answer.ensures.answer c.look-answer.ensures.packet (omega (arith, room))
    ∙ look_same t (registers_in c.args.files.now) bulk _ (length slice) 65536 c.first_bytes.ensures c.first_bytes-2.ensures c.first_bytes-3.ensures c.first_bytes-4.ensures c.first_bytes-5.ensures c.first_bytes-6.ensures room
