use Rattle.std.proofs.Common.{◌≤◌, map, length, sym, subst}
use Rattle.std.proofs.lemmas.List.{length-map}
use Rattle.std.proofs.lemmas.Result.{err_from_is_err_and}
use Rattle.file.specs.Counts.{found_in}
use Rattle.file.specs.Records.{transactions_of}
use Rattle.promises.specs.Calls.{checked, check_gate}
use Rattle.promises.specs.Judging.{judge}
use Rattle.promises.specs.Packets.{packet_length}
use Rattle.promises.specs.Replaced.{handed}
use Rattle.filing.proofs.Filed.{check_room, found_room, told_refused, told_admitted}
use Rattle.filing.proofs.files.check.Goals as goal

pub returns-in_err-admitted : goal.returns-in_err-admitted
returns-in_err-admitted g c =
    let p = err_from_is_err_and c.from_residual.result c.from_residual.ensures.1 in
    let x = handed c.args.file.now c.args.day (length c.args.packet.now) in
    let vs = checked (g.R.Registers.holds c.args.registers.now) (g.B.Book.meaning c.args.book.now) x in
    let k = told_refused x vs (check_gate x) (found_in x.file) c.in_err-admitted.field-0.0 c.args.packet.now c.in_err-admitted.ensures in
    rw (p.1, p.2) (record { answer = k.0; packet = k.1 })

pub check_each-accepted-requires : goal.check_each-accepted-requires
check_each-accepted-requires g c =
    check_room (handed c.args.file.now c.args.day (length c.args.packet.now)) c.in_ok-admitted.admitted c.in_ok-admitted.ensures

pub put_file_item-requires : goal.put_file_item-requires
put_file_item-requires g c =
    let x = handed c.args.file.now c.args.day (length c.args.packet.now) in
    let room = check_room x c.in_ok-admitted.admitted c.in_ok-admitted.ensures in
    found_room x.file (check_gate x) c.in_ok-admitted.admitted _ c.in_ok-admitted.ensures (subst (λ n. packet_length (length (transactions_of x.file)) ≤ n) (sym c.check_each-accepted.auto.packet) room)

pub returns : goal.returns
returns g c =
    let x = handed c.args.file.now c.args.day (length c.args.packet.now) in
    let J = judge (g.R.Registers.holds c.args.registers.now) (g.B.Book.meaning c.args.book.now) c.args.day in
    let a = c.in_ok-admitted.admitted in
    let ad = c.in_ok-admitted.ensures in
    let k = told_admitted x (map J (transactions_of x.file)) (check_gate x) a c.args.packet.now c.check_each-accepted.new.packet c.put_file_item.new.packet c.check_each-accepted.result c.put_file_item.result
    ad (length-map (transactions_of x.file) J) (check_room x a ad)
    c.check_each-accepted.ensures.accepted c.check_each-accepted.ensures.packet c.put_file_item.ensures.length c.put_file_item.ensures.packet in
    record { answer = k.0; packet = k.1 }
