use Rattle.std.proofs.Common.{◌≤◌, [], ◌∷◌, length, sym, subst}
use Rattle.std.proofs.lemmas.Result.{err_from_is_err_and}
use Rattle.file.specs.Counts.{found_in}
use Rattle.file.specs.Records.{transactions_of}
use Rattle.calls.specs.Codes.{file_code}
use Rattle.promises.specs.Calls.{posted, posting, post_gate}
use Rattle.promises.specs.Packets.{packet_length}
use Rattle.promises.specs.Replaced.{handed}
use Rattle.promises.proofs.PromisedAfter.{promises_after}
use Rattle.promises.proofs.Replaces.{length_verdicts}
use Rattle.filing.proofs.Filed.{admitted_room, found_room, told_refused, told_admitted}
use Rattle.filing.proofs.Posted.{book_refused, counts_few, book_marked}
use Rattle.filing.proofs.files.post.Goals as goal

pub returns-in_err-admitted : goal.returns-in_err-admitted
returns-in_err-admitted g c =
    let p = err_from_is_err_and c.from_residual.result c.from_residual.ensures.1 in
    let x = handed c.args.file.now c.args.day (length c.args.packet.now) in
    let holds = g.R.Registers.holds c.args.registers.now in
    let b = g.B.Book.meaning c.args.book.now in
    let f = c.in_err-admitted.field-0.0 in
    let e = c.in_err-admitted.ensures in
    let k = told_refused x (posted holds b x) (post_gate b x) (found_in x.file) f c.args.packet.now e in
    let same = book_refused holds b x (found_in x.file) (file_code f) e in
    rw (p.1, p.2) (record { answer = k.0; packet = k.1; book = same; promised = promises_after holds b b (posting x ∷ []) same })

pub post_each-accepted-requires : goal.post_each-accepted-requires
post_each-accepted-requires g c =
    admitted_room (g.B.Book.meaning c.args.book.now) (handed c.args.file.now c.args.day (length c.args.packet.now)) c.in_ok-admitted.admitted c.in_ok-admitted.ensures

pub mark_file-requires : goal.mark_file-requires
mark_file-requires g c =
    let x = handed c.args.file.now c.args.day (length c.args.packet.now) in
    let k = counts_few (g.R.Registers.holds c.args.registers.now) (g.B.Book.meaning c.args.book.now) x c.in_ok-admitted.admitted c.post_each-accepted.result c.in_ok-admitted.ensures c.post_each-accepted.ensures.accepted in
    record { accepted = k.0; few = k.1 }

pub put_file_item-requires : goal.put_file_item-requires
put_file_item-requires g c =
    let x = handed c.args.file.now c.args.day (length c.args.packet.now) in
    let b = g.B.Book.meaning c.args.book.now in
    let room = admitted_room b x c.in_ok-admitted.admitted c.in_ok-admitted.ensures in
    found_room x.file (post_gate b x) c.in_ok-admitted.admitted _ c.in_ok-admitted.ensures (subst (λ n. packet_length (length (transactions_of x.file)) ≤ n) (sym c.post_each-accepted.auto.packet) room)

pub returns : goal.returns
returns g c =
    let x = handed c.args.file.now c.args.day (length c.args.packet.now) in
    let holds = g.R.Registers.holds c.args.registers.now in
    let b = g.B.Book.meaning c.args.book.now in
    let a = c.in_ok-admitted.admitted in
    let ad = c.in_ok-admitted.ensures in
    let e = c.post_each-accepted.ensures in
    let k = told_admitted x (posted holds b x) (post_gate b x) a c.args.packet.now c.post_each-accepted.new.packet c.put_file_item.new.packet c.post_each-accepted.result c.put_file_item.result
    ad (length_verdicts holds x.day (transactions_of x.file) b) (admitted_room b x a ad) e.accepted e.packet c.put_file_item.ensures.length c.put_file_item.ensures.packet in
    let after = g.B.Book.meaning c.mark_file.new.book in
    let m = book_marked holds b x a c.post_each-accepted.result (g.B.Book.meaning c.post_each-accepted.new.book) after ad e.accepted e.book c.mark_file.ensures in
    record { answer = k.0; packet = k.1; book = m; promised = promises_after holds b after (posting x ∷ []) m }
