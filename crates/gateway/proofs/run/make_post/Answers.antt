use Rattle.std.proofs.Common.{◌≡◌, length, ap, ◌∙◌}
use Rattle.std.proofs.lemmas.List.{with_items_is}
use Rattle.calls.specs.Asked.{handed_over}
use Rattle.promises.specs.Calls.{post_answer, post_book}
use Rattle.promises.specs.Replaced.{handed}
use Rattle.promises.specs.Replies.{of_file}
use Rattle.gateway.specs.Running.{usable_room, answer_in}
use Rattle.gateway.proofs.Buffers.{post_within, book_within, answer_is}
use Rattle.gateway.proofs.run.make_post.Goals as goal

pub returns : goal.returns
returns g c =
    let holds = g.R.Registers.holds c.args.registers.now in
    let b = g.B.Book.meaning c.args.book.now in
    let x = handed_over c.args.handed.now in
    let slice = c.as_mut_slice.result.now in
    let a = post_answer holds b (handed x.file x.day (length slice)) in
    let long = c.as_mut_slice.ensures.len in
    let room : length slice ≡ usable_room x = long ∙ c.in_ok-packet.ensures.len ∙ c.usable_room.ensures in
    let done = c.post-done.result in
    let out = c.post-done.new.packet in (
      c.answer_of.ensures
          ∙ ap (λ bs. of_file (answer_in done bs)) (with_items_is c.in_ok-packet.packet out (c.post-done.auto.packet ∙ long))
          ∙ ap of_file (answer_is done a slice out c.post-done.ensures.answer c.post-done.ensures.packet ∙ ap (λ n. post_answer holds b (handed x.file x.day n)) room ∙ post_within x holds b),
      c.post-done.ensures.book ∙ ap (λ n. post_book holds b (handed x.file x.day n)) room ∙ book_within x holds b,
    )
