-- The calls and the answers of the code, as the definitions have them.
use Rattle.std.specs.Prelude.{List, map, Ok, Err, vec_items}
use Rattle.std.specs.Option.{option_map}
use Rattle.book.specs.Told.{told}
use Rattle.promises.specs.Calls as defined
use Rattle.promises.specs.Replies.{Reply, of_file, entry_shown, entry_found, counts}
use Rattle.calls.specs.declared.answer.Answer.{Answer}
use Rattle.calls.specs.declared.answer.Answer.TheVariants.{Packet, Refused, Shown, Sought, Counted}
use Rattle.calls.specs.declared.call.Call.{Call}
use Rattle.calls.specs.declared.call.Call.TheVariants.{Check, Post, Show, Seek, Count}
use Rattle.calls.specs.declared.call.Handed.{Handed}
use Rattle.calls.specs.Codes.{file_code}

abbrev pub handed_over : Handed → defined.Handed
handed_over h = record { file = h.file.now; day = h.day; room = h.room }

abbrev pub asked_by : Call → defined.Call
asked_by (Check h) = defined.checking (handed_over h)
asked_by (Post h) = defined.posting (handed_over h)
asked_by (Show p) = defined.showing p
asked_by (Seek office) = defined.seeking office
asked_by Count = defined.counting

abbrev pub asked : List Call → List defined.Call
asked cs = map asked_by cs

abbrev pub reply_in : Answer → Reply
reply_in (Packet v) = of_file (Ok (vec_items v))
reply_in (Refused f) = of_file (Err (file_code f))
reply_in (Shown e) = entry_shown (option_map told e)
reply_in (Sought s) = entry_found s
reply_in (Counted n) = counts n

abbrev pub replies : List Answer → List Reply
replies xs = map reply_in xs
