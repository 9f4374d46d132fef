-- The calls that a run made, and their answers.
use Rattle.std.specs.Prelude.{List, length, take, Ok, Err, vec_items, Result, Vec}
use Rattle.std.specs.declared.alloc.Global.{Global}
use Rattle.calls.specs.Asked.{replies}
use Rattle.calls.specs.declared.answer.Answer.{Answer}
use Rattle.promises.specs.Calls.{Call}
use Rattle.promises.specs.Replies.{Reply}
use Rattle.gateway.specs.declared.run.Cut.{Cut}

abbrev pub replies_of : Result (Vec Answer Global) Cut → List Reply
replies_of (Ok v) = replies (vec_items v)
replies_of (Err e) = replies (vec_items e.answers)

-- all of them; where memory was wanting, as many as are answered
abbrev pub made_of : Result (Vec Answer Global) Cut → List Call → List Call
made_of (Ok v) cs = cs
made_of (Err e) cs = take (length (vec_items e.answers)) cs
