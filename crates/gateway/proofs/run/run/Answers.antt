use Rattle.std.proofs.Common.{◌+◌, [], ◌∷◌, ◌++◌, length, refl, ap, ◌∙◌, arith}
use Rattle.std.proofs.lemmas.List.{length_push}
use Rattle.gateway.proofs.Runs.{made_more, told_cut, told_all}
use Rattle.gateway.proofs.run.run.Goals as goal

pub returns-then-is_err : goal.returns-then-is_err
returns-then-is_err g c =
    let k = told_cut _ _ _ _ _ _ _ _ c.loop-call.invariant.1 c.reserve.ensures.items refl c.loop-call.invariant.2 in
    record { answers = k.answers; book = k.book; promised = k.promised }

pub returns-in-Err : goal.returns-in-Err
returns-in-Err g c =
    let k = told_cut _ _ _ _ _ _ _ _ c.loop-call.invariant.1 c.reserve.ensures.items c.in-Err.ensures c.loop-call.invariant.2 in
    record { answers = k.answers; book = k.book; promised = k.promised }

pub loop-call-preserved : goal.loop-call-preserved
loop-call-preserved g c =
    let e = c.push_reserved.ensures.items ∙ ap (λ xs. xs ++ c.in-Ok.answer ∷ []) c.reserve.ensures.items in (
      omega arith,
      ap length e ∙ length_push _ _ ∙ ap (λ n. n + 1) c.loop-call.invariant.1,
      made_more _ _ _ _ _ _ _ _ _ _ c.loop-call-test.true c.loop-call.invariant.2 c.in-Ok.ensures e,
    )

pub returns-clause-promised : goal.returns-clause-promised
returns-clause-promised g c = (told_all _ _ _ _ _ _ c.loop-call-test.false c.loop-call.invariant.2).promised
