use Rattle.std.proofs.Common.{cond, ap, ◌∙◌}
use Rattle.file.specs.Records.{is_header}
use Rattle.file.proofs.Tallies.{Founds, found_is}
use Rattle.file.proofs.tally.Found.of.Goals as goal
use Rattle.file.proofs.tally.Found.of.Goals.{After-one_if-2}

told : (c : After-one_if-2) → Founds c.args.file.now c.of-all.result c.one_if.result c.one_if-2.result
told c =
    found_is c.args.file.now c.of-all.result _ _ c.of-all.ensures
    (c.one_if.ensures.value ∙ ap (λ r. cond (is_header r) 1 0) c.top_of-top.ensures.identifier)
    (c.one_if-2.ensures.value ∙ ap (λ r. cond (is_header r) 1 0) c.top_of-top.ensures.header)

pub returns : goal.returns
returns c = let t = (told (goal.at.returns c).After-one_if-2).1 in cc
