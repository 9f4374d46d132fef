use Rattle.settle.proofs.Entering.{left_more}
use Rattle.settle.proofs.candidate.Candidate.enter_details.Goals as goal

pub loop-detail-preserved : goal.loop-detail-preserved
loop-detail-preserved g c =
    let s = c.in-Some.ensures.steps in
    ((tt, tt), tt, left_more _ _ _ _ _ _ c.loop-detail.invariant.2 _ _ _ s.0 s.1.0 _ _ s.1.1 c.enter_detail.ensures)
