use Rattle.file.specs.Records.{records}
use Rattle.settle.proofs.Judging.{relied}
use Rattle.settle.proofs.candidate.Candidate.of.Goals as goal

pub invariant_of-result : goal.invariant_of-result
invariant_of-result g c =
    let s = c.in_ok-sound.sound in
    record { relied = relied (g.R.Registers.holds c.args.registers.now) (records c.args.text.now) s.transaction s.details s.body.now c.in_ok-sound.ensures.verdict c.in_ok-sound.ensures.reading }
