use Rattle.std.proofs.Common.{refl, ap, ◌∙◌}
use Rattle.file.specs.Records.{records}
use Rattle.promises.specs.Entering.{taken_from}
use Rattle.transaction.specs.Details.{details_of}
use Rattle.transaction.specs.Headers.{total_of}
use Rattle.settle.specs.Entering.{taking_at}
use Rattle.settle.proofs.Entering.{take_done}
use Rattle.settle.proofs.candidate.Candidate.enter.Goals as goal

pub returns : goal.returns
returns g c =
    let t = c.args.self.now.sound.transaction in
    c.take_from_original.ensures
    ∙ ap (taking_at (total_of t) (taken_from t)) c.enter_own.ensures
    ∙ take_done (g.B.Book.meaning c.args.book.now) c.args.day t (details_of (records c.args.self.now.sound.body.now)) c.requires (taken_from t) refl
