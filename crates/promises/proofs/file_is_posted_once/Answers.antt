use Rattle.promises.proofs.Lasts.{posted_once}
use Rattle.promises.proofs.file_is_posted_once.Goals as goal

pub returns : goal.returns
returns c = posted_once
