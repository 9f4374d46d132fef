use Rattle.transaction.proofs.Passes.{first_counts}
use Rattle.promises.specs.Judging.{all_checks}
use Rattle.promises.proofs.first_failing_check_counts.Goals as goal

pub returns : goal.returns
returns c holds b day rs = first_counts (all_checks holds b day rs)
