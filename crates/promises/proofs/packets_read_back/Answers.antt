use Rattle.promises.proofs.ReadsBack.{reads_back}
use Rattle.promises.proofs.packets_read_back.Goals as goal

pub returns : goal.returns
returns c = reads_back
