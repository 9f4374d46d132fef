use Rattle.file.proofs.feed.+near_len.Given as goal

abbrev pub decreases-near_len : goal.decreases-near_len
decreases-near_len l = l.blocks
