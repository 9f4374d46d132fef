use Rattle.std.proofs.Common.{◌∙◌}
use Rattle.file.proofs.Feeds.{line_found}
use Rattle.file.proofs.feed.+near_len.Goals as goal

pub returns-then-blocks-eq0-clause-value : goal.returns-then-blocks-eq0-clause-value
returns-then-blocks-eq0-clause-value t c = c.unwrap_or.ensures ∙ line_found c.args.text.now c.memchr.result c.memchr.ensures
