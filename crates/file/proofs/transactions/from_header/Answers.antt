use Rattle.std.proofs.Common.{sym, ◌∙◌}
use Rattle.file.proofs.Headers.{skip_same, skip_header}
use Rattle.file.proofs.transactions.from_header.Goals as goal

pub returns-else-begins_header-clause-same : goal.returns-else-begins_header-clause-same
returns-else-begins_header-clause-same c = skip_same c.args.text.now c.before_header.result (sym c.begins_header.ensures ∙ c.if-begins_header.false) c.before_header.ensures.value

pub returns-else-begins_header-clause-header : goal.returns-else-begins_header-clause-header
returns-else-begins_header-clause-header c = skip_header c.args.text.now c.before_header.result c.before_header.ensures.value
