use Rattle.book.proofs.Zeros.{zeros}
use Rattle.book.proofs.mark_row.MarkRow.unused.Goals as goal

pub returns : goal.returns
returns c = let e = c.default.ensures in λ i. record { accepted = e.0 i; rejected = e.1.0 i; key = zeros c.default.result.key 19 e.1.1 i }
