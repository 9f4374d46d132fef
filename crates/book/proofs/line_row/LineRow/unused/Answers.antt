use Rattle.book.proofs.Zeros.{zeros}
use Rattle.book.proofs.line_row.LineRow.unused.Goals as goal

pub returns : goal.returns
returns c =
    let e = c.default.ensures in
    let r = c.default.result in
    λ i. record { amount = e.0 i; key = zeros r.key 19 e.1.0 i; sender = zeros r.sender 27 e.1.1.0 i; receiver = zeros r.receiver 27 e.1.1.1 i }
