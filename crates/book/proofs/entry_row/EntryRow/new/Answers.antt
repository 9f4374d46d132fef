use Rattle.std.proofs.Common.{ap, ◌∙◌}
use Rattle.book.specs.Rows.{pair_of}
use Rattle.book.proofs.Keys.{pair_whole}
use Rattle.book.proofs.entry_row.EntryRow.new.Goals as goal

pub returns-clause-means : goal.returns-clause-means
returns-clause-means c =
    let e = c.args.new in
    let w = ap pair_of c.entry_key.ensures.is ∙ pair_whole c.args.pair.now c.entry_key.ensures.office in
    λ i. record { pair = w i; set_id = e.set_id; day = e.day; total = e.total; open_amount = e.total }
