use Rattle.std.proofs.Common.{◌≡◌, true, subst, sym}
use Rattle.ordered.specs.Order.{ranks, ascends, Found}
use Rattle.ordered.proofs.table.Table.seek.Goals as goal

pub find-requires : goal.find-requires
find-requires g c = subst (λ xs. ascends ranks g.T.Keyed.code xs ≡ true) (sym c.records.ensures) c.args.self.now.in_order

pub returns : goal.returns
returns g c = subst (λ xs. Found ranks g.T.Keyed.code c.args.key.now xs c.find.result) c.records.ensures c.find.ensures
