use Rattle.ordered.specs.Tables.{shown}
use Rattle.ordered.proofs.Searched.{found_scanned}
use Rattle.ordered.proofs.table.TableKeeps.position.Goals as goal

pub returns : goal.returns
returns g c =
    found_scanned g.T.Keyed.code c.args.key.now (shown c.args.self.now) c.args.self.now.in_order c.seek.result c.ok.result c.ok.ensures.value c.seek.ensures
