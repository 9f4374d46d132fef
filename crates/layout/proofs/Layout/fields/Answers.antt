use Rattle.layout.proofs.Places.{adjoining, fits}
use Rattle.layout.proofs.Layout.fields.Goals as goal

pub returns : goal.returns
returns c = record {
  value = c.table.ensures;
  adjoining = rw c.table.ensures (adjoining c.args.self);
  fits = rw c.table.ensures (fits c.args.self);
}
