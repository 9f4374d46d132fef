use Rattle.layout.proofs.Places.{named, ordered}
use Rattle.layout.proofs.Layout.companions.Goals as goal

pub returns : goal.returns
returns c = record {
  value = c.rules.ensures;
  named = rw c.rules.ensures (named c.args.self);
  ordered = rw c.rules.ensures (ordered c.args.self);
}
