use Rattle.ordered.specs.Tables.{shown}
use Rattle.ordered.proofs.Every.{every_inserted}
use Rattle.ordered.proofs.table.TableKeeps.add.Goals as goal

pub put_in-requires-clause-all_sound : goal.put_in-requires-clause-all_sound
put_in-requires-clause-all_sound g c = every_inserted g.T.Keyed.sound (shown c.args.self.now) _ c.args.row c.args.self.now.all_sound c.requires
