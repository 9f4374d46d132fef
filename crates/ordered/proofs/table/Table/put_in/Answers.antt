use Rattle.std.proofs.Common.{◌≡◌, ◌+◌, ◌<◌, length, take, ap, ◌∙◌, arith, rules}
use Rattle.std.specs.List.{insert}
use Rattle.ordered.specs.Order.{ranks, ascends, every}
use Rattle.ordered.specs.Tables.{shown}
use Rattle.ordered.proofs.Shift.{shifted_front}
use Rattle.ordered.proofs.table.Table.put_in.Goals as goal

pub invariant_of-self : goal.invariant_of-self
invariant_of-self g c =
    let t = c.args.self.now in
    let l : t.n < length t.rows.now = omega (arith, c.requires.room, t.given) in
    let s : take (t.n + 1) c.place.new.slots ≡ insert (shown t) c.args.at c.args.row = shifted_front t.rows.now c.place.new.slots t.n c.args.at c.args.row l c.requires.within c.place.ensures in
    record {
      fits = omega (arith, c.requires.room);
      given = search rules;
      in_order = ap (ascends ranks g.T.Keyed.code) s ∙ c.requires.in_order;
      all_sound = ap (every g.T.Keyed.sound) s ∙ c.requires.all_sound;
    }

pub returns-clause-after : goal.returns-clause-after
returns-clause-after g c =
    let t = c.args.self.now in
    shifted_front t.rows.now c.place.new.slots t.n c.args.at c.args.row (omega (arith, c.requires.room, t.given)) c.requires.within c.place.ensures
