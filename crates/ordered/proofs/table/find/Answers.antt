use Rattle.std.proofs.Common.{◌+◌, ◌-◌, ◌/◌, ◌<◌, ◌≤◌, length, arith}
use Rattle.ordered.specs.Order.{ranks}
use Rattle.ordered.proofs.Ascending.{bytewise, told, low_more, high_at, here, gap}
use Rattle.ordered.proofs.table.find.Goals as goal

pub loop-low-preserved-in-Less : goal.loop-low-preserved-in-Less
loop-low-preserved-in-Less g c =
    let l : c.loop-low.low + (c.loop-low.high - c.loop-low.low) / 2 < length c.args.rows.now = omega arith in (
      omega arith,
      omega arith,
      low_more ranks bytewise g.T.Keyed.code _ _ _ c.requires l (told g.T.Keyed.code _ _ _ _ _ _ _ l c.index-rows-mid.is c.key.ensures c.cmp.ensures c.in-Less.is),
      c.loop-low.invariant.3,
    )

pub loop-low-preserved : goal.loop-low-preserved
loop-low-preserved g c =
    let l : c.loop-low.low + (c.loop-low.high - c.loop-low.low) / 2 < length c.args.rows.now = omega arith in (
      omega arith,
      omega arith,
      c.loop-low.invariant.2,
      high_at ranks bytewise g.T.Keyed.code _ _ _ c.requires (told g.T.Keyed.code _ _ _ _ _ _ _ l c.index-rows-mid.is c.key.ensures c.cmp.ensures c.in-Greater.is),
    )

pub returns-in-Equal : goal.returns-in-Equal
returns-in-Equal g c =
    let l : c.loop-low.low + (c.loop-low.high - c.loop-low.low) / 2 < length c.args.rows.now = omega arith in
    here ranks bytewise g.T.Keyed.code _ _ _ c.requires l (told g.T.Keyed.code _ _ _ _ _ _ _ l c.index-rows-mid.is c.key.ensures c.cmp.ensures c.in-Equal.is)

pub returns : goal.returns
returns g c =
    let m : c.loop-low.low ≤ length c.args.rows.now = omega arith in
    gap ranks bytewise g.T.Keyed.code _ _ _ c.requires m c.loop-low.invariant.2
    (λ i d l b. c.loop-low.invariant.3 i d (omega arith) b)
