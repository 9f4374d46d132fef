use Rattle.std.proofs.Common.{arith}
use Rattle.settle.proofs.Answered.{item_small}
use Rattle.settle.proofs.original.item_of.Goals as goal

pub overflow_cast-result : goal.overflow_cast-result
overflow_cast-result c = omega (arith, item_small c.args.set c.args.detail.now.«record».now, c.item.ensures)
