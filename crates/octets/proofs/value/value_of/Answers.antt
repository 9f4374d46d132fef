use Rattle.std.proofs.Common.{arith}
use Rattle.octets.proofs.Values.{value_more, room, room_more}
use Rattle.octets.proofs.value.value_of.Goals as goal

pub overflow_mul-n : goal.overflow_mul-n
overflow_mul-n c = omega (arith, room _ _ 17 c.loop-b.invariant.1 (omega arith))

pub overflow_add-n : goal.overflow_add-n
overflow_add-n c = omega (arith, room _ _ 17 c.loop-b.invariant.1 (omega arith), c.digit_of.ensures.small)

pub loop-b-preserved : goal.loop-b-preserved
loop-b-preserved c = (
  value_more c.args.digits.now c.loop-b.b-index c.loop-b.n _ _ (omega arith) c.digit_of.ensures.value c.loop-b.invariant.0,
  room_more c.loop-b.n c.loop-b.b-index _ c.loop-b.invariant.1 c.digit_of.ensures.small,
)
