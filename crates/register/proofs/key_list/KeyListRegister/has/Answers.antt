use Rattle.std.proofs.Common.{◌≡◌, ◌*◌, ◌/◌, take, drop, sym, ap, ◌∙◌, arith}
use Rattle.register.specs.Keys.{cut}
use Rattle.register.proofs.Order.{standing, in_any, ascends_parted}
use Rattle.register.proofs.Texts.{room_at, turn_less, turn_equal, turn_greater}
use Rattle.register.proofs.key_list.KeyListRegister.has.Goals as goal
use Rattle.register.proofs.key_list.KeyListRegister.has.Goals.{After-cmp}

pub loop-left-init : goal.loop-left-init
loop-left-init c = (
  sym (in_any (cut c.args.self.now.count c.args.self.now.width c.args.self.now.text.now) c.args.key.now),
  ascends_parted c.args.key.now (cut c.args.self.now.count c.args.self.now.width c.args.self.now.text.now) c.args.self.now.order,
  c.args.self.now.room,
  omega arith,
)

pub overflow_mul-half : goal.overflow_mul-half
overflow_mul-half c = omega (arith, room_at (c.loop-left.left / 2) c.loop-left.left c.args.self.now.width _ (omega arith) c.loop-left.invariant.2)

pub split_at-requires : goal.split_at-requires
split_at-requires c = omega (arith, room_at (c.loop-left.left / 2) c.loop-left.left c.args.self.now.width _ (omega arith) c.loop-left.invariant.2)

pub split_at-requires-in-loop-left : goal.split_at-requires-in-loop-left
split_at-requires-in-loop-left c = omega (arith, room_at (c.loop-left.left / 2) c.loop-left.left c.args.self.now.width _ (omega arith) c.loop-left.invariant.2, c.split_at.ensures.back_len)

-- how the key in the middle stands to the key that is sought
told : (c : After-cmp) → standing c.args.key.now (take c.args.self.now.width (drop (c.loop-left.left / 2 * c.args.self.now.width) c.loop-left.rest.now)) ≡ c.cmp.result
told c = sym (c.cmp.ensures ∙ ap (standing c.args.key.now) (c.split_at-in-loop-left.ensures.front ∙ ap (take c.args.self.now.width) c.split_at.ensures.back))

pub returns-in-Equal-clause-answer : goal.returns-in-Equal-clause-answer
returns-in-Equal-clause-answer c =
    turn_equal (standing c.args.key.now) (c.loop-left.left / 2) c.loop-left.left c.args.self.now.width c.loop-left.rest.now (omega arith) _ (told (goal.at.returns-in-Equal-clause-answer c).After-cmp ∙ c.in-Equal.is) c.loop-left.invariant.0

pub loop-left-preserved-in-Greater : goal.loop-left-preserved-in-Greater
loop-left-preserved-in-Greater c =
    let p = turn_greater (standing c.args.key.now) (c.loop-left.left / 2) c.loop-left.left c.args.self.now.width c.loop-left.rest.now (omega arith) _ (told (goal.at.loop-left-preserved-in-Greater c).After-cmp ∙ c.in-Greater.is) c.loop-left.invariant.1 c.loop-left.invariant.0 in (
      p.0,
      p.1,
      omega (arith, room_at (c.loop-left.left / 2) c.loop-left.left c.args.self.now.width _ (omega arith) c.loop-left.invariant.2),
      omega arith,
    )

pub loop-left-preserved : goal.loop-left-preserved
loop-left-preserved c =
    let p = turn_less (standing c.args.key.now) (c.loop-left.left / 2) c.loop-left.left c.args.self.now.width c.loop-left.rest.now (omega arith) _ (told (goal.at.loop-left-preserved c).After-cmp ∙ c.in-Less.is) c.loop-left.invariant.1 c.loop-left.invariant.0 in
    let behind = c.split_at-in-loop-left.ensures.back ∙ ap (drop c.args.self.now.width) c.split_at.ensures.back in (
      rw behind p.0,
      rw behind p.1,
      omega (arith, room_at (c.loop-left.left / 2) c.loop-left.left c.args.self.now.width _ (omega arith) c.loop-left.invariant.2, c.split_at.ensures.back_len, c.split_at-in-loop-left.ensures.back_len),
      omega (arith, c.split_at.ensures.back_len, c.split_at-in-loop-left.ensures.back_len),
    )
