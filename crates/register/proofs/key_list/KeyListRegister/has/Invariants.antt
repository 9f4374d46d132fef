use Rattle.std.proofs.Common.{◌≡◌, ◌*◌, ◌≤◌, true, length}
use Rattle.register.specs.Keys.{cut, is_in}
use Rattle.register.proofs.Order.{standing}
use Rattle.register.proofs.Search.{any, parted}
use Rattle.register.proofs.key_list.KeyListRegister.has.Given as goal

abbrev pub invariant-loop-left : goal.invariant-loop-left
invariant-loop-left l =
    (any (standing l.key) (cut l.left l.self.width l.rest) ≡ is_in (cut l.self.count l.self.width l.self.text.now) l.key)
    × (parted (standing l.key) (cut l.left l.self.width l.rest) ≡ true)
    × (l.left * l.self.width ≤ length l.rest)
    × (length l.rest ≤ length l.self.text.now)

abbrev pub decreases-loop-left : goal.decreases-loop-left
decreases-loop-left l = l.left
