use Rattle.std.proofs.Common.{◌≡◌, ◌^◌, ◌<◌, drop}
use Rattle.octets.specs.Values.{value_of}
use Rattle.octets.proofs.Values.{onward}
use Rattle.octets.proofs.value.value_of.Given as goal

abbrev pub invariant-loop-b : goal.invariant-loop-b
invariant-loop-b l = (onward l.n (drop l.b-index l.digits) ≡ value_of l.digits) × (l.n < 10 ^ l.b-index)
