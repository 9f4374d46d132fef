-- The worked facts, computed.
use Rattle.std.proofs.Common.{refl}
use Rattle.promises.specs.Facts.{Facts}

pub facts : Facts
facts = record {
  ninety_days = refl;
  earlier = refl;
  too_late = refl;
  all_taken = refl;
  third_line = refl;
  smallest = λ holds. refl;
  no_room = λ holds. refl;
  code_of_file = refl;
  linked = refl;
  unlinked = refl;
}
