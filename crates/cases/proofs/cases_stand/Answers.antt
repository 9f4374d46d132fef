use mathlib.Core.Path.{refl}
use Rattle.cases.proofs.cases_stand.Goals as goal

pub returns : goal.returns
returns c = record {
  header_length = refl;
  detail_length = refl;
  entry_length = refl;
  product = refl;
  no_product = refl;
  agency = refl;
  padded_agency = refl;
  two_entries = refl;
  one_entry = refl;
  four_and_four = refl;
  five_and_four = refl;
  ninety_days = refl;
  earlier = refl;
  too_late = refl;
  all_taken = refl;
  third_line = refl;
  account_bit = refl;
  account = refl;
  other_account = refl;
  padded_amount = refl;
}
