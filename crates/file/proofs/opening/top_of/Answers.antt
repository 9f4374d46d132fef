use Rattle.std.proofs.Common.{◌≡◌, List, [], ◌∷◌, get_or, drop, sym, refl, ap, ◌∙◌, rules}
use Rattle.octets.specs.Classes.{Bytes}
use Rattle.file.specs.Records.{records, first_of, is_header}
use Rattle.file.proofs.Headers.{header_first}
use Rattle.file.proofs.opening.top_of.Goals as goal

third_is : (rs : List Bytes) → first_of (drop 2 rs) ≡ get_or rs 2 []
third_is [] = refl
third_is (a ∷ []) = refl
third_is (a ∷ b ∷ []) = refl
third_is (a ∷ b ∷ r ∷ rs) = refl

pub returns : goal.returns
returns c =
    let behind : records c.rest.result.now ≡ drop 2 (records c.args.file.now) = search rules in
    record {
      identifier = search rules;
      header = search rules;
      rest = behind;
      third = sym (header_first c.rest.result.now) ∙ ap is_header (ap first_of behind ∙ third_is (records c.args.file.now));
    }
