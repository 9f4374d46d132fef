-- The pairs of a transaction by its header.
use Rattle.std.proofs.Common.{◌≡◌, ℕ, Bool, true, cond, List, length, Some, Ok, Err, Option, sym, refl, ap, ◌∙◌}
use Rattle.std.specs.Result.{is_ok}
use Rattle.octets.specs.Classes.{Bytes}
use Rattle.layout.specs.declared.pair.Pair.{Pair}
use Rattle.layout.specs.declared.set_id.SetId.{SetId}
use Rattle.layout.specs.Layouts.{header_of, width_of}
use Rattle.layout.specs.SetIds.{set_id_in}
use Rattle.file.specs.Records.{first_of}
use Rattle.transaction.specs.declared.fault.RecordCause.{RecordCause}
use Rattle.transaction.specs.declared.fault.RecordCause.TheVariants.{SetIdUnknown, Letter, Length, Field, Companion, Product}
use Rattle.transaction.specs.declared.header.Transaction.{Transaction}
use Rattle.transaction.specs.declared.pairs.Pairs.{Pairs}
use Rattle.transaction.specs.Checks.{Holds}
use Rattle.transaction.specs.Headers.{reading_of, own_pair, original_pair}
use Rattle.transaction.specs.Layers.{Passed, named, at, cause_verdict, layout_layer}
use Rattle.transaction.specs.Pairs.{no_pairs, pairs_in, pairs_if, pairs_under, pairs_of}
use Rattle.transaction.specs.Sounds.{KnownOf}
use Rattle.transaction.proofs.Listed.{layout_accepts, layout_refuses}
use Rattle.transaction.proofs.Passes.{layout_long}

none : (n : ℕ) (e : RecordCause) (t : Transaction) → pairs_if (cause_verdict n e) t ≡ no_pairs
none n SetIdUnknown t = refl
none n Letter t = refl
none n Length t = refl
none n (Field f) t = refl
none n (Companion k) t = refl
none n Product t = refl

module _ (holds : Holds) (h : Bytes) (set : SetId) where
  -- whether a header passes
  abbrev pub header_is_ok : Bool
  header_is_ok = is_ok (named (at 0) (layout_layer holds h (header_of set)))

  by_layer : (a : Passed RecordCause) → layout_layer holds h (header_of set) ≡ a → pairs_under holds h (Some set) ≡ cond (is_ok (named (at 0) a)) (pairs_in (reading_of set h)) no_pairs
  by_layer (Ok x) e = ap (λ v. pairs_if v (reading_of set h)) (layout_accepts holds 0 h (header_of set) e)
  by_layer (Err c) e = ap (λ v. pairs_if v (reading_of set h)) (layout_refuses holds 0 h (header_of set) c e) ∙ none 0 c (reading_of set h)

  ok_long : (a : Passed RecordCause) → layout_layer holds h (header_of set) ≡ a → is_ok (named (at 0) a) ≡ true → length h ≡ width_of (header_of set)
  ok_long (Ok x) e t = layout_long holds h (header_of set) e
  ok_long (Err c) e t = cc

  pub touches_long : header_is_ok ≡ true → length h ≡ width_of (header_of set)
  touches_long = ok_long (layout_layer holds h (header_of set)) refl

  pub touches : (rs : List Bytes) (body : Bytes) (v : Bool) → KnownOf rs set h body → header_is_ok ≡ v → pairs_of holds (first_of rs) ≡ cond v (pairs_in (reading_of set h)) no_pairs
  touches rs body v k e =
      ap (pairs_of holds) (sym k.header_is)
      ∙ ap (pairs_under holds h) (ap set_id_in k.header_is ∙ k.set_id)
      ∙ by_layer (layout_layer holds h (header_of set)) refl
      ∙ ap (λ w. cond w (pairs_in (reading_of set h)) no_pairs) e

abbrev both : Option Pair → Option Pair → Pairs
both p q = record { own = p; original = q }

pub pairs_are : (p q : Option Pair) (t : Transaction) → p ≡ own_pair t → q ≡ original_pair t → both p q ≡ pairs_in t
pairs_are p q t e f = ap (λ x. both x q) e ∙ ap (both (own_pair t)) f
