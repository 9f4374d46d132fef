-- The whole call: what the layers answer is what the list of checks gives.
use Rattle.std.proofs.Common.{◌≡◌, List, Some, None, Err, sym, ap, ◌∙◌, subst}
use Rattle.octets.specs.Classes.{Bytes}
use Rattle.layout.specs.declared.set_id.SetId.{SetId}
use Rattle.layout.specs.SetIds.{set_id_in}
use Rattle.file.specs.Records.{records, first_of, others_of}
use Rattle.transaction.specs.declared.fault.RecordCause.TheVariants.{SetIdUnknown}
use Rattle.transaction.specs.declared.fault.TransactionFault.{TransactionFault}
use Rattle.transaction.specs.declared.fault.TransactionFault.TheVariants.{Record}
use Rattle.transaction.specs.declared.header.Transaction.{Transaction}
use Rattle.transaction.specs.Checks.{Holds, own_checks, own_verdict}
use Rattle.transaction.specs.Headers.{reading_of}
use Rattle.transaction.specs.Layers.{Passed, outcome, at, set_layer, known_layer, own_layer}
use Rattle.transaction.specs.Sounds.{KnownOf, reading_in, reading_under}
use Rattle.transaction.specs.Verdicts.{Counts}
use Rattle.transaction.proofs.Listed.{own_listed}
use Rattle.transaction.proofs.Passes.{first_counts}

-- the fault of a header without a Set ID
abbrev pub no_set_id : Passed TransactionFault
no_set_id = Err (Record (at 0 SetIdUnknown))

module _ (holds : Holds) (rs : List Bytes) where
  pub verdict_is : (p : Passed TransactionFault) → p ≡ own_layer holds rs → outcome p ≡ own_verdict holds rs
  verdict_is p e = ap outcome e ∙ own_listed holds rs

  pub counts_so : (p : Passed TransactionFault) → p ≡ own_layer holds rs → Counts (own_checks holds rs) (outcome p)
  counts_so p e = subst (Counts (own_checks holds rs)) (sym (verdict_is p e)) (first_counts (own_checks holds rs))

  pub unknown : set_id_in (first_of rs) ≡ None → no_set_id ≡ own_layer holds rs
  unknown e = sym (ap (known_layer holds (first_of rs) (others_of rs)) e)

  module _ (set : SetId) (h body : Bytes) (k : KnownOf rs set h body) where
    pub known : set_layer holds set h (records body) ≡ own_layer holds rs
    known =
        ap (λ x. set_layer holds set x (records body)) k.header_is
        ∙ ap (set_layer holds set (first_of rs)) k.others
        ∙ ap (known_layer holds (first_of rs) (others_of rs)) (sym k.set_id)

pub reading_is : (rs : List Bytes) (set : SetId) (h body : Bytes) (t : Transaction) → KnownOf rs set h body → t ≡ reading_of set h → reading_in (first_of rs) ≡ Some t
reading_is rs set h body t k is = ap (reading_under (first_of rs)) k.set_id ∙ ap (λ x. Some (reading_of set x)) (sym k.header_is) ∙ ap Some (sym is)
