-- Checks one after the other: the first fault counts.
use Rattle.std.proofs.Common.{◌≡◌, List, ◌++◌, sym, refl, ap, ◌∙◌}
use Rattle.transaction.specs.declared.verdict.Verdict.{Verdict}
use Rattle.transaction.specs.declared.verdict.Verdict.TheVariants.{Accepted}
use Rattle.transaction.specs.Verdicts.{Check, verdict}
use Rattle.promises.proofs.Judged.{then, verdict_append}
use Rattle.settle.specs.declared.fault.SettleFault.{SettleFault}
use Rattle.settle.specs.declared.fault.SettleFault.TheVariants.{OriginalAbsent, TooLate, NoLine, SymbolDiffers, AmountDiffers, AboveOpen, PairHeld, NoPlaces}
use Rattle.settle.specs.Faults.{fault_verdict}

refused : (f : SettleFault) (v : Verdict) → then (fault_verdict f) v ≡ fault_verdict f
refused (OriginalAbsent column) v = refl
refused (TooLate column) v = refl
refused (NoLine number column) v = refl
refused (SymbolDiffers number column) v = refl
refused (AmountDiffers number) v = refl
refused AboveOpen v = refl
refused (PairHeld column) v = refl
refused NoPlaces v = refl

module _ (xs ys : List Check) where
  pub stops : (f : SettleFault) → fault_verdict f ≡ verdict xs → fault_verdict f ≡ verdict (xs ++ ys)
  stops f h = sym (refused f (verdict ys)) ∙ ap (λ v. then v (verdict ys)) h ∙ sym (verdict_append xs ys)

  pub goes_on : (v : Verdict) → Accepted ≡ verdict xs → v ≡ verdict ys → v ≡ verdict (xs ++ ys)
  goes_on v a h = h ∙ ap (λ x. then x (verdict ys)) a ∙ sym (verdict_append xs ys)
