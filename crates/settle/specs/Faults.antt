-- The code, the record after the header and the column of each fault.
use Rattle.std.specs.Prelude.{Ok, Err, Result}
use Rattle.transaction.specs.declared.verdict.Verdict.{Verdict}
use Rattle.transaction.specs.declared.verdict.Verdict.TheVariants.{Accepted, Refused}
use Rattle.settle.specs.declared.fault.SettleFault.{SettleFault}
use Rattle.settle.specs.declared.fault.SettleFault.TheVariants.{OriginalAbsent, TooLate, NoLine, SymbolDiffers, AmountDiffers, AboveOpen, PairHeld, NoPlaces}

abbrev pub fault_verdict : SettleFault → Verdict
fault_verdict (OriginalAbsent column) = Refused 61 0 column
fault_verdict (TooLate column) = Refused 62 0 column
fault_verdict (NoLine number column) = Refused 63 number column
fault_verdict (SymbolDiffers number column) = Refused 64 number column
fault_verdict (AmountDiffers number) = Refused 64 number 1
fault_verdict AboveOpen = Refused 65 0 10
fault_verdict (PairHeld column) = Refused 66 0 column
fault_verdict NoPlaces = Refused 67 0 1

abbrev pub outcome : Result (Unit {0}) SettleFault → Verdict
outcome (Ok x) = Accepted
outcome (Err f) = fault_verdict f
