-- A check, and the verdict of a list of checks.
use Rattle.std.specs.Prelude.{◌≡◌, ℕ, Bool, true, false, cond, List, [], ◌∷◌, ◌++◌, All}
use Rattle.transaction.specs.declared.verdict.Verdict.{Verdict}
use Rattle.transaction.specs.declared.verdict.Verdict.TheVariants.{Accepted, Refused}

-- whether it passes, and the code, the record and the column that it refuses with
pub record Check : Type 0 where
  pub passes : Bool
  pub code : ℕ
  pub at_record : ℕ
  pub column : ℕ

abbrev pub check : Bool → ℕ → ℕ → ℕ → Check
check passes code at_record column = record { passes = passes; code = code; at_record = at_record; column = column }

abbrev pub refusal : Check → Verdict
refusal c = Refused c.code c.at_record c.column

-- the first failing check counts
abbrev pub verdict : List Check → Verdict
verdict [] = Accepted
verdict (c ∷ cs) = cond c.passes (verdict cs) (refusal c)

abbrev pub Passes : Check → Type 0
Passes c = c.passes ≡ true

-- the checks before a failing one, that one, and the others
pub record FirstFailing (cs : List Check) (v : Verdict) : Type 0 where
  pub before : List Check
  pub failing : Check
  pub others : List Check
  pub split : cs ≡ before ++ failing ∷ others
  pub all_pass : All Passes before
  pub fails : failing.passes ≡ false
  pub gives : v ≡ refusal failing

-- accepted exactly if every check passes; else the verdict of a failing check before which all pass
abbrev pub Counts : List Check → Verdict → Type 0
Counts cs Accepted = All Passes cs
Counts cs (Refused code at_record column) = FirstFailing cs (Refused code at_record column)

abbrev pub FirstCounts : Type 0
FirstCounts = (cs : List Check) → Counts cs (verdict cs)
