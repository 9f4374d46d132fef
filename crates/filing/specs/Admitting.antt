-- What is known of a file that is judged, and the code of one that is not.
use Rattle.std.specs.Prelude.{ℕ, Ok, Err, Result}
use Rattle.file.specs.declared.opening.Opening.{Opening}
use Rattle.file.specs.declared.tally.Found.{Found}
use Rattle.calls.specs.Codes.{file_code}
use Rattle.calls.specs.declared.fault.FileFault.{FileFault}
use Rattle.filing.specs.declared.admit.Admitted.{Admitted}

-- an answer with the fault as its code
abbrev pub with_code : {X : Type 0} → Result X FileFault → Result X ℕ
with_code (Ok x) = Ok x
with_code (Err f) = Err (file_code f)

abbrev pub admitted_by : Result Opening ℕ → Found → Result Admitted ℕ
admitted_by (Err code) found = Err code
admitted_by (Ok o) found = Ok (record { opening = o; found = found })
