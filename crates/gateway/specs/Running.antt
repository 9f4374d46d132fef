-- The packet buffers that a run makes for its calls.
use Rattle.std.specs.Prelude.{ℕ, min, length, take, Ok, Err, Result}
use Rattle.octets.specs.Classes.{Bytes}
use Rattle.calls.specs.Codes.{file_code}
use Rattle.calls.specs.declared.fault.FileFault.{FileFault}
use Rattle.file.specs.declared.opening.Opening.{Opening}
use Rattle.file.specs.declared.opening.OpeningFault.{OpeningFault}
use Rattle.file.specs.Openings.{opening}
use Rattle.file.specs.Records.{transactions_of}
use Rattle.promises.specs.Calls.{Handed, Answer}
use Rattle.promises.specs.Packets.{packet_length}

-- of the length that a call names, what the packet needs; none where the file does not open
abbrev pub usable_in : Handed → Result Opening OpeningFault → ℕ
usable_in x (Ok o) = min x.room (packet_length (length (transactions_of x.file)))
usable_in x (Err f) = 0

abbrev pub usable_room : Handed → ℕ
usable_room x = usable_in x (opening x.file)

-- the packet at the front of a buffer, or the file code
abbrev pub answer_in : Result ℕ FileFault → Bytes → Answer
answer_in (Ok n) buffer = Ok (take n buffer)
answer_in (Err f) buffer = Err (file_code f)
