-- What the program firstlook writes: a packet, or the item of a file code.
use Rattle.std.specs.Prelude.{ℕ, take, Ok, Err, Result}
use Rattle.octets.specs.Classes.{Bytes}
use Rattle.calls.specs.Codes.{file_code}
use Rattle.calls.specs.declared.fault.FileFault.{FileFault}
use Rattle.packet.specs.Written.{refusal_length, refusal_in}
use Rattle.promises.specs.Calls.{Answer}
use Rattle.promises.specs.Packets.{code_item}
use Rattle.promises.specs.Replaced.{handed}
use Rattle.first_look.specs.Looks.{Texts, texts, look_answer}
use Rattle.look_files.specs.declared.Files.{Files}

-- what is looked at of a file's text
abbrev pub first_bytes : Bytes → Bytes
first_bytes text = take 65536 text

abbrev pub registers_in : Files → Texts
registers_in f =
    texts (first_bytes f.agencies.now) (first_bytes f.offices.now) (first_bytes f.symbols.now) (first_bytes f.units.now) (first_bytes f.accounts.now)

-- the packet, or the item of the file code
abbrev pub output_of : Answer → Bytes
output_of (Ok packet) = packet
output_of (Err code) = code_item code

-- on day 0, with a packet buffer of 65,536 bytes
abbrev pub output_for : Files → Bytes
output_for f = output_of (look_answer (registers_in f) (handed (first_bytes f.bulk.now) 0 65536))

-- from what first look answered, and its buffer
abbrev pub output_in : Result ℕ FileFault → Bytes → Bytes
output_in (Ok length) buffer = take length buffer
output_in (Err fault) buffer = take (refusal_length buffer) (refusal_in buffer (file_code fault))
