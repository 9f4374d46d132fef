-- What check and post tell of a file: a number, and the packet in its buffer.
use Rattle.std.specs.Prelude.{ℕ, length, Ok, Err, Result}
use Rattle.octets.specs.Classes.{Bytes}
use Rattle.packet.specs.Written.{written}
use Rattle.promises.specs.Calls.{Answer}

-- the packet's length, or the file code
abbrev pub length_of : Answer → Result ℕ ℕ
length_of (Ok p) = Ok (length p)
length_of (Err code) = Err code

-- the buffer afterwards: the packet from its first byte on; as it was where the file is refused
abbrev pub packet_in : Bytes → Answer → Bytes
packet_in buffer (Ok p) = written buffer 0 p
packet_in buffer (Err code) = buffer
