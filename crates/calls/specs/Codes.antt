-- The file codes.
use Rattle.std.specs.Prelude.{ℕ}
use Rattle.file.specs.Openings.{code_of}
use Rattle.calls.specs.declared.fault.FileFault.{FileFault}
use Rattle.calls.specs.declared.fault.FileFault.TheVariants.{Opening, Marked, NoRoom, NoMarkPlace}

abbrev pub file_code : FileFault → ℕ
file_code (Opening f) = code_of f
file_code Marked = 6
file_code NoRoom = 7
file_code NoMarkPlace = 8
