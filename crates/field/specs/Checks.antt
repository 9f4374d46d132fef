-- One field judged.
use Rattle.std.specs.Prelude.{Bool, cond, not, ◌&&◌, Ok, Err, Result}
use Rattle.octets.specs.Classes.{Bytes, blank}
use Rattle.layout.specs.declared.field.Field.{Field}
use Rattle.layout.specs.declared.field.Lookup.{Lookup}
use Rattle.layout.specs.Fields.{start_of, is_required, kind_of, register_of}
use Rattle.field.specs.declared.fault.Cause.{Cause}
use Rattle.field.specs.declared.fault.Cause.TheVariants.{Missing, Shape, Unknown}
use Rattle.field.specs.declared.fault.FieldFault.{FieldFault}
use Rattle.field.specs.Shapes.{is_filler, shape}

-- refused at the field's first column
abbrev pub refused : Cause → Field → Result (Unit {0}) FieldFault
refused why f = Err (record { cause = why; column = start_of f })

-- spaces only; a filler is never missing
abbrev pub is_missing : Field → Bytes → Bool
is_missing f s = not (is_filler (kind_of f)) && blank s

-- first whether the field is missing, then its shape, then its register, where `holds` tells which keys are in which register
abbrev pub field_check : (Lookup → Bytes → Bool) → Field → Bytes → Result (Unit {0}) FieldFault
field_check holds f s =
    cond (is_missing f s) (cond (is_required f) (refused Missing f) (Ok tt))
    (cond (not (shape (kind_of f) s)) (refused Shape f)
    (cond (not (holds (register_of f) s)) (refused Unknown f)
    (Ok tt)))
