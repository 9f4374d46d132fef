use Rattle.std.proofs.Common.{length, ap, ◌∙◌, arith}
use Rattle.octets.proofs.Columns.{columns_length}
use Rattle.file.proofs.opening.opened_by.Goals as goal

pub unwrap-requires : goal.unwrap-requires
unwrap-requires c = c.as_array.ensures.variant.1 (ap length c.columns_of.ensures.value ∙ columns_length 14 19 c.args.batch_header.now (omega arith) (omega arith))
