use Rattle.std.proofs.Common.{length, ap, arith}
use Rattle.file.specs.Records.{is_header, is_detail, is_entry}
use Rattle.file.proofs.Tallies.{records_few, tally_room}
use Rattle.file.proofs.tally.Tally.of.Goals as goal

pub overflow_add-tally : goal.overflow_add-tally
overflow_add-tally c = omega (arith, ap length c.in-Some.ensures.steps, c.loop-record.invariant.2, records_few c.args.text.now)

pub overflow_add-tally-in-loop-record : goal.overflow_add-tally-in-loop-record
overflow_add-tally-in-loop-record c = omega (arith, tally_room is_header c.args.text.now _ _ _ _ _ c.in-Some.ensures.steps c.one_if.ensures.value c.loop-record.invariant.3)

pub overflow_add-tally-in-loop-record-2 : goal.overflow_add-tally-in-loop-record-2
overflow_add-tally-in-loop-record-2 c = omega (arith, tally_room is_detail c.args.text.now _ _ _ _ _ c.in-Some.ensures.steps c.one_if-in-loop-record.ensures.value c.loop-record.invariant.4)

pub overflow_add-tally-in-loop-record-3 : goal.overflow_add-tally-in-loop-record-3
overflow_add-tally-in-loop-record-3 c = omega (arith, tally_room is_entry c.args.text.now _ _ _ _ _ c.in-Some.ensures.steps c.one_if-in-loop-record-2.ensures.value c.loop-record.invariant.5)
