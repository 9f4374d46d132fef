use Rattle.std.proofs.Common.{◌≡◌, ◌≤◌, length, sym, ap, arith}
use Rattle.file.specs.Records.{transactions_of}
use Rattle.promises.proofs.Acts.{transactions_short}
use Rattle.gateway.proofs.run.usable_room.Goals as goal

few : (c : goal.After-struct_known-1) → c.of-in-Ok.result.transactions ≤ 16777216
few c =
    let n : c.of-in-Ok.result.transactions ≡ length (transactions_of c.args.handed.now.file.now) = ap (λ f. f.transactions) c.of-in-Ok.ensures in
    let t = transactions_short c.args.handed.now.file.now c.in-Ok.field-0 (sym c.in-Ok.ensures) in omega arith

pub overflow_mul-needed : goal.overflow_mul-needed
overflow_mul-needed c = let f = few c in omega arith

pub overflow_add-needed : goal.overflow_add-needed
overflow_add-needed c = let f = few c in omega arith
