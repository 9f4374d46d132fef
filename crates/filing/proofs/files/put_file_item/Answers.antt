use Rattle.std.proofs.Common.{arith, rules}
use Rattle.promises.specs.Packets.{file_item}
use Rattle.filing.proofs.Filed.{put_in}
use Rattle.filing.proofs.files.put_file_item.Goals as goal

pub returns : goal.returns
returns c =
    let a = c.args.admitted.now in
    record {
      length = search rules;
      packet = put_in c.args.packet.now c.put.new.buffer (file_item a.opening.stated a.found.records a.found.transactions c.args.accepted) c.file_item-item.result 0 c.put.ensures.after c.file_item-item.ensures (omega arith);
    }
