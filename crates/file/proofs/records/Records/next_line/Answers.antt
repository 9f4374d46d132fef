use Rattle.std.proofs.Common.{◌≡◌, suc, ◌-◌, length, take, drop, ap, ◌∙◌, rules}
use Rattle.file.specs.Lengths.{line_len}
use Rattle.file.specs.Records.{records}
use Rattle.file.proofs.Lines.{first_is, others_are, line_length, behind_byte, behind_shorter}
use Rattle.file.proofs.records.Records.next_line.Goals as goal

pub returns : goal.returns
returns c =
    let text = c.args.self.now.rest.now in
    let n : length c.bytes-n.result.now ≡ line_len text = ap length (c.bytes-n.ensures ∙ c.first_line-line.ensures) ∙ line_length text in
    let behind : take (length text - c.min.result) (drop c.min.result text) ≡ drop (suc (line_len text)) text = behind_byte text _ _ (search rules) ∙ ap (λ k. drop (suc k) text) n in
    record {
      line = c.first_line-line.ensures ∙ first_is text;
      others = ap records behind ∙ others_are text;
      behind = behind;
      falls = λ h. rw behind (behind_shorter text _ h);
    }
