use Rattle.std.proofs.Common.{◌≡◌, ℕ, ◌+◌, ◌++◌, length, take, drop, ap, ◌∙◌, arith}
use borrow.Rule.Slice.PartMut.{put_mid}
use Rattle.std.proofs.lemmas.List.{drop-drop}
use Rattle.octets.specs.Classes.{Bytes}
use Rattle.packet.specs.Written.{written}
use Rattle.packet.proofs.put_within.Goals as goal

written_is : (a k : ℕ) (xs ys bs : Bytes) → ys ≡ bs → k ≡ length bs → put_mid a k xs ys ≡ written xs a bs
written_is a k xs ys bs e n =
    ap (λ l. put_mid a k xs l) e ∙ ap (λ l. take a xs ++ (bs ++ l)) (drop-drop k a xs ∙ ap (λ m. drop (a + m) xs) n)

pub returns : goal.returns
returns c = written_is _ _ c.args.buffer.now _ c.args.bytes.now c.copy_from_slice.ensures.after (omega arith)
