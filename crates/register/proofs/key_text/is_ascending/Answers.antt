use Rattle.std.proofs.Common.{◌≡◌, ap, ◌∙◌, subst, arith, rules}
use Rattle.std.specs.Iterator.Runs.{IsChunksExactRun}
use Rattle.std.specs.Ordering.{is_lt}
use Rattle.std.specs.Slice.Iter.{chunks_exact_size, chunks_exact_rest}
use Rattle.register.specs.Keys.{rank}
use Rattle.register.proofs.Neighbours.{sorted_keys}
use Rattle.register.proofs.key_text.is_ascending.Goals as goal

pub returns : goal.returns
returns c =
    let ran = c.is_sorted_by.ensures.runs in
    let p = ran.0 in
    let width : chunks_exact_size p.from ≡ c.args.width = ap chunks_exact_size ran.1 ∙ c.chunks_exact.ensures.size in
    let text : chunks_exact_rest p.from ≡ c.args.text.now = ap chunks_exact_rest ran.1 ∙ c.chunks_exact.ensures.rest in
    let run : IsChunksExactRun p c.args.width c.args.text.now =
    subst (λ w. IsChunksExactRun p w c.args.text.now) width (subst (IsChunksExactRun p (chunks_exact_size p.from)) text (c.chunks_exact.ensures.runs p p.seen (omega arith))) in
    sorted_keys p c.args.width c.args.text.now c.requires run _ ran.2.0 (ran.2.1 (λ x y. is_lt (rank x.now y.now)) (λ x y r f g. search rules)).0
