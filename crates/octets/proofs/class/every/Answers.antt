use Rattle.std.proofs.Common.{◌≡◌, ◌∙◌, ◌<◌, length, sym, arith}
use Rattle.octets.proofs.Blocks.{by_blocks, last_decides}
use Rattle.octets.specs.Classes.{all}
use Rattle.octets.proofs.class.every.Goals as goal
use Rattle.octets.proofs.class.every.Goals.{then-each_block, else-each_block}

pub returns-then-each_block-2 : goal.returns-then-each_block-2
returns-then-each_block-2 g c =
    let p = g.C.Class.test in
    let xs = c.args.bytes.now in
    let rest = c.as_chunks.result.1.now in
    let tail = c.as_chunks-2.result.1.now in
    let s = by_blocks p 64 _ xs _ _ _ c.as_chunks.ensures.front c.as_chunks.ensures.back c.each_block.ensures in
    let few : length tail < 16 = omega (arith, c.as_chunks-2.ensures.back_len) in
    elim c.if-each_block.branch [
      | then-each_block w ↦ let t = by_blocks p 16 _ _ _ _ _ c.as_chunks-2.ensures.front c.as_chunks-2.ensures.back w.each_block-then-each_block.ensures in
          let left : all p xs ≡ all p tail = simp (s, w.if-each_block.true, t, sym w.value-is, c.if-each_block-2.true) in
          c.each.ensures ∙ last_decides p xs rest tail _ _ _ 16 c.as_chunks.ensures.back c.as_chunks-2.ensures.back few c.in-Some.ensures.cases.1.same left
      | else-each_block w ↦ cc
    ]

pub returns-else-each_block-2 : goal.returns-else-each_block-2
returns-else-each_block-2 g c =
    let p = g.C.Class.test in
    let s = by_blocks p 64 _ c.args.bytes.now _ _ _ c.as_chunks.ensures.front c.as_chunks.ensures.back c.each_block.ensures in
    elim c.if-each_block.branch [
      | then-each_block w ↦ let t = by_blocks p 16 _ _ _ _ _ c.as_chunks-2.ensures.front c.as_chunks-2.ensures.back w.each_block-then-each_block.ensures in
          simp (s, w.if-each_block.true, t, sym w.value-is, c.if-each_block-2.false)
      | else-each_block w ↦ simp (s, w.value-is, w.if-each_block.false)
    ]
