use Rattle.std.proofs.Common.{◌≡◌, ◌≤◌, ◌∷◌, length, sym, ap, ◌∙◌, subst}
use Rattle.file.specs.Records.{records, transactions, transactions_of}
use Rattle.packet.specs.Written.{written}
use Rattle.promises.specs.Entering.{verdicts, after}
use Rattle.promises.specs.Judging.{judge}
use Rattle.promises.specs.Packets.{verdict_items, accepted_count, packet_length}
use Rattle.promises.proofs.Replaces.{length_verdicts}
use Rattle.filing.proofs.Left.{Left, left_first, left_more, left_none}
use Rattle.filing.proofs.files.post_each.Goals as goal

pub loop-text-init : goal.loop-text-init
loop-text-init g c =
    let holds = g.R.Registers.holds c.args.registers.now in
    let b = g.B.Book.meaning c.args.book.now in
    let day = c.args.handed.now.day in
    let out = c.args.packet.now in
    let ts = transactions_of c.args.handed.now.file.now in
    let vs = verdicts holds b day ts in
    let same : transactions (records c.into_iter-text-iterator.result.rest.now) ≡ ts =
    ap (λ i. transactions (records i.rest.now)) c.into_iter-text-iterator.ensures.into_iter_gives ∙ ap (λ t. transactions (records t)) c.of-text-items.ensures ∙ ap transactions c.body.ensures in
    let room : packet_length (length vs) ≤ length out = subst (λ n. packet_length n ≤ length out) (sym (length_verdicts holds day ts b)) c.requires in (
      tt,
      tt,
      subst (λ us. Left out 0 0 (verdicts holds b day us) (written out 20 (verdict_items 1 vs)) (accepted_count vs)) (sym same) (left_first out vs room),
      ap (after holds b day) same,
    )

pub loop-text-preserved : goal.loop-text-preserved
loop-text-preserved g c =
    let holds = g.R.Registers.holds c.args.registers.now in
    let b = g.B.Book.meaning c.loop-text.book in
    let day = c.args.handed.now.day in
    let rest = transactions (records c.next.new.self.rest.now) in
    let steps = c.in-Some.ensures.steps in
    let e = c.settle.ensures in (
      tt,
      tt,
      left_more _ _ _ _ _ _ _ _ _ _ _ _ c.loop-text.invariant.2 (ap (verdicts holds b day) steps ∙ ap (λ x. judge holds b day (records c.in-Some.text.now) ∷ verdicts holds x day rest) (sym e.after)) e.verdict c.add.ensures.verdicts c.add.ensures.accepted c.add.ensures.packet,
      ap (λ x. after holds x day rest) e.after ∙ sym (ap (after holds b day) steps) ∙ c.loop-text.invariant.3,
    )

pub returns : goal.returns
returns g c =
    let holds = g.R.Registers.holds c.args.registers.now in
    let b = g.B.Book.meaning c.loop-text.book in
    let day = c.args.handed.now.day in
    let none = c.in-None.ensures.steps in
    let k = left_none _ _ _ _ _ _ c.loop-text.invariant.2 (ap (verdicts holds b day) none) in
    record { accepted = k.1; packet = k.0; book = sym (ap (after holds b day) none) ∙ c.loop-text.invariant.3 }
