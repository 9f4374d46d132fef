use Rattle.std.proofs.Common.{◌<◌, length, sym, ap, ◌∙◌, arith, rules}
use Rattle.std.proofs.lemmas.List.{nil_from_length}
use Rattle.std.proofs.lemmas.Bool.{eqb-true, eqb-false}
use Rattle.file.specs.Records.{records, transactions}
use Rattle.file.proofs.Headers.{cut_header, header_some}
use Rattle.file.proofs.transactions.TransactionsIterator.next.Goals as goal
use Rattle.file.proofs.transactions.TransactionsIterator.next.Goals.{After-split_at}
use Rattle.std.proofs.iter.Next.{firm}

pub returns-then-is_empty : goal.returns-then-is_empty
returns-then-is_empty c = record {
  steps =
      let text = c.from_header-text.result.now in
      sym c.from_header-text.ensures.same
      ∙ ap (λ l. transactions (records l)) (nil_from_length text (eqb-true (length text) 0 (sym c.if-is_empty.ensures)));
  goes = firm (tt) (λ h. search rules);
}

some : (c : After-split_at) → 0 < length c.from_header-text.result.now
some c = omega (arith, eqb-false (length c.from_header-text.result.now) 0 (sym c.is_empty.ensures ∙ c.if-is_empty.false))

pub returns : goal.returns
returns c =
    let text = c.from_header-text.result.now in
    let k = c.before_header.ensures.value in
    let least = some (goal.at.returns c).After-split_at in
    record {
      steps = let cut = cut_header text (c.from_header-text.ensures.header least) in cc;
      goes = firm ((tt, tt, omega (arith, header_some text least, k, c.split_at.ensures.back_len, c.from_header-text.ensures.within))) (λ h. search rules);
    }
