use Rattle.std.proofs.Common.{◌≡◌, true, false, rules, tests}
use Rattle.std.proofs.lemmas.Iterator.{IsFirst-from_position, YieldsList-from_slice}
use Rattle.book.specs.Meaning.{seekable}
use Rattle.book.specs.Rows.{entry_of}
use Rattle.book.proofs.Open.{open_at}
use Rattle.book.proofs.entry_row.first_open.Goals as goal

pub returns-clause-at : goal.returns-clause-at
returns-clause-at c =
    let office = c.args.office.now in
    open_at office c.args.rows.now c.position.result
    (IsFirst-from_position _ _ _ (λ x. true ≡ seekable office (entry_of x)) (λ x. false ≡ seekable office (entry_of x)) c.position.ensures.ran (YieldsList-from_slice _ c.iter.ensures.rest) (λ x q e. search (rules, tests)) (λ x q e. search (rules, tests)))
