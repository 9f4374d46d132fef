use Rattle.std.proofs.Common.{ℕ, List, ◌++◌}
use Rattle.std.proofs.lemmas.Result.{err_from_is_err_and}
use Rattle.file.specs.Records.{records}
use Rattle.book.specs.Meaning.{BookMeaning}
use Rattle.transaction.specs.declared.header.Transaction.{Transaction}
use Rattle.transaction.specs.Details.{DetailRead, details_of}
use Rattle.transaction.specs.Headers.{own_pair, original_pair}
use Rattle.transaction.specs.Verdicts.{Check}
use Rattle.promises.specs.Against.{original_checks}
use Rattle.promises.specs.Held.{checks_at}
use Rattle.promises.specs.Own.{own_pair_checks, place_checks}
use Rattle.settle.proofs.Chains.{stops, goes_on}
use Rattle.settle.proofs.candidate.Candidate.check.Goals as goal

abbrev of_original : BookMeaning → ℕ → Transaction → List DetailRead → List Check
of_original b day t ds = checks_at b (original_pair t) (original_checks day t ds)

abbrev of_own : BookMeaning → Transaction → List DetailRead → List Check
of_own b t ds = checks_at b (own_pair t) (own_pair_checks t ds) ++ place_checks b t ds (own_pair t)

pub returns-in_err-check_any_original : goal.returns-in_err-check_any_original
returns-in_err-check_any_original g c =
    let b = g.B.Book.meaning c.args.book.now in
    let t = c.args.self.now.sound.transaction in
    let ds = details_of (records c.args.self.now.sound.body.now) in
    let p = err_from_is_err_and c.from_residual.result c.from_residual.ensures.1 in
    rw (p.1, p.2) (stops (of_original b c.args.day t ds) (of_own b t ds) c.in_err-check_any_original.field-0.0 c.in_err-check_any_original.ensures)

pub returns : goal.returns
returns g c =
    let b = g.B.Book.meaning c.args.book.now in
    let t = c.args.self.now.sound.transaction in
    let ds = details_of (records c.args.self.now.sound.body.now) in
    goes_on (of_original b c.args.day t ds) (of_own b t ds) _ c.in_ok-check_any_original.ensures c.check_own.ensures
