use Rattle.std.proofs.Common.{ℕ, List, [], ◌∷◌, ap, ◌∙◌}
use Rattle.std.proofs.lemmas.Result.{err_from_is_err_and}
use Rattle.octets.specs.Classes.{Bytes}
use Rattle.transaction.specs.Details.{sender_in, receiver_in}
use Rattle.transaction.specs.Verdicts.{Check, check, verdict}
use Rattle.promises.specs.Against.{agree}
use Rattle.settle.proofs.Chains.{stops, goes_on}
use Rattle.settle.proofs.original.check_symbols.Goals as goal

abbrev one : ℕ → ℕ → Bytes → Bytes → List Check
one column n held s = check (agree s held) 64 n column ∷ []

pub returns-in_err-check_symbol : goal.returns-in_err-check_symbol
returns-in_err-check_symbol c =
    let d = c.args.detail.now in
    let p = err_from_is_err_and c.from_residual.result c.from_residual.ensures.1 in
    rw (p.1, p.2) (stops (one 100 d.number c.args.as_sender.now (sender_in c.args.set d.«record».now)) (one 135 d.number c.args.as_receiver.now (receiver_in c.args.set d.«record».now)) _ (c.in_err-check_symbol.ensures ∙ ap (λ s. verdict (one 100 d.number c.args.as_sender.now s)) c.sender.ensures))

pub returns : goal.returns
returns c =
    let d = c.args.detail.now in
    goes_on (one 100 d.number c.args.as_sender.now (sender_in c.args.set d.«record».now)) (one 135 d.number c.args.as_receiver.now (receiver_in c.args.set d.«record».now)) _
    (c.in_ok-check_symbol.ensures ∙ ap (λ s. verdict (one 100 d.number c.args.as_sender.now s)) c.sender.ensures)
    (c.check_symbol-2.ensures ∙ ap (λ s. verdict (one 135 d.number c.args.as_receiver.now s)) c.receiver.ensures)
