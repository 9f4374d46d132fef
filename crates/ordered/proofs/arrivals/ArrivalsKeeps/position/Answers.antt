use Rattle.std.proofs.Common.{◌≡◌, ◌∙◌, rules, tests}
use Rattle.std.proofs.lemmas.Iterator.{IsFirst-from_position, YieldsList-from_slice}
use Rattle.ordered.specs.Tables.{arrived}
use Rattle.ordered.proofs.Searched.{scanned}
use Rattle.ordered.proofs.arrivals.ArrivalsKeeps.position.Goals as goal

pub returns : goal.returns
returns g c =
    let key = g.T.Keyed.code in
    let k = c.args.key.now in
    scanned key k (arrived c.args.self.now) c.position.result
    (IsFirst-from_position _ _ _ (λ x. key x ≡ k) (λ x. key x ≡ k → ⊥) c.position.ensures.ran (YieldsList-from_slice _ (c.iter.ensures.rest ∙ c.records.ensures)) (λ x q e. search (rules, tests)) (λ x q e. search (rules, tests)))
