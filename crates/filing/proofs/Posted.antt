-- The book after a post: its accepted transactions entered, and its mark set.
use Rattle.std.proofs.Common.{◌≡◌, ℕ, suc, ◌+◌, ◌-◌, ◌≤◌, Bool, true, false, cond, List, [], ◌∷◌, length, Ok, Err, sym, refl, ap, ◌∙◌, ap₂, arith}
use Rattle.file.specs.declared.tally.Found.{Found}
use Rattle.file.specs.Counts.{found_in}
use Rattle.file.specs.Records.{transactions_of}
use Rattle.book.specs.Actions.{marking}
use Rattle.book.specs.Meaning.{BookMeaning, mark_under}
use Rattle.transaction.specs.declared.verdict.Verdict.{Verdict}
use Rattle.transaction.specs.Checks.{Holds}
use Rattle.promises.specs.Calls.{Handed, post_gate, post_book_at, post_book, posted}
use Rattle.promises.specs.Entering.{after}
use Rattle.promises.specs.Packets.{is_accepted, accepted_count, rejected_count}
use Rattle.promises.proofs.Acts.{mark_is_set, transactions_short}
use Rattle.promises.proofs.Posts.{gate_opens}
use Rattle.promises.proofs.ReadsBack.{accepted_few}
use Rattle.promises.proofs.Replaces.{length_verdicts}
use Rattle.filing.specs.declared.admit.Admitted.{Admitted}
use Rattle.filing.specs.Admitting.{admitted_by}
use Rattle.filing.proofs.Filed.{gate_refused, gate_admitted}

-- every transaction is accepted or rejected
counts_add : (vs : List Verdict) → accepted_count vs + rejected_count vs ≡ length vs
counts_add [] = refl
counts_add (v ∷ vs) = go (is_accepted v) (counts_add vs)
  where
    go : (t : Bool) → accepted_count vs + rejected_count vs ≡ length vs → (cond t 1 0 + accepted_count vs) + (cond t 0 1 + rejected_count vs) ≡ suc (length vs)
    go true h = omega arith
    go false h = omega arith

module _ (holds : Holds) (b : BookMeaning) (x : Handed) where
  abbrev vs : List Verdict
  vs = posted holds b x

  long : length vs ≡ length (transactions_of x.file)
  long = length_verdicts holds x.day (transactions_of x.file) b

  pub book_refused : (found : Found) (code : ℕ) → Err code ≡ admitted_by (post_gate b x) found → b ≡ post_book holds b x
  book_refused found code e = sym (ap (post_book_at holds b x) (gate_refused (post_gate b x) found code e))

  pub counts_few : (a : Admitted) (accepted : ℕ) → Ok a ≡ admitted_by (post_gate b x) (found_in x.file) → accepted ≡ accepted_count vs →
      (accepted ≤ a.found.transactions) × (a.found.transactions ≤ 16777216)
  counts_few a accepted e is =
      let k = gate_admitted (post_gate b x) (found_in x.file) a e in
      let n : a.found.transactions ≡ length (transactions_of x.file) = ap (λ f. f.transactions) k.1 in
      let f = accepted_few vs in
      let l = long in
      let t = transactions_short x.file a.opening (gate_opens b x a.opening k.0) in
      (omega arith, omega arith)

  pub book_marked : (a : Admitted) (accepted : ℕ) (entered marked : BookMeaning) → Ok a ≡ admitted_by (post_gate b x) (found_in x.file) → accepted ≡ accepted_count vs →
      entered ≡ after holds b x.day (transactions_of x.file) →
      marked ≡ marking entered (mark_under a.opening.id (record { accepted = accepted; rejected = a.found.transactions - accepted })) → marked ≡ post_book holds b x
  book_marked a accepted entered marked e is en em =
      let k = gate_admitted (post_gate b x) (found_in x.file) a e in
      let n : a.found.transactions ≡ length (transactions_of x.file) = ap (λ f. f.transactions) k.1 in
      let s = counts_add vs in
      let l = long in
      let r : a.found.transactions - accepted ≡ rejected_count vs = omega arith in
      em
      ∙ ap (λ c. marking c (mark_under a.opening.id (record { accepted = accepted; rejected = a.found.transactions - accepted }))) en
      ∙ ap₂ (λ p q. marking (after holds b x.day (transactions_of x.file)) (mark_under a.opening.id (record { accepted = p; rejected = q }))) is r
      ∙ mark_is_set holds b x a.opening k.0
