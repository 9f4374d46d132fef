-- What `map` and `map_err` give, where the closure computes a function.
-- Assumes nothing.
use Rattle.std.proofs.Common.{◌≡◌, Some, None, Ok, Err, Option, Result, MatchOption, MatchResult, ap}
use Rattle.std.specs.Option.{IsSomeAnd, option_map}
use Rattle.std.specs.Result.{IsErrAnd}
use Rattle.ordered.specs.declared.refusal.Refusal.{Refusal}
use Rattle.book.specs.declared.fault.BookFault.{BookFault}
use Rattle.book.specs.Faults.{fault_of}
use Rattle.book.proofs.Joins.{as_book_fault}

pub as_fault : (post : Refusal → BookFault → Type 0) → ((e : Refusal) (q : BookFault) → post e q → q ≡ fault_of e) → (r : Result Unit Refusal) (q : Result Unit BookFault) → MatchResult r (λ x. q ≡ Ok x) (λ e. IsErrAnd q (post e)) → q ≡ as_book_fault r
as_fault post is (Ok x) q h = h
as_fault post is (Err e) (Ok x) h = absurd h
as_fault post is (Err e) (Err q) h = ap Err (is e q h)

pub mapped : {X Y : Type 0} (post : X → Y → Type 0) (f : X → Y) → ((x : X) (y : Y) → post x y → y ≡ f x) → (o : Option X) (r : Option Y) → MatchOption o (r ≡ None) (λ x. IsSomeAnd r (post x)) → r ≡ option_map f o
mapped post f is None r h = h
mapped post f is (Some x) None h = absurd h
mapped post f is (Some x) (Some y) h = ap Some (is x y h)
