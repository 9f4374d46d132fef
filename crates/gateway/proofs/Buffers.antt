-- A buffer of the length that a file can use serves as well as the one that its call names.
use Rattle.std.proofs.Common.{◌≡◌, ℕ, min, Bool, true, false, cond, eqb, ltb, length, take, drop, is_some, Ok, Err, Result, sym, refl, ap, ◌∙◌, arith}
use Rattle.std.proofs.lemmas.List.{take_at}
use Rattle.std.proofs.lemmas.Bool.{ltb-true, ltb-false, le-ltb}
use Rattle.octets.specs.Classes.{Bytes}
use Rattle.calls.specs.declared.fault.FileFault.{FileFault}
use Rattle.file.specs.declared.opening.Opening.{Opening}
use Rattle.file.specs.declared.opening.OpeningFault.{OpeningFault}
use Rattle.file.specs.Openings.{opening}
use Rattle.file.specs.Records.{transactions_of}
use Rattle.book.specs.Meaning.{BookMeaning, mark_at, free_marks}
use Rattle.transaction.specs.Checks.{Holds}
use Rattle.promises.specs.Calls.{Handed, Answer, check_opened, post_opened, checked, posted, answer_with, check_answer, post_answer, post_book_at, post_book}
use Rattle.promises.specs.Packets.{packet_length}
use Rattle.promises.specs.Replaced.{handed}
use Rattle.filing.specs.Admitting.{with_code}
use Rattle.filing.specs.Filed.{length_of, packet_in}
use Rattle.gateway.specs.Running.{usable_in, usable_room, answer_in}

-- less than what is needed, or all of it
smaller : (room need : ℕ) → ltb (min room need) need ≡ ltb room need
smaller room need = go (ltb room need) refl
  where
    go : (v : Bool) → ltb room need ≡ v → ltb (min room need) need ≡ ltb room need
    go true e = let h = ltb-true room need e in let m : min room need ≡ room = omega arith in ap (λ n. ltb n need) m
    go false e = let h = ltb-false room need e in let m : min room need ≡ need = omega arith in ap (λ n. ltb n need) m ∙ le-ltb need need (omega arith) ∙ sym e

module _ (x : Handed) where
  abbrev needed : ℕ
  needed = packet_length (length (transactions_of x.file))

  -- the same file for the same day
  abbrev within : Result Opening OpeningFault → Handed
  within r = handed x.file x.day (usable_in x r)

  check_opened_law : (r : Result Opening OpeningFault) → check_opened (within r) r ≡ check_opened x r
  check_opened_law (Err f) = refl
  check_opened_law (Ok o) = ap (λ t. cond {A = Result Opening ℕ} t (Err 7) (Ok o)) (smaller x.room needed)

  post_opened_law : (b : BookMeaning) (r : Result Opening OpeningFault) → post_opened b (within r) r ≡ post_opened b x r
  post_opened_law b (Err f) = refl
  post_opened_law b (Ok o) =
      ap (λ t. cond {A = Result Opening ℕ} (is_some (mark_at b o.id)) (Err 6) (cond t (Err 7) (cond (eqb (free_marks b) 0) (Err 8) (Ok o)))) (smaller x.room needed)

  pub check_within : (holds : Holds) (b : BookMeaning) → check_answer holds b (handed x.file x.day (usable_room x)) ≡ check_answer holds b x
  check_within holds b = ap (answer_with x (checked holds b x)) (check_opened_law (opening x.file))

  pub post_within : (holds : Holds) (b : BookMeaning) → post_answer holds b (handed x.file x.day (usable_room x)) ≡ post_answer holds b x
  post_within holds b = ap (answer_with x (posted holds b x)) (post_opened_law b (opening x.file))

  pub book_within : (holds : Holds) (b : BookMeaning) → post_book holds b (handed x.file x.day (usable_room x)) ≡ post_book holds b x
  book_within holds b = ap (post_book_at holds b x) (post_opened_law b (opening x.file))

-- what is told by a number and a buffer is the answer
pub answer_is : (done : Result ℕ FileFault) (a : Answer) (buffer out : Bytes) → with_code done ≡ length_of a → out ≡ packet_in buffer a → answer_in done out ≡ a
answer_is (Ok n) (Ok p) buffer out e o =
    let long : length p ≡ n = cc in ap Ok (ap (take n) o ∙ take_at p (drop _ buffer) n long)
answer_is (Ok n) (Err c) buffer out e o = cc
answer_is (Err f) (Ok p) buffer out e o = cc
answer_is (Err f) (Err c) buffer out e o = cc
