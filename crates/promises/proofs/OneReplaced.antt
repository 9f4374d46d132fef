-- One transaction of a file replaced, from the bytes to the packets.
use Rattle.std.proofs.Common.{◌≡◌, ℕ, zero, suc, Bool, true, false, cond, ◌⊎◌, List, [], ◌∷◌, ◌++◌, map, length, Some, None, Ok, Err, All, Option, Result, sym, refl, ap, ◌∙◌, subst, inr, arith}
use Rattle.std.specs.List.{slice_get}
use Rattle.std.proofs.lemmas.List.Elements.{All-weaker, All-head, All-tail}
use Rattle.octets.specs.Classes.{Bytes}
use Rattle.layout.specs.declared.pair.Pair.{Pair}
use Rattle.file.specs.declared.opening.Opening.{Opening}
use Rattle.file.specs.declared.opening.OpeningFault.{OpeningFault}
use Rattle.file.specs.Openings.{opening, code_of}
use Rattle.file.specs.Records.{records, is_detail, many, transactions, transactions_of}
use Rattle.book.specs.Meaning.{BookMeaning}
use Rattle.transaction.specs.declared.verdict.Verdict.{Verdict}
use Rattle.transaction.specs.Checks.{Holds}
use Rattle.transaction.specs.Details.{sum_of}
use Rattle.promises.specs.Judging.{judge}
use Rattle.promises.specs.Entering.{entered, verdicts, after}
use Rattle.promises.specs.Packets.{packet_of, verdict_at}
use Rattle.promises.specs.Calls.{Handed, too_small, check_opened, check_gate, post_gate, checked, posted, answer_with, post_answer}
use Rattle.promises.specs.Related.{transactions_in, transaction_count, detail_count, Enough}
use Rattle.promises.specs.Replaced.{Replaced, place_of, replaced_pairs, SameBut, handed, Inside, Outside, CheckLeavesOthers, PostLeavesOthers, PostLeavesEarlier, PostLeavesUnlinked}
use Rattle.promises.proofs.Cuts.{between}
use Rattle.promises.proofs.Items.{same_at}
use Rattle.promises.proofs.Posts.{no_ok, gate_opens, opened_has}
use Rattle.promises.proofs.Replaces.{OthersAlike, checked_alike, room_behind}
use Rattle.promises.proofs.Unlinked.{At, front_same, unlinked}
use Rattle.promises.proofs.Pairs.{among, all_among, none_among}
use Rattle.promises.proofs.Frame.{all_left, all_right, Room}

some_is : {X : Type 0} (x y : X) → ◌≡◌ {A = Option X} (Some x) (Some y) → x ≡ y
some_is x y h = cc

none_is : {X : Type 0} (y : X) → ◌≡◌ {A = Option X} None (Some y) → ⊥
none_is y h = let z : ◌≡◌ {A = ℕ} 0 1 = cc in absurd (omega arith)

-- an answer that is a packet is of an opening, and has the verdicts
pub record Packed (x : Handed) (vs : List Verdict) (g : Result Opening ℕ) (p : Bytes) : Type 0 where
  pub opened : Opening
  pub gate : g ≡ Ok opened
  pub is : p ≡ packet_of opened.stated (length (records x.file)) vs

pub packed : (x : Handed) (vs : List Verdict) (g : Result Opening ℕ) (p : Bytes) → answer_with x vs g ≡ Ok p → Packed x vs g p
packed x vs (Err c) p h = absurd (no_ok p c h)
packed x vs (Ok o) p h = record { opened = o; gate = refl; is = cc }

pub check_opens : (x : Handed) (o : Opening) → check_gate x ≡ Ok o → (opening x.file ≡ Ok o) × (too_small x ≡ false)
check_opens x o h = go (opening x.file) h
  where
    again : (i : Opening) → ◌≡◌ {A = Result Opening ℕ} (Ok i) (Ok o) → ◌≡◌ {A = Result Opening OpeningFault} (Ok i) (Ok o)
    again i k = let e : i ≡ o = cc in ap Ok e

    past : (i : Opening) (v : Bool) → too_small x ≡ v → cond {A = Result Opening ℕ} v (Err 7) (Ok i) ≡ Ok o → (◌≡◌ {A = Result Opening OpeningFault} (Ok i) (Ok o)) × (too_small x ≡ false)
    past i true e k = absurd (no_ok o 7 k)
    past i false e k = (again i k, e)

    go : (r : Result Opening OpeningFault) → check_opened x r ≡ Ok o → (r ≡ Ok o) × (too_small x ≡ false)
    go (Err f) k = absurd (no_ok o (code_of f) k)
    go (Ok i) k = past i (too_small x) refl k

same_packets : (x y : Handed) (vs ws : List Verdict) (g h : Result Opening ℕ) (place : ℕ) → OthersAlike place vs ws → SameBut place (answer_with x vs g) (answer_with y ws h)
same_packets x y vs ws g h place alike p q hp hq k other =
    let a = packed x vs g p hp in let c = packed y ws h q hq in
    ap (verdict_at k) a.is ∙ same_at a.opened.stated (length (records x.file)) c.opened.stated (length (records y.file)) vs ws k (alike k other) ∙ sym (ap (verdict_at k) c.is)

module _ {file file' : Bytes} (r : Replaced file file') where
  abbrev front : List (List Bytes)
  front = transactions_of r.front

  abbrev rest : List (List Bytes)
  rest = transactions (records r.rest)

  pub was : transactions_of file ≡ front ++ records r.old ∷ rest
  was = ap transactions_of r.was ∙ between r.front r.old r.rest r.old_whole r.front_ended r.front_opening r.rest_next

  pub is : transactions_of file' ≡ front ++ records r.new ∷ rest
  is = ap transactions_of r.is ∙ between r.front r.new r.rest r.new_whole r.front_ended r.front_opening r.rest_next

  checks : (holds : Holds) (b : BookMeaning) (day : ℕ) → OthersAlike (place_of r) (map (judge holds b day) (transactions_of file)) (map (judge holds b day) (transactions_of file'))
  checks holds b day k other =
      ap (λ ts. slice_get (map (judge holds b day) ts) k) was
      ∙ checked_alike holds day b front rest (records r.old) (records r.new) k other
      ∙ sym (ap (λ ts. slice_get (map (judge holds b day) ts) k) is)

  -- places enough for what stands behind the replaced one
  module _ (holds : Holds) (b : BookMeaning) (day : ℕ) (opens : transactions_in file ≡ transactions_of file) (opens' : transactions_in file' ≡ transactions_of file') (enough : Enough b (file ∷ [])) (enough' : Enough b (file' ∷ [])) where
    room_old : Room (entered holds (after holds b day front) day (records r.old)) rest
    room_old =
        let e = enough.entries in let l = enough.lines in
        let n : transaction_count file ≡ length (front ++ records r.old ∷ rest) = ap length (opens ∙ was) in
        let m : detail_count file ≡ sum_of (many is_detail) (front ++ records r.old ∷ rest) = ap (sum_of (many is_detail)) (opens ∙ was) in
        room_behind holds day b front (records r.old) rest (omega arith) (omega arith)

    room_new : Room (entered holds (after holds b day front) day (records r.new)) rest
    room_new =
        let e = enough'.entries in let l = enough'.lines in
        let n : transaction_count file' ≡ length (front ++ records r.new ∷ rest) = ap length (opens' ∙ is) in
        let m : detail_count file' ≡ sum_of (many is_detail) (front ++ records r.new ∷ rest) = ap (sum_of (many is_detail)) (opens' ∙ is) in
        room_behind holds day b front (records r.new) rest (omega arith) (omega arith)

    posts : (group : Pair → Bool) → All (λ p. group p ≡ true) (replaced_pairs holds r) → All (λ t. Inside holds group t ⊎ Outside holds group t) rest →
        (k : ℕ) → (k ≡ place_of r → ⊥) → At holds group (transactions_of file) k → slice_get (verdicts holds b day (transactions_of file)) k ≡ slice_get (verdicts holds b day (transactions_of file')) k
    posts group ours divided k other out =
        ap (λ ts. slice_get (verdicts holds b day ts) k) was
        ∙ unlinked holds b day front rest (records r.old) (records r.new) group ours divided room_old room_new k other (λ t e. out t (ap (λ ts. slice_get ts k) was ∙ e))
        ∙ sym (ap (λ ts. slice_get (verdicts holds b day ts) k) is)

-- the packets of two posts, where the verdicts at a place are the same
same_posts : (holds : Holds) (b : BookMeaning) (x y : Handed) (p q : Bytes) (k : ℕ) → post_answer holds b x ≡ Ok p → post_answer holds b y ≡ Ok q → slice_get (posted holds b x) k ≡ slice_get (posted holds b y) k → verdict_at k p ≡ verdict_at k q
same_posts holds b x y p q k hp hq same =
    let a = packed x (posted holds b x) (post_gate b x) p hp in let c = packed y (posted holds b y) (post_gate b y) q hq in
    ap (verdict_at k) a.is ∙ same_at a.opened.stated (length (records x.file)) c.opened.stated (length (records y.file)) (posted holds b x) (posted holds b y) k same ∙ sym (ap (verdict_at k) c.is)

opens_so : (holds : Holds) (b : BookMeaning) (x : Handed) (p : Bytes) → post_answer holds b x ≡ Ok p → transactions_in x.file ≡ transactions_of x.file
opens_so holds b x p h = let a = packed x (posted holds b x) (post_gate b x) p h in opened_has x.file a.opened (gate_opens b x a.opened a.gate)

pub check_leaves_others : CheckLeavesOthers
check_leaves_others holds b file file' day room room' r =
    let x = handed file day room in let y = handed file' day room' in
    same_packets x y (checked holds b x) (checked holds b y) (check_gate x) (check_gate y) (place_of r) (checks r holds b day)

pub post_leaves_unlinked : PostLeavesUnlinked
post_leaves_unlinked holds b file file' day room room' r group ours divided enough enough' p q hp hq k t other here outside =
    let x = handed file day room in let y = handed file' day room' in
    same_posts holds b x y p q k hp hq
    (posts r holds b day (opens_so holds b x p hp) (opens_so holds b y q hq) enough enough' group ours divided k other
    (λ u e. subst (Outside holds group) (some_is t u (sym here ∙ e)) outside))

-- where no other transaction has a pair of the group, all others are outside
nth_others : {X : Type 0} (P : X → Type 0) (xs : List X) (y : X) (ys : List X) (k : ℕ) (x : X) → All P xs → All P ys → (k ≡ length xs → ⊥) → slice_get (xs ++ y ∷ ys) k ≡ Some x → P x
nth_others P [] y ys zero x h l other e = absurd (other refl)
nth_others P [] y [] (suc k) x h l other e = absurd (none_is x e)
nth_others P [] y (z ∷ ys) (suc zero) x h l other e = subst P (some_is z x e) (All-head P z ys l)
nth_others P [] y (z ∷ ys) (suc (suc k)) x h l other e = nth_others P [] z ys (suc k) x h (All-tail P z ys l) (λ s. omega arith) e
nth_others P (z ∷ xs) y ys zero x h l other e = subst P (some_is z x e) (All-head P z xs h)
nth_others P (z ∷ xs) y ys (suc k) x h l other e = nth_others P xs y ys k x (All-tail P z xs h) l (λ s. other (ap suc s)) e

pub post_leaves_others : PostLeavesOthers
post_leaves_others holds b file file' day room room' r apart enough enough' p q hp hq k other =
    let x = handed file day room in let y = handed file' day room' in
    let ps = replaced_pairs holds r in
    let F = transactions_of r.front in let R = transactions (records r.rest) in
    let out : All (Outside holds (λ s. among s ps)) (F ++ R) = none_among holds ps (F ++ R) apart in
    let outF = all_left (Outside holds (λ s. among s ps)) F R out in
    let outR = all_right (Outside holds (λ s. among s ps)) F R out in
    same_posts holds b x y p q k hp hq
    (posts r holds b day (opens_so holds b x p hp) (opens_so holds b y q hq) enough enough' (λ s. among s ps) (all_among ps)
    (All-weaker (Outside holds (λ s. among s ps)) (λ t. Inside holds (λ s. among s ps) t ⊎ Outside holds (λ s. among s ps) t) (λ t h. inr h) R outR)
    k other (λ t e. nth_others (Outside holds (λ s. among s ps)) F (records r.old) R k t outF outR other (sym (ap (λ ts. slice_get ts k) (was r)) ∙ e)))

-- what stands in front is not touched
pub post_leaves_earlier : PostLeavesEarlier
post_leaves_earlier holds b file file' day room room' r p q hp hq k before =
    let x = handed file day room in let y = handed file' day room' in
    let F = transactions_of r.front in let R = transactions (records r.rest) in
    same_posts holds b x y p q k hp hq
    (ap (λ ts. slice_get (verdicts holds b day ts) k) (was r) ∙ front_same holds b day F R (records r.old) (records r.new) k before ∙ sym (ap (λ ts. slice_get (verdicts holds b day ts) k) (is r)))
