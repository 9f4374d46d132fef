-- What a book answers is judged as what it holds.
use Rattle.std.proofs.Common.{◌≡◌, ℕ, suc, ◌*◌, ◌^◌, ◌<◌, ◌≤◌, Bool, true, false, leb, List, [], ◌∷◌, ◌++◌, length, take, drop, is_some, Some, None, Option, sym, refl, ap, ◌∙◌, mul-le-mul_right, pow-suc, arith, length-take}
use native.Mathlib.Nat.{pow-le-pow_right}
use Rattle.octets.specs.Classes.{Bytes, is_digit}
use Rattle.octets.specs.Values.{value_of, digit_of}
use Rattle.std.specs.Option.{option_map}
use Rattle.std.proofs.lemmas.Bool.{and_parts, leb-true}
use Rattle.layout.specs.declared.set_id.SetId.{SetId}
use Rattle.layout.specs.declared.set_id.SetId.TheVariants.{Payment, Collection, ReceiverAdjustment, SenderAdjustment, ZeroDollar, PostSgl}
use Rattle.std.specs.List.{flat_map}
use Rattle.book.specs.declared.entry.Entry.{Entry}
use Rattle.book.specs.declared.line.Line.{Line}
use Rattle.book.specs.Meaning.{EntryHeld, LineHeld, line_told}
use Rattle.book.specs.Told.{told, entry_told}
use Rattle.transaction.specs.declared.header.Transaction.{Transaction}
use Rattle.transaction.specs.declared.verdict.Verdict.{Verdict}
use Rattle.transaction.specs.declared.verdict.Verdict.TheVariants.{Accepted}
use Rattle.transaction.specs.Details.{DetailRead, item_in}
use Rattle.transaction.specs.Headers.{set_id_of, total_of}
use Rattle.transaction.specs.Verdicts.{Check, check, verdict}
use Rattle.promises.specs.Held.{Held}
use Rattle.promises.specs.Against.{item_column, original_column, serves, line_checks, line_checks_any, detail_checks, entry_checks, original_checks}
use Rattle.promises.proofs.Passing.{some_not}
use Rattle.settle.specs.declared.fault.SettleFault.{SettleFault}
use Rattle.settle.specs.Faults.{fault_verdict}
use Rattle.settle.specs.Originals.{held_as, line_as, answered, serving_check, age_check, open_check}
use Rattle.settle.proofs.Chains.{stops, goes_on}

digit_small : (b : ℕ) → digit_of b ≤ 9
digit_small b = go (is_digit b) refl
  where
    go : (v : Bool) → is_digit b ≡ v → digit_of b ≤ 9
    go true e = let p = and_parts (leb 48 b) (leb b 57) e in let q = leb-true b 57 p.1 in simp e (omega arith)
    go false e = simp e (omega arith)

value_below : (bs : Bytes) → value_of bs < 10 ^ length bs
value_below [] = omega arith
value_below (b ∷ bs) =
    let h = value_below bs in
    let d = digit_small b in
    let w : 10 ^ suc (length bs) ≡ 10 ^ length bs * 10 = pow-suc 10 (length bs) in
    let m : digit_of b * 10 ^ length bs ≤ 9 * 10 ^ length bs = mul-le-mul_right (10 ^ length bs) d in omega arith

-- six digits
six : (bs : Bytes) → value_of (take 6 bs) < 10 ^ 6
six bs =
    let l : length (take 6 bs) ≤ 6 = simp length-take (omega arith) in
    let p : 10 ^ length (take 6 bs) ≤ 10 ^ 6 = pow-le-pow_right (omega arith) l in
    let h = value_below (take 6 bs) in omega arith

pub item_small : (set : SetId) (d : Bytes) → item_in set d < 10 ^ 6
item_small Payment d = omega arith
item_small Collection d = omega arith
item_small ReceiverAdjustment d = six (drop 92 d)
item_small SenderAdjustment d = six (drop 92 d)
item_small ZeroDollar d = omega arith
item_small PostSgl d = six (drop 1 d)

-- a line as it is held and as it is answered
line_same : (set : SetId) (d : DetailRead) (l : LineHeld) → line_checks set d l ≡ line_checks set d (line_as (line_told l))
line_same Payment d l = refl
line_same Collection d l = refl
line_same ReceiverAdjustment d l = refl
line_same SenderAdjustment d l = refl
line_same ZeroDollar d l = refl
line_same PostSgl d l = refl

module _ (set : SetId) (d : DetailRead) where
  abbrev checks : Option LineHeld → List Check
  checks x = check (is_some x) 63 d.number (item_column set) ∷ line_checks_any set d x

  pub line_held : (l : Line) (x : Option LineHeld) → Some l ≡ option_map line_told x → verdict (line_checks set d (line_as l)) ≡ verdict (checks x)
  line_held l None e = absurd (some_not l (sym e))
  line_held l (Some m) e = let k : l ≡ line_told m = cc in ap (λ x. verdict (line_checks set d (line_as x))) k ∙ ap verdict (sym (line_same set d m))

-- one detail more
module _ (f : DetailRead → List Check) (d : DetailRead) (all rest : List DetailRead) (v : Verdict) (inv : verdict (flat_map f all) ≡ v) (is : all ≡ d ∷ rest) where
  pub turn_on : Accepted ≡ verdict (f d) → verdict (flat_map f rest) ≡ v
  turn_on h = goes_on (f d) (flat_map f rest) _ h refl ∙ ap (λ ds. verdict (flat_map f ds)) (sym is) ∙ inv

  pub turn_stop : (e : SettleFault) → fault_verdict e ≡ verdict (f d) → fault_verdict e ≡ v
  turn_stop e h = stops (f d) (flat_map f rest) e h ∙ ap (λ ds. verdict (flat_map f ds)) (sym is) ∙ inv

-- the original in the order of its checks; o is what is answered of it
module _ (day : ℕ) (t : Transaction) (ds : List DetailRead) (h : Held) (o : Option Entry) (is : option_map told o ≡ option_map entry_told h.entry) (set : SetId) (total : ℕ) (s : set ≡ set_id_of t) (sum : total ≡ total_of t) where
  abbrev in_order : SetId → ℕ → Option EntryHeld → List Check
  in_order set total x = serving_check set x ++ (age_check day set x ++ (flat_map (detail_checks (set_id_of t) h) ds ++ open_check total set x))

  by_told : (x : Option EntryHeld) → verdict (in_order (set_id_of t) (total_of t) (option_map held_as (option_map entry_told x))) ≡ verdict (check (serves (set_id_of t) x) 61 0 (original_column (set_id_of t)) ∷ entry_checks day t ds h x)
  by_told None = refl
  by_told (Some e) = refl

  original_is : verdict (in_order set total (answered o)) ≡ verdict (original_checks day t ds h)
  original_is =
      ap (λ x. verdict (in_order x total (answered o))) s
      ∙ ap (λ n. verdict (in_order (set_id_of t) n (answered o))) sum
      ∙ ap (λ x. verdict (in_order (set_id_of t) (total_of t) (option_map held_as x))) is
      ∙ by_told h.entry

  abbrev lines : List Check
  lines = flat_map (detail_checks (set_id_of t) h) ds

  module _ (serving : Accepted ≡ verdict (serving_check set (answered o))) (age : Accepted ≡ verdict (age_check day set (answered o))) where
    behind : (v : Verdict) → v ≡ verdict (lines ++ open_check total set (answered o)) → v ≡ verdict (original_checks day t ds h)
    behind v k =
        goes_on (serving_check set (answered o)) (age_check day set (answered o) ++ (lines ++ open_check total set (answered o))) v serving
        (goes_on (age_check day set (answered o)) (lines ++ open_check total set (answered o)) v age k)
        ∙ original_is

    pub lines_stop : (f : SettleFault) → fault_verdict f ≡ verdict lines → fault_verdict f ≡ verdict (original_checks day t ds h)
    lines_stop f k = behind (fault_verdict f) (stops lines (open_check total set (answered o)) f k)

    pub lines_pass : (v : Verdict) → Accepted ≡ verdict lines → v ≡ verdict (open_check total set (answered o)) → v ≡ verdict (original_checks day t ds h)
    lines_pass v a k = behind v (goes_on lines (open_check total set (answered o)) v a k)
