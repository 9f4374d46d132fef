-- The verdicts that are left to write, in the middle of a file.
use Rattle.std.proofs.Common.{◌≡◌, ℕ, suc, ◌+◌, ◌*◌, ◌≤◌, Bool, true, false, cond, List, [], ◌∷◌, length, sym, refl, ap, ◌∙◌, add-zero, add_assoc, arith}
use Rattle.octets.specs.Classes.{Bytes}
use Rattle.transaction.specs.declared.verdict.Verdict.{Verdict}
use Rattle.packet.specs.Written.{written}
use Rattle.promises.proofs.Items.{sixteen}
use Rattle.promises.specs.Packets.{verdict_item, verdict_items, is_accepted, accepted_count, packet_length}
use Rattle.filing.proofs.Writes.{written_then, written_none, written_long}

-- n verdicts are written, a of them of accepted transactions; written with those that are left, the packet is the one that is wanted
pub record Left (out : Bytes) (n a : ℕ) (vs : List Verdict) (whole : Bytes) (all : ℕ) : Type 0 where
  pub packet : written out (20 + 16 * n) (verdict_items (suc n) vs) ≡ whole
  pub accepted : a + accepted_count vs ≡ all
  pub few : a ≤ n
  pub room : 20 + 16 * (n + length vs) ≤ length out

pub left_first : (out : Bytes) (vs : List Verdict) → packet_length (length vs) ≤ length out → Left out 0 0 vs (written out 20 (verdict_items 1 vs)) (accepted_count vs)
left_first out vs h = record { packet = refl; accepted = omega arith; few = omega arith; room = omega arith }

few_more : (a a' n n' : ℕ) (b : Bool) → a ≤ n → n' ≡ suc n → a' ≡ a + cond b 1 0 → a' ≤ n'
few_more a a' n n' true f en ea = omega arith
few_more a a' n n' false f en ea = omega arith

-- one more verdict is written
pub left_more : (out out' : Bytes) (n n' a a' : ℕ) (vs more : List Verdict) (v w : Verdict) (whole : Bytes) (all : ℕ) → Left out n a vs whole all → vs ≡ w ∷ more → v ≡ w →
    n' ≡ suc n → a' ≡ a + cond (is_accepted v) 1 0 → out' ≡ written out (20 + 16 * n) (verdict_item (suc n) v) → Left out' n' a' more whole all
left_more out out' n n' a a' vs more v w whole all l first same en ea eo =
    let is : vs ≡ v ∷ more = first ∙ ap (λ x. x ∷ more) (sym same) in
    let r = l.room in
    let k = ap length is in
    let at = 20 + 16 * n in
    let it = verdict_item (suc n) v in
    let s = sixteen (suc n) v in
    let in-room : at + length it ≤ length out = omega arith in
    let long : length out' ≡ length out = ap length eo ∙ written_long out it at in-room in
    let next : 20 + 16 * suc n ≡ at + length it = omega arith in
    record {
      packet = ap (λ m. written out' (20 + 16 * m) (verdict_items (suc m) more)) en
          ∙ ap (λ o. written o (20 + 16 * suc n) (verdict_items (suc (suc n)) more)) eo
          ∙ ap (λ j. written (written out at it) j (verdict_items (suc (suc n)) more)) next
          ∙ written_then out it (verdict_items (suc (suc n)) more) at (omega arith)
          ∙ ap (λ ws. written out at (verdict_items (suc n) ws)) (sym is)
          ∙ l.packet;
      accepted = ap (λ x. x + accepted_count more) ea
          ∙ add_assoc a (cond (is_accepted v) 1 0) (accepted_count more)
          ∙ ap (λ ws. a + accepted_count ws) (sym is)
          ∙ l.accepted;
      few = few_more a a' n n' (is_accepted v) l.few en ea;
      room = omega arith;
    }

pub left_none : (out : Bytes) (n a : ℕ) (vs : List Verdict) (whole : Bytes) (all : ℕ) → Left out n a vs whole all → vs ≡ [] → (out ≡ whole) × (a ≡ all)
left_none out n a vs whole all l is = (
  sym (written_none out (20 + 16 * n)) ∙ ap (λ ws. written out (20 + 16 * n) (verdict_items (suc n) ws)) (sym is) ∙ l.packet,
  sym (add-zero a) ∙ ap (λ ws. a + accepted_count ws) (sym is) ∙ l.accepted,
)
