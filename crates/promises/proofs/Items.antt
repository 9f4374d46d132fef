-- The verdicts in a packet, place by place.
use Rattle.std.proofs.Common.{◌≡◌, ℕ, zero, suc, ◌+◌, ◌*◌, List, [], ◌∷◌, ◌++◌, length, take, drop, Some, None, Option, sym, refl, ap, ◌∙◌, arith}
use Rattle.std.specs.List.{slice_get}
use Rattle.std.proofs.lemmas.List.{drop-drop, drop_at, take_at, drop_all, length-append}
use Rattle.octets.specs.Classes.{Bytes}
use Rattle.transaction.specs.declared.verdict.Verdict.{Verdict}
use Rattle.transaction.specs.declared.verdict.Verdict.TheVariants.{Accepted, Refused}
use Rattle.promises.specs.Packets.{file_item, verdict_item, verdict_items, packet_of, accepted_count, packet_length, verdict_at}

item_for : ℕ → Option Verdict → Bytes
item_for n None = []
item_for n (Some v) = verdict_item n v

pub sixteen : (n : ℕ) (v : Verdict) → length (verdict_item n v) ≡ 16
sixteen n Accepted = refl
sixteen n (Refused c r k) = refl

items_at : (vs : List Verdict) (n k : ℕ) → take 16 (drop (16 * k) (verdict_items n vs)) ≡ item_for (n + k) (slice_get vs k)
unfolding item_for
items_at [] n k = ap (take 16) (drop_all {X = ℕ} (16 * k) [] (omega arith))
items_at (v ∷ vs) n zero =
    take_at (verdict_item n v) (verdict_items (suc n) vs) 16 (sixteen n v) ∙ ap (λ m. verdict_item m v) (omega arith)
items_at (v ∷ vs) n (suc k) =
    let e : 16 * suc k ≡ 16 + 16 * k = omega arith in
    ap (λ m. take 16 (drop m (verdict_item n v ++ verdict_items (suc n) vs))) e
    ∙ ap (take 16) (sym (drop-drop (16 * k) 16 (verdict_item n v ++ verdict_items (suc n) vs)) ∙ ap (drop (16 * k)) (drop_at (verdict_item n v) (verdict_items (suc n) vs) 16 (sixteen n v)))
    ∙ items_at vs (suc n) k
    ∙ ap (λ m. item_for m (slice_get vs k)) (omega arith)

pub behind_file : (s f : ℕ) (vs : List Verdict) → drop 20 (packet_of s f vs) ≡ verdict_items 1 vs
behind_file s f vs = drop_at (file_item s f (length vs) (accepted_count vs)) (verdict_items 1 vs) 20 refl

verdict_in : (s f : ℕ) (vs : List Verdict) (k : ℕ) → verdict_at k (packet_of s f vs) ≡ item_for (1 + k) (slice_get vs k)
verdict_in s f vs k =
    ap (take 16) (sym (drop-drop (16 * k) 20 (packet_of s f vs)) ∙ ap (drop (16 * k)) (behind_file s f vs))
    ∙ items_at vs 1 k

pub same_at : (s f s' f' : ℕ) (vs ws : List Verdict) (k : ℕ) → slice_get vs k ≡ slice_get ws k → verdict_at k (packet_of s f vs) ≡ verdict_at k (packet_of s' f' ws)
same_at s f s' f' vs ws k e = verdict_in s f vs k ∙ ap (item_for (1 + k)) e ∙ sym (verdict_in s' f' ws k)

items_long : (vs : List Verdict) (n : ℕ) → length (verdict_items n vs) ≡ 16 * length vs
items_long [] n = refl
items_long (v ∷ vs) n = let a = length-append (verdict_item n v) (verdict_items (suc n) vs) in let b = sixteen n v in let c = items_long vs (suc n) in omega arith

pub packet_long : (s f : ℕ) (vs : List Verdict) → length (packet_of s f vs) ≡ packet_length (length vs)
packet_long s f vs =
    let a = length-append (file_item s f (length vs) (accepted_count vs)) (verdict_items 1 vs) in let b = items_long vs 1 in
    let c : length (file_item s f (length vs) (accepted_count vs)) ≡ 20 = refl in omega arith
