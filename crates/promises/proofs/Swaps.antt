-- Transactions of which neither has a pair of the other, entered in either order: the same book.
use Rattle.std.proofs.Common.{◌≡◌, ℕ, suc, ◌+◌, ◌≤◌, false, List, [], ◌∷◌, ◌++◌, length, Some, None, All, Option, sym, refl, ap, ◌∙◌, subst, ap₂, arith}
use Rattle.std.proofs.lemmas.List.Elements.{All-nil, All-head, All-tail, All-cons}
use Rattle.octets.specs.Classes.{Bytes}
use Rattle.layout.specs.declared.pair.Pair.{Pair}
use Rattle.layout.specs.declared.set_id.SetId.{SetId}
use Rattle.file.specs.Records.{first_of, others_of, is_detail, many}
use Rattle.book.specs.Lists.{place}
use Rattle.book.specs.Meaning.{BookMeaning, LineHeld, same_pair, under, entry_first, line_first, fresh, line_under, free_entries, free_lines}
use Rattle.book.specs.Actions.{less}
use Rattle.transaction.specs.declared.header.Transaction.{Transaction}
use Rattle.transaction.specs.declared.verdict.Verdict.{Verdict}
use Rattle.transaction.specs.declared.verdict.Verdict.TheVariants.{Accepted, Refused}
use Rattle.transaction.specs.Checks.{Holds}
use Rattle.transaction.specs.Details.{DetailRead, details_of, sum_of}
use Rattle.transaction.specs.Headers.{set_id_of, total_of, own_pair, original_pair}
use Rattle.transaction.specs.Sounds.{reading_in}
use Rattle.promises.specs.Own.{lines_of}
use Rattle.promises.specs.Judging.{judge}
use Rattle.promises.specs.Entering.{entry_of, line_of, taken_from, take_at, apply, apply_if, entered, after}
use Rattle.promises.specs.Related.{listed, pairs_in}
use Rattle.promises.proofs.Tables.{same_pair_is, same_pair_flip, change_other, change_two}
use Rattle.promises.proofs.Orders.{entries_swap, lines_swap}
use Rattle.promises.proofs.Effect.{lines_put, put_own, apply_is}
use Rattle.promises.proofs.Frame.{all_left, all_right, taken_among, Room, Done, nothing, applied, done, judge_alike, entered_outside, entered_used}

lines_past : (p : Pair) (set : SetId) (ds : List DetailRead) (k : ℕ) (l : LineHeld) (ls : List LineHeld) → same_pair p l.pair ≡ false → lines_put p set k ds (place line_first l ls) ≡ place line_first l (lines_put p set k ds ls)
lines_past p set [] k l ls apart = refl
lines_past p set (d ∷ ds) k l ls apart =
    ap (lines_put p set (suc k) ds) (lines_swap (line_under p k (line_of set d)) l apart ls) ∙ lines_past p set ds (suc k) l (place line_first (line_under p k (line_of set d)) ls) apart

lines_two : (p q : Pair) (s u : SetId) (ds es : List DetailRead) (j k : ℕ) (ls : List LineHeld) → same_pair p q ≡ false → lines_put p s j ds (lines_put q u k es ls) ≡ lines_put q u k es (lines_put p s j ds ls)
lines_two p q s u ds [] j k ls apart = refl
lines_two p q s u ds (e ∷ es) j k ls apart =
    lines_two p q s u ds es j (suc k) (place line_first (line_under q k (line_of u e)) ls) apart ∙ ap (lines_put q u (suc k) es) (lines_past p s ds j (line_under q k (line_of u e)) ls apart)

-- no pair of the one list is one of the other
abbrev pub Clear : List Pair → List Pair → Type 0
Clear ps qs = All (λ q. All (λ p. same_pair p q ≡ false) ps) qs

clear_one : (p q : Pair) → Clear (p ∷ []) (q ∷ []) → same_pair p q ≡ false
clear_one p q h = All-head (λ p. same_pair p q ≡ false) p [] (All-head (λ q. All (λ p. same_pair p q ≡ false) (p ∷ [])) q [] h)

own_own : (d e : ℕ) (t u : Transaction) (ds es : List DetailRead) (o w : Option Pair) (b : BookMeaning) → Clear (listed o) (listed w) → put_own d t ds o (put_own e u es w b) ≡ put_own e u es w (put_own d t ds o b)
own_own d e t u ds es None w b h = refl
own_own d e t u ds es (Some p) None b h = refl
own_own d e t u ds es (Some p) (Some q) b h =
    let x = entries_swap (fresh p (entry_of d t)) (fresh q (entry_of e u)) (clear_one p q h) b.entries in
    let y = lines_two p q (set_id_of t) (set_id_of u) (lines_of t ds) (lines_of u es) 1 1 b.lines (clear_one p q h) in
    λ i. record { entries = x i; lines = y i; marks = b.marks; entry_places = b.entry_places; line_places = b.line_places; mark_places = b.mark_places }

take_own : (n e : ℕ) (u : Transaction) (es : List DetailRead) (o w : Option Pair) (b : BookMeaning) → Clear (listed o) (listed w) → take_at n o (put_own e u es w b) ≡ put_own e u es w (take_at n o b)
take_own n e u es None w b h = refl
take_own n e u es (Some p) None b h = refl
take_own n e u es (Some p) (Some q) b h =
    let off : same_pair q p ≡ false = same_pair_flip q p ∙ clear_one p q h in
    let x = change_other entry_first (under p) (less n) (λ a c. refl) (fresh q (entry_of e u)) b.entries off in
    λ i. record { entries = x i; lines = lines_put q (set_id_of u) 1 (lines_of u es) b.lines; marks = b.marks; entry_places = b.entry_places; line_places = b.line_places; mark_places = b.mark_places }

take_take : (n m : ℕ) (o w : Option Pair) (b : BookMeaning) → Clear (listed o) (listed w) → take_at n o (take_at m w b) ≡ take_at m w (take_at n o b)
take_take n m None w b h = refl
take_take n m (Some p) None b h = refl
take_take n m (Some p) (Some q) b h =
    let x = change_two (under p) (under q) (less n) (less m) (λ a. refl) (λ a. refl) (λ a t. rw (same_pair_is a.pair p t) (clear_one p q h)) b.entries in
    λ i. record { entries = x i; lines = b.lines; marks = b.marks; entry_places = b.entry_places; line_places = b.line_places; mark_places = b.mark_places }

all_map : {X : Type 0} (P Q : X → Type 0) → ((x : X) → P x → Q x) → (xs : List X) → All P xs → All Q xs
all_map P Q f [] h = All-nil Q
all_map P Q f (x ∷ xs) h = All-cons Q x xs (f x (All-head P x xs h)) (all_map P Q f xs (All-tail P x xs h))

clear_parts : (ps bs cs ds : List Pair) → Clear (ps ++ bs) (cs ++ ds) → Clear ps cs × Clear ps ds × Clear bs cs × Clear bs ds
clear_parts ps bs cs ds h =
    let l = all_left (λ q. All (λ p. same_pair p q ≡ false) (ps ++ bs)) cs ds h in
    let r = all_right (λ q. All (λ p. same_pair p q ≡ false) (ps ++ bs)) cs ds h in
    let L = λ (q : Pair) (k : All (λ p. same_pair p q ≡ false) (ps ++ bs)). all_left (λ p. same_pair p q ≡ false) ps bs k in
    let R = λ (q : Pair) (k : All (λ p. same_pair p q ≡ false) (ps ++ bs)). all_right (λ p. same_pair p q ≡ false) ps bs k in
    (all_map _ (λ q. All (λ p. same_pair p q ≡ false) ps) L cs l, all_map _ (λ q. All (λ p. same_pair p q ≡ false) ps) L ds r, all_map _ (λ q. All (λ p. same_pair p q ≡ false) bs) R cs l, all_map _ (λ q. All (λ p. same_pair p q ≡ false) bs) R ds r)

taken_clear_left : (t : Transaction) (qs : List Pair) → Clear (listed (original_pair t)) qs → Clear (listed (taken_from t)) qs
taken_clear_left t qs h = all_map (λ q. All (λ p. same_pair p q ≡ false) (listed (original_pair t))) (λ q. All (λ p. same_pair p q ≡ false) (listed (taken_from t))) (λ q k. taken_among (λ p. same_pair p q ≡ false) t k) qs h

flip_all : (q : Pair) (ps : List Pair) → All (λ p. same_pair p q ≡ false) ps → All (λ p. same_pair q p ≡ false) ps
flip_all q ps h = all_map (λ p. same_pair p q ≡ false) (λ p. same_pair q p ≡ false) (λ p e. same_pair_flip q p ∙ e) ps h

clear_row : (p : Pair) (ps qs : List Pair) → All (λ q. same_pair p q ≡ false) qs → Clear ps qs → Clear (p ∷ ps) qs
clear_row p ps [] h k = All-nil (λ q. All (λ p. same_pair p q ≡ false) (p ∷ ps))
clear_row p ps (q ∷ qs) h k =
    let apart : All (λ p. same_pair p q ≡ false) (p ∷ ps) = All-cons (λ p. same_pair p q ≡ false) p ps (All-head (λ q. same_pair p q ≡ false) q qs h) (All-head (λ q. All (λ p. same_pair p q ≡ false) ps) q qs k) in
    All-cons (λ q. All (λ p. same_pair p q ≡ false) (p ∷ ps)) q qs apart (clear_row p ps qs (All-tail (λ q. same_pair p q ≡ false) q qs h) (All-tail (λ q. All (λ p. same_pair p q ≡ false) ps) q qs k))

no_rows : (qs : List Pair) → Clear [] qs
no_rows [] = All-nil (λ q. All (λ p. same_pair p q ≡ false) [])
no_rows (q ∷ qs) = All-cons (λ q. All (λ p. same_pair p q ≡ false) []) q qs (All-nil (λ p. same_pair p q ≡ false)) (no_rows qs)

clear_flip : (ps qs : List Pair) → Clear ps qs → Clear qs ps
clear_flip ps [] h = no_rows ps
clear_flip ps (q ∷ qs) h =
    clear_row q qs ps (flip_all q ps (All-head (λ q. All (λ p. same_pair p q ≡ false) ps) q qs h))
    (clear_flip ps qs (All-tail (λ q. All (λ p. same_pair p q ≡ false) ps) q qs h))

apply_swap : (b : BookMeaning) (d e : ℕ) (t u : Transaction) (ds es : List DetailRead) → Clear (listed (own_pair t) ++ listed (original_pair t)) (listed (own_pair u) ++ listed (original_pair u)) → apply d t ds (apply e u es b) ≡ apply e u es (apply d t ds b)
apply_swap b d e t u ds es h =
    let c = clear_parts (listed (own_pair t)) (listed (original_pair t)) (listed (own_pair u)) (listed (original_pair u)) h in
    let so-ut = taken_clear_left u (listed (own_pair t)) (clear_flip (listed (own_pair t)) (listed (original_pair u)) c.1) in
    let st-uo = taken_clear_left t (listed (own_pair u)) c.2 in
    let st-ut = taken_among (λ q. All (λ p. same_pair p q ≡ false) (listed (taken_from t))) u (taken_clear_left t (listed (original_pair u)) c.3) in
    let O = put_own d t ds (own_pair t) in let W = put_own e u es (own_pair u) in
    let T = take_at (total_of t) (taken_from t) in let V = take_at (total_of u) (taken_from u) in
    ap (apply d t ds) (apply_is e u es b) ∙ apply_is d t ds (V (W b))
    ∙ ap T (sym (take_own (total_of u) d t ds (taken_from u) (own_pair t) (W b) so-ut))
    ∙ take_take (total_of t) (total_of u) (taken_from t) (taken_from u) (O (W b)) st-ut
    ∙ ap (λ x. V (T x)) (own_own d e t u ds es (own_pair t) (own_pair u) b c.0)
    ∙ ap V (take_own (total_of t) e u es (taken_from t) (own_pair u) (O b) st-uo)
    ∙ sym (ap (apply e u es) (apply_is d t ds b) ∙ apply_is e u es (T (O b)))

module _ (holds : Holds) where
  -- the pairs of t are none of u's
  abbrev pub Apart : List Bytes → List Bytes → Type 0
  Apart t u = Clear (pairs_in holds t) (pairs_in holds u)

  applies : (b : BookMeaning) (d : ℕ) (t : List Bytes) (v : Verdict) → judge holds b d t ≡ v → entered holds b d t ≡ apply_if v d (reading_in (first_of t)) (details_of (others_of t)) b
  applies b d t v e = ap (λ w. apply_if w d (reading_in (first_of t)) (details_of (others_of t)) b) e

  entered_swap : (b : BookMeaning) (d e : ℕ) (t u : List Bytes) → Apart t u → judge holds (entered holds b d t) e u ≡ judge holds b e u → judge holds (entered holds b e u) d t ≡ judge holds b d t → entered holds (entered holds b d t) e u ≡ entered holds (entered holds b e u) d t
  entered_swap b d e t u h f g = go (done holds b d t) (done holds b e u)
    where
      go : Done holds b d t → Done holds b e u → entered holds (entered holds b d t) e u ≡ entered holds (entered holds b e u) d t
      go (nothing c r k v is) w = ap (λ x. entered holds x e u) is ∙ sym (applies (entered holds b e u) d t (Refused c r k) (g ∙ v))
      go (applied s v is) (nothing c r k w as_is) = applies (entered holds b d t) e u (Refused c r k) (f ∙ w) ∙ sym (ap (λ x. entered holds x d t) as_is)
      go (applied s v is) (applied z w as_is) =
          let ds = details_of (others_of t) in let es = details_of (others_of u) in
          let clear = subst (λ ps. Clear ps (listed (own_pair z.what) ++ listed (original_pair z.what))) s.pairs (subst (Clear (pairs_in holds t)) z.pairs h) in
          applies (entered holds b d t) e u Accepted (f ∙ w)
          ∙ ap₂ (λ o x. apply_if Accepted e o es x) z.reads is
          ∙ sym (apply_swap b d e s.what z.what ds es clear)
          ∙ sym (ap₂ (λ o x. apply_if Accepted d o ds x) s.reads as_is)
          ∙ sym (applies (entered holds b e u) d t Accepted (g ∙ v))

  -- places enough for both lists together
  pub record Both (b : BookMeaning) (ts us : List (List Bytes)) : Type 0 where
    pub entries : length ts + length us ≤ free_entries b
    pub lines : sum_of (many is_detail) ts + sum_of (many is_detail) us ≤ free_lines b

  second : (b : BookMeaning) (d e : ℕ) (t u : List Bytes) → Apart t u → Room b (t ∷ u ∷ []) → judge holds (entered holds b d t) e u ≡ judge holds b e u
  second b d e t u h r =
      let k = entered_used holds b d t in let ke = k.entries_used in let kl = k.lines_used in let kp = k.entry_places in let kq = k.line_places in
      let re = r.entries in let rl = r.lines in
      judge_alike holds (λ q. All (λ p. same_pair p q ≡ false) (pairs_in holds t)) e (entered holds b d t) b u [] []
      (λ q a. entered_outside holds b d t q a) h
      (record { entries = omega arith; lines = omega arith }) (record { entries = omega arith; lines = omega arith })

  one_past : (d e : ℕ) (t : List Bytes) (us : List (List Bytes)) (b : BookMeaning) → All (Apart t) us → Both b (t ∷ []) us → after holds (entered holds b d t) e us ≡ entered holds (after holds b e us) d t
  one_past d e t [] b h r = refl
  one_past d e t (u ∷ us) b h r =
      let k = entered_used holds b e u in let ke = k.entries_used in let kl = k.lines_used in let kp = k.entry_places in let kq = k.line_places in
      let re = r.entries in let rl = r.lines in
      let f = All-head (Apart t) u us h in
      ap (λ c. after holds c e us)
      (entered_swap b d e t u f (second b d e t u f (record { entries = omega arith; lines = omega arith })) (second b e d u t (clear_flip (pairs_in holds t) (pairs_in holds u) f) (record { entries = omega arith; lines = omega arith })))
      ∙ one_past d e t us (entered holds b e u) (All-tail (Apart t) u us h) (record { entries = omega arith; lines = omega arith })

  pub list_past : (d e : ℕ) (ts us : List (List Bytes)) (b : BookMeaning) → All (λ t. All (Apart t) us) ts → Both b ts us → after holds (after holds b d ts) e us ≡ after holds (after holds b e us) d ts
  list_past d e [] us b h r = refl
  list_past d e (t ∷ ts) us b h r =
      let k = entered_used holds b d t in let ke = k.entries_used in let kl = k.lines_used in let kp = k.entry_places in let kq = k.line_places in
      let re = r.entries in let rl = r.lines in
      list_past d e ts us (entered holds b d t) (All-tail (λ t. All (Apart t) us) t ts h) (record { entries = omega arith; lines = omega arith })
      ∙ ap (λ c. after holds c d ts) (one_past d e t us b (All-head (λ t. All (Apart t) us) t ts h) (record { entries = omega arith; lines = omega arith }))
