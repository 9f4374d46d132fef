-- What is read from a packet is what was said.
use Rattle.std.proofs.Common.{◌≡◌, ℕ, zero, suc, ◌+◌, ◌-◌, ◌*◌, ◌/◌, ◌%◌, ◌^◌, ◌<◌, ◌≤◌, Bool, true, false, cond, not, eqb, ltb, leb, List, [], ◌∷◌, map, length, take, drop, Ok, Err, All, Result, sym, refl, ap, ◌∙◌, subst, ap₂, mul-le-mul_right, pow-suc, arith}
use Rattle.std.proofs.lemmas.List.Elements.{All-nil, All-head, All-cons, All-tail}
use native.Mathlib.Nat.{pow-le-pow_right}
use Rattle.std.proofs.lemmas.List.{take_at, drop_at, length-drop}
use Rattle.std.proofs.lemmas.Bool.{ne_eqb, ltb-false, and_parts, leb-true}
use Rattle.octets.specs.Classes.{Bytes, is_digit}
use Rattle.octets.specs.Parts.{columns}
use Rattle.octets.specs.Values.{digit_of, value_of}
use Rattle.file.specs.declared.opening.Opening.{Opening}
use Rattle.file.specs.declared.opening.OpeningFault.{OpeningFault}
use Rattle.file.specs.declared.opening.OpeningFault.TheVariants.{TooLong, NoEnd, NoIdentifier, BadBatchHeader, NoTransaction}
use Rattle.file.specs.Openings.{opening, longest, ends_in_feed, is_file_identifier, is_batch_header, record_at, opened}
use Rattle.file.specs.Records.{records, is_header, until_header, transactions, transactions_of}
use Rattle.file.proofs.Tallies.{records_few}
use Rattle.book.specs.Meaning.{BookMeaning}
use Rattle.transaction.specs.declared.verdict.Verdict.{Verdict}
use Rattle.transaction.specs.declared.verdict.Verdict.TheVariants.{Accepted, Refused}
use Rattle.transaction.specs.Checks.{Holds}
use Rattle.promises.specs.Judging.{judge}
use Rattle.promises.specs.Entering.{entered, verdicts}
use Rattle.promises.specs.Packets.{two, four, verdict_item, verdict_items, is_accepted, accepted_count, packet_of, packet_length, little, verdict_from, verdicts_from, PacketRead, read_packet}
use Rattle.promises.specs.Calls.{Handed, too_small, post_opened, check_gate, post_gate, checked, posted}
use Rattle.promises.specs.ReadBack.{VerdictFits, ReadsAs, ReadsBack}
use Rattle.promises.proofs.Fits.{verdicts_fit}
use Rattle.promises.proofs.Items.{sixteen, behind_file, packet_long}
use Rattle.promises.proofs.OneReplaced.{packed, check_opens}
use Rattle.promises.proofs.Posts.{no_ok, gate_opens}
use Rattle.promises.proofs.Replaces.{length_verdicts}

-- ---- numbers

pub little_two : (n : ℕ) → n < 65536 → little (two n) ≡ n
little_two n h = omega arith

pub little_four : (n : ℕ) → n < 4294967296 → little (four n) ≡ n
little_four n h =
    let e : n / 65536 ≡ n / 256 / 256 = omega arith in
    let f : n / 16777216 ≡ n / 256 / 256 / 256 = omega arith in
    let p : 256 * (n / 256) + n % 256 ≡ n = omega arith in
    let q : 256 * (n / 256 / 256) + n / 256 % 256 ≡ n / 256 = omega arith in
    let r : 256 * (n / 256 / 256 / 256) + n / 256 / 256 % 256 ≡ n / 256 / 256 = omega arith in
    let s : n / 256 / 256 / 256 < 256 = omega arith in
    let t : n / 256 / 256 / 256 % 256 ≡ n / 256 / 256 / 256 = omega arith in
    let u : n / 65536 % 256 ≡ n / 256 / 256 % 256 = ap (λ m. m % 256) e in
    let v : n / 16777216 % 256 ≡ n / 256 / 256 / 256 % 256 = ap (λ m. m % 256) f in
    omega arith

-- ---- verdicts

verdict_back : (n : ℕ) (v : Verdict) → VerdictFits v → verdict_from (verdict_item n v) ≡ v
verdict_back n Accepted h = refl
verdict_back n (Refused c r k) h =
    let hc : c < 65536 = h.1 in let hr : r < 4294967296 = h.2 in let hk : k < 65536 = h.3 in let pos = h.0 in
    let a = little_two c hc in let b = little_four r hr in let d = little_two k hk in
    let z = ne_eqb c 0 (λ e. omega arith) in
    ap (λ m. cond (eqb m 0) Accepted (Refused m (little (four r)) (little (two k)))) a
    ∙ ap (λ t. cond t Accepted (Refused c (little (four r)) (little (two k)))) z
    ∙ ap₂ (λ x y. Refused c x y) b d

verdicts_back : (n : ℕ) (vs : List Verdict) → All VerdictFits vs → verdicts_from (length vs) (verdict_items n vs) ≡ vs
verdicts_back n [] h = refl
verdicts_back n (v ∷ vs) h =
    ap₂ (λ x y. x ∷ y)
    (ap verdict_from (take_at (verdict_item n v) (verdict_items (suc n) vs) 16 (sixteen n v)) ∙ verdict_back n v (All-head VerdictFits v vs h))
    (ap (verdicts_from (length vs)) (drop_at (verdict_item n v) (verdict_items (suc n) vs) 16 (sixteen n v)) ∙ verdicts_back (suc n) vs (All-tail VerdictFits v vs h))

pub accepted_few : (vs : List Verdict) → accepted_count vs ≤ length vs
accepted_few [] = omega arith
accepted_few (v ∷ vs) = go (is_accepted v) (accepted_few vs)
  where
    go : (t : Bool) → accepted_count vs ≤ length vs → cond t 1 0 + accepted_count vs ≤ suc (length vs)
    go true h = omega arith
    go false h = omega arith

abbrev said : ℕ → ℕ → List Verdict → PacketRead
said s f vs = record { stated = s; found = f; transactions = length vs; accepted = accepted_count vs; verdicts = vs }

pub packet_back : (s f : ℕ) (vs : List Verdict) → s < 4294967296 → f < 4294967296 → length vs < 4294967296 → All VerdictFits vs → read_packet (packet_of s f vs) ≡ said s f vs
packet_back s f vs hs hf hn fits =
    let few = accepted_few vs in
    let a = little_four s hs in let b = little_four f hf in let c = little_four (length vs) hn in
    let d = little_four (accepted_count vs) (omega arith) in
    let e : verdicts_from (little (four (length vs))) (drop 20 (packet_of s f vs)) ≡ vs =
    ap₂ (λ n bs. verdicts_from n bs) c (behind_file s f vs) ∙ verdicts_back 1 vs fits in
    λ i. record { stated = a i; found = b i; transactions = c i; accepted = d i; verdicts = e i }

-- ---- a file that opens is short, and so are its parts

pub short_opening : (file : Bytes) (o : Opening) → opening file ≡ Ok o → (length file ≤ 16777216) × (o ≡ opened (record_at 2 file))
short_opening file o h = go (ltb longest (length file)) refl (not (ends_in_feed file)) (not (is_file_identifier (record_at 1 file))) (not (is_batch_header (record_at 2 file))) (not (is_header (record_at 3 file))) h
  where
    go : (u : Bool) → ltb longest (length file) ≡ u → (v w x y : Bool) →
        cond {A = Result Opening OpeningFault} u (Err TooLong) (cond v (Err NoEnd) (cond w (Err NoIdentifier) (cond x (Err BadBatchHeader) (cond y (Err NoTransaction) (Ok (opened (record_at 2 file))))))) ≡ Ok o →
        (length file ≤ 16777216) × (o ≡ opened (record_at 2 file))
    go true e v w x y k = absurd (no_ok o TooLong k)
    go false e true w x y k = absurd (no_ok o NoEnd k)
    go false e false true x y k = absurd (no_ok o NoIdentifier k)
    go false e false false true y k = absurd (no_ok o BadBatchHeader k)
    go false e false false false true k = absurd (no_ok o NoTransaction k)
    go false e false false false false k = let l = ltb-false longest (length file) e in (omega arith, cc)

digit_few : (b : ℕ) → digit_of b ≤ 9
digit_few b = go (is_digit b) refl
  where
    go : (v : Bool) → is_digit b ≡ v → cond v (b - 48) 0 ≤ 9
    go true e = let p = and_parts (leb 48 b) (leb b 57) e in let q = leb-true b 57 p.1 in omega arith
    go false e = omega arith

value_few : (bs : Bytes) → value_of bs < 10 ^ length bs
value_few [] = omega arith
value_few (b ∷ bs) =
    let k = 10 ^ length bs in
    let d = digit_few b in let h = value_few bs in
    let w : 10 ^ suc (length bs) ≡ 10 ^ length bs * 10 = pow-suc 10 (length bs) in
    let m : digit_of b * k ≤ 9 * k = mul-le-mul_right k d in
    omega arith

take_few : {X : Type 0} (n : ℕ) (xs : List X) → length (take n xs) ≤ n
take_few zero xs = omega arith
take_few (suc n) [] = omega arith
take_few (suc n) (x ∷ xs) = let h = take_few n xs in omega arith

stated_few : (r : Bytes) → value_of (columns 6 8 r) < 4294967296
stated_few r =
    let a = value_few (columns 6 8 r) in
    let n : length (columns 6 8 r) ≤ 8 = take_few 8 (drop 5 r) in
    let p : 10 ^ length (columns 6 8 r) ≤ 10 ^ 8 = pow-le-pow_right (omega arith) n in
    let q : 10 ^ length (columns 6 8 r) ≤ 100000000 = p in
    omega arith

until_few : (rs : List Bytes) → length (until_header rs) ≤ length rs
until_few [] = omega arith
until_few (r ∷ rs) = go (is_header r) (until_few rs)
  where
    go : (v : Bool) → length (until_header rs) ≤ length rs → length (cond v [] (r ∷ until_header rs)) ≤ suc (length rs)
    go true h = omega arith
    go false h = omega arith

pub transactions_few : (rs : List Bytes) → length (transactions rs) ≤ length rs
transactions_few [] = omega arith
transactions_few (r ∷ rs) = go (is_header r) (transactions_few rs)
  where
    go : (v : Bool) → length (transactions rs) ≤ length rs → length (cond v ((r ∷ until_header rs) ∷ transactions rs) (transactions rs)) ≤ suc (length rs)
    go true h = omega arith
    go false h = omega arith

each_short : (n : ℕ) (rs : List Bytes) → length rs ≤ n → All (λ t. length t ≤ n) (transactions rs)
each_short n [] h = All-nil (λ t. length t ≤ n)
each_short n (r ∷ rs) h = go (is_header r) (until_few rs) (each_short n rs (omega arith))
  where
    go : (v : Bool) → length (until_header rs) ≤ length rs → All (λ t. length t ≤ n) (transactions rs) → All (λ t. length t ≤ n) (cond v ((r ∷ until_header rs) ∷ transactions rs) (transactions rs))
    go true l k = All-cons (λ t. length t ≤ n) (r ∷ until_header rs) (transactions rs) (omega arith) k
    go false l k = k

-- ---- whole files

posted_fit : (holds : Holds) (day : ℕ) (ts : List (List Bytes)) (b : BookMeaning) → All (λ t. length t ≤ 16777216) ts → All VerdictFits (verdicts holds b day ts)
posted_fit holds day [] b h = All-nil VerdictFits
posted_fit holds day (t ∷ ts) b h =
    All-cons VerdictFits (judge holds b day t) (verdicts holds (entered holds b day t) day ts) (verdicts_fit holds b day t (All-head (λ t. length t ≤ 16777216) t ts h))
    (posted_fit holds day ts (entered holds b day t) (All-tail (λ t. length t ≤ 16777216) t ts h))

checked_fit : (holds : Holds) (day : ℕ) (b : BookMeaning) (ts : List (List Bytes)) → All (λ t. length t ≤ 16777216) ts → All VerdictFits (map (judge holds b day) ts)
checked_fit holds day b [] h = All-nil VerdictFits
checked_fit holds day b (t ∷ ts) h =
    All-cons VerdictFits (judge holds b day t) (map (judge holds b day) ts) (verdicts_fit holds b day t (All-head (λ t. length t ≤ 16777216) t ts h))
    (checked_fit holds day b ts (All-tail (λ t. length t ≤ 16777216) t ts h))

length_checked : (f : List Bytes → Verdict) (ts : List (List Bytes)) → length (map f ts) ≡ length ts
length_checked f [] = refl
length_checked f (t ∷ ts) = ap suc (length_checked f ts)

pub post_room : (b : BookMeaning) (x : Handed) (o : Opening) → post_gate b x ≡ Ok o → too_small x ≡ false
post_room b x o h = go (opening x.file) h
  where
    past : (u : Bool) (v : Bool) → too_small x ≡ v → (w : Bool) (i : Opening) → cond {A = Result Opening ℕ} u (Err 6) (cond v (Err 7) (cond w (Err 8) (Ok i))) ≡ Ok o → too_small x ≡ false
    past true v e w i k = absurd (no_ok o 6 k)
    past false true e w i k = absurd (no_ok o 7 k)
    past false false e w i k = e

    go : (r : Result Opening OpeningFault) → post_opened b x r ≡ Ok o → too_small x ≡ false
    go (Err f) k = absurd (no_ok o _ k)
    go (Ok i) k = past _ (too_small x) refl _ i k

reads_as : (x : Handed) (vs : List Verdict) (o : Opening) (p : Bytes) → opening x.file ≡ Ok o → too_small x ≡ false → length vs ≡ length (transactions_of x.file) →
    (All (λ t. length t ≤ 16777216) (transactions_of x.file) → All VerdictFits vs) → p ≡ packet_of o.stated (length (records x.file)) vs → ReadsAs x vs p
reads_as x vs o p opens room long fits is =
    let s = short_opening x.file o opens in let short = s.0 in
    let f = records_few x.file in
    let d : length (drop 2 (records x.file)) ≤ length (records x.file) = dropped in
    let t = transactions_few (drop 2 (records x.file)) in
    let each = each_short 16777216 (drop 2 (records x.file)) (omega arith) in
    let st : o.stated < 4294967296 = subst (λ n. n < 4294967296) (sym (ap (λ u. u.stated) s.1)) (stated_few (record_at 2 x.file)) in
    let l = packet_long o.stated (length (records x.file)) vs in
    let r = ltb-false x.room (packet_length (length (transactions_of x.file))) room in
    let pl : length p ≡ packet_length (length vs) = ap length is ∙ l in
    record { opened = o; opens = opens; long = pl; room = omega arith; reads = ap read_packet is ∙ packet_back o.stated (length (records x.file)) vs st (omega arith) (omega arith) (fits each) }
  where
    dropped : length (drop 2 (records x.file)) ≤ length (records x.file)
    dropped = let e = length-drop 2 (records x.file) in omega arith

pub reads_back : ReadsBack
reads_back holds b x p = (
  (λ ok.
      let a = packed x (checked holds b x) (check_gate x) p ok in let c = check_opens x a.opened a.gate in
      reads_as x (checked holds b x) a.opened p c.0 c.1 (length_checked (judge holds b x.day) (transactions_of x.file)) (checked_fit holds x.day b (transactions_of x.file)) a.is),
  (λ ok.
      let a = packed x (posted holds b x) (post_gate b x) p ok in
      reads_as x (posted holds b x) a.opened p (gate_opens b x a.opened a.gate) (post_room b x a.opened a.gate) (length_verdicts holds x.day (transactions_of x.file) b) (posted_fit holds x.day (transactions_of x.file) b) a.is),
)
