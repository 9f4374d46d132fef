-- One transaction of a file replaced leaves the others alone.
use Rattle.std.specs.Prelude.{◌≡◌, ℕ, ◌<◌, ◌≤◌, Bool, true, false, ◌⊎◌, List, [], ◌∷◌, ◌++◌, length, Some, Ok, All, Contains, ◌==◌, ◌≢◌}
use Rattle.std.specs.List.{flat_map, slice_get}
use Rattle.octets.specs.Classes.{Bytes}
use Rattle.layout.specs.declared.pair.Pair.{Pair}
use Rattle.file.specs.Openings.{ends_in_feed}
use Rattle.file.specs.Records.{records, is_header, many, first_of, others_of, transactions, transactions_of}
use Rattle.book.specs.Meaning.{BookMeaning}
use Rattle.transaction.specs.Checks.{Holds}
use Rattle.promises.specs.Calls.{Handed, Answer, check_answer, post_answer}
use Rattle.promises.specs.Packets.{verdict_at}
use Rattle.promises.specs.Related.{pairs_in, Enough}

-- whole records, each with its line feed, of which the first and no other begins with `H`
pub record Whole (text : Bytes) : Type 0 where
  pub ended : ends_in_feed text ≡ true
  pub header : is_header (first_of (records text)) ≡ true
  pub one : many is_header (others_of (records text)) ≡ 0

-- a text that is empty or begins with `H`
abbrev pub is_next : Bytes → Bool
is_next [] = true
is_next (b ∷ bs) = b == 72

-- two files, the one with `old` where the other has `new`: a transaction, behind at least the two records of the opening
pub record Replaced (file file' : Bytes) : Type 0 where
  pub front : Bytes
  pub old : Bytes
  pub new : Bytes
  pub rest : Bytes
  pub was : file ≡ front ++ (old ++ rest)
  pub is : file' ≡ front ++ (new ++ rest)
  pub front_ended : ends_in_feed front ≡ true
  pub front_opening : 2 ≤ length (records front)
  pub old_whole : Whole old
  pub new_whole : Whole new
  pub rest_next : is_next rest ≡ true

-- the place of the replaced one, counted from 0, and the other transactions
abbrev pub place_of : {file file' : Bytes} → Replaced file file' → ℕ
place_of r = length (transactions_of r.front)

abbrev pub others : {file file' : Bytes} → Replaced file file' → List (List Bytes)
others r = transactions_of r.front ++ transactions (records r.rest)

-- the pairs of the old one and of the new one
abbrev pub replaced_pairs : Holds → {file file' : Bytes} → Replaced file file' → List Pair
replaced_pairs holds r = pairs_in holds (records r.old) ++ pairs_in holds (records r.new)

abbrev pub NoOtherHas : Holds → {file file' : Bytes} → Replaced file file' → Type 0
NoOtherHas holds r = (p : Pair) → Contains (replaced_pairs holds r) p → Contains (flat_map (pairs_in holds) (others r)) p → ⊥

-- neither file is refused, and in the packets every verdict but the one at the place is the same
abbrev pub SameBut : ℕ → Answer → Answer → Type 0
SameBut place a a' = (p p' : Bytes) → a ≡ Ok p → a' ≡ Ok p' → (k : ℕ) → k ≢ place → verdict_at k p ≡ verdict_at k p'

abbrev pub handed : Bytes → ℕ → ℕ → Handed
handed file day room = record { file = file; day = day; room = room }

-- under check, whatever they share
abbrev pub CheckLeavesOn : Holds → BookMeaning → Type 0
CheckLeavesOn holds b = (file file' : Bytes) (day room room' : ℕ) (r : Replaced file file') →
    SameBut (place_of r) (check_answer holds b (handed file day room)) (check_answer holds b (handed file' day room'))

-- under post, with places enough, where no other transaction has a pair of the old one or of the new one
abbrev pub PostLeavesOn : Holds → BookMeaning → Type 0
PostLeavesOn holds b = (file file' : Bytes) (day room room' : ℕ) (r : Replaced file file') →
    NoOtherHas holds r → Enough b (file ∷ []) → Enough b (file' ∷ []) →
    SameBut (place_of r) (post_answer holds b (handed file day room)) (post_answer holds b (handed file' day room'))

-- of every book, and so of every book that calls led to
abbrev pub CheckLeavesOthers : Type 0
CheckLeavesOthers = (holds : Holds) (b : BookMeaning) → CheckLeavesOn holds b

abbrev pub PostLeavesOthers : Type 0
PostLeavesOthers = (holds : Holds) (b : BookMeaning) → PostLeavesOn holds b

-- and under post the transactions before the replaced one keep their verdicts in any case
abbrev pub PostLeavesEarlier : Type 0
PostLeavesEarlier = (holds : Holds) (b : BookMeaning) (file file' : Bytes) (day room room' : ℕ) (r : Replaced file file') (p p' : Bytes) →
    post_answer holds b (handed file day room) ≡ Ok p → post_answer holds b (handed file' day room') ≡ Ok p' →
    (k : ℕ) → k < place_of r → verdict_at k p ≡ verdict_at k p'

-- ---- chains: a group of pairs of which each transaction has all its pairs, or none

abbrev pub Inside : Holds → (Pair → Bool) → List Bytes → Type 0
Inside holds group t = All (λ p. group p ≡ true) (pairs_in holds t)

abbrev pub Outside : Holds → (Pair → Bool) → List Bytes → Type 0
Outside holds group t = All (λ p. group p ≡ false) (pairs_in holds t)

-- under post, with places enough, every transaction outside a group that has the pairs of the old one and of the new one,
-- and that divides the transactions behind them
abbrev pub PostLeavesUnlinked : Type 0
PostLeavesUnlinked = (holds : Holds) (b : BookMeaning) (file file' : Bytes) (day room room' : ℕ) (r : Replaced file file') (group : Pair → Bool) →
    All (λ p. group p ≡ true) (replaced_pairs holds r) →
    All (λ t. Inside holds group t ⊎ Outside holds group t) (transactions (records r.rest)) →
    Enough b (file ∷ []) → Enough b (file' ∷ []) →
    (p p' : Bytes) → post_answer holds b (handed file day room) ≡ Ok p → post_answer holds b (handed file' day room') ≡ Ok p' →
    (k : ℕ) (t : List Bytes) → k ≢ place_of r → slice_get (transactions_of file) k ≡ Some t → Outside holds group t → verdict_at k p ≡ verdict_at k p'

-- ---- of one book

abbrev pub EarlierLeftOn : Holds → BookMeaning → Type 0
EarlierLeftOn holds b = (file file' : Bytes) (day room room' : ℕ) (r : Replaced file file') (p p' : Bytes) →
    post_answer holds b (handed file day room) ≡ Ok p → post_answer holds b (handed file' day room') ≡ Ok p' →
    (k : ℕ) → k < place_of r → verdict_at k p ≡ verdict_at k p'

abbrev pub UnlinkedLeftOn : Holds → BookMeaning → Type 0
UnlinkedLeftOn holds b = (file file' : Bytes) (day room room' : ℕ) (r : Replaced file file') (group : Pair → Bool) →
    All (λ p. group p ≡ true) (replaced_pairs holds r) →
    All (λ t. Inside holds group t ⊎ Outside holds group t) (transactions (records r.rest)) →
    Enough b (file ∷ []) → Enough b (file' ∷ []) →
    (p p' : Bytes) → post_answer holds b (handed file day room) ≡ Ok p → post_answer holds b (handed file' day room') ≡ Ok p' →
    (k : ℕ) (t : List Bytes) → k ≢ place_of r → slice_get (transactions_of file) k ≡ Some t → Outside holds group t → verdict_at k p ≡ verdict_at k p'
