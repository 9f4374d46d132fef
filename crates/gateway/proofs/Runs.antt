-- Calls made one after the other: one more, cut, and all of them.
use Rattle.std.proofs.Common.{◌≡◌, ℕ, ◌+◌, ◌<◌, ◌≤◌, List, [], ◌∷◌, ◌++◌, length, get_or, take, sym, ap, ◌∙◌, subst}
use Rattle.std.proofs.lemmas.List.{map_more, map_push, take-map, take_all}
use Rattle.book.specs.Meaning.{BookMeaning}
use Rattle.transaction.specs.Checks.{Holds}
use Rattle.calls.specs.Asked.{asked_by, asked, reply_in, replies}
use Rattle.calls.specs.declared.answer.Answer.{Answer}
use Rattle.calls.specs.declared.call.Call as code
use Rattle.promises.specs.Calls.{Call, called, run}
use Rattle.promises.specs.After.{PromisedAfter}
use Rattle.promises.specs.Replies.{Reply, Answers, AllAnswer}
use Rattle.promises.proofs.PromisedAfter.{promises_after}
use Rattle.promises.proofs.SameBook.{run_append}

-- calls made on the book b, which led to the book b'
pub record Made (holds : Holds) (b b' : BookMeaning) (cs : List Call) (rs : List Reply) : Type 0 where
  pub answers : AllAnswer holds b cs rs
  pub book : b' ≡ run holds b cs

all_push : (holds : Holds) (b : BookMeaning) (cs : List Call) (c : Call) (rs : List Reply) (r : Reply) → AllAnswer holds b cs rs → Answers holds (run holds b cs) c r → AllAnswer holds b (cs ++ c ∷ []) (rs ++ r ∷ [])
all_push holds b [] c [] r h k = (k, tt)
all_push holds b [] c (s ∷ rs) r h k = absurd h
all_push holds b (d ∷ cs) c [] r h k = absurd h
all_push holds b (d ∷ cs) c (s ∷ rs) r h k = (h.0, all_push holds (called holds b d) cs c rs r h.1 k)

made_push : (holds : Holds) (b b' b'' : BookMeaning) (cs : List Call) (c : Call) (rs : List Reply) (r : Reply) →
    Made holds b b' cs rs → Answers holds b' c r → b'' ≡ called holds b' c → Made holds b b'' (cs ++ c ∷ []) (rs ++ r ∷ [])
made_push holds b b' b'' cs c rs r h a e = record {
  answers = all_push holds b cs c rs r h.answers (subst (λ x. Answers holds x c r) h.book a);
  book = e ∙ ap (λ x. called holds x c) h.book ∙ sym (run_append holds cs (c ∷ []) b);
}

-- a turn of the loop
pub made_more : (holds : Holds) (b b' b'' : BookMeaning) (xs : List code.Call) (i : ℕ) (d : code.Call) (vs ws : List Answer) (a : Answer) →
    i < length xs → Made holds b b' (asked (take i xs)) (replies vs) →
    Answers holds b' (asked_by (get_or xs i d)) (reply_in a) × (b'' ≡ called holds b' (asked_by (get_or xs i d))) →
    ws ≡ vs ++ a ∷ [] → Made holds b b'' (asked (take (i + 1) xs)) (replies ws)
made_more holds b b' b'' xs i d vs ws a l h e w =
    rw (map_more asked_by xs i d l, w, map_push reply_in vs a)
    (made_push holds b b' b'' (asked (take i xs)) (asked_by (get_or xs i d)) (replies vs) (reply_in a) h e.0 e.1)

-- what a run tells of the calls that it made
pub record Told (holds : Holds) (b b' : BookMeaning) (cs : List Call) (rs : List Reply) : Type 0 where
  pub answers : AllAnswer holds b cs rs
  pub book : b' ≡ run holds b cs
  pub promised : PromisedAfter holds b b' cs

told : (holds : Holds) (b b' : BookMeaning) (cs : List Call) (rs : List Reply) → Made holds b b' cs rs → Told holds b b' cs rs
told holds b b' cs rs h = record { answers = h.answers; book = h.book; promised = promises_after holds b b' cs h.book }

-- cut: with the answers as they are after a reserve, and the book as a call that was not made left it
pub told_cut : (holds : Holds) (b b' b'' : BookMeaning) (xs : List code.Call) (i : ℕ) (vs ws : List Answer) → length vs ≡ i → ws ≡ vs → b'' ≡ b' →
    Made holds b b' (asked (take i xs)) (replies vs) → Told holds b b'' (take (length ws) (asked xs)) (replies ws)
told_cut holds b b' b'' xs i vs ws long w e h =
    let cs : asked (take i xs) ≡ take (length ws) (asked xs) = sym (take-map asked_by i xs) ∙ ap (λ n. take n (asked xs)) (sym (ap length w ∙ long)) in
    told holds b b'' (take (length ws) (asked xs)) (replies ws)
    (subst (λ x. Made holds b x (take (length ws) (asked xs)) (replies ws)) (sym e)
    (subst (λ ys. Made holds b b' (take (length ws) (asked xs)) (replies ys)) (sym w)
    (subst (λ ys. Made holds b b' ys (replies vs)) cs h)))

pub told_all : (holds : Holds) (b b' : BookMeaning) (xs : List code.Call) (i : ℕ) (rs : List Reply) → length xs ≤ i → Made holds b b' (asked (take i xs)) rs → Told holds b b' (asked xs) rs
told_all holds b b' xs i rs l h = told holds b b' (asked xs) rs (subst (λ ys. Made holds b b' (asked ys) rs) (take_all i xs l) h)
