use Rattle.std.proofs.Common.{◌≡◌, ℕ, List, [], ◌∷◌, ◌++◌, length, take, drop, ap, ◌∙◌, append-nil}
use Rattle.std.proofs.lemmas.List.{take_at, drop_at}
use Rattle.book.specs.Rows.{digits_of}
use Rattle.book.proofs.line_row.line_key.Goals as goal

put_end : (f ys : List ℕ) → length f ≡ 13 → (let xs = f ++ 0 ∷ 0 ∷ 0 ∷ 0 ∷ 0 ∷ 0 ∷ [] in take 13 xs ++ (ys ++ drop 6 (drop 13 xs)) ≡ f ++ ys)
put_end f ys e =
    (λ i. take_at f (0 ∷ 0 ∷ 0 ∷ 0 ∷ 0 ∷ 0 ∷ []) 13 e i ++ (ys ++ drop 6 (drop_at f (0 ∷ 0 ∷ 0 ∷ 0 ∷ 0 ∷ 0 ∷ []) 13 e i)))
    ∙ ap (λ t. f ++ t) (append-nil ys)

pub returns-clause-is : goal.returns-clause-is
returns-clause-is c =
    let f = c.copy_from_slice.new.self in
    let e = c.copy_from_slice.ensures.len in
    let six = ap (λ t. length (take 6 t)) (drop_at f (0 ∷ 0 ∷ 0 ∷ 0 ∷ 0 ∷ 0 ∷ []) 13 e) in
    put_end f c.write_digits.new.places e
    ∙ (λ i. (c.copy_from_slice.ensures.after ∙ c.entry_key.ensures.is) i ++ (c.write_digits.ensures ∙ ap (λ k. digits_of k c.args.number.value) six) i)
