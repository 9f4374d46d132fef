use Rattle.std.proofs.Common.{ℕ, List, codes, unwrap_or, ap, ◌∙◌, Bor}
use Rattle.words.proofs.Choices.{or_known, map-unwrap_or}
use Rattle.words.proofs.words_of.Goals as goal

abbrev now : Bor (List ℕ) → List ℕ
now s = s.now

pub returns : goal.returns
returns c =
    let of_register = or_known now _ _ c.or.result c.or.ensures c.file_words.ensures c.register_words.ensures in
    let of_action = or_known now _ _ c.or-2.result c.or-2.ensures of_register c.action_words.ensures in
    let of_field = or_known now _ _ c.or-3.result c.or-3.ensures of_action c.field_words.ensures in
    let of_record = or_known now _ _ c.or-4.result c.or-4.ensures of_field c.record_words.ensures in
    let of_transaction = or_known now _ _ c.or-5.result c.or-5.ensures of_record c.transaction_words.ensures in
    let of_book = or_known now _ _ c.or-6.result c.or-6.ensures of_transaction c.book_words.ensures in
    ap now c.unwrap_or.ensures ∙ map-unwrap_or now c.or-6.result _ ∙ ap (λ o. unwrap_or o (codes "no such code")) of_book
