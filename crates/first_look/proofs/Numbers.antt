-- From post's answer to one number, and from the texts to their registers.
use Rattle.std.proofs.Common.{◌≡◌, ℕ, List, Ok, Err, ap, ◌∙◌, ap₂}
use Rattle.octets.specs.Classes.{Bytes}
use Rattle.calls.specs.Codes.{file_code}
use Rattle.calls.specs.declared.fault.FileFault.{FileFault}
use Rattle.register.specs.Fives.{held}
use Rattle.register.specs.Keys.{is_in, listed}
use Rattle.register.specs.Maps.{mapped, kept}
use Rattle.book.specs.Meaning.{BookMeaning}
use Rattle.transaction.specs.Checks.{Holds}
use Rattle.promises.specs.Calls.{Handed, Answer, post_answer}
use Rattle.filing.specs.Admitting.{with_code}
use Rattle.filing.specs.Filed.{length_of}
use Rattle.first_look.specs.Looks.{Texts, texts_hold, new_small_book, look_answer, number_of}

pub length_number : (n : ℕ) (a : Answer) → with_code (Ok n) ≡ length_of a → n ≡ number_of a
length_number n (Ok p) e = cc
length_number n (Err c) e = cc

pub code_number : (f : FileFault) (a : Answer) → with_code {X = ℕ} (Err f) ≡ length_of a → file_code f ≡ number_of a
code_number f (Ok p) e = cc
code_number f (Err c) e = cc

pub texts_hold_law : (t : Texts) (gs os ss us : List Bytes) (m : Bytes) → gs ≡ listed 8 t.agencies → os ≡ listed 5 t.offices → ss ≡ listed 27 t.symbols → us ≡ listed 2 t.units → m ≡ kept t.accounts →
    held (is_in gs) (is_in os) (is_in ss) (is_in us) (mapped m) ≡ texts_hold t
texts_hold_law t gs os ss us m ea eo es eu em =
    ap₂ (λ x y. held (is_in x) (is_in y) (is_in ss) (is_in us) (mapped m)) ea eo
    ∙ ap₂ (λ x y. held (is_in (listed 8 t.agencies)) (is_in (listed 5 t.offices)) (is_in x) (is_in y) (mapped m)) es eu
    ∙ ap (λ x. held (is_in (listed 8 t.agencies)) (is_in (listed 5 t.offices)) (is_in (listed 27 t.symbols)) (is_in (listed 2 t.units)) (mapped x)) em

pub look_is : (t : Texts) (holds : Holds) (b : BookMeaning) (x : Handed) → holds ≡ texts_hold t → b ≡ new_small_book → post_answer holds b x ≡ look_answer t x
look_is t holds b x eh eb = ap₂ (λ h c. post_answer h c x) eh eb
