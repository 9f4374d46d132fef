-- What first look answers: post's answer on a new small book.
use Rattle.std.specs.Prelude.{ℕ, ◌<◌, ◌≤◌, length, Ok, Err}
use Rattle.octets.specs.Classes.{Bytes}
use Rattle.register.specs.Fives.{held}
use Rattle.register.specs.Keys.{is_in, listed}
use Rattle.register.specs.Maps.{mapped, kept}
use Rattle.book.specs.Meaning.{BookMeaning, empty_book}
use Rattle.transaction.specs.Checks.{Holds}
use Rattle.promises.specs.Calls.{Handed, Answer, post_answer}

-- the texts of the five registers
pub record Texts : Type 0 where
  pub agencies : Bytes
  pub offices : Bytes
  pub symbols : Bytes
  pub units : Bytes
  pub accounts : Bytes

abbrev pub texts : Bytes → Bytes → Bytes → Bytes → Bytes → Texts
texts alc office symbol unit map = record { agencies = alc; offices = office; symbols = symbol; units = unit; accounts = map }

-- keys of 8, 5, 27 and 2 bytes, and a bit map
abbrev pub texts_hold : Texts → Holds
texts_hold t = held (is_in (listed 8 t.agencies)) (is_in (listed 5 t.offices)) (is_in (listed 27 t.symbols)) (is_in (listed 2 t.units)) (mapped (kept t.accounts))

abbrev pub new_small_book : BookMeaning
new_small_book = empty_book 64 512 16

abbrev pub look_answer : Texts → Handed → Answer
look_answer t x = post_answer (texts_hold t) new_small_book x

-- one number: the packet's length, or the file code
abbrev pub number_of : Answer → ℕ
number_of (Ok p) = length p
number_of (Err code) = code

-- which of the two a number is: a packet has 20 bytes or more, and a file code is below 20
abbrev pub Told : Answer → Type 0
Told (Ok p) = 20 ≤ length p
Told (Err code) = code < 20
