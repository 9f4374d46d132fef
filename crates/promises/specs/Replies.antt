-- What each call may answer, and the answers of a list of calls.
use Rattle.std.specs.Prelude.{◌≡◌, List, [], ◌∷◌, Option}
use Rattle.book.specs.declared.mark.Counts.{Counts}
use Rattle.book.specs.declared.sought.Sought.{Sought}
use Rattle.book.specs.Meaning.{BookMeaning}
use Rattle.book.specs.Told.{EntryTold, MaySeek}
use Rattle.transaction.specs.Checks.{Holds}
use Rattle.promises.specs.Calls.{Answer, Call, checking, posting, showing, seeking, counting, called, check_answer, post_answer, show_answer, count_answer}

pub data Reply : Type 0 where
  -- a packet or a file code
  of_file : Answer → Reply
  entry_shown : Option EntryTold → Reply
  entry_found : Option Sought → Reply
  counts : Counts → Reply

-- the defined answer; of seek, any that its rule allows
abbrev pub Answers : Holds → BookMeaning → Call → Reply → Type 0
Answers holds b (checking x) r = r ≡ of_file (check_answer holds b x)
Answers holds b (posting x) r = r ≡ of_file (post_answer holds b x)
Answers holds b (showing p) r = r ≡ entry_shown (show_answer b p)
Answers holds b (seeking office) r = (s : Option Sought) × (r ≡ entry_found s) × MaySeek b office s
Answers holds b counting r = r ≡ counts (count_answer b)

-- one for each call, on the book that the calls before it led to
abbrev pub AllAnswer : Holds → BookMeaning → List Call → List Reply → Type 0
AllAnswer holds b [] [] = Unit {0}
AllAnswer holds b [] (r ∷ rs) = ⊥
AllAnswer holds b (c ∷ cs) [] = ⊥
AllAnswer holds b (c ∷ cs) (r ∷ rs) = Answers holds b c r × AllAnswer holds (called holds b c) cs rs
