use Rattle.std.proofs.Common.{◌≡◌, suc, ◌-◌}
use Rattle.book.specs.Meaning.{line_at}
use Rattle.file.specs.Records.{records}
use Rattle.promises.specs.Own.{lines_of, no_lines}
use Rattle.transaction.specs.Details.{details_of}
use Rattle.settle.proofs.Lines.{none_of}
use Rattle.settle.proofs.candidate.Candidate.has_no_line.Given as goal

-- the numbers that are left give the whole
abbrev pub invariant-loop-number : goal.invariant-loop-number
invariant-loop-number g l =
    none_of l.number (suc l.number-end - l.number) (line_at (g.B.Book.meaning l.book) l.pair) ≡ no_lines 1 (lines_of l.self.sound.transaction (details_of (records l.self.sound.body.now))) (line_at (g.B.Book.meaning l.book) l.pair)
