use Rattle.settle.proofs.Entering.{own_ready, own_entered}
use Rattle.settle.proofs.candidate.Candidate.enter_own.Goals as goal

pub enter_lines-requires : goal.enter_lines-requires
enter_lines-requires g c =
    let s = c.args.self.now.sound in
    own_ready (g.B.Book.meaning c.args.book.now) c.args.day s.transaction s.details s.body.now c.requires c.in-Some.pair c.in-Some.ensures (g.B.Book.meaning c.enter_entry.new.book) c.enter_entry.ensures c.args.self.now.relied

pub returns-in-Some : goal.returns-in-Some
returns-in-Some g c =
    let s = c.args.self.now.sound in
    own_entered (g.B.Book.meaning c.args.book.now) c.args.day s.transaction s.details s.body.now c.requires c.in-Some.pair c.in-Some.ensures (g.B.Book.meaning c.enter_entry.new.book) c.enter_entry.ensures (g.B.Book.meaning c.enter_lines.new.book) c.enter_lines.ensures
