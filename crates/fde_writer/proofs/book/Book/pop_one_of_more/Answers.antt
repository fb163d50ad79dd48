use Rattle.std.proofs.Common.{sym}
use Rattle.fde_writer.proofs.Books.{popped, unpopped}
use Rattle.fde_writer.proofs.book.Book.pop_one_of_more.Goals as goal

pub returns-clause-pops : goal.returns-clause-pops
returns-clause-pops c =
    let n = c.get_mut.follows.lender c.pop.new.self in
    popped c.args.key c.args.self.now c.in-Some.stack.now c.pop.new.self c.self.inside.stands n c.self.view_is (sym c.in-Some.ensures.value) (c.get_mut.follows.holds c.pop.new.self) c.pop.result c.pop.ensures.latest

pub returns-clause-none : goal.returns-clause-none
returns-clause-none c =
    let n = c.get_mut.follows.lender c.pop.new.self in
    unpopped c.args.key c.args.self.now c.in-Some.stack.now c.pop.new.self c.self.inside.stands n c.self.view_is (sym c.in-Some.ensures.value) (c.get_mut.follows.holds c.pop.new.self) c.pop.result c.pop.ensures.latest c.pop.ensures.none
