use Rattle.std.proofs.Common.{sym}
use Rattle.fde_writer.proofs.Books.{settled}
use Rattle.fde_writer.proofs.book.Book.settle.Goals as goal

pub returns : goal.returns
returns c =
    let n = c.get_mut.follows.lender c.settle.new.self in
    settled c.args.key c.args.self.now c.in-Some.stack.now c.settle.new.self c.self.inside.stands n c.self.view_is (sym c.in-Some.ensures.value) (c.get_mut.follows.holds c.settle.new.self) c.args.places c.settle.ensures
