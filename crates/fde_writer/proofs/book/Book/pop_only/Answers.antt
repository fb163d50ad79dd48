use Rattle.std.proofs.Common.{sym}
use Rattle.fde_writer.proofs.Books.{taken_out}
use Rattle.fde_writer.proofs.book.Book.pop_only.Goals as goal

pub returns : goal.returns
returns c =
    taken_out c.args.key c.into_only.result c.args.self.now c.in-Some.stack c.self.inside.stands c.remove.new.self c.self.view_is (sym c.in-Some.ensures.value) c.in-Some.ensures.updates c.in-Some.ensures.entries c.into_only.ensures
