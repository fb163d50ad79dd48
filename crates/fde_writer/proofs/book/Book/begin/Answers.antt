use Rattle.fde_writer.proofs.Books.{begun}
use Rattle.fde_writer.proofs.book.Book.begin.Goals as goal

pub returns-in-Ok-insert-clause-pushes : goal.returns-in-Ok-insert-clause-pushes
returns-in-Ok-insert-clause-pushes c =
    begun c.args.key c.args.standing c.args.self.now c.in-Ok.stack c.self.inside.stands c.insert.new.self c.in-Ok-insert.field-0 c.self.view_is c.requires c.in-Ok-insert.ensures.old c.in-Ok-insert.ensures.updates c.in-Ok-insert.ensures.entries
    c.in-Ok.ensures.ok
