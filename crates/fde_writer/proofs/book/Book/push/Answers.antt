use Rattle.std.proofs.Common.{◌≡◌, ◌++◌, ◌∷◌, [], sym}
use Rattle.fde_writer.specs.Standing.{Rewrites, standing_under}
use Rattle.fde_writer.proofs.Books.{on_err, on_ok, pushed, unwritten}
use Rattle.fde_writer.proofs.book.Book.push.Goals as goal

pub returns-in-Some-clause-pushes : goal.returns-in-Some-clause-pushes
returns-in-Some-clause-pushes c =
    let under = c.in-Some.stack.now in
    let now = c.args.self.now in
    let n = c.get_mut.follows.lender c.push.new.self in
    on_ok (c.push.new.self ≡ under ++ c.args.standing ∷ []) (Rewrites c.args.key (standing_under c.args.key now) (standing_under c.args.key now ++ c.args.standing ∷ []) now n.entries)
    (pushed c.args.key now under c.push.new.self c.self.inside.stands n c.self.view_is (sym c.in-Some.ensures.value) (c.get_mut.follows.holds c.push.new.self) c.args.standing) c.push.result c.push.ensures.ok

pub returns-in-Some-clause-err : goal.returns-in-Some-clause-err
returns-in-Some-clause-err c =
    let under = c.in-Some.stack.now in
    let now = c.args.self.now in
    let n = c.get_mut.follows.lender c.push.new.self in
    on_err (c.push.new.self ≡ under) (n.entries ≡ now)
    (unwritten c.args.key now under c.push.new.self c.self.inside.stands n c.self.view_is (sym c.in-Some.ensures.value) (c.get_mut.follows.holds c.push.new.self)) c.push.result c.push.ensures.err
