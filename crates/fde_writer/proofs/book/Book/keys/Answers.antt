use Rattle.std.proofs.Common.{◌≡◌, ◌++◌, ◌∙◌, ◌<◌, drop, take, length, subst, arith}
use Rattle.std.proofs.lemmas.List.{length-set}
use Rattle.std.specs.Map.{keys_of}
use Rattle.fde_writer.proofs.Filling.{filled, filled_by, one_more, stays_full, stays_so}
use Rattle.fde_writer.proofs.book.Book.keys.Goals as goal

pub returns-then-count-room-clause-written : goal.returns-then-count-room-clause-written
returns-then-count-room-clause-written c =
    let at = c.loop-key in
    stays_full at.room at.key-iterator _ at.count c.if-count-room.true at.invariant.written ∙ filled_by c.args.room.now c.args.self.now

pub loop-key-preserved : goal.loop-key-preserved
loop-key-preserved c =
    let at = c.loop-key in
    let n = at.count in
    let room = at.room in
    let whole = filled c.args.room.now (keys_of c.args.self.now) in
    let other = c.if-count-room.false in
    let below : n < length room = (let within = at.invariant.within in omega (arith, other)) in
    let long = length-set room n c.in-Some.key.now in
    record {
      written = one_more room c.next.new.self n c.in-Some.key.now below ∙ subst (λ ys. take n room ++ filled (drop n room) ys ≡ whole) c.in-Some.ensures.steps at.invariant.written;
      long = long ∙ at.invariant.long;
      within = omega (arith, long, below);
    }

pub returns-clause-written : goal.returns-clause-written
returns-clause-written c =
    let at = c.loop-key in
    stays_so at.room at.key-iterator _ at.count c.in-None.ensures.steps.0 at.invariant.written ∙ filled_by c.args.room.now c.args.self.now
