use Rattle.std.proofs.Common.{◌≡◌, subst, arith}
use Rattle.btree_lookup.specs.Visits.{SeesBelow}
use Rattle.btree_lookup.proofs.Pairs.{of_all}
use Rattle.btree_lookup.proofs.visit.slot_for.Goals as goal

pub returns-then-slot-lt-HALF-clause-below : goal.returns-then-slot-lt-HALF-clause-below
returns-then-slot-lt-HALF-clause-below g c k count w =
    of_all c.args.words.now.terms c.args.pc k c.args.visit (g.L.Looker.known c.below-slot.new.me) count 8 c.below-slot.result (c.below-slot.ensures.below k count w) c.if-slot-lt-HALF.true (omega arith)

pub returns-clause-below : goal.returns-clause-below
returns-clause-below g c k count w =
    let first = c.below-slot.ensures.below k count w in
    let all : c.below-slot.result ≡ 8 = (let few = c.below-slot.ensures.few in let many = c.if-slot-lt-HALF.false in omega (arith, few, many)) in
    c.below.ensures.below k count (subst (λ n. SeesBelow c.args.words.now.terms c.args.pc k c.args.visit count 8 n (g.L.Looker.known c.below-slot.new.me)) all first)
