use Rattle.std.proofs.Common.{subst, sym, ◌∷◌, []}
use Rattle.btree_change.specs.Kept.{HoldsPath}
use Rattle.btree_change.proofs.FarLeaves.{far_kept, far_nothing, far_steps, far_surplus}
use Rattle.btree_change.proofs.beyond.let_go_far.Goals as goal

pub let_go_of_all-requires-clause-path : goal.let_go_of_all-requires-clause-path
let_go_of_all-requires-clause-path g c =
    let far = c.args.far in let k1 = c.let_go_of_next.new.me in
    subst (λ x. HoldsPath c.args.words.now.terms (x ∷ far.beyond.kept) [] k1.log.holdings) (sym c.kept-lowest.ensures) (far_kept c.args.words.now.terms far c.args.me.now k1 c.requires.holds (c.let_go_of_next.ensures.base c.requires.holds.next) c.let_go_of_next.ensures.same)

pub let_go_of_all-requires-clause-surplus : goal.let_go_of_all-requires-clause-surplus
let_go_of_all-requires-clause-surplus g c = far_surplus c.args.words.now.terms c.args.far c.args.me.now c.let_go_of_next.new.me c.requires.holds (c.let_go_of_next.ensures.base c.requires.holds.next) c.let_go_of_next.ensures.same c.requires.surplus

pub returns-clause-steps : goal.returns-clause-steps
returns-clause-steps g c = far_steps c.args.words.now.terms c.args.far c.args.me.now c.let_go_of_next.new.me c.requires.holds (c.let_go_of_next.ensures.base c.requires.holds.next) c.let_go_of_next.ensures.same c.let_go_of_all.new.me c.let_go_of_all.ensures

pub returns-clause-nothing : goal.returns-clause-nothing
returns-clause-nothing g c = far_nothing c.args.words.now.terms c.args.far c.args.me.now c.let_go_of_next.new.me c.requires.holds (c.let_go_of_next.ensures.base c.requires.holds.next) c.let_go_of_next.ensures.same c.let_go_of_all.new.me c.let_go_of_all.ensures
