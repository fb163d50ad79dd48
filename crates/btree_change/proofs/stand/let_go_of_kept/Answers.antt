use Rattle.std.proofs.Common.{◌≤◌, length, subst, sym}
use Rattle.word_rule.specs.CallerData.{surplus}
use Rattle.btree_change.specs.Kept.{HoldsPath, LeavesBelow}
use Rattle.btree_change.specs.Stands.{kept_above}
use Rattle.btree_change.proofs.stand.let_go_of_kept.Goals as goal

pub let_go_of_path-requires-clause-path : goal.let_go_of_path-requires-clause-path
let_go_of_path-requires-clause-path g c =
    let below = c.requires.path.0 in (below, subst (λ o. HoldsPath c.args.words.now.terms (kept_above o) below c.args.me.now.log.holdings) c.in-Some.is c.requires.path.1)

pub let_go_of_path-requires-clause-surplus : goal.let_go_of_path-requires-clause-surplus
let_go_of_path-requires-clause-surplus g c = subst (λ o. length (kept_above o) ≤ surplus c.args.me.now) c.in-Some.is c.requires.surplus

pub returns-in-Some : goal.returns-in-Some
returns-in-Some g c below holds =
    let k = c.args.me.now in
    subst (λ o. LeavesBelow (length (kept_above o)) below k c.let_go_of_path.new.me) (sym c.in-Some.is)
    (c.let_go_of_path.ensures below (subst (λ o. HoldsPath c.args.words.now.terms (kept_above o) below k.log.holdings) c.in-Some.is holds))
