use Rattle.std.proofs.Common.{subst, sym, ◌∙◌}
use Rattle.tree_descent.proofs.Loading.{keeps_then}
use Rattle.tree_descent.proofs.Refusing.{refused_after}
use Rattle.fence_move.specs.Spines.{HoldsLeafPair}
use Rattle.btree_change.specs.Stands.{HasCause}
use Rattle.btree_change.proofs.FarLeaves.{shows_full_next}
use Rattle.btree_change.proofs.NoRoom.{any_full, if_full}
use Rattle.btree_change.proofs.Preceding.{still_no_room}
use Rattle.btree_change.proofs.beyond.refused_far.Goals as goal

pub say_full-requires-clause-table : goal.say_full-requires-clause-table
say_full-requires-clause-table c = c.in-None.ensures.same.calls.caller.table ∙ c.requires.table

pub say_full-requires-clause-shows : goal.say_full-requires-clause-shows
say_full-requires-clause-shows c =
    let leaf = c.args.far.now.leaf in let right = c.args.right.now in let m = c.args.member.now in let k1 = c.refused_next.new.me in let free = c.in-None.ensures.free in
    shows_full_next c.args.words.now.terms leaf.node leaf.content right.node right.content m k1 (subst (HoldsLeafPair leaf.node leaf.content right.node right.content) (sym free.0) c.requires.leaves.0) c.requires.leaves.1 c.requires.here free.3 c.requires.free free.1
    (still_no_room m.span.first c.args.me.now k1 c.in-None.ensures.same (c.requires.cause c.in-NoneFree.is))

pub returns-in-Some-clause-full : goal.returns-in-Some-clause-full
returns-in-Some-clause-full c = if_full c.in-Some.answer (λ never. absurd never) c.in-Some.ensures.never_full

pub returns-in-NoneFree-clause-refused : goal.returns-in-NoneFree-clause-refused
returns-in-NoneFree-clause-refused c = refused_after c.args.words.now.terms c.args.member.now c.say_full.result c.args.me.now c.refused_next.new.me c.say_full.new.me c.in-None.ensures.free.0 c.in-None.ensures.same c.say_full.ensures.refused

pub returns-in-NoneFree-clause-full : goal.returns-in-NoneFree-clause-full
returns-in-NoneFree-clause-full c =
    let loads = keeps_then c.args.me.now c.refused_next.new.me c.say_full.new.me c.in-None.ensures.same.loads c.say_full.ensures.loads in
    any_full c.say_full.result (subst (λ w. HasCause w c.args.member.now.span.first c.args.me.now c.say_full.new.me) (sym c.in-NoneFree.is) loads)
