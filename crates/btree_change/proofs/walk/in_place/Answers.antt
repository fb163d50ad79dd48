use Rattle.std.proofs.Common.{subst, sym, ◌∙◌}
use Rattle.tree_descent.proofs.Refusing.{shows_full}
use Rattle.leaf_change.proofs.Answering.{here_ends, here_lowest, here_surplus}
use Rattle.leaf_change.proofs.Releasing.{lowest_may}
use Rattle.btree_change.specs.Stands.{HasCause, HasWayOn}
use Rattle.btree_change.proofs.Answering.{holds_leaf, leaf_room, refused_here}
use Rattle.btree_change.proofs.NoRoom.{any_full, cause_still, if_full}
use Rattle.btree_change.proofs.walk.in_place.Goals as goal

pub say_full-answer-requires-clause-shows : goal.say_full-answer-requires-clause-shows
say_full-answer-requires-clause-shows g c =
    let m = c.args.placed.now.member in let leaf = c.args.leaf.now in let k = c.args.me.now in let stands = c.requires.stands in
    shows_full c.args.words.now.terms leaf.node leaf.content leaf.changed m k stands.at c.requires.level stands.here stands.reach.0 c.requires.free (subst (λ w. HasWayOn w m.span.first leaf.content k.log) c.in-NoneFree.is stands.way)

pub let_go_of-requires-clause-inside : goal.let_go_of-requires-clause-inside
let_go_of-requires-clause-inside g c = c.requires.stands.at.within

pub let_go_of-requires-clause-table : goal.let_go_of-requires-clause-table
let_go_of-requires-clause-table g c = c.say_full-answer.ensures.refused.call.caller.table ∙ c.requires.call.table

pub let_go_of-requires-clause-may : goal.let_go_of-requires-clause-may
let_go_of-requires-clause-may g c =
    let t = c.args.words.now.terms in let m = c.args.placed.now.member in let leaf = c.args.leaf.now in let k = c.args.me.now in let k1 = c.say_full-answer.new.me in
    lowest_may _ _ _ (here_lowest t m leaf.node c.say_full-answer.result leaf.changed k k1 (refused_here t m leaf k (holds_leaf t m leaf c.args.room k.log c.requires.stands) c.say_full-answer.result k1 c.say_full-answer.ensures.refused))

pub let_go_of-requires-clause-surplus : goal.let_go_of-requires-clause-surplus
let_go_of-requires-clause-surplus g c =
    let t = c.args.words.now.terms in let m = c.args.placed.now.member in let leaf = c.args.leaf.now in let k = c.args.me.now in let k1 = c.say_full-answer.new.me in
    here_surplus t m leaf.node c.say_full-answer.result leaf.changed k k1 (refused_here t m leaf k (holds_leaf t m leaf c.args.room k.log c.requires.stands) c.say_full-answer.result k1 c.say_full-answer.ensures.refused) 1 c.requires.call.spare

pub returns-in-NoneFree-clause-answer : goal.returns-in-NoneFree-clause-answer
returns-in-NoneFree-clause-answer g c =
    let t = c.args.words.now.terms in let m = c.args.placed.now.member in let leaf = c.args.leaf.now in let k = c.args.me.now in let k1 = c.say_full-answer.new.me in
    here_ends t m leaf.node c.say_full-answer.result leaf.changed k k1 (refused_here t m leaf k (holds_leaf t m leaf c.args.room k.log c.requires.stands) c.say_full-answer.result k1 c.say_full-answer.ensures.refused) c.let_go_of.new.me c.let_go_of.ensures

pub returns-in-NoneFree-clause-full : goal.returns-in-NoneFree-clause-full
returns-in-NoneFree-clause-full g c =
    let first = c.args.placed.now.member.span.first in
    any_full c.say_full-answer.result (cause_still c.args.room first c.args.me.now c.say_full-answer.new.me c.let_go_of.new.me (subst (λ w. HasCause w first c.args.me.now c.say_full-answer.new.me) (sym c.in-NoneFree.is) c.say_full-answer.ensures.loads) c.let_go_of.ensures.steps.loads)

pub put_in_held-requires-clause-fits : goal.put_in_held-requires-clause-fits
put_in_held-requires-clause-fits g c =
    let t = c.args.words.now.terms in let m = c.args.placed.now.member in let leaf = c.args.leaf.now in let v = c.args.me.now.log in let stands = c.requires.stands in record {
      alone = holds_leaf t m leaf c.args.room v stands;
      level = c.requires.level;
      low = stands.here.0;
      high = stands.reach.0;
      room = leaf_room t leaf v.holdings stands.at c.requires.level (subst (λ w. HasWayOn w m.span.first leaf.content v) c.in-Splitting.is stands.way);
      free = c.requires.free;
    }

pub returns-in-Splitting-clause-full : goal.returns-in-Splitting-clause-full
returns-in-Splitting-clause-full g c = if_full c.put_in_held.result (λ never. absurd never) c.put_in_held.ensures.never_full
