use Rattle.std.proofs.Common.{◌∙◌, ap}
use Rattle.tree_shape.specs.NodeData.{entries_of, place_for}
use Rattle.btree_change.proofs.FarLeaves.{LeavesLeaf, leaves_leaf, left_leaf, left_spells, left_still, may_move, may_put_far, moved_all, moved_enough, moves_so, put_ends}
use Rattle.btree_change.proofs.beyond.put_far.Goals.{After-leaf_alone-leaf}
use Rattle.btree_change.proofs.beyond.put_far.Goals as goal

pub raise_fence-requires-clause-next : goal.raise_fence-requires-clause-next
raise_fence-requires-clause-next g c =
    may_move c.args.words.now.terms c.args.member.now c.args.far c.args.me.now c.requires.ready c.last.result c.last.ensures.value

pub leaf_alone-leaf-requires-clause-table : goal.leaf_alone-leaf-requires-clause-table
leaf_alone-leaf-requires-clause-table g c =
    let t = c.args.words.now.terms in let m = c.args.member.now in let far = c.args.far in let k = c.args.me.now in let ready = c.requires.ready in let k1 = c.raise_fence.new.me in
    let moves = moves_so t m far k ready k1 c.last.result c.last.ensures.value c.raise_fence.ensures.moves in
    moves.calls.caller.table ∙ c.requires.call.table

pub leaf_alone-leaf-requires-clause-moved : goal.leaf_alone-leaf-requires-clause-moved
leaf_alone-leaf-requires-clause-moved g c =
    let t = c.args.words.now.terms in let m = c.args.member.now in let far = c.args.far in let k = c.args.me.now in let ready = c.requires.ready in let k1 = c.raise_fence.new.me in
    let moves = moves_so t m far k ready k1 c.last.result c.last.ensures.value c.raise_fence.ensures.moves in
    moved_all t m far k ready k1 moves c.raise_fence.ensures.loads

pub leaf_alone-leaf-requires-clause-surplus : goal.leaf_alone-leaf-requires-clause-surplus
leaf_alone-leaf-requires-clause-surplus g c =
    let t = c.args.words.now.terms in let m = c.args.member.now in let far = c.args.far in let k = c.args.me.now in let ready = c.requires.ready in let k1 = c.raise_fence.new.me in
    let moves = moves_so t m far k ready k1 c.last.result c.last.ensures.value c.raise_fence.ensures.moves in
    moved_enough t m far k ready k1 moves c.raise_fence.ensures.loads c.requires.call.spare

-- the leaf alone is held
left : (g : _) (c : After-leaf_alone-leaf g) → LeavesLeaf c.args.words.now.terms c.args.member.now c.args.far c.leaf_alone-leaf.result c.args.me.now c.leaf_alone-leaf.new.me
left g c =
    let t = c.args.words.now.terms in let m = c.args.member.now in let far = c.args.far in let k = c.args.me.now in let ready = c.requires.ready in let k1 = c.raise_fence.new.me in
    let moves = moves_so t m far k ready k1 c.last.result c.last.ensures.value c.raise_fence.ensures.moves in
    let alone = c.leaf_alone-leaf in leaves_leaf t m far k ready k1 moves c.raise_fence.ensures.loads alone.result alone.new.me alone.ensures.alone alone.ensures.content alone.ensures.spends

pub begun_in-place-requires-clause-table : goal.begun_in-place-requires-clause-table
begun_in-place-requires-clause-table g c = (left g (goal.at.begun_in-place-requires-clause-table g c).After-leaf_alone-leaf).spends.calls.caller.table ∙ c.requires.call.table

pub begun_in-place-requires-clause-inside : goal.begun_in-place-requires-clause-inside
begun_in-place-requires-clause-inside g c = c.leaf_alone-leaf.ensures.alone.within

pub begun_in-place-requires-clause-spells : goal.begun_in-place-requires-clause-spells
begun_in-place-requires-clause-spells g c = left_spells c.args.words.now.terms c.args.member.now c.args.far c.leaf_alone-leaf.result c.args.me.now c.leaf_alone-leaf.new.me (left g (goal.at.begun_in-place-requires-clause-spells g c).After-leaf_alone-leaf)

pub begun_in-place-requires-clause-leaf : goal.begun_in-place-requires-clause-leaf
begun_in-place-requires-clause-leaf g c = left_leaf c.args.words.now.terms c.args.member.now c.args.far c.leaf_alone-leaf.result c.args.me.now c.leaf_alone-leaf.new.me (left g (goal.at.begun_in-place-requires-clause-leaf g c).After-leaf_alone-leaf)

pub put_in_held-requires-clause-call : goal.put_in_held-requires-clause-call
put_in_held-requires-clause-call g c =
    let at = goal.at.put_in_held-requires-clause-call g c in let still = left_still c.args.words.now.terms c.args.member.now c.args.far c.leaf_alone-leaf.result c.args.me.now c.leaf_alone-leaf.new.me (left g at.After-leaf_alone-leaf) c.begun_in-place.new.me c.begun_in-place.ensures.loads in
    may_put_far c.args.words.now.terms c.args.member.now c.args.far c.leaf_alone-leaf.result c.args.me.now c.begun_in-place.new.me still c.args.words.now c.requires.call

pub put_in_held-requires-clause-fits : goal.put_in_held-requires-clause-fits
put_in_held-requires-clause-fits g c =
    let at = goal.at.put_in_held-requires-clause-fits g c in let still = left_still c.args.words.now.terms c.args.member.now c.args.far c.leaf_alone-leaf.result c.args.me.now c.leaf_alone-leaf.new.me (left g at.After-leaf_alone-leaf) c.begun_in-place.new.me c.begun_in-place.ensures.loads in
    still.fits

pub put_in_held-requires-clause-place : goal.put_in_held-requires-clause-place
put_in_held-requires-clause-place g c = c.begun_in-place.ensures.begun ∙ ap (λ pc. place_for pc (entries_of c.leaf_alone-leaf.result.content)) c.first.ensures.value

pub returns-clause-answer : goal.returns-clause-answer
returns-clause-answer g c =
    let at = goal.at.returns-clause-answer g c in let still = left_still c.args.words.now.terms c.args.member.now c.args.far c.leaf_alone-leaf.result c.args.me.now c.leaf_alone-leaf.new.me (left g at.After-leaf_alone-leaf) c.begun_in-place.new.me c.begun_in-place.ensures.loads in
    put_ends c.args.words.now.terms c.args.member.now c.args.far c.leaf_alone-leaf.result c.args.me.now c.begun_in-place.new.me still c.put_in_held.result c.put_in_held.new.me c.put_in_held.ensures.answer
