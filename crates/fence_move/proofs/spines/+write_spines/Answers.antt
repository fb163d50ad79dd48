use Rattle.std.proofs.Common.{ℕ, arith, ◌∙◌, refl}
use Rattle.tree_shape.specs.NodeData.{NodeData}
use Rattle.word_rule.specs.CallerData.{CallerData}
use Rattle.node_store.specs.Holding.{ReadsHeld}
use Rattle.tree_descent.specs.Paths.{StepsOnNodes}
use Rattle.tree_descent.proofs.Descending.{steps_of_read}
use Rattle.tree_descent.proofs.NodeSteps.{steps_then}
use Rattle.fence_move.proofs.WrittenSpines.{fence_inside, left_pairs, may_read_l, may_read_r, may_store_l, may_store_r, right_pairs, spines_below, steps_l, steps_r, within_l, within_r, wrote_leaves, wrote_more}
use Rattle.fence_move.proofs.spines.+write_spines.Goals as goal

steps4 : (l r : ℕ) (left right : NodeData) (k k1 k2 k3 k4 : CallerData) → ReadsHeld l k k1 left → ReadsHeld r k1 k2 right → StepsOnNodes k2 k3 → StepsOnNodes k3 k4 → StepsOnNodes k k4
steps4 l r left right k k1 k2 k3 k4 a b x y = steps_then k k3 k4 (steps_then k k2 k3 (steps_then k k1 k2 (steps_of_read l k k1 left a) (steps_of_read r k1 k2 right b)) x) y

pub read_held-left-requires-clause-inside : goal.read_held-left-requires-clause-inside
read_held-left-requires-clause-inside t c = within_l c.args.words.now.terms c.args.tops.left c.args.tops.right c.args.level c.args.fence c.args.me.now c.requires.spines

pub read_held-left-requires-clause-held : goal.read_held-left-requires-clause-held
read_held-left-requires-clause-held t c = may_read_l c.args.words.now.terms c.args.tops.left c.args.tops.right c.args.level c.args.fence c.args.me.now c.requires.spines

pub read_held-right-requires-clause-inside : goal.read_held-right-requires-clause-inside
read_held-right-requires-clause-inside t c = within_r c.args.words.now.terms c.args.tops.left c.args.tops.right c.args.level c.args.fence c.args.me.now c.requires.spines

pub read_held-right-requires-clause-held : goal.read_held-right-requires-clause-held
read_held-right-requires-clause-held t c = may_read_r c.args.words.now.terms c.args.tops.left c.args.tops.right c.args.level c.args.fence c.args.me.now c.requires.spines c.read_held-left.new.me c.read_held-left.new.me c.read_held-left.result c.read_held-left.result c.read_held-left.ensures.reads c.read_held-left.ensures.holdings

pub move_fence-moved-requires : goal.move_fence-moved-requires
move_fence-moved-requires t c = fence_inside c.args.words.now.terms c.args.tops.left c.args.tops.right c.args.level c.args.fence c.args.me.now c.requires.spines c.read_held-left.new.me c.read_held-right.new.me c.read_held-left.result c.read_held-right.result c.read_held-left.ensures.reads c.read_held-left.ensures.holdings c.read_held-right.ensures.reads c.read_held-right.ensures.holdings

pub write_held-requires-clause-inside : goal.write_held-requires-clause-inside
write_held-requires-clause-inside t c = within_l c.args.words.now.terms c.args.tops.left c.args.tops.right c.args.level c.args.fence c.args.me.now c.requires.spines

pub write_held-requires-clause-may : goal.write_held-requires-clause-may
write_held-requires-clause-may t c = may_store_l c.args.words.now.terms c.args.tops.left c.args.tops.right c.args.level c.args.fence c.args.me.now c.requires.spines c.read_held-left.new.me c.read_held-right.new.me c.read_held-left.result c.read_held-right.result c.read_held-left.ensures.reads c.read_held-left.ensures.holdings c.read_held-right.ensures.reads c.read_held-right.ensures.holdings

pub write_held-requires-2-clause-inside : goal.write_held-requires-2-clause-inside
write_held-requires-2-clause-inside t c = within_r c.args.words.now.terms c.args.tops.left c.args.tops.right c.args.level c.args.fence c.args.me.now c.requires.spines

pub write_held-requires-2-clause-may : goal.write_held-requires-2-clause-may
write_held-requires-2-clause-may t c = may_store_r c.args.words.now.terms c.args.tops.left c.args.tops.right c.args.level c.args.fence c.args.me.now c.requires.spines c.read_held-left.new.me c.read_held-right.new.me c.read_held-left.result c.read_held-right.result c.read_held-left.ensures.reads c.read_held-left.ensures.holdings c.read_held-right.ensures.reads c.read_held-right.ensures.holdings c.write_held.new.me c.move_fence-moved.result.0 (c.move_fence-moved.ensures.left ∙ refl) c.write_held.ensures.stores c.write_held.ensures.spells

pub write_held-requires-2-clause-table : goal.write_held-requires-2-clause-table
write_held-requires-2-clause-table t c = (steps_then c.args.me.now c.read_held-right.new.me c.write_held.new.me (steps_then c.args.me.now c.read_held-left.new.me c.read_held-right.new.me (steps_of_read c.args.tops.left c.args.me.now c.read_held-left.new.me c.read_held-left.result c.read_held-left.ensures.reads) (steps_of_read c.args.tops.right c.read_held-left.new.me c.read_held-right.new.me c.read_held-right.result c.read_held-right.ensures.reads)) (steps_l c.args.words.now.terms c.args.tops.left c.args.tops.right c.args.level c.args.fence c.args.me.now c.requires.spines c.read_held-left.new.me c.read_held-right.new.me c.read_held-left.result c.read_held-right.result c.read_held-left.ensures.reads c.read_held-left.ensures.holdings c.read_held-right.ensures.reads c.read_held-right.ensures.holdings c.write_held.new.me c.move_fence-moved.result.0 (c.move_fence-moved.ensures.left ∙ refl) c.write_held.ensures.stores c.write_held.ensures.spells)).calls.caller.table ∙ c.requires.table

pub returns-then-level-eq0-clause-writes : goal.returns-then-level-eq0-clause-writes
returns-then-level-eq0-clause-writes t c s = wrote_leaves c.args.words.now.terms c.args.tops.left c.args.tops.right c.args.level c.args.fence c.args.me.now s c.read_held-left.new.me c.read_held-right.new.me c.read_held-left.result c.read_held-right.result c.read_held-left.ensures.reads c.read_held-left.ensures.holdings c.read_held-right.ensures.reads c.read_held-right.ensures.holdings c.write_held.new.me c.move_fence-moved.result.0 (c.move_fence-moved.ensures.left ∙ refl) c.write_held.ensures.stores c.write_held.ensures.spells c.write_held-2.new.me c.move_fence-moved.result.1 c.move_fence-moved.ensures.right c.write_held-2.ensures.stores c.write_held-2.ensures.spells c.if-level-eq0.true

pub returns-then-level-eq0-clause-same : goal.returns-then-level-eq0-clause-same
returns-then-level-eq0-clause-same t c = steps4 c.args.tops.left c.args.tops.right c.read_held-left.result c.read_held-right.result c.args.me.now c.read_held-left.new.me c.read_held-right.new.me c.write_held.new.me c.write_held-2.new.me c.read_held-left.ensures.reads c.read_held-right.ensures.reads (steps_l c.args.words.now.terms c.args.tops.left c.args.tops.right c.args.level c.args.fence c.args.me.now c.requires.spines c.read_held-left.new.me c.read_held-right.new.me c.read_held-left.result c.read_held-right.result c.read_held-left.ensures.reads c.read_held-left.ensures.holdings c.read_held-right.ensures.reads c.read_held-right.ensures.holdings c.write_held.new.me c.move_fence-moved.result.0 (c.move_fence-moved.ensures.left ∙ refl) c.write_held.ensures.stores c.write_held.ensures.spells) (steps_r c.args.words.now.terms c.args.tops.left c.args.tops.right c.args.level c.args.fence c.args.me.now c.requires.spines c.read_held-left.new.me c.read_held-right.new.me c.read_held-left.result c.read_held-right.result c.read_held-left.ensures.reads c.read_held-left.ensures.holdings c.read_held-right.ensures.reads c.read_held-right.ensures.holdings c.write_held.new.me c.move_fence-moved.result.0 (c.move_fence-moved.ensures.left ∙ refl) c.write_held.ensures.stores c.write_held.ensures.spells c.write_held-2.new.me c.move_fence-moved.result.1 c.move_fence-moved.ensures.right c.write_held-2.ensures.stores c.write_held-2.ensures.spells)

pub child_at_end-lower_left-requires : goal.child_at_end-lower_left-requires
child_at_end-lower_left-requires t c = left_pairs c.args.words.now.terms c.args.tops.left c.args.tops.right c.args.level c.args.fence c.args.me.now c.requires.spines c.read_held-left.new.me c.read_held-right.new.me c.read_held-left.result c.read_held-right.result c.read_held-left.ensures.reads c.read_held-left.ensures.holdings c.if-level-eq0.false

pub child_at_start-lower_right-requires : goal.child_at_start-lower_right-requires
child_at_start-lower_right-requires t c = right_pairs c.args.words.now.terms c.args.tops.left c.args.tops.right c.args.level c.args.fence c.args.me.now c.requires.spines c.read_held-left.new.me c.read_held-right.new.me c.read_held-left.result c.read_held-right.result c.read_held-left.ensures.reads c.read_held-left.ensures.holdings c.read_held-right.ensures.reads c.read_held-right.ensures.holdings c.if-level-eq0.false

pub write_spines-requires : goal.write_spines-requires
write_spines-requires t c = (
  (let some = c.if-level-eq0.false in let d = c.decreases in omega (arith, some, d)),
  ((steps4 c.args.tops.left c.args.tops.right c.read_held-left.result c.read_held-right.result c.args.me.now c.read_held-left.new.me c.read_held-right.new.me c.write_held.new.me c.write_held-2.new.me c.read_held-left.ensures.reads c.read_held-right.ensures.reads (steps_l c.args.words.now.terms c.args.tops.left c.args.tops.right c.args.level c.args.fence c.args.me.now c.requires.spines c.read_held-left.new.me c.read_held-right.new.me c.read_held-left.result c.read_held-right.result c.read_held-left.ensures.reads c.read_held-left.ensures.holdings c.read_held-right.ensures.reads c.read_held-right.ensures.holdings c.write_held.new.me c.move_fence-moved.result.0 (c.move_fence-moved.ensures.left ∙ refl) c.write_held.ensures.stores c.write_held.ensures.spells) (steps_r c.args.words.now.terms c.args.tops.left c.args.tops.right c.args.level c.args.fence c.args.me.now c.requires.spines c.read_held-left.new.me c.read_held-right.new.me c.read_held-left.result c.read_held-right.result c.read_held-left.ensures.reads c.read_held-left.ensures.holdings c.read_held-right.ensures.reads c.read_held-right.ensures.holdings c.write_held.new.me c.move_fence-moved.result.0 (c.move_fence-moved.ensures.left ∙ refl) c.write_held.ensures.stores c.write_held.ensures.spells c.write_held-2.new.me c.move_fence-moved.result.1 c.move_fence-moved.ensures.right c.write_held-2.ensures.stores c.write_held-2.ensures.spells)).calls.caller.table ∙ c.requires.table, spines_below c.args.words.now.terms c.args.tops.left c.args.tops.right c.args.level c.args.fence c.args.me.now c.requires.spines c.read_held-left.new.me c.read_held-right.new.me c.read_held-left.result c.read_held-right.result c.read_held-left.ensures.reads c.read_held-left.ensures.holdings c.read_held-right.ensures.reads c.read_held-right.ensures.holdings c.write_held.new.me c.move_fence-moved.result.0 (c.move_fence-moved.ensures.left ∙ refl) c.write_held.ensures.stores c.write_held.ensures.spells c.write_held-2.new.me c.move_fence-moved.result.1 c.move_fence-moved.ensures.right c.write_held-2.ensures.stores c.write_held-2.ensures.spells c.if-level-eq0.false c.child_at_end-lower_left.result c.child_at_start-lower_right.result c.child_at_end-lower_left.ensures c.child_at_start-lower_right.ensures),
)

pub returns-clause-writes : goal.returns-clause-writes
returns-clause-writes t c s = wrote_more c.args.words.now.terms c.args.tops.left c.args.tops.right c.args.level c.args.fence c.args.me.now s c.read_held-left.new.me c.read_held-right.new.me c.read_held-left.result c.read_held-right.result c.read_held-left.ensures.reads c.read_held-left.ensures.holdings c.read_held-right.ensures.reads c.read_held-right.ensures.holdings c.write_held.new.me c.move_fence-moved.result.0 (c.move_fence-moved.ensures.left ∙ refl) c.write_held.ensures.stores c.write_held.ensures.spells c.write_held-2.new.me c.move_fence-moved.result.1 c.move_fence-moved.ensures.right c.write_held-2.ensures.stores c.write_held-2.ensures.spells c.if-level-eq0.false c.child_at_end-lower_left.result c.child_at_start-lower_right.result c.child_at_end-lower_left.ensures c.child_at_start-lower_right.ensures c.write_spines.new.me c.write_spines.ensures.writes

pub returns-clause-same : goal.returns-clause-same
returns-clause-same t c = steps_then c.args.me.now c.write_held-2.new.me c.write_spines.new.me (steps4 c.args.tops.left c.args.tops.right c.read_held-left.result c.read_held-right.result c.args.me.now c.read_held-left.new.me c.read_held-right.new.me c.write_held.new.me c.write_held-2.new.me c.read_held-left.ensures.reads c.read_held-right.ensures.reads (steps_l c.args.words.now.terms c.args.tops.left c.args.tops.right c.args.level c.args.fence c.args.me.now c.requires.spines c.read_held-left.new.me c.read_held-right.new.me c.read_held-left.result c.read_held-right.result c.read_held-left.ensures.reads c.read_held-left.ensures.holdings c.read_held-right.ensures.reads c.read_held-right.ensures.holdings c.write_held.new.me c.move_fence-moved.result.0 (c.move_fence-moved.ensures.left ∙ refl) c.write_held.ensures.stores c.write_held.ensures.spells) (steps_r c.args.words.now.terms c.args.tops.left c.args.tops.right c.args.level c.args.fence c.args.me.now c.requires.spines c.read_held-left.new.me c.read_held-right.new.me c.read_held-left.result c.read_held-right.result c.read_held-left.ensures.reads c.read_held-left.ensures.holdings c.read_held-right.ensures.reads c.read_held-right.ensures.holdings c.write_held.new.me c.move_fence-moved.result.0 (c.move_fence-moved.ensures.left ∙ refl) c.write_held.ensures.stores c.write_held.ensures.spells c.write_held-2.new.me c.move_fence-moved.result.1 c.move_fence-moved.ensures.right c.write_held-2.ensures.stores c.write_held-2.ensures.spells)) c.write_spines.ensures.same
