use Rattle.std.proofs.Common.{arith, ◌∙◌}
use Rattle.tree_descent.proofs.Descending.{steps_of_letting_go, steps_of_read}
use Rattle.tree_descent.proofs.NodeSteps.{steps_then}
use Rattle.fence_move.proofs.FreshSpines.{leaf_within, leaf_clean, leaf_let_go_of, top_within, may_read_top, top_pairs, fresh_below, top_clean, top_let_go_of}
use Rattle.fence_move.proofs.spines.+let_go_of_spine.Goals as goal

pub let_go_same-requires-clause-lock : goal.let_go_same-requires-clause-lock
let_go_same-requires-clause-lock g t c = leaf_within c.args.words.now.terms c.args.node c.args.level c.args.me.now c.requires.spine c.if-level-eq0.true

pub let_go_same-requires-clause-clean : goal.let_go_same-requires-clause-clean
let_go_same-requires-clause-clean g t c = leaf_clean c.args.words.now.terms c.args.node c.args.level c.args.me.now c.requires.spine c.if-level-eq0.true

pub returns-then-level-eq0-clause-base : goal.returns-then-level-eq0-clause-base
returns-then-level-eq0-clause-base g t c spine = leaf_let_go_of c.args.words.now.terms c.args.node c.args.level c.args.me.now spine c.if-level-eq0.true c.let_go_same.new.me c.let_go_same.ensures

pub returns-then-level-eq0-clause-same : goal.returns-then-level-eq0-clause-same
returns-then-level-eq0-clause-same g t c = steps_of_letting_go c.args.node c.args.me.now c.let_go_same.new.me c.let_go_same.ensures

pub read_held-content-requires-clause-inside : goal.read_held-content-requires-clause-inside
read_held-content-requires-clause-inside g t c = top_within c.args.words.now.terms c.args.node c.args.level c.args.me.now c.requires.spine c.if-level-eq0.false

pub read_held-content-requires-clause-held : goal.read_held-content-requires-clause-held
read_held-content-requires-clause-held g t c = may_read_top c.args.words.now.terms c.args.node c.args.level c.args.me.now c.requires.spine c.if-level-eq0.false

pub child_at_start-child-requires : goal.child_at_start-child-requires
child_at_start-child-requires g t c = top_pairs c.args.words.now.terms c.args.node c.args.level c.args.me.now c.requires.spine c.if-level-eq0.false c.read_held-content.new.me c.read_held-content.result c.read_held-content.ensures.reads c.read_held-content.ensures.holdings

pub let_go_of_spine-requires : goal.let_go_of_spine-requires
let_go_of_spine-requires g t c κs within = (
  (let some = c.if-level-eq0.false in let d = c.decreases in omega (arith, some, d)),
  (
    within,
    (
      (steps_of_read c.args.node c.args.me.now c.read_held-content.new.me c.read_held-content.result c.read_held-content.ensures.reads).calls.caller.table ∙ c.requires.table,
      fresh_below c.args.words.now.terms c.args.node c.args.level c.args.me.now c.requires.spine c.if-level-eq0.false c.read_held-content.new.me c.read_held-content.result c.read_held-content.ensures.reads c.read_held-content.ensures.holdings c.child_at_start-child.result c.child_at_start-child.ensures,
    ),
  ),
)

pub let_go_same-requires-2-clause-lock : goal.let_go_same-requires-2-clause-lock
let_go_same-requires-2-clause-lock g t c = top_within c.args.words.now.terms c.args.node c.args.level c.args.me.now c.requires.spine c.if-level-eq0.false

pub let_go_same-requires-2-clause-clean : goal.let_go_same-requires-2-clause-clean
let_go_same-requires-2-clause-clean g t c = top_clean c.args.words.now.terms c.args.node c.args.level c.args.me.now c.requires.spine c.if-level-eq0.false c.read_held-content.new.me c.read_held-content.result c.read_held-content.ensures.reads c.read_held-content.ensures.holdings c.child_at_start-child.result c.child_at_start-child.ensures c.let_go_of_spine.new.me c.let_go_of_spine.ensures.base

pub returns-clause-base : goal.returns-clause-base
returns-clause-base g t c spine = top_let_go_of c.args.words.now.terms c.args.node c.args.level c.args.me.now spine c.if-level-eq0.false c.read_held-content.new.me c.read_held-content.result c.read_held-content.ensures.reads c.read_held-content.ensures.holdings c.child_at_start-child.result c.child_at_start-child.ensures c.let_go_of_spine.new.me c.let_go_of_spine.ensures.base c.let_go_same-2.new.me c.let_go_same-2.ensures

pub returns-clause-same : goal.returns-clause-same
returns-clause-same g t c = steps_then c.args.me.now c.let_go_of_spine.new.me c.let_go_same-2.new.me
    (steps_then c.args.me.now c.read_held-content.new.me c.let_go_of_spine.new.me (steps_of_read c.args.node c.args.me.now c.read_held-content.new.me c.read_held-content.result c.read_held-content.ensures.reads) c.let_go_of_spine.ensures.same)
    (steps_of_letting_go c.args.node c.let_go_of_spine.new.me c.let_go_same-2.new.me c.let_go_same-2.ensures)
