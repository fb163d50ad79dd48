use Rattle.std.proofs.Common.{arith, ◌∙◌}
use Rattle.tree_descent.proofs.Descending.{steps_of_read}
use Rattle.tree_descent.proofs.Loading.{keeps_then}
use Rattle.fence_move.proofs.PendingSpines.{leaf_inside, leaf_may, leaf_settles, loads_of_release, may_read_pending, pending_below, pending_pairs, surplus_below, top_inside, top_may, top_settles, top_surplus, top_table}
use Rattle.fence_move.proofs.spines.+settle_spine.Goals as goal

pub let_go-requires-clause-lock : goal.let_go-requires-clause-lock
let_go-requires-clause-lock g t c = leaf_inside c.args.words.now.terms c.args.node c.args.level c.args.me.now c.requires.spine c.if-level-eq0.true

pub let_go-requires-clause-may : goal.let_go-requires-clause-may
let_go-requires-clause-may g t c = leaf_may c.args.words.now.terms c.args.node c.args.level c.args.me.now c.requires.spine c.if-level-eq0.true

pub let_go-requires-clause-surplus : goal.let_go-requires-clause-surplus
let_go-requires-clause-surplus g t c = (let s = c.requires.surplus in omega (arith, s))

pub returns-then-level-eq0-clause-settled : goal.returns-then-level-eq0-clause-settled
returns-then-level-eq0-clause-settled g t c spine = leaf_settles c.args.words.now.terms c.args.node c.args.level c.args.me.now spine c.if-level-eq0.true c.let_go.new.me c.let_go.ensures

pub returns-then-level-eq0-clause-loads : goal.returns-then-level-eq0-clause-loads
returns-then-level-eq0-clause-loads g t c = loads_of_release c.args.node c.args.me.now c.let_go.new.me c.let_go.ensures

pub read_held-content-requires-clause-inside : goal.read_held-content-requires-clause-inside
read_held-content-requires-clause-inside g t c = top_inside c.args.words.now.terms c.args.node c.args.level c.args.me.now c.requires.spine c.if-level-eq0.false

pub read_held-content-requires-clause-held : goal.read_held-content-requires-clause-held
read_held-content-requires-clause-held g t c = may_read_pending c.args.words.now.terms c.args.node c.args.level c.args.me.now c.requires.spine c.if-level-eq0.false

pub child_at_start-child-requires : goal.child_at_start-child-requires
child_at_start-child-requires g t c = pending_pairs c.args.words.now.terms c.args.node c.args.level c.args.me.now c.requires.spine c.if-level-eq0.false c.read_held-content.new.me c.read_held-content.result c.read_held-content.ensures.reads c.read_held-content.ensures.holdings

pub settle_spine-requires : goal.settle_spine-requires
settle_spine-requires g t c κs within = (
  (let some = c.if-level-eq0.false in let d = c.decreases in omega (arith, some, d)),
  (
    within,
    (
      (steps_of_read c.args.node c.args.me.now c.read_held-content.new.me c.read_held-content.result c.read_held-content.ensures.reads).calls.caller.table ∙ c.requires.table,
      (pending_below c.args.words.now.terms c.args.node c.args.level c.args.me.now c.requires.spine c.if-level-eq0.false c.read_held-content.new.me c.read_held-content.result c.read_held-content.ensures.reads c.read_held-content.ensures.holdings c.child_at_start-child.result c.child_at_start-child.ensures, surplus_below c.args.words.now.terms c.args.node c.args.level c.args.me.now c.requires.spine c.if-level-eq0.false c.read_held-content.new.me c.read_held-content.result c.read_held-content.ensures.reads c.read_held-content.ensures.holdings c.requires.surplus),
    ),
  ),
)

pub let_go-requires-2-clause-table : goal.let_go-requires-2-clause-table
let_go-requires-2-clause-table g t c = top_table c.args.words.now.terms c.args.node c.args.level c.args.me.now c.requires.spine c.if-level-eq0.false c.read_held-content.new.me c.read_held-content.result c.read_held-content.ensures.reads c.read_held-content.ensures.holdings c.child_at_start-child.result c.child_at_start-child.ensures c.settle_spine.new.me c.settle_spine.ensures.settled ∙ c.requires.table

pub let_go-requires-2-clause-lock : goal.let_go-requires-2-clause-lock
let_go-requires-2-clause-lock g t c = top_inside c.args.words.now.terms c.args.node c.args.level c.args.me.now c.requires.spine c.if-level-eq0.false

pub let_go-requires-2-clause-may : goal.let_go-requires-2-clause-may
let_go-requires-2-clause-may g t c = top_may c.args.words.now.terms c.args.node c.args.level c.args.me.now c.requires.spine c.if-level-eq0.false c.read_held-content.new.me c.read_held-content.result c.read_held-content.ensures.reads c.read_held-content.ensures.holdings c.child_at_start-child.result c.child_at_start-child.ensures c.settle_spine.new.me c.settle_spine.ensures.settled

pub let_go-requires-2-clause-surplus : goal.let_go-requires-2-clause-surplus
let_go-requires-2-clause-surplus g t c = top_surplus c.args.words.now.terms c.args.node c.args.level c.args.me.now c.requires.spine c.if-level-eq0.false c.read_held-content.new.me c.read_held-content.result c.read_held-content.ensures.reads c.read_held-content.ensures.holdings c.child_at_start-child.result c.child_at_start-child.ensures c.settle_spine.new.me c.settle_spine.ensures.settled c.requires.surplus

pub returns-clause-settled : goal.returns-clause-settled
returns-clause-settled g t c spine = top_settles c.args.words.now.terms c.args.node c.args.level c.args.me.now spine c.if-level-eq0.false c.read_held-content.new.me c.read_held-content.result c.read_held-content.ensures.reads c.read_held-content.ensures.holdings c.child_at_start-child.result c.child_at_start-child.ensures c.settle_spine.new.me c.settle_spine.ensures.settled c.exchange_decided.ensures c.let_go-2.new.me c.let_go-2.ensures

pub returns-clause-loads : goal.returns-clause-loads
returns-clause-loads g t c = keeps_then c.args.me.now c.settle_spine.new.me c.let_go-2.new.me (keeps_then c.args.me.now c.read_held-content.new.me c.settle_spine.new.me (steps_of_read c.args.node c.args.me.now c.read_held-content.new.me c.read_held-content.result c.read_held-content.ensures.reads).loads c.settle_spine.ensures.loads) (loads_of_release c.args.node c.settle_spine.new.me c.let_go-2.new.me c.let_go-2.ensures)
