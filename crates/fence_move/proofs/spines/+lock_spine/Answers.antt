use Rattle.std.proofs.Common.{◌≡◌, ◌-◌, ◌<◌, ◌≢◌, ℕ, sym, ap, subst, arith, ◌∙◌, length}
use Rattle.tree_shape.specs.NodeData.{NodeData, pairs_of}
use Rattle.tree_laws.specs.Steps.{first_child}
use Rattle.word_rule.specs.CallerData.{CallerData}
use Rattle.word_rule.specs.declared.log.Holding.{Holding}
use Rattle.word_rule.specs.NodeTells.{KnowsTree}
use Rattle.word_rule.specs.declared.log.Terms.{Terms}
use Rattle.word_rule.specs.Sights.{after_node_load}
use Rattle.word_rule.specs.Held.{held_of}
use Rattle.node_store.specs.Holding.{ReadsHeld}
use Rattle.version_locks.specs.Locking.{Locks}
use Rattle.tree_descent.specs.Paths.{StepsOnNodes}
use Rattle.tree_descent.proofs.Descending.{steps_of_letting_go, steps_of_read, steps_of_take}
use Rattle.tree_descent.proofs.Descents.{steps_of_load}
use Rattle.tree_descent.proofs.Loading.{found_between, keeps_none}
use Rattle.tree_descent.proofs.Outlining.{spells_same, steps_of_loads}
use Rattle.tree_descent.proofs.HeldLists.{found_head}
use Rattle.tree_descent.proofs.NodeSteps.{steps_then}
use Rattle.fence_move.specs.Spines.{LocksSpine, NamesChild}
use Rattle.fence_move.proofs.LockedSpines.{IsLocked, Relocked, locked_so, relocked, read_locked, names_first, locks_leaf, locks_more, let_go_again, clean_again}
use Rattle.word_rule.specs.declared.log.LockId.TheVariants as lock
use Rattle.fence_move.proofs.spines.+lock_spine.Goals as goal

-- the node was locked, read, and a word of it loaded
module _ (t : Terms) (n level found : ℕ) (shape : NodeData) (k k1 k2 k3 : CallerData) (terms : k.log.terms ≡ t) (names : NamesChild t n level k.log.holdings) (locks : Locks (lock.Node n) k k1) (reads : ReadsHeld n k1 k2 shape) (same : k2.log.holdings ≡ k1.log.holdings) (loads : k3 ≡ record k2 { log = after_node_load n 2 found k2.log }) where
  first_lock : IsLocked t n level names.frame.low k.log.holdings k1.log.holdings
  first_lock = locked_so t n level k k1 terms names locks

  read_so : first_lock.new.settled ≡ shape
  read_so = read_locked t n level names.frame.low shape k.log.holdings k1 k2 first_lock reads

  after_read : Relocked t n level names.frame.low k.log.holdings k2.log.holdings first_lock.new
  after_read = relocked t n level names.frame.low k.log.holdings k1.log.holdings k2.log.holdings first_lock same

  after_load : Relocked t n level names.frame.low k.log.holdings k3.log.holdings first_lock.new
  after_load = relocked t n level names.frame.low k.log.holdings k1.log.holdings k3.log.holdings first_lock (ap (λ (z : CallerData). z.log.holdings) loads ∙ same)

  content_is : after_load.now.new.settled ≡ shape
  content_is = ap (λ (h : Holding). h.settled) after_load.is ∙ read_so

  steps3 : StepsOnNodes k k3
  steps3 = steps_then k k2 k3 (steps_then k k1 k2 (steps_of_take n k k1 locks) (steps_of_read n k1 k2 shape reads)) (steps_of_load n 2 found k2 k3 loads)

  has_pairs : level ≢ 0 → 0 < length (pairs_of shape)
  has_pairs some = subst (λ (s : NodeData). 0 < length (pairs_of s)) content_is (after_load.now.fresh.pairs (let e = after_load.now.level_is in omega (arith, e, some)))

  names_child : KnowsTree k2.log.holdings → level ≢ 0 → (child : ℕ) → child ≡ first_child 0 (pairs_of shape) → NamesChild t child (level - 1) k3.log.holdings
  names_child tree some child is =
      subst (λ c. NamesChild t c (level - 1) k3.log.holdings) (ap (λ (s : NodeData). first_child 0 (pairs_of s)) content_is ∙ sym is)
      (names_first t n level k.log.holdings k3.log.holdings names after_load.now (subst KnowsTree (sym (ap (λ (z : CallerData). z.log.holdings) loads)) tree) (omega (arith, some)))

  locked_more : KnowsTree k2.log.holdings → level ≢ 0 → (child : ℕ) → child ≡ first_child 0 (pairs_of shape) → (r : ℕ) (u : NodeData) (k4 : CallerData) → LocksSpine t child (level - 1) r u k3.log.holdings k4.log.holdings → LocksSpine t n level r u k.log.holdings k4.log.holdings
  locked_more tree some child is r u k4 s =
      locks_more t n level k.log.holdings k3.log.holdings names after_load.now (subst KnowsTree (sym (ap (λ (z : CallerData). z.log.holdings) loads)) tree) (omega (arith, some)) r u k4.log.holdings
      (subst (λ c. LocksSpine t c (level - 1) r u k3.log.holdings k4.log.holdings) (is ∙ sym (ap (λ (s : NodeData). first_child 0 (pairs_of s)) content_is)) s)

  relocked_at : (k4 : CallerData) → k4.log.holdings ≡ k3.log.holdings → IsLocked t n level names.frame.low k.log.holdings k4.log.holdings
  relocked_at k4 e = (relocked t n level names.frame.low k.log.holdings k3.log.holdings k4.log.holdings after_load.now e).now

pub returns-then-level-eq0-clause-ok : goal.returns-then-level-eq0-clause-ok
returns-then-level-eq0-clause-ok g t c =
    let terms = c.args.words.now.terms in let n = c.args.node in let k = c.args.me.now in let k1 = c.take_node.new.me in let k2 = c.outline_of.new.me in let names = c.requires.child in
    let l = locked_so terms n c.args.level k k1 c.requires.terms names c.in_ok-take_node.ensures.ok in
    let l2 = relocked terms n c.args.level names.frame.low k.log.holdings k1.log.holdings k2.log.holdings l c.outline_of.ensures.holdings in
    let found = ap (held_of n) l.held ∙ found_head n l.new k.log.holdings.held l.node in
    locks_leaf terms n c.args.level c.outline_of.result k.log.holdings k2.log.holdings names l2.now (ap (λ (h : Holding). h.settled) l2.is ∙ spells_same n l.new.settled c.outline_of.result l.new k1.log found l.fresh.live.spells c.outline_of.ensures.spells) c.if-level-eq0.true

pub returns-then-level-eq0-clause-same : goal.returns-then-level-eq0-clause-same
returns-then-level-eq0-clause-same g t c = steps_then c.args.me.now c.take_node.new.me c.outline_of.new.me (steps_of_take c.args.node c.args.me.now c.take_node.new.me c.in_ok-take_node.ensures.ok) (steps_of_loads c.take_node.new.me c.outline_of.new.me c.outline_of.ensures.loads)

pub child_at_start-child-requires : goal.child_at_start-child-requires
child_at_start-child-requires g t c = has_pairs c.args.words.now.terms c.args.node c.args.level c.load_node.result c.read_held-content.result c.args.me.now c.take_node.new.me c.read_held-content.new.me c.load_node.new.me c.requires.terms c.requires.child c.in_ok-take_node.ensures.ok c.read_held-content.ensures.reads c.read_held-content.ensures.holdings c.load_node.ensures.log c.if-level-eq0.false

pub lock_spine-requires : goal.lock_spine-requires
lock_spine-requires g t c κs within =
    let steps = steps3 c.args.words.now.terms c.args.node c.args.level c.load_node.result c.read_held-content.result c.args.me.now c.take_node.new.me c.read_held-content.new.me c.load_node.new.me c.requires.terms c.requires.child c.in_ok-take_node.ensures.ok c.read_held-content.ensures.reads c.read_held-content.ensures.holdings c.load_node.ensures.log in (
      (let some = c.if-level-eq0.false in let d = c.decreases in omega (arith, some, d)),
      (
        within,
        (
          steps.calls.caller.table ∙ c.requires.table,
          (
            steps.calls.caller.terms ∙ c.requires.terms,
            names_child c.args.words.now.terms c.args.node c.args.level c.load_node.result c.read_held-content.result c.args.me.now c.take_node.new.me c.read_held-content.new.me c.load_node.new.me c.requires.terms c.requires.child c.in_ok-take_node.ensures.ok c.read_held-content.ensures.reads c.read_held-content.ensures.holdings c.load_node.ensures.log c.load_node.ensures.tree c.if-level-eq0.false c.child_at_start-child.result c.child_at_start-child.ensures,
          ),
        ),
      ),
    )

pub returns-in-Ok-clause-ok : goal.returns-in-Ok-clause-ok
returns-in-Ok-clause-ok g t c =
    locked_more c.args.words.now.terms c.args.node c.args.level c.load_node.result c.read_held-content.result c.args.me.now c.take_node.new.me c.read_held-content.new.me c.load_node.new.me c.requires.terms c.requires.child c.in_ok-take_node.ensures.ok c.read_held-content.ensures.reads c.read_held-content.ensures.holdings c.load_node.ensures.log c.load_node.ensures.tree c.if-level-eq0.false c.child_at_start-child.result c.child_at_start-child.ensures
    c.in-Ok.right.node c.in-Ok.right.content c.lock_spine.new.me c.in-Ok.ensures.ok

pub returns-in-Ok-clause-same : goal.returns-in-Ok-clause-same
returns-in-Ok-clause-same g t c = steps_then c.args.me.now c.load_node.new.me c.lock_spine.new.me
    (steps3 c.args.words.now.terms c.args.node c.args.level c.load_node.result c.read_held-content.result c.args.me.now c.take_node.new.me c.read_held-content.new.me c.load_node.new.me c.requires.terms c.requires.child c.in_ok-take_node.ensures.ok c.read_held-content.ensures.reads c.read_held-content.ensures.holdings c.load_node.ensures.log) c.lock_spine.ensures.same

pub let_go_same-requires-clause-clean : goal.let_go_same-requires-clause-clean
let_go_same-requires-clause-clean g t c = clean_again c.args.words.now.terms c.args.node c.args.level c.requires.child.frame.low c.args.me.now.log.holdings c.lock_spine.new.me
    (relocked_at c.args.words.now.terms c.args.node c.args.level c.load_node.result c.read_held-content.result c.args.me.now c.take_node.new.me c.read_held-content.new.me c.load_node.new.me c.requires.terms c.requires.child c.in_ok-take_node.ensures.ok c.read_held-content.ensures.reads c.read_held-content.ensures.holdings c.load_node.ensures.log c.lock_spine.new.me c.in-Err.ensures.busy.0)

pub returns-in-Err-clause-busy : goal.returns-in-Err-clause-busy
returns-in-Err-clause-busy g t c = (
  let_go_again c.args.words.now.terms c.args.node c.args.level c.args.me.now.log.holdings c.lock_spine.new.me c.let_go_same.new.me c.requires.child
      (relocked_at c.args.words.now.terms c.args.node c.args.level c.load_node.result c.read_held-content.result c.args.me.now c.take_node.new.me c.read_held-content.new.me c.load_node.new.me c.requires.terms c.requires.child c.in_ok-take_node.ensures.ok c.read_held-content.ensures.reads c.read_held-content.ensures.holdings c.load_node.ensures.log c.lock_spine.new.me c.in-Err.ensures.busy.0)
      c.let_go_same.ensures,
  c.in-Err.ensures.busy.1,
)

pub returns-in-Err-clause-same : goal.returns-in-Err-clause-same
returns-in-Err-clause-same g t c = steps_then c.args.me.now c.lock_spine.new.me c.let_go_same.new.me (steps_then c.args.me.now c.load_node.new.me c.lock_spine.new.me
    (steps3 c.args.words.now.terms c.args.node c.args.level c.load_node.result c.read_held-content.result c.args.me.now c.take_node.new.me c.read_held-content.new.me c.load_node.new.me c.requires.terms c.requires.child c.in_ok-take_node.ensures.ok c.read_held-content.ensures.reads c.read_held-content.ensures.holdings c.load_node.ensures.log) c.lock_spine.ensures.same)
    (steps_of_letting_go c.args.node c.lock_spine.new.me c.let_go_same.new.me c.let_go_same.ensures)

pub returns-in-Err-clause-cause : goal.returns-in-Err-clause-cause
returns-in-Err-clause-cause g t c = found_between c.in-Err.busy c.args.me.now c.load_node.new.me c.lock_spine.new.me c.let_go_same.new.me
    (steps3 c.args.words.now.terms c.args.node c.args.level c.load_node.result c.read_held-content.result c.args.me.now c.take_node.new.me c.read_held-content.new.me c.load_node.new.me c.requires.terms c.requires.child c.in_ok-take_node.ensures.ok c.read_held-content.ensures.reads c.read_held-content.ensures.holdings c.load_node.ensures.log).loads
    c.in-Err.ensures.cause (keeps_none c.lock_spine.new.me c.let_go_same.new.me (ap (λ (z : CallerData). z.log.trace.loads) c.let_go_same.ensures))
