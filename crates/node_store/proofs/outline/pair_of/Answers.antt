use Rattle.std.proofs.Common.{◌+◌, ◌*◌, ◌^◌, ◌∙◌, Some, refl, ap, sym, subst, arith, ltb-true}
use Rattle.word_rule.specs.CallerData.{CallerData}
use Rattle.word_rule.specs.NodeTells.{HeldTells}
use Rattle.word_rule.specs.Spelling.{is_short}
use Rattle.node_store.proofs.Outlined.{inner_of, is_held, known, no_loads, one_load, pair_here, pairs_few, told}
use Rattle.node_store.proofs.outline.pair_of.Goals as goal

pub at_pair-at-requires : goal.at_pair-at-requires
at_pair-at-requires c = let few = pairs_few c.args.node c.args.outline.now c.args.me.now.log c.requires.spells c.requires.inner in omega (arith, few, c.requires.slot)

pub load_node-child-requires-clause-word : goal.load_node-child-requires-clause-word
load_node-child-requires-clause-word c =
    let few = pairs_few c.args.node c.args.outline.now c.args.me.now.log c.requires.spells c.requires.inner in
    (omega (arith, c.at_pair-at.ensures), omega (arith, c.at_pair-at.ensures, few, c.requires.slot))

pub overflow_cast-child : goal.overflow_cast-child
overflow_cast-child c =
    let n = c.args.node in
    let s = c.args.outline.now in
    let v = c.args.me.now.log in
    let x = known n s v c.requires.spells in
    let word = told n (6 + 2 * c.args.slot) c.load_node-child.result s v v x refl (subst (λ at. HeldTells c.args.node at c.load_node-child.result c.args.me.now.log) c.at_pair-at.ensures c.load_node-child.ensures.held) in
    let here = pair_here x.lock.words s (inner_of x.lock.words s x.spells c.requires.inner) c.args.slot c.requires.slot in
    let less = ltb-true c.load_node-child.result (2 ^ 32) (ap is_short (sym word) ∙ here.0) in
    omega (arith, less)

pub overflow_add-at : goal.overflow_add-at
overflow_add-at c = let few = pairs_few c.args.node c.args.outline.now c.args.me.now.log c.requires.spells c.requires.inner in omega (arith, c.at_pair-at.ensures, few, c.requires.slot)

pub load_node-separator-requires-clause-word : goal.load_node-separator-requires-clause-word
load_node-separator-requires-clause-word c =
    let few = pairs_few c.args.node c.args.outline.now c.args.me.now.log c.requires.spells c.requires.inner in
    (omega (arith, c.at_pair-at.ensures), omega (arith, c.at_pair-at.ensures, few, c.requires.slot))

pub returns-clause-pair : goal.returns-clause-pair
returns-clause-pair c =
    let n = c.args.node in
    let s = c.args.outline.now in
    let v = c.args.me.now.log in
    let x = known n s v c.requires.spells in
    let same = ap (λ (k : CallerData). k.log.holdings) c.load_node-child.ensures.log in
    let child = told n (6 + 2 * c.args.slot) c.load_node-child.result s v v x refl (subst (λ at. HeldTells c.args.node at c.load_node-child.result c.args.me.now.log) c.at_pair-at.ensures c.load_node-child.ensures.held) in
    let separator = told n (6 + 2 * c.args.slot + 1) c.load_node-separator.result s v c.load_node-child.new.me.log x same (subst (λ at. HeldTells c.args.node at c.load_node-separator.result c.load_node-child.new.me.log) (ap (λ at. at + 1) c.at_pair-at.ensures) c.load_node-separator.ensures.held) in
    let here = pair_here x.lock.words s (inner_of x.lock.words s x.spells c.requires.inner) c.args.slot c.requires.slot in
    here.1 ∙ (λ i. Some (record { child = child i; separator = separator i }))

pub returns-clause-loads : goal.returns-clause-loads
returns-clause-loads c =
    let n = c.args.node in
    let k = c.args.me.now in
    let held = is_held n c.args.outline.now k.log c.requires.spells in
    one_load n _ c.load_node-separator.result k c.load_node-child.new.me c.load_node-separator.new.me held
    (one_load n _ c.load_node-child.result k k c.load_node-child.new.me held (no_loads k) c.load_node-child.ensures.log) c.load_node-separator.ensures.log
