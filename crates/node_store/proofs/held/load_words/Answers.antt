use Rattle.std.proofs.Common.{◌≡◌, ◌<◌, length, ◌∙◌, ◌+◌, ap, subst, length-set, arith}
use Rattle.word_rule.specs.CallerData.{CallerData}
use Rattle.word_rule.specs.Held.{held_of}
use Rattle.word_rule.specs.Sights.{after_node_load}
use Rattle.node_store.specs.Holding.{AreHeld}
use Rattle.node_store.specs.Sights.{after_words}
use Rattle.word_rule.specs.NodeTells.{HolderTells}
use Rattle.node_store.proofs.HeldWords.{held_more, holder_before}
use Rattle.node_store.proofs.Sighted.{holdings_same, word_more}
use Rattle.node_store.proofs.held.load_words.Goals as goal

pub loop-at-preserved : goal.loop-at-preserved
loop-at-preserved c =
    let inv = c.loop-at.invariant in
    let inside : c.loop-at.at < length c.loop-at.loaded = omega (arith, inv.wide, c.loop-at-test.true) in
    let more = word_more c.args.node c.loop-at.loaded c.loop-at.at c.load_node.result c.args.me.now.log inside in
    let same = ap (λ (k : CallerData). k.log.holdings) inv.loads ∙ holdings_same c.args.node c.loop-at.loaded c.loop-at.at c.args.me.now.log in
    record {
      wide = length-set _ _ _ ∙ inv.wide;
      loads = c.load_node.ensures.log
          ∙ (ap (λ (k : CallerData). record k { log = after_node_load c.args.node (c.loop-at.at + 1) c.load_node.result k.log }) inv.loads
          ∙ ap (λ v. record c.args.me.now { log = v }) more);
      held = held_more c.args.node c.loop-at.at c.load_node.result c.loop-at.loaded c.args.me.now.log c.loop-at.me.log inside (ap (λ hs. held_of c.args.node hs.held) same) c.load_node.ensures.held inv.held;
      holder = λ _. holder_before c.args.node c.loop-at.loaded c.loop-at.at c.args.me.now.log (subst (λ (k : CallerData). HolderTells c.args.node k.log) inv.loads c.load_node.ensures.holder);
    }

pub returns-clause-held : goal.returns-clause-held
returns-clause-held c =
    let all : c.loop-at.at ≡ 35 = omega (arith, c.loop-at-test.false, c.loop-at.auto.at-end) in
    subst (λ count. AreHeld c.args.node c.loop-at.loaded count c.args.me.now.log) all c.loop-at.invariant.held

pub returns-clause-log : goal.returns-clause-log
returns-clause-log c =
    let all : c.loop-at.at ≡ 35 = omega (arith, c.loop-at-test.false, c.loop-at.auto.at-end) in
    c.loop-at.invariant.loads ∙ ap (λ count. record c.args.me.now { log = after_words c.args.node c.loop-at.loaded count c.args.me.now.log }) all

pub returns-clause-holder : goal.returns-clause-holder
returns-clause-holder c = c.loop-at.invariant.holder (omega (arith, c.loop-at-test.false, c.loop-at.auto.at-end))
