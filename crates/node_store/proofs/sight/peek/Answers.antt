use Rattle.std.proofs.Common.{◌≡◌, ◌∙◌, sym, ap, subst, length-set, ◌+◌, ◌%◌, arith}
use Rattle.word_rule.specs.CallerData.{CallerData}
use Rattle.word_rule.specs.Held.{held_of}
use Rattle.word_rule.specs.Sights.{after_node_load}
use Rattle.node_store.specs.Sights.{IsKept, after_look, after_words}
use Rattle.node_store.proofs.Sighted.{even_free, kept_after, locked_kept, others_kept, others_seen, word_more}
use Rattle.node_store.proofs.sight.peek.Goals as goal

pub loop-at-preserved : goal.loop-at-preserved
loop-at-preserved c =
    let inv = c.loop-at.invariant in
    let k0 : CallerData = after_look c.args.node c.load_version-version.result c.args.me.now in
    let more = word_more c.args.node c.loop-at.loaded c.loop-at.at c.load_node.result k0.log (omega (arith, inv.wide, c.loop-at-test.true)) in
    record {
      wide = length-set _ _ _ ∙ inv.wide;
      loads = c.load_node.ensures.log
          ∙ (ap (λ (k : CallerData). record k { log = after_node_load c.args.node (c.loop-at.at + 1) c.load_node.result k.log }) inv.loads
          ∙ ap (λ v. record c.args.me.now { log = v }) more);
    }

pub returns-clause-kept : goal.returns-clause-kept
returns-clause-kept c =
    let inv = c.loop-at.invariant in
    let k0 : CallerData = after_look c.args.node c.load_version-version.result c.args.me.now in
    let all : c.loop-at.at ≡ 35 = omega (arith, c.loop-at-test.false, c.loop-at.auto.at-end) in
    let even : c.load_version-version.result % 2 ≡ 0 = omega (arith, c.if-version-ne0.false) in
    let free = even_free c.load_version-version.result (held_of c.args.node c.args.me.now.log.holdings.held) even c.load_version-version.ensures.held in
    let loads = inv.loads ∙ ap (λ count. record c.args.me.now { log = after_words c.args.node c.loop-at.loaded count k0.log }) all in
    subst (λ (k : CallerData). IsKept k.log record { node = c.args.node; version = c.load_version-version.result; words = c.loop-at.loaded }) (sym loads)
    (kept_after c.args.node c.load_version-version.result c.loop-at.loaded c.args.me.now.log even free)

pub returns-then-version-ne0-clause-others : goal.returns-then-version-ne0-clause-others
returns-then-version-ne0-clause-others c s far kept =
    subst (λ (k : CallerData). IsKept k.log s) (sym c.load_version-version.ensures.log)
    (others_seen c.args.node c.load_version-version.result s c.args.me.now.log far kept)

pub returns-clause-others : goal.returns-clause-others
returns-clause-others c s far kept =
    subst (λ (k : CallerData). IsKept k.log s) (sym c.loop-at.invariant.loads)
    (others_kept c.args.node c.load_version-version.result c.loop-at.loaded c.loop-at.at s c.args.me.now.log far kept)

pub returns-then-version-ne0-clause-locked : goal.returns-then-version-ne0-clause-locked
returns-then-version-ne0-clause-locked c is s kept =
    subst (λ (k : CallerData). IsKept k.log s) (sym c.load_version-version.ensures.log)
    (locked_kept c.args.node c.load_version-version.result s c.args.me.now.log (omega (arith, c.if-version-ne0.true)) kept)
