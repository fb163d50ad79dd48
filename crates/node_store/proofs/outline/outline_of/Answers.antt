use Rattle.std.proofs.Common.{◌∙◌, ap, sym, subst}
use Rattle.word_rule.specs.CallerData.{CallerData}
use Rattle.word_rule.specs.Held.{now_in}
use Rattle.word_rule.specs.declared.log.Holdings.{Holdings}
use Rattle.node_store.specs.Holding.{SpellsHeld}
use Rattle.node_store.specs.Outlines.{IsCountOf}
use Rattle.node_store.proofs.Outlined.{count_is, is_held, known, live_now, no_loads, one_load, spells_now, told}
use Rattle.node_store.proofs.outline.outline_of.Goals as goal

pub outlined-requires-clause-count : goal.outlined-requires-clause-count
outlined-requires-clause-count c =
    let n = c.args.node in
    let v = c.args.me.now.log in
    let s = now_in v.holdings.held n in
    let x = known n s v (spells_now n v c.requires.held) in
    let same = ap (λ (k : CallerData). k.log.holdings) c.load_node-level.ensures.log in
    let word = told n 5 c.load_node-count.result s v c.load_node-level.new.me.log x same c.load_node-count.ensures.held in
    let after = ap (λ (k : CallerData). k.log.holdings) c.load_node-count.ensures.log ∙ same in
    subst (λ (hs : Holdings). IsCountOf c.load_node-count.result (now_in hs.held n).body) (sym after)
    (subst (λ count. IsCountOf count s.body) word (count_is x.lock.words s x.spells))

pub returns-clause-live : goal.returns-clause-live
returns-clause-live c =
    let n = c.args.node in
    let v = c.args.me.now.log in
    let after = ap (λ (k : CallerData). k.log.holdings) c.load_node-count.ensures.log ∙ ap (λ (k : CallerData). k.log.holdings) c.load_node-level.ensures.log in
    let is = c.outlined.ensures ∙ ap (λ (hs : Holdings). now_in hs.held n) after in
    let spells = subst (λ s. SpellsHeld n s v) (sym is) (spells_now n v c.requires.held) in
    live_now n c.outlined.result v (known n c.outlined.result v spells) c.load_node-level.ensures.holder

pub returns-clause-loads : goal.returns-clause-loads
returns-clause-loads c =
    let n = c.args.node in
    let k = c.args.me.now in
    let held = is_held n (now_in k.log.holdings.held n) k.log (spells_now n k.log c.requires.held) in
    one_load n 5 c.load_node-count.result k c.load_node-level.new.me c.load_node-count.new.me held
    (one_load n 2 c.load_node-level.result k k c.load_node-level.new.me held (no_loads k) c.load_node-level.ensures.log) c.load_node-count.ensures.log
