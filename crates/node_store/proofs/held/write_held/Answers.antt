use Rattle.std.proofs.Common.{◌≡◌, ◌-◌, ◌∙◌, Some, None, ap, sym, subst, arith}
use Rattle.word_rule.specs.CallerData.{CallerData}
use Rattle.word_rule.specs.Places.{CONTENT_WORDS}
use Rattle.word_rule.specs.Steps.{MayStore, after_node_store}
use Rattle.node_store.specs.Holding.{after_node_stores}
use Rattle.node_store.specs.Sights.{after_words}
use Rattle.node_store.specs.Writing.{store_in_turn, stores_upto}
use Rattle.node_store.proofs.HeldWrites.{may_after_words, may_next, no_store, still_before, turn_none, turn_some}
use Rattle.node_store.proofs.Making.{written}
use Rattle.node_store.proofs.Overwritten.{none_upto}
use Rattle.node_store.proofs.held.write_held.Goals as goal
use Rattle.node_store.proofs.held.write_held.Goals.{in-Some, in_default}

pub loop-turn-init : goal.loop-turn-init
loop-turn-init c =
    let n = c.args.node in
    let old = c.load_words.new.loaded in
    let first = none_upto c.args.content.now old (35 - c.spell-reach.result) (omega (arith, c.spell-reach.ensures.count, c.spell-reach.ensures.some)) in
    record {
      stored = c.load_words.ensures.log ∙ ap (λ v. record c.args.me.now { log = v }) (sym (ap (λ made. after_node_stores n made (after_words n old CONTENT_WORDS c.args.me.now.log)) first ∙ no_store n (after_words n old CONTENT_WORDS c.args.me.now.log)));
      may = λ still. subst (λ (k : CallerData). MayStore n k.log) (sym c.load_words.ensures.log) (may_after_words n old CONTENT_WORDS c.args.me.now.log c.requires.may);
    }

pub loop-turn-preserved : goal.loop-turn-preserved
loop-turn-preserved c =
    let n = c.args.node in
    let s = c.args.content.now in
    let old = c.load_words.new.loaded in
    let over = c.spell-reach.ensures.spells in
    let t = c.loop-turn.turn in
    let inv = c.loop-turn.invariant in
    let first = after_words n old CONTENT_WORDS c.args.me.now.log in
    elim c.match-store_in_turn.branch [
      | in-Some w ↦
          let x = w.in-Some.store in
          let is : store_in_turn s old t ≡ Some x = sym (c.store_in_turn.ensures s over) ∙ w.in-Some.is in
          let me = w.me-is ∙ w.store_node.ensures.log in
          record {
            stored = me
                ∙ (ap (λ (k : CallerData). record k { log = after_node_store n x.at x.value k.log }) inv.stored
                ∙ ap (λ v. record c.args.me.now { log = v }) (turn_some n s old t x first is));
            may = λ still. subst (λ (k : CallerData). MayStore n k.log) (sym me) (may_next n s old t x c.loop-turn.me.log c.loop-turn-test.true is inv.may still);
          }
      | in_default w ↦
          let is : store_in_turn s old t ≡ None = sym (c.store_in_turn.ensures s over) ∙ w.in_default.is in
          record {
            stored = w.me-is ∙ (inv.stored ∙ ap (λ v. record c.args.me.now { log = v }) (turn_none n s old t first is));
            may = λ still. subst (λ (k : CallerData). MayStore n k.log) (sym w.me-is) (inv.may (still_before s t still));
          }
    ]

pub returns : goal.returns
returns c =
    let n = c.args.node in
    let s = c.args.content.now in
    let old = c.load_words.new.loaded in
    let all : c.loop-turn.turn ≡ 35 = omega (arith, c.loop-turn-test.false, c.loop-turn.auto.turn-end) in
    let stored = c.loop-turn.invariant.stored ∙ ap (λ count. record c.args.me.now { log = after_node_stores n (stores_upto s old count) (after_words n old CONTENT_WORDS c.args.me.now.log) }) all in
    let done = written n s old c.args.me.now c.loop-turn.me c.node_fits.ensures (c.writes.ensures s) c.requires.may c.load_words.ensures.held c.load_words.ensures.holder stored in
    record { stores = done.stores; order = done.order; spells = done.spells }
