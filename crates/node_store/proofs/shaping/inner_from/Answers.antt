use Rattle.std.proofs.Common.{IsSome, ◌∙◌, sym, subst, arith, length-set}
use Rattle.word_rule.specs.Spelling.{body_of_kind}
use Rattle.node_store.proofs.Shapes.{inner_known, pair_made, pair_next}
use Rattle.node_store.proofs.shaping.inner_from.Goals as goal

pub loop-slot-preserved : goal.loop-slot-preserved
loop-slot-preserved c =
    let known = inner_known c.args.words.now c.short_word-count.result (subst (λ n. IsSome (body_of_kind c.args.words.now 0 n)) (sym c.short_word-count.ensures) c.requires) in
    let pair = pair_next c.args.words.now c.loop-slot.pairs c.short_word-count.result c.loop-slot.slot c.loop-slot-test.true known.1 c.loop-slot.invariant.left in
    record {
      room = length-set _ _ _ ∙ c.loop-slot.invariant.room;
      left = pair_made c.args.words.now c.loop-slot.pairs c.short_word-count.result c.loop-slot.slot c.pair_from.result c.loop-slot-test.true (omega (arith, c.loop-slot-test.true, known.0, c.loop-slot.invariant.room)) pair c.pair_from.ensures c.loop-slot.invariant.left;
    }
