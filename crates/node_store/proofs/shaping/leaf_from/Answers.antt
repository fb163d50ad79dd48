use Rattle.std.proofs.Common.{IsSome, ◌∙◌, sym, subst, arith, length-set}
use Rattle.word_rule.specs.Spelling.{body_of_kind}
use Rattle.node_store.proofs.Shapes.{leaf_known, entry_made, entry_next}
use Rattle.node_store.proofs.shaping.leaf_from.Goals as goal

pub loop-slot-preserved : goal.loop-slot-preserved
loop-slot-preserved c =
    let known = leaf_known c.args.words.now c.short_word-count.result (subst (λ n. IsSome (body_of_kind c.args.words.now 1 n)) (sym c.short_word-count.ensures) c.requires) in
    let entry = entry_next c.args.words.now c.loop-slot.entries c.short_word-count.result c.loop-slot.slot c.loop-slot-test.true known.1 c.loop-slot.invariant.left in
    record {
      room = length-set _ _ _ ∙ c.loop-slot.invariant.room;
      left = entry_made c.args.words.now c.loop-slot.entries c.short_word-count.result c.loop-slot.slot c.entry_from.result c.loop-slot-test.true (omega (arith, c.loop-slot-test.true, known.0, c.loop-slot.invariant.room)) entry c.entry_from.ensures c.loop-slot.invariant.left;
    }
