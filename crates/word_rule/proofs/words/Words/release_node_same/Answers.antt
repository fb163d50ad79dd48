use Rattle.word_rule.proofs.KeptVersions.{caller_released}
use Rattle.word_rule.proofs.words.Words.release_node_same.Goals as goal

pub invariant_of-me : goal.invariant_of-me
invariant_of-me c = caller_released _ _ _ _ _ _ _ c.release_same_for.ensures.log c.release_same_for.ensures.same.2 c.me.invariant
