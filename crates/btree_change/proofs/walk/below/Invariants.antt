use Rattle.btree_change.specs.Stands.{GoesTo}
use Rattle.btree_change.proofs.walk.below.Given as goal

abbrev pub invariant-loop-me : goal.invariant-loop-me
invariant-loop-me g l = record {
  goes : GoesTo l.words.terms l.member l.fn.stand l.stand l.fn.me l.me;
}

abbrev pub decreases-loop-me : goal.decreases-loop-me
decreases-loop-me g l = l.stand.at.content.level
