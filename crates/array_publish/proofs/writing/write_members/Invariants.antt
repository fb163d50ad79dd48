use Rattle.array_publish.specs.Holders.{active_words, spare_words}
use Rattle.array_publish.specs.Writing.{AreRightBeside, SameHeaders, changed_count}
use Rattle.array_publish.proofs.Works.{Written}
use Rattle.array_publish.proofs.writing.write_members.Given as goal

abbrev pub invariant-loop-index : goal.invariant-loop-index
invariant-loop-index l = record {
  work : Written l.words l.active.starts.copy (spare_words l.me.log.loader) l.fn.me l.me;
  members : AreRightBeside l.change (active_words l.fn.me.log.loader) (spare_words l.me.log.loader) (changed_count l.change l.active.count) (record { from = l.index; to = l.fn.at.to });
  headers : SameHeaders (spare_words l.fn.me.log.loader) (spare_words l.me.log.loader);
}
