use Rattle.array_publish.specs.Holders.{spare_words}
use Rattle.array_publish.specs.Writing.{HaveHeaders, SameMembers}
use Rattle.array_publish.proofs.Works.{Written}
use Rattle.array_publish.proofs.writing.write_headers.Given as goal

abbrev pub invariant-loop-segment : goal.invariant-loop-segment
invariant-loop-segment l = record {
  work : Written l.words l.starts.copy (spare_words l.me.log.loader) l.fn.me l.me;
  headers : HaveHeaders (spare_words l.me.log.loader) l.count l.segment;
  members : SameMembers (spare_words l.fn.me.log.loader) (spare_words l.me.log.loader);
}
