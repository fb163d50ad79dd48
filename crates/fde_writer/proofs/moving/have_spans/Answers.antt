use Rattle.fde_writer.proofs.Moved.{spans_all, spans_more}
use Rattle.fde_writer.proofs.moving.have_spans.Goals as goal

pub loop-place-preserved : goal.loop-place-preserved
loop-place-preserved c = spans_more c.args.places.now c.loop-place.place-index c.place-item.result c.loop-place-test.true c.place-item.is c.loop-place.invariant c.first-first.ensures.span

pub returns : goal.returns
returns c = spans_all c.args.places.now c.loop-place.place-index c.loop-place-test.false c.loop-place.invariant
