use Rattle.std.proofs.Common.{◌+◌, ◌-◌, ◌/◌, arith}
use Rattle.frame_parse.specs.Sections.{fde_starts}
use Rattle.frame_parse.proofs.Searches.{up_to}
use Rattle.eh_hdr.proofs.Places.{fdes-count, place_told}
use Rattle.eh_hdr.proofs.fde_place.first_from.Goals as goal

pub loop-low-preserved-then-fde_place-place : goal.loop-low-preserved-then-fde_place-place
loop-low-preserved-then-fde_place-place c =
    let fdes = c.args.section.now.fdes in
    let was = c.loop-low in
    let here = place_told fdes (was.low + (was.high - was.low) / 2) c.fde_place.result c.fde_place.ensures in
    record {
      ordered = omega arith;
      within = was.invariant.within;
      below = λ k h. let up = up_to (fde_starts fdes) k (was.low + (was.high - was.low) / 2) c.known.ensures.ascending (omega arith) (omega (arith, fdes-count fdes, was.invariant.within)) in omega (arith, up, here, c.if-fde_place-place.true);
      above = was.invariant.above;
    }

pub loop-low-preserved : goal.loop-low-preserved
loop-low-preserved c =
    let fdes = c.args.section.now.fdes in
    let was = c.loop-low in
    let here = place_told fdes (was.low + (was.high - was.low) / 2) c.fde_place.result c.fde_place.ensures in
    record {
      ordered = omega arith;
      within = omega (arith, was.invariant.within);
      below = was.invariant.below;
      above = λ k h lt. let up = up_to (fde_starts fdes) (was.low + (was.high - was.low) / 2) k c.known.ensures.ascending h (omega (arith, fdes-count fdes)) in omega (arith, up, here, c.if-fde_place-place.false);
    }
