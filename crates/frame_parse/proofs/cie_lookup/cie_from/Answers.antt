use Rattle.std.proofs.Common.{◌≡◌, ◌+◌, ◌-◌, ◌/◌, ◌<◌, length, refl, sym, arith, inl, inr}
use Rattle.std.proofs.lemmas.Bool.{cases_lt}
use Rattle.frame_parse.specs.Entries.{no_cie}
use Rattle.frame_parse.specs.Sections.{starts}
use Rattle.frame_parse.proofs.Searches.{starts-at, starts-length, up_to, cie_from-at, cie_from-none}
use Rattle.frame_parse.proofs.cie_lookup.cie_from.Goals as goal
use Rattle.frame_parse.proofs.cie_lookup.cie_from.Goals.{else-low-cies-via-then-low-cies+else-cies-low, else-low-cies-via-else-low-cies}

pub loop-low-preserved-then-cies-middle : goal.loop-low-preserved-then-cies-middle
loop-low-preserved-then-cies-middle c =
    let cies = c.args.cies.now in
    let middle = c.loop-low.low + (c.loop-low.high - c.loop-low.low) / 2 in
    let size : length (starts cies) ≡ length cies = starts-length cies in
    let inside : middle < length cies = omega (arith, c.loop-low.invariant.within) in
    let here = starts-at cies middle no_cie refl in
    record {
      ordered = omega arith;
      within = c.loop-low.invariant.within;
      below = λ k h. let up = up_to (starts cies) k middle c.requires (omega arith) (omega (arith, size)) in omega (arith, up, here, c.if-cies-middle.true);
      above = c.loop-low.invariant.above;
    }

pub loop-low-preserved : goal.loop-low-preserved
loop-low-preserved c =
    let cies = c.args.cies.now in
    let middle = c.loop-low.low + (c.loop-low.high - c.loop-low.low) / 2 in
    let size : length (starts cies) ≡ length cies = starts-length cies in
    let here = starts-at cies middle no_cie refl in
    record {
      ordered = omega arith;
      within = omega (arith, c.loop-low.invariant.within);
      below = c.loop-low.invariant.below;
      above = λ k h lt. let up = up_to (starts cies) middle k c.requires h (omega (arith, size)) in omega (arith, up, here, c.if-cies-middle.false);
    }

pub returns-then-cies-low-clause-value : goal.returns-then-cies-low-clause-value
returns-then-cies-low-clause-value c =
    let here = starts-at c.args.cies.now c.loop-low.low no_cie refl in
    sym (cie_from-at c.args.cies.now c.loop-low.low c.args.place no_cie (omega arith) c.loop-low.invariant.below (omega (arith, here, c.if-cies-low.true)))

pub returns-else-low-cies-clause-value : goal.returns-else-low-cies-clause-value
returns-else-low-cies-clause-value c =
    let cies = c.args.cies.now in
    let low = c.loop-low.low in
    let size : length (starts cies) ≡ length cies = starts-length cies in
    sym (cie_from-none cies c.args.place (λ k lt e.
    elim (cases_lt k low) [
      | inl before ↦ let h = c.loop-low.invariant.below k before in omega arith
      | inr behind ↦
          elim c.else-low-cies.branch [
            | else-low-cies-via-then-low-cies+else-cies-low w ↦
                let here = starts-at cies low no_cie refl in
                let up = up_to (starts cies) low k c.requires behind (omega (arith, size)) in
                let first = c.loop-low.invariant.above low (omega arith) (omega arith) in
                w.if-cies-low.false (omega (arith, here, up, first))
            | else-low-cies-via-else-low-cies w ↦ absurd (omega (arith, w.if-low-cies.false))
          ]
    ]))
