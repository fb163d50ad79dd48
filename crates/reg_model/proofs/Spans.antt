-- Spans: when two of them overlap.
use Rattle.std.proofs.Common.{ℕ, ◌≤◌, max, IsTrue, arith}
use Rattle.std.proofs.lemmas.Bool.{leb-true, le-leb, and_parts, and_from}
use Rattle.std.proofs.Math.Dec.{leb}
use Rattle.reg_model.specs.SpanData.{SpanData, IsSpan, contains, Overlaps}

pub contains_from : (span : SpanData) (pc : ℕ) → span.first ≤ pc → pc ≤ span.last → IsTrue (contains span pc)
contains_from span pc low high = and_from _ _ (le-leb span.first pc low) (le-leb pc span.last high)

pub contains_bounds : (span : SpanData) (pc : ℕ) → IsTrue (contains span pc) → (span.first ≤ pc) × (pc ≤ span.last)
contains_bounds span pc h =
    let parts = and_parts (leb span.first pc) (leb pc span.last) h in
    (leb-true span.first pc parts.0, leb-true pc span.last parts.1)

-- the higher of the two first addresses is in both
pub overlap_from : (a b : SpanData) → IsSpan a → IsSpan b → a.first ≤ b.last → b.first ≤ a.last → Overlaps a b
overlap_from a b a_span b_span a_begins b_begins =
    let pc = max a.first b.first in
    let a_ordered = a_span.ordered in
    let b_ordered = b_span.ordered in
    (pc, (contains_from a pc (omega arith) (omega arith), contains_from b pc (omega arith) (omega arith)))

pub overlap_bounds : (a b : SpanData) → Overlaps a b → (a.first ≤ b.last) × (b.first ≤ a.last)
overlap_bounds a b common =
    let in_a = contains_bounds a common.0 common.1.0 in
    let in_b = contains_bounds b common.0 common.1.1 in
    (omega arith, omega arith)
