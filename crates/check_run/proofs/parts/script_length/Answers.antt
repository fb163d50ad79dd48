use Rattle.std.proofs.Common.{◌≡◌, true, false, codes, sym, ap, ◌∙◌, arith}
use Rattle.std.specs.Str.{bytes_eq}
use Rattle.check_run.proofs.Cutting.{ends_here, goes_on, last_counts, rest_longer}
use Rattle.check_run.proofs.parts.script_length.Goals as goal

pub returns-then-eq-clause-count : goal.returns-then-eq-clause-count
returns-then-eq-clause-count c =
    let is : bytes_eq c.in-Some.line.now (codes "end") ≡ true = ap (bytes_eq c.in-Some.line.now) (sym c.as_slice.ensures) ∙ sym c.eq.ensures ∙ c.if-eq.true in
    let here = ends_here c.loop-line.rest.now c.in-Some.line.now c.in-Some.after.now c.in-Some.ensures.lines is in
    let so_far = c.loop-line.invariant.1 in
    let within = c.loop-line.invariant.0 in
    let long = rest_longer c.loop-line.rest.now c.in-Some.line.now c.in-Some.after.now c.in-Some.ensures.lines in
    omega arith

pub loop-line-preserved : goal.loop-line-preserved
loop-line-preserved c =
    let other : bytes_eq c.in-Some.line.now (codes "end") ≡ false = ap (bytes_eq c.in-Some.line.now) (sym c.as_slice.ensures) ∙ sym c.eq.ensures ∙ c.if-eq.false in
    let more = goes_on c.loop-line.rest.now c.in-Some.line.now c.in-Some.after.now c.in-Some.ensures.lines other in
    let long = rest_longer c.loop-line.rest.now c.in-Some.line.now c.in-Some.after.now c.in-Some.ensures.lines in
    let so_far = c.loop-line.invariant.1 in
    let within = c.loop-line.invariant.0 in
    (omega arith, omega arith)

pub returns-clause-count : goal.returns-clause-count
returns-clause-count c =
    let last = last_counts c.loop-line.rest.now c.in_default.ensures.lines in
    let so_far = c.loop-line.invariant.1 in
    omega arith
