use Rattle.std.proofs.Common.{ℕ, ◌+◌, Some, drop, ap, sym, ◌∙◌, arith}
use Rattle.eh_bytes.specs.CursorData.{first_below}
use Rattle.eh_bytes.proofs.Ends.{shifted, shifted-zero, shifted-suc, first_below-here, first_below-later, first_below-none}
use Rattle.eh_bytes.proofs.leb.first_below.Goals as goal

pub loop-i-init : goal.loop-i-init
loop-i-init c = shifted-zero (first_below c.args.bound c.args.bytes.now)

pub returns-then-b-bound-clause-first : goal.returns-then-b-bound-clause-first
returns-then-b-bound-clause-first c =
    let here = first_below-here c.args.bound c.args.bytes.now c.loop-i.i (omega arith) (omega arith) in
    sym (c.loop-i.invariant ∙ ap (shifted c.loop-i.i) here ∙ ap (λ (k : ℕ). Some k) (omega arith))

pub loop-i-preserved : goal.loop-i-preserved
loop-i-preserved c =
    let later = first_below-later c.args.bound c.args.bytes.now c.loop-i.i (omega arith) (omega arith) in
    c.loop-i.invariant ∙ ap (shifted c.loop-i.i) later ∙ shifted-suc c.loop-i.i (first_below c.args.bound (drop (c.loop-i.i + 1) c.args.bytes.now))

pub returns-clause-first : goal.returns-clause-first
returns-clause-first c = sym (c.loop-i.invariant ∙ ap (shifted c.loop-i.i) (first_below-none c.args.bound c.args.bytes.now c.loop-i.i (omega arith)))
