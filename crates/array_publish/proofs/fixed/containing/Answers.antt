use Rattle.std.proofs.Common.{◌≡◌, ◌<◌, ◌≤◌, ◌++◌, length, sym, ◌∙◌, arith}
use Rattle.std.proofs.lemmas.List.{take-append-drop}
use Rattle.array_publish.proofs.Halves.{in_upper_half, in_lower_half}
use Rattle.array_publish.proofs.fixed.containing.Goals as goal

pub loop-left-preserved-then-first-pc : goal.loop-left-preserved-then-first-pc
loop-left-preserved-then-first-pc c =
    let left = c.loop-left.left.now in
    let front = c.split_at.result.0.now in
    let back = c.split_at.result.1.now in
    let parts : left ≡ front ++ back = rw (c.split_at.ensures.front, c.split_at.ensures.back) (sym (take-append-drop _ left)) in
    let some : 0 < length back = omega (arith, c.split_at.ensures.back_len, c.loop-left-test.true) in
    let le : c.index-high-0.result.span.first ≤ c.args.pc = omega (arith, c.if-first-pc.true, c.first.ensures.value) in
    let high = in_upper_half c.args.pc c.loop-left.invariant.0 left front back c.index-high-0.result parts some c.index-high-0.is c.loop-left.invariant.1 le in
    (high.0, high.1, high.2 ∙ c.loop-left.invariant.2)

pub loop-left-preserved : goal.loop-left-preserved
loop-left-preserved c =
    let left = c.loop-left.left.now in
    let front = c.split_at.result.0.now in
    let back = c.split_at.result.1.now in
    let parts : left ≡ front ++ back = rw (c.split_at.ensures.front, c.split_at.ensures.back) (sym (take-append-drop _ left)) in
    let some : 0 < length back = omega (arith, c.split_at.ensures.back_len, c.loop-left-test.true) in
    let less : c.args.pc < c.index-high-0.result.span.first = omega (arith, c.if-first-pc.false, c.first.ensures.value) in
    let low = in_lower_half c.args.pc c.loop-left.invariant.0 left front back c.index-high-0.result parts some c.index-high-0.is c.loop-left.invariant.1 less in
    (low.0, low.1, low.2 ∙ c.loop-left.invariant.2)
