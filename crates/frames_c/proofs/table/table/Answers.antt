use Rattle.std.proofs.Common.{◌≡◌, ◌++◌, length, take, drop, sym, subst, ◌∙◌, arith}
use Rattle.std.proofs.lemmas.List.{length-take}
use Rattle.std.proofs.Math.Seq.{take-append_seam}
use Rattle.frames_c.proofs.Tables.{finds_as_section}
use Rattle.frames_c.proofs.table.table.Goals as goal

pub returns-then-order-clause-table : goal.returns-then-order-clause-table
returns-then-order-clause-table c =
    let n = c.fill-count.result in
    let es = c.fill-count.new.entries in
    let o = c.order.new.entries in
    let size : length o ≡ n = omega (arith, c.order.ensures.length, length-take n es, c.fill-count.ensures.room) in
    let whole : take n (o ++ drop n es) ≡ o = subst (λ k. take k (o ++ drop n es) ≡ o) size (take-append_seam o (drop n es)) in
    let same = rw c.fill-count.ensures.entries at c.order.ensures.same in
    let apart = sym c.order.ensures.apart ∙ c.if-order.true in
    rw whole (omega arith, record { same = same; ordered = c.order.ensures.ordered }, apart, finds_as_section c.args.section.now.fdes o same apart)
