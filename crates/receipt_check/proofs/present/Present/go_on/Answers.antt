use Rattle.std.proofs.Common.{◌+◌, ◌∙◌, ap, refl, arith, length}
use Rattle.std.proofs.lemmas.Option.{slice_get_read}
use Rattle.receipt_check.proofs.present.Present.go_on.Goals as goal

pub loop-made-preserved : goal.loop-made-preserved
loop-made-preserved c =
    let here = c.loop-made.invariant.made in
    record {
      made = c.in_ok-make.ensures.made ∙ ap (λ n. n + 1) here;
      present = λ start from. c.in_ok-make.ensures.present start c.args.history.now (rw here (slice_get_read c.args.history.now (length c.args.history.now) c.loop-made.made c.index-history-made.result refl (let end = c.min-end.ensures in let within = c.loop-made-test.true in omega arith) c.index-history-made.is)) (c.loop-made.invariant.present start from);
    }

pub returns : goal.returns
returns c = λ start from below.
    let here = c.loop-made.invariant.made in
    let few = from.within in
    let end = c.min-end.ensures in
    let past = c.loop-made-test.false in
    let up = c.loop-made.auto.made-end (omega arith) in
    (c.loop-made.invariant.present start from, omega arith)
