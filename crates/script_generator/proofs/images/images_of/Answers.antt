use Rattle.std.proofs.Common.{◌∙◌, ◌++◌, List, map, sym, ap}
use Rattle.reg_model.specs.SpanData.{SpanData}
use Rattle.script_generator.specs.Generator.{generated_span}
use Rattle.script_generator.proofs.Ranges.{flat_range_more}
use Rattle.script_generator.proofs.images.images_of.Goals as goal

pub loop-thread-preserved : goal.loop-thread-preserved
loop-thread-preserved c =
    let order = c.args.order.now in
    c.in_ok-images.ensures ∙ ap (λ (xs : List SpanData). xs ++ map (generated_span c.loop-thread.thread) order) c.loop-thread.invariant
    ∙ sym (flat_range_more (λ thread. map (generated_span thread) order) c.loop-thread.thread)
