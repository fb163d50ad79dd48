use Rattle.std.proofs.Common.{◌∙◌, ◌++◌, ◌∷◌, [], List, map, sym, ap}
use Rattle.std.specs.List.{range_with_len}
use Rattle.script_text.specs.declared.script.Event.{Event}
use Rattle.script_generator.specs.Generator.{generated_events}
use Rattle.script_generator.proofs.Ranges.{map_range_more}
use Rattle.script_generator.proofs.generating.round_of.Goals as goal

pub loop-thread-preserved : goal.loop-thread-preserved
loop-thread-preserved c =
    let events = generated_events c.args.count in
    let thread = c.loop-thread.thread in
    c.in_ok-push.ensures.items ∙ ap (λ (xs : List (List Event)). xs ++ c.in_ok-thread_of.field-0 ∷ []) c.loop-thread.invariant
    ∙ ap (λ (x : List Event). map events (range_with_len 0 thread) ++ x ∷ []) c.in_ok-thread_of.ensures ∙ sym (map_range_more events thread)
