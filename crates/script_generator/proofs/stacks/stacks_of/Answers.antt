use Rattle.std.proofs.Common.{◌∙◌, ◌++◌, ◌∷◌, [], List, map, sym, ap}
use Rattle.std.specs.List.{range_with_len}
use Rattle.script_text.specs.ScriptData.{SnapshotData}
use Rattle.script_generator.specs.Generator.{generated_stack}
use Rattle.script_generator.proofs.Ranges.{map_range_more}
use Rattle.script_generator.proofs.stacks.stacks_of.Goals as goal

pub loop-thread-preserved : goal.loop-thread-preserved
loop-thread-preserved c =
    let thread = c.loop-thread.thread in
    c.in_ok-push.ensures.items ∙ ap (λ (xs : List SnapshotData). xs ++ c.in_ok-stack_of.field-0 ∷ []) c.loop-thread.invariant
    ∙ ap (λ (x : SnapshotData). map generated_stack (range_with_len 0 thread) ++ x ∷ []) c.in_ok-stack_of.ensures ∙ sym (map_range_more generated_stack thread)
