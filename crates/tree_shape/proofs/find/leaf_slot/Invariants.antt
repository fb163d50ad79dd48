use Rattle.std.proofs.Common.{◌≡◌, drop}
use Rattle.std.specs.List.{find}
use Rattle.reg_model.specs.SpanData.{contains}
use Rattle.tree_shape.specs.NodeData.{entries_of}
use Rattle.tree_shape.proofs.find.leaf_slot.Given as goal

-- the answer is among the entries that are left
abbrev pub invariant-loop-entry : goal.invariant-loop-entry
invariant-loop-entry l =
    find (λ m. contains m.span l.pc) (entries_of l.node) ≡ find (λ m. contains m.span l.pc) (drop l.entry-index (entries_of l.node))
