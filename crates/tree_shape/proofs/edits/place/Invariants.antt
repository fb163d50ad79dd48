use Rattle.std.proofs.Common.{◌≡◌, ◌+◌, drop}
use Rattle.tree_shape.specs.NodeData.{place_for}
use Rattle.tree_shape.proofs.edits.place.Given as goal

-- the place is among the entries that are left
abbrev pub invariant-loop-place : goal.invariant-loop-place
invariant-loop-place l = place_for l.pc l.entries ≡ place_for l.pc (drop l.place l.entries) + l.place
