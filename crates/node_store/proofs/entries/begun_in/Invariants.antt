use Rattle.tree_shape.specs.NodeData.{entries_of}
use Rattle.node_store.specs.Outlines.{OnlyLoads}
use Rattle.node_store.proofs.LeafSearch.{Looked}
use Rattle.node_store.proofs.entries.begun_in.Given as goal

-- only bases were loaded
abbrev pub invariant-loop-place : goal.invariant-loop-place
invariant-loop-place l = record {
  loads : OnlyLoads l.fn.me l.me;
  goes : Looked l.pc (entries_of l.outline) l.place l.ahead l.begun;
}
