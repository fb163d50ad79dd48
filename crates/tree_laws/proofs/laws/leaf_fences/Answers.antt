use Rattle.tree_laws.proofs.Wholes.{leaf_kind, fenced_leaf, fenced_entries, fenced_found}
use Rattle.tree_laws.proofs.laws.leaf_fences.Goals as goal

pub returns : goal.returns
returns c = record {
  kind = leaf_kind;
  leaf = fenced_leaf;
  entries = fenced_entries;
  found = fenced_found;
}
