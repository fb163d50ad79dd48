use Rattle.tree_laws.proofs.Becomes.{tree_becomes}
use Rattle.tree_laws.proofs.Local.{tree_after, filled_after, entries_after}
use Rattle.tree_laws.proofs.laws.local_change.Goals as goal

pub returns-clause-tree : goal.returns-clause-tree
returns-clause-tree c = tree_after

pub returns-clause-entries : goal.returns-clause-entries
returns-clause-entries c = entries_after

pub returns-clause-lawful : goal.returns-clause-lawful
returns-clause-lawful c f live top group fresh g lawful change filled = record {
  tree = tree_after f live top group fresh g lawful.tree change;
  filled = filled_after f live top group fresh g lawful.tree change (λ n alive outside. lawful.filled n alive) filled;
}

pub returns-clause-update : goal.returns-clause-update
returns-clause-update c f live top group fresh g update lawful change =
    tree_becomes f live top group fresh g lawful.tree change.change update change.entries
