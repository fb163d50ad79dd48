use Rattle.tree_laws.proofs.Transfers.{transfer_change, transfer_lawful, same_reached, same_tests}
use Rattle.tree_laws.proofs.laws.transfer.Goals as goal

pub returns : goal.returns
returns c = record {
  change = transfer_change;
  lawful = transfer_lawful;
  reached = same_reached;
  tests = same_tests;
}
