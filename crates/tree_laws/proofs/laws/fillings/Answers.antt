use Rattle.tree_laws.proofs.Fillings.{twice_as_many, full_members, tall_is_large}
use Rattle.tree_laws.proofs.laws.fillings.Goals as goal

pub returns : goal.returns
returns c = record { entries = twice_as_many; height = tall_is_large; full = full_members }
