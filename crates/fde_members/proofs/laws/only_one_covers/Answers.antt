use Rattle.fde_members.proofs.Covers.{only_cover}
use Rattle.fde_members.proofs.laws.only_one_covers.Goals as goal

pub returns : goal.returns
returns c = λ fdes pc f none among has. only_cover fdes pc f none among has
