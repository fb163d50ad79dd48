use Rattle.std.proofs.lemmas.List.Elements.{All-contains}
use Rattle.fde_members.specs.Members.{IsFdeMember}
use Rattle.fde_members.proofs.Hits.{hit, covered}
use Rattle.fde_members.proofs.laws.hits_are_fdes.Goals as goal

pub returns : goal.returns
returns c = λ low sections members pc m small below all found.
    let h = hit members pc m found in
    covered low sections pc m small below h.1 (All-contains (IsFdeMember low sections) members m all h.0)
