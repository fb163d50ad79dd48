use Rattle.std.proofs.lemmas.List.Elements.{All-contains}
use Rattle.fde_members.specs.Members.{IsFdeMember}
use Rattle.fde_members.proofs.Histories.{of_sections}
use Rattle.fde_members.proofs.Hits.{covered, hit}
use Rattle.fde_members.proofs.laws.found_fdes_are_given.Goals as goal

pub returns : goal.returns
returns c = λ low loads sections history half pc m small below adds found.
    let of = of_sections low loads sections history half pc m adds found in
    let h = hit of.0 pc m of.1 in
    covered low sections pc m small below h.1 (All-contains (IsFdeMember low sections) of.0 m of.2 h.0)
