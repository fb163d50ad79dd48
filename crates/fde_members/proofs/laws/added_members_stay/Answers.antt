use Rattle.std.proofs.Common.{take}
use Rattle.std.proofs.lemmas.List.Elements.{All-take}
use Rattle.fde_members.specs.Members.{AddsOnly}
use Rattle.fde_members.proofs.Histories.{registered_stay, loaded_stay}
use Rattle.fde_members.proofs.laws.added_members_stay.Goals as goal

pub returns-clause-registered : goal.returns-clause-registered
returns-clause-registered c = λ low sections start history k all adds.
    registered_stay low sections start (take k history) all (All-take (AddsOnly low sections) k history adds)

pub returns-clause-loaded : goal.returns-clause-loaded
returns-clause-loaded c = λ low sections start history k all adds.
    loaded_stay low sections start (take k history) all (All-take (AddsOnly low sections) k history adds)
