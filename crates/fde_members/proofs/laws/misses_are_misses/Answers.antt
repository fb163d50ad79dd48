use Rattle.std.proofs.Common.{◌++◌}
use Rattle.std.proofs.lemmas.List.Elements.{Contains-append_right}
use Rattle.fde_members.proofs.Hits.{missed}
use Rattle.fde_members.proofs.laws.misses_are_misses.Goals as goal

pub returns-clause-registered : goal.returns-clause-registered
returns-clause-registered c = λ s pc m none among. missed s.registered pc m none among

pub returns-clause-loaded : goal.returns-clause-loaded
returns-clause-loaded c = λ s pc m none among. missed (s.fixed ++ s.loaded) pc m none (Contains-append_right s.fixed s.loaded m among)
