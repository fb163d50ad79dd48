-- How the sections that stand under one key are kept.
use Rattle.std.specs.Prelude.{List, [], ◌∷◌}
use Rattle.fde_writer.specs.Standing.{StandingData, bare_standing}
use Rattle.fde_writer.specs.declared.stack.Layers.{Layers}
use Rattle.fde_writer.specs.declared.stack.Layers.TheVariants.{Bare, More}

-- one section with one member and no note, or any others
abbrev pub layered : Layers → List StandingData
layered (Bare seen half payload span) = bare_standing seen.section
    (record { member = record { span = span; payload = payload }; half = half }) ∷ []
layered (More all) = all.value.items
