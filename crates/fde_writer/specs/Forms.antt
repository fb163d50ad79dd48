-- How a section that stands is kept.
use Rattle.std.specs.Prelude.{[], ◌∷◌}
use Rattle.fde_writer.specs.Standing.{StandingData}
use Rattle.fde_writer.specs.declared.standing.Form.{Form}
use Rattle.fde_writer.specs.declared.standing.Form.TheVariants.{One, Many}

-- with one place, or with several
abbrev pub formed : Form → StandingData
formed (One seen note place) =
    record { note = note; section = seen.section; places = place ∷ [] }
formed (Many seen note places) =
    record { note = note; section = seen.section; places = places.items }
