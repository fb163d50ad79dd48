-- What reading leaves: a handle of the section.
use Rattle.std.specs.Prelude.{◌≡◌, ℕ, List, Option, Some, None, []}
use Rattle.c_sections.specs.Loads.{IsLoaded}
use Rattle.frames_c.specs.Held.{LoadedData}

-- it leads to that section
abbrev pub LeadsToLoaded : ℕ → List ℕ → Option LoadedData → Type 0
LeadsToLoaded address bytes held =
    (loaded : LoadedData) × (held ≡ Some loaded) × IsLoaded address bytes loaded.section

-- nothing was refused in it
abbrev pub HasNothingRefused : Option LoadedData → Type 0
HasNothingRefused held = (loaded : LoadedData) × (held ≡ Some loaded) × (loaded.refused ≡ [])

-- no table of a header is kept beside it
abbrev pub HasNoTable : Option LoadedData → Type 0
HasNoTable held = (loaded : LoadedData) × (held ≡ Some loaded) × (loaded.table ≡ None)
