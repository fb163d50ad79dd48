-- How the places of a section's members are kept.
use Rattle.std.specs.Prelude.{List, [], ◌∷◌}
use Rattle.fde_writer.specs.Places.{PlaceData}
use Rattle.fde_writer.specs.declared.places.PlacesForm.{PlacesForm}
use Rattle.fde_writer.specs.declared.places.PlacesForm.TheVariants.{One, Many}

-- one place, or several
abbrev pub places_of : PlacesForm → List PlaceData
places_of (One place) = place ∷ []
places_of (Many places) = places.items
