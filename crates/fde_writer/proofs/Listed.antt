-- Keys under which sections stand are among those that a map lists.
use Rattle.std.proofs.Common.{◌≢◌, ℕ, List, [], Contains, Option, Some, None, eqb, eqb-true, refl, IsSome}
use Rattle.std.specs.Map.{keys_of, lookup}
use Rattle.std.specs.Option.{unwrap_or}
use Rattle.std.proofs.lemmas.Map.Views.{Contains-keys_from_lookup}
use Rattle.fde_writer.specs.Standing.{StandingData, Standings, standing_under}

is_found : (under : Option (List StandingData)) → unwrap_or under [] ≢ [] → IsSome under
is_found None some = absurd (some refl)
is_found (Some xs) some = refl

pub is_listed : (stands : Standings) (key : ℕ) → standing_under key stands ≢ [] → Contains (keys_of stands) key
is_listed stands key some = Contains-keys_from_lookup eqb-true key stands (is_found (lookup (eqb key) stands) some)
