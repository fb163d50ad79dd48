-- Lookups of a client, and what C is told of them.
use Rattle.std.specs.Prelude.{◌≡◌, ℕ, ◌⊎◌, Option, Some, None, Result, Ok, Err, IfOk, IsOk}
use Rattle.array_publish.specs.Lookup.{LooksUp}
use Rattle.btree_lookup.specs.Tries.{TriesTree}
use Rattle.c_handle.specs.Kinds.{NOWHERE, REGISTERED, LOADED, FIND_AGAIN}
use Rattle.reg_model.specs.Receipt.{IsPlace}
use Rattle.reg_model.specs.declared.answer.Again.{Again}
use Rattle.frame_cache.specs.CacheData.{CacheData}
use Rattle.frame_cache.specs.Cached.{CachedTry, IsAnswerOf}
use Rattle.reg_model.specs.declared.answer.Found.{Found}
use Rattle.reg_model.specs.declared.answer.Found.TheVariants.{Hit, Miss}
use Rattle.reg_model.specs.declared.answer.Half.{Half}
use Rattle.reg_model.specs.declared.answer.Half.TheVariants.{Loaded, Registered}
use Rattle.reg_model.specs.declared.answer.Place.{Place}
use Rattle.word_rule.specs.CallerData.{CallerData}
use Rattle.word_rule.specs.Callers.{IsAlone}
use Rattle.word_rule.specs.declared.log.Terms.{Terms}
use Rattle.registry_client.specs.Clients.{ClientData}
use Rattle.registry_client.specs.Kinds.{MISS, HIT, AGAIN}
use Rattle.registry_client.specs.Members.{member_told, no_member}
use Rattle.registry_client.specs.declared.find.LookupBy.{LookupBy}
use Rattle.registry_client.specs.declared.find.LookupBy.TheVariants as by
use Rattle.registry_client.specs.declared.find.RegistryFound.{RegistryFound}
use Rattle.registry_client.specs.declared.find.RegistryPlace.{RegistryPlace}

-- One half was asked once. Whoever is alone is answered.
pub record Asks (step : Terms → ℕ → CallerData → CallerData → Result Found Again → Type 0) (pc : ℕ)
    (c c' : ClientData) (result : Result Found Again) : Type 0 where
  pub stepped : step c.words.terms pc c.me c'.me result
  pub same : c' ≡ record c { me = c'.me }
  pub alone : IsAlone c.me.log.lineage → IsOk result

abbrev pub AsksRegistered : ℕ → ClientData → ClientData → Result Found Again → Type 0
AsksRegistered = Asks TriesTree

abbrev pub AsksLoaded : ℕ → ClientData → ClientData → Result Found Again → Type 0
AsksLoaded = Asks LooksUp

-- One half was asked once by the cache of its last hits. Each answer is right at its stamp, which
-- isn't below what the client had seen. Whoever is alone is answered.
pub record AsksCache (half : Half) (pc : ℕ) (cache cache' : CacheData) (c c' : ClientData)
    (result : Result Found Again) : Type 0 where
  pub stepped : CachedTry c.words.terms pc cache cache' c.me c'.me result
  pub right : IfOk result (IsAnswerOf c.words.terms half pc c.me c'.me)
  pub alone : IsAlone c.me.log.lineage → IsOk result

abbrev pub AsksRegisteredCached : ℕ → ClientData → ClientData → Result Found Again → Type 0
AsksRegisteredCached pc c c' result = (c' ≡ record c { me = c'.me; registered = c'.registered })
    × AsksCache Registered pc c.registered c'.registered c c' result

abbrev pub AsksLoadedCached : ℕ → ClientData → ClientData → Result Found Again → Type 0
AsksLoadedCached pc c c' result = (c' ≡ record c { me = c'.me; loaded = c'.loaded })
    × AsksCache Loaded pc c.loaded c'.loaded c c' result

-- how each half is asked
abbrev pub AsksRegisteredBy : LookupBy → ℕ → ClientData → ClientData → Result Found Again → Type 0
AsksRegisteredBy by.Tables = AsksRegistered
AsksRegisteredBy by.Caches = AsksRegisteredCached

abbrev pub AsksLoadedBy : LookupBy → ℕ → ClientData → ClientData → Result Found Again → Type 0
AsksLoadedBy by.Tables = AsksLoaded
AsksLoadedBy by.Caches = AsksLoadedCached

-- The registered half was asked once, and where that misses the loader's, once. The one that isn't
-- answered is the last one asked.
abbrev pub FindsByHalves : {D : Type 0} → (ℕ → D → D → Result Found Again → Type 0)
    → (ℕ → D → D → Result Found Again → Type 0) → ℕ → D → D → Result Place Again → Type 0
FindsByHalves {D} registered loaded pc c c' (Ok place) = IsPlace place × elim place.loaded [
  | None ↦ registered pc c c' (Ok place.registered)
  | Some found ↦ (mid : D) × (registered pc c mid (Ok place.registered)
      × loaded pc mid c' (Ok found))
]
FindsByHalves {D} registered loaded pc c c' (Err again) = registered pc c c' (Err again)
    ⊎ ((mid : D) × (stamp : ℕ) × (registered pc c mid (Ok (Miss stamp))
    × loaded pc mid c' (Err again)))

abbrev pub FindsOnce : LookupBy → ℕ → ClientData → ClientData → Result Place Again → Type 0
FindsOnce how = FindsByHalves (AsksRegisteredBy how) (AsksLoadedBy how)

-- what one half answered
abbrev pub found_told : Result Found Again → RegistryFound
found_told (Ok (Miss stamp)) = record { kind = MISS; stamp = stamp; member = no_member }
found_told (Ok (Hit m stamp)) = record { kind = HIT; stamp = stamp; member = member_told m }
found_told (Err again) = record { kind = AGAIN; stamp = 0; member = no_member }

-- what the loader's half answered, where the registered one had a miss at a stamp
abbrev pub loaded_told : ℕ → Option Found → RegistryPlace
loaded_told at None =
    record { kind = NOWHERE; registered = at; loaded = 0; member = no_member }
loaded_told at (Some (Miss stamp)) =
    record { kind = NOWHERE; registered = at; loaded = stamp; member = no_member }
loaded_told at (Some (Hit m stamp)) =
    record { kind = LOADED; registered = at; loaded = stamp; member = member_told m }

abbrev pub halves_told : Found → Option Found → RegistryPlace
halves_told (Hit m stamp) loaded =
    record { kind = REGISTERED; registered = stamp; loaded = 0; member = member_told m }
halves_told (Miss stamp) loaded = loaded_told stamp loaded

abbrev pub place_told : Result Place Again → RegistryPlace
place_told (Ok place) = halves_told place.registered place.loaded
place_told (Err again) =
    record { kind = FIND_AGAIN; registered = 0; loaded = 0; member = no_member }

-- A lookup was made, which is told so.
abbrev pub TellsFind : {D A T : Type 0} → (ℕ → D → D → Result A Again → Type 0)
    → (Result A Again → T) → ℕ → T → D → D → Type 0
TellsFind {D} {A} step told pc answer c c' =
    (result : Result A Again) × (step pc c c' result × (answer ≡ told result))
