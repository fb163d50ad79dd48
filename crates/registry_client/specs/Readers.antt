-- A reader: the words that it shares with the clients, and what it has seen.
use Rattle.std.specs.Prelude.{◌≡◌, ℕ, Bool, true, false, Option, Some, None, Result}
use Rattle.array_publish.specs.Lookup.{LooksUp}
use Rattle.btree_lookup.specs.Tries.{TriesTree}
use Rattle.reg_model.specs.declared.answer.Again.{Again}
use Rattle.reg_model.specs.declared.answer.Found.{Found}
use Rattle.reg_model.specs.declared.answer.Place.{Place}
use Rattle.word_rule.specs.CallerData.{CallerData, WordsData}
use Rattle.word_rule.specs.Logs.{reader_of}
use Rattle.word_rule.specs.declared.log.Terms.{Terms}
use Rattle.registry_client.specs.Clients.{ClientData}
use Rattle.registry_client.specs.Finds.{FindsByHalves}

pub record ReaderData : Type 0 where
  pub words : WordsData
  pub me : CallerData

-- a reader of these words
abbrev pub reader_data : WordsData → CallerData → ReaderData
reader_data words me = record { words = words; me = me }

-- a reader that has seen what a caller or a reader has
abbrev pub reader_beside : WordsData → CallerData → ReaderData
reader_beside words me =
    reader_data words (record { table = me.table; left = 0; log = reader_of me.log })

-- the handle of a reader that was made, or nothing
abbrev pub HoldsReader : Bool → ReaderData → Option ReaderData → Type 0
HoldsReader true r held = held ≡ Some r
HoldsReader false r held = held ≡ None

-- A reader was made of a client, which stays as it was; or memory ran out.
abbrev pub MakesReader : Bool → Option ReaderData → ClientData → ClientData → Type 0
MakesReader made held c c' = (c' ≡ c) × HoldsReader made (reader_beside c.words c.me) held

-- The same of a reader.
abbrev pub MakesAnother : Bool → Option ReaderData → ReaderData → ReaderData → Type 0
MakesAnother made held r r' = (r' ≡ r) × HoldsReader made (reader_beside r.words r.me) held

-- One half was asked once by a reader.
pub record ReaderAsks (step : Terms → ℕ → CallerData → CallerData → Result Found Again → Type 0)
    (pc : ℕ) (r r' : ReaderData) (result : Result Found Again) : Type 0 where
  pub stepped : step r.words.terms pc r.me r'.me result
  pub same : r' ≡ record r { me = r'.me }

abbrev pub ReaderAsksRegistered : ℕ → ReaderData → ReaderData → Result Found Again → Type 0
ReaderAsksRegistered = ReaderAsks TriesTree

abbrev pub ReaderAsksLoaded : ℕ → ReaderData → ReaderData → Result Found Again → Type 0
ReaderAsksLoaded = ReaderAsks LooksUp

-- The registered half was asked once, and where that misses the loader's, once.
abbrev pub ReaderFinds : ℕ → ReaderData → ReaderData → Result Place Again → Type 0
ReaderFinds = FindsByHalves ReaderAsksRegistered ReaderAsksLoaded
