-- A client: the words that it shares, its caller, its last hits in each half, whether an update
-- call is begun, whether it lost a node, and the name of its registry.
use Rattle.std.specs.Prelude.{◌≡◌, ℕ, ◌+◌, ◌≤◌, Bool, true, false, [], Option, Some, None}
use Rattle.std.specs.Prelude.{Result, Ok, Err}
use Rattle.frame_cache.specs.CacheData.{CacheData}
use Rattle.frame_cache.specs.Cached.{FitsCaller}
use Rattle.reg_model.specs.declared.answer.Half.{Half}
use Rattle.reg_model.specs.declared.answer.Half.TheVariants.{Loaded, Registered}
use Rattle.word_rule.specs.CallerData.{CallerData, WordsData}
use Rattle.word_rule.specs.declared.log.Log.{Log}

pub record ClientData : Type 0 where
  pub words : WordsData
  pub me : CallerData
  pub registered : CacheData
  pub loaded : CacheData
  pub begun : Bool
  pub lost : Bool
  pub name : ℕ

-- one where a call is begun
abbrev pub begun_count : Bool → ℕ
begun_count true = 1
begun_count false = 0

-- A cache of this half without entries.
abbrev pub empty_cache : Half → CacheData
empty_cache half = record { half = half; stamp = 0; entries = [] }

-- A client of these parts.
abbrev pub client_data : WordsData → CallerData → CacheData → CacheData → Bool → Bool → ℕ
    → ClientData
client_data words me registered loaded begun lost name = record {
  words = words;
  me = me;
  registered = registered;
  loaded = loaded;
  begun = begun;
  lost = lost;
  name = name;
}

-- A client that has called nothing yet.
abbrev pub fresh_client : WordsData → CallerData → ℕ → ClientData
fresh_client words me name =
    client_data words me (empty_cache Registered) (empty_cache Loaded) false false name

-- A cache is of this half, and its caller had each of its entries answered.
abbrev pub IsCacheOf : Half → CacheData → Log → Type 0
IsCacheOf half cache v = (cache.half ≡ half) × FitsCaller cache v

-- Between two calls of C: its caller steps on these words, holds no lock, and has no node out
-- unless it lost one. The calls that are left and the one that is begun are allowed.
pub record IsClient (c : ClientData) : Type 0 where
  pub home : c.me.table ≡ c.words.table
  pub held : c.me.log.holdings.held ≡ []
  pub loader : c.me.log.loader ≡ None
  pub out : c.lost ≡ false → c.me.log.holdings.out ≡ []
  pub owed : c.me.left + begun_count c.begun ≤ c.me.log.budget.allowance
  pub registered : IsCacheOf Registered c.registered c.me.log
  pub loaded : IsCacheOf Loaded c.loaded c.me.log

-- what a handle leads to after a call that made a client, or didn't
abbrev pub opened : {F : Type 0} → Result ClientData F → Option ClientData
opened (Ok c) = Some c
opened (Err fault) = None
