-- Clients that come and go.
use Rattle.std.specs.Prelude.{◌≡◌, ◌≢◌, ◌<◌, ◌≤◌, ℕ, ◌⊎◌, ◌||◌, Option, Some, None}
use Rattle.std.specs.Prelude.{Result, Ok, Err}
use Rattle.registry_core.specs.Rounds.{IsWholeWhereAlone, after_one_join, after_one_split}
use Rattle.registry_core.specs.Rounds.{one_split_off}
use Rattle.registry_client.specs.Clients.{ClientData, fresh_client, opened}
use Rattle.registry_client.specs.declared.splits.JoinAnswer.{JoinAnswer}
use Rattle.registry_client.specs.declared.splits.JoinAnswer.TheVariants.{Joined, NoMemoryToJoin}
use Rattle.registry_client.specs.declared.splits.JoinAnswer.TheVariants.{OtherRegistry}
use Rattle.registry_client.specs.declared.splits.SplitFault.{SplitFault}
use Rattle.registry_client.specs.declared.splits.SplitFault.TheVariants.{Few, NoMemory}

-- the client that is split off with so many update calls, and what is left of the other one
abbrev pub split_client : ℕ → ClientData → ClientData
split_client give c = fresh_client c.words (one_split_off give c.me) c.name

abbrev pub client_kept : ℕ → ClientData → ClientData
client_kept give c = record c { me = after_one_split give c.me }

-- A client was split off; or fewer calls are left, or memory ran out. Where it ran out after the
-- calls were given, they are lost.
abbrev pub SplitsOff : ℕ → ClientData → ClientData → Result ClientData SplitFault → Type 0
SplitsOff give c c' (Ok other) =
    (give ≤ c.me.left) × (other ≡ split_client give c) × (c' ≡ client_kept give c)
SplitsOff give c c' (Err Few) = (c.me.left < give) × (c' ≡ c)
SplitsOff give c c' (Err NoMemory) =
    (give ≤ c.me.left) × ((c' ≡ c) ⊎ (c' ≡ client_kept give c))

abbrev pub split_told : Result ClientData SplitFault → ℕ
split_told (Ok c) = 0
split_told (Err NoMemory) = 1
split_told (Err Few) = 2

-- C has its handle, or is told why there is none.
abbrev pub TellsSplit : ℕ → ℕ → Option ClientData → ClientData → ClientData → Type 0
TellsSplit give told held c c' = (result : Result ClientData SplitFault)
    × SplitsOff give c c' result × (told ≡ split_told result) × (held ≡ opened result)

-- Two whose registries have one name share the words of one registry.
abbrev pub ShareByName : ClientData → ClientData → Type 0
ShareByName other c = other.name ≡ c.name → other.words.table ≡ c.words.table

-- A client was joined: its update calls, what it has seen, its receipts, and a call that is begun.
-- Whoever is alone then has a whole log.
pub record JoinsClient (other c c' : ClientData) : Type 0 where
  pub words : c'.words ≡ c.words
  pub me : c'.me ≡ after_one_join other.me c.me
  pub registered : c'.registered ≡ c.registered
  pub loaded : c'.loaded ≡ c.loaded
  pub begun : c'.begun ≡ (c.begun || other.begun)
  pub lost : c'.lost ≡ c.lost
  pub name : c'.name ≡ c.name
  pub whole : IsWholeWhereAlone c'.me.log

-- It was joined, and its handle leads to nothing; or memory ran out or it had lost a node, and its
-- handle leads to it, or it is gone; or its registry has another name, and its handle leads to it.
abbrev pub Joins : ClientData → ClientData → ClientData → JoinAnswer → Option ClientData → Type 0
Joins other c c' Joined None = (other.name ≡ c.name) × JoinsClient other c c'
Joins other c c' NoMemoryToJoin None = (other.name ≡ c.name) × (c' ≡ c)
Joins other c c' NoMemoryToJoin (Some back) = (other.name ≡ c.name) × (c' ≡ c) × (back ≡ other)
Joins other c c' OtherRegistry (Some back) = (other.name ≢ c.name) × (c' ≡ c) × (back ≡ other)
Joins _ _ _ _ _ = ⊥

abbrev pub join_told : JoinAnswer → ℕ
join_told Joined = 0
join_told NoMemoryToJoin = 1
join_told OtherRegistry = 2

-- C is told what came of it.
abbrev pub TellsJoin : ClientData → ℕ → Option ClientData → ClientData → ClientData → Type 0
TellsJoin other told back c c' =
    (answer : JoinAnswer) × Joins other c c' answer back × (told ≡ join_told answer)
