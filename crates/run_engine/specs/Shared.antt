-- The registry that threads share, as one of them sees it.
use Rattle.std.specs.Prelude.{◌≡◌, ℕ, ◌+◌, ◌≤◌, List, ◌++◌, length}
use Rattle.std.specs.List.{AllZip, flat_map}
use base.Fml.{GName}
use Rattle.reg_model.specs.Chain.{Chain, made_count}
use Rattle.reg_model.specs.Receipt.{receipts_of_place}
use Rattle.reg_model.specs.declared.answer.Place.{Place}
use Rattle.reg_model.specs.declared.answer.Receipt.{Receipt}
use Rattle.registry_core.specs.Calls.{Receives}
use Rattle.registry_core.specs.Queries.{Queries}
use Rattle.registry_core.specs.Rounds.{IsBetweenRounds, joined_lists}
use Rattle.word_rule.specs.CallerData.{CallerData, WordsData}
use Rattle.word_rule.specs.Callers.{IsIdle, start}
use Rattle.word_rule.specs.Logs.{first_log}
use Rattle.word_rule.specs.Places.{ALLOWANCE}
use Rattle.word_rule.specs.declared.log.Terms.{Terms}
use Rattle.script_text.specs.Lawful.{AreInRounds, RoundsHold, fixed_members, in_one}
use Rattle.script_text.specs.ScriptData.{ScriptData}
use Rattle.script_text.specs.declared.script.Event.{Event}
use Rattle.run_engine.specs.Played.{updates_in}

-- A query was answered. The caller's own receipts grow by exactly those of the place, and nothing
-- else of it changes but what it has seen, its loads and its sights.
pub record IsAskedOf (registry : WordsData) (k : CallerData) (pc : ℕ) (place : Place)
    (k' : CallerData) : Type 0 where
  pub queries : Queries registry.terms (receipts_of_place pc place) k k'
  pub calls : Chain Receives k (receipts_of_place pc place) k'

-- what a contract sees of a finder in such a registry: the words, the caller, and which loan of the
-- caller it has
pub record SharedFinderData : Type 0 where
  pub registry : WordsData
  pub me : CallerData
  pub loan : GName

abbrev pub AnswersShared : SharedFinderData → ℕ → Place → SharedFinderData → Type 0
AnswersShared old pc place new =
    (new.registry ≡ old.registry) × (new.loan ≡ old.loan)
    × IsAskedOf old.registry old.me pc place new.me

-- what a contract sees of a player over such a registry
pub record SharedPlayerData : Type 0 where
  pub registry : WordsData
  pub me : CallerData

abbrev pub AnswersPlaying : SharedPlayerData → ℕ → Place → SharedPlayerData → Type 0
AnswersPlaying old pc place new =
    (new.registry ≡ old.registry) × IsAskedOf old.registry old.me pc place new.me

-- The caller is one of this registry, whose payloads are the numbers below a bound. It holds no
-- lock, and has no node out.
pub record IsReady (bound : ℕ) (registry : WordsData) (me : CallerData) : Type 0 where
  pub table : me.table ≡ registry.table
  pub terms : me.log.terms ≡ registry.terms
  pub payloads : registry.terms.payloads ≡ bound
  pub idle : IsIdle me.log

-- Each thread has a caller that is ready, with at least as many update calls as it has updates.
abbrev pub AreManned : ℕ → WordsData → List (List Event) → List CallerData → Type 0
AreManned bound registry threads callers =
    AllZip (λ events k. IsReady bound registry k × (updates_in events ≤ k.left)) threads callers

-- What rounds make of a caller that stood between two: the receipts of their threads come after
-- those that were joined before, in order of round and thread. They hold in the history that is
-- seen now, those of a round since the updates before it, and each round keeps its bounds.
pub record IsAfterRounds (rounds : List (List (List Receipt))) (k k' : CallerData) : Type 0 where
  pub table : k'.table ≡ k.table
  pub terms : k'.log.terms ≡ k.log.terms
  pub between : IsBetweenRounds k'
  pub joined : joined_lists k'.log.receipts
      ≡ joined_lists k.log.receipts ++ flat_map (λ round. round) rounds
  pub made : k'.log.made ≡ k.log.made + length (flat_map (λ round. round) rounds)
  pub hold : RoundsHold (start k.log.terms) k'.log.past k.log.terms.nodes (k.log.made + 1)
      (length k.log.past) rounds
  pub bounds : AreInRounds (length k.log.past) rounds
  pub count : length k'.log.past ≡ length k.log.past + made_count (in_one rounds)

-- the caller of a registry of which no call was made yet
abbrev pub new_caller : WordsData → CallerData
new_caller registry = record {
  table = registry.table;
  left = ALLOWANCE;
  log = first_log registry.terms;
}

-- with what a registry of so many nodes is made for a script
abbrev pub terms_with : ScriptData → ℕ → Terms
terms_with script nodes = record {
  nodes = nodes;
  loads = script.loads;
  payloads = length script.images;
  fixed = fixed_members script;
}

-- the same with all nodes that the script may have
abbrev pub script_terms : ScriptData → Terms
script_terms script = terms_with script script.nodes
