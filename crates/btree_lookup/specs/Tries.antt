-- What a try of the tree makes of its caller.
use Rattle.std.specs.Prelude.{◌≡◌, ℕ, ◌≤◌, List, [], ◌∷◌, ◌++◌, length, Contains, IfSome, Result}
use Rattle.std.specs.Prelude.{Ok, Err, Some, true}
use mathlib.Core.List.{IsPrefix}
use Rattle.reg_model.specs.History.{state_at}
use Rattle.reg_model.specs.Query.{query}
use Rattle.reg_model.specs.Receipt.{member_of, stamp_of}
use Rattle.reg_model.specs.declared.answer.Again.{Again}
use Rattle.reg_model.specs.declared.answer.Found.{Found}
use Rattle.reg_model.specs.declared.answer.Half.TheVariants.{Registered}
use Rattle.reg_model.specs.declared.answer.Receipt.{Receipt}
use Rattle.reg_model.specs.declared.answer.Receipt.TheVariants.{Query}
use Rattle.reg_model.specs.declared.answer.Update.{Update}
use Rattle.word_rule.specs.declared.log.LoadedWord.{LoadedWord}
use Rattle.word_rule.specs.declared.log.NodeSight.{NodeSight}
use Rattle.word_rule.specs.declared.log.Sights.{Sights}
use Rattle.word_rule.specs.declared.log.Terms.{Terms}
use Rattle.word_rule.specs.CallerData.{CallerData}
use Rattle.word_rule.specs.Callers.{IsMemberOf, start}
use Rattle.word_rule.specs.Places.{CLOCK, lower, node_place}
use Rattle.word_rule.specs.Sights.{is_leaf_for, place_of, sight_of}
use Rattle.btree_lookup.specs.Loads.{after_try, loaded_at}
use Rattle.btree_lookup.specs.Ways.{AreLed, IsCause}

-- the stamp is the lower half of a clock that was loaded
abbrev pub IsClockOf : List LoadedWord → ℕ → Type 0
IsClockOf loaded stamp =
    (clock : ℕ) × (Contains loaded (loaded_at CLOCK clock) × (lower clock ≡ stamp))

-- The loads end at a live leaf whose fences hold the address: a version of it was found, later the
-- clock of this stamp, and then the same version again. So its sight stood as the clock was loaded.
pub record EndsAtLeaf (pc stamp : ℕ) (loaded : List LoadedWord) (sights : Sights) : Type 0 where
  pub leaf : ℕ
  pub sight : NodeSight
  pub kept : sight_of leaf sights.nodes ≡ Some sight
  pub live : is_leaf_for pc (place_of sight) ≡ true
  pub clocked : sight.clock ≡ Some stamp
  pub before : List LoadedWord
  pub clock : ℕ
  pub begun : Contains before (loaded_at (node_place leaf) sight.version)
  pub stood : loaded
      ≡ (before ++ loaded_at CLOCK clock ∷ []) ++ loaded_at (node_place leaf) sight.version ∷ []
  pub stamped : lower clock ≡ stamp

-- The answer of a try at the end of which this much is seen. Found: it is the registered half's at
-- the stamp, which is that of a clock that was loaded, and the length of all that is seen; the
-- member may be made known; and a live leaf stood then. Again: these loads have the cause.
abbrev pub IsTryAnswer : Terms → ℕ → List Update → List LoadedWord → Sights
    → Result Found Again → Type 0
IsTryAnswer t pc past loaded sights (Ok found) =
    (stamp_of found ≡ length past) × IsClockOf loaded (stamp_of found)
    × (query Registered pc (state_at (start t) past (stamp_of found)) ≡ member_of found)
    × IfSome (member_of found) (IsMemberOf t)
    × EndsAtLeaf pc (stamp_of found) loaded sights
IsTryAnswer t pc past loaded sights (Err again) = IsCause t loaded again

-- the receipt of an answer, and none where there is none
abbrev pub receipts_of_try : ℕ → Result Found Again → List Receipt
receipts_of_try pc (Ok found) = Query Registered pc found ∷ []
receipts_of_try pc (Err again) = []

-- A try of the tree: it makes these loads, 245 at most, each of the clock or of a node that the
-- loads before it lead to; and of the log nothing changes but what is seen, the loads, the sights
-- and, with an answer, its receipt.
pub record TriesTree (t : Terms) (pc : ℕ) (k k' : CallerData)
    (result : Result Found Again) : Type 0 where
  pub loaded : List LoadedWord
  pub past : List Update
  pub sights : Sights
  pub begins : IsPrefix k.log.past past
  pub led : AreLed pc [] loaded
  pub few : length loaded ≤ 245
  pub answer : IsTryAnswer t pc past loaded sights result
  pub log : k' ≡ record k {
    log = after_try loaded past sights (receipts_of_try pc result) k.log;
  }

-- a try that found no answer
abbrev pub EndsAgain : Terms → ℕ → CallerData → Again → CallerData → Type 0
EndsAgain t pc k again k' = TriesTree t pc k k' (Err again)

-- the same on the way, before the clock is loaded: no more is seen than before
abbrev pub EndsOnWay : Terms → ℕ → CallerData → Again → CallerData → Type 0
EndsOnWay t pc k again k' = EndsAgain t pc k again k' × (k'.log.past ≡ k.log.past)
