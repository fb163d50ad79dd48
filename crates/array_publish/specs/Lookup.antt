-- What a lookup of the loader's half makes of its caller.
use Rattle.std.specs.Prelude.{◌≡◌, ◌≢◌, ℕ, ◌%◌, List, [], ◌∷◌, ◌++◌, length, IfSome, IsTrue, Ok}
use Rattle.std.specs.Prelude.{Err, Result}
use Rattle.std.specs.List.{AllByRecursion}
use mathlib.Core.List.{IsPrefix}
use Rattle.reg_model.specs.History.{state_at}
use Rattle.reg_model.specs.Query.{query}
use Rattle.reg_model.specs.Receipt.{member_of, stamp_of}
use Rattle.reg_model.specs.declared.answer.Again.{Again}
use Rattle.reg_model.specs.declared.answer.Again.TheVariants.{Changed}
use Rattle.reg_model.specs.declared.answer.Found.{Found}
use Rattle.reg_model.specs.declared.answer.Half.TheVariants.{Loaded}
use Rattle.reg_model.specs.declared.answer.Receipt.{Receipt}
use Rattle.reg_model.specs.declared.answer.Receipt.TheVariants.{Query}
use Rattle.reg_model.specs.declared.answer.Update.{Update}
use Rattle.word_rule.specs.declared.log.LoadEvent.{LoadEvent}
use Rattle.word_rule.specs.declared.log.Log.{Log}
use Rattle.word_rule.specs.declared.log.Sights.{Sights}
use Rattle.word_rule.specs.declared.log.Terms.{Terms}
use Rattle.word_rule.specs.CallerData.{CallerData}
use Rattle.word_rule.specs.Callers.{IsMemberOf, start}
use Rattle.word_rule.specs.Logs.{load_of}
use Rattle.word_rule.specs.Places.{CLOCK, is_of_copy, lower, upper}

-- The answer of a lookup that found these words of the clock, the second one after this much of
-- the history, and the receipts that it got. Found: the upper halves are one, and the answer is the
-- loader's half's at the second's lower half. Again: they differ, and both words are told.
abbrev pub IsObjectAnswer : Terms → ℕ → ℕ → ℕ → List Update → List Receipt → Result Found Again
    → Type 0
IsObjectAnswer t pc first second past receipts (Ok found) =
    (upper first ≡ upper second) × (stamp_of found ≡ lower second)
    × (query Loaded pc (state_at (start t) past (lower second)) ≡ member_of found)
    × IfSome (member_of found) (IsMemberOf t) × (receipts ≡ Query Loaded pc found ∷ [])
IsObjectAnswer t pc first second past receipts (Err again) =
    (upper first ≢ upper second) × (again ≡ Changed CLOCK first second) × (receipts ≡ [])

-- a log after these loads, at the end of which this much is seen, with these sights, and with
-- receipts
abbrev pub after_lookup : List LoadEvent → List Update → Sights → List Receipt → Log → Log
after_lookup loads past sights receipts v = record v {
  past = past;
  trace = record v.trace { loads = v.trace.loads ++ loads };
  sights = sights;
  receipts = record v.receipts { own = v.receipts.own ++ receipts };
}

-- A lookup of the loader's half: it loads the clock, words of the copy that is active then, and
-- the clock, and nothing else; and of the log nothing changes but what such loads make of it.
pub record LooksUp (t : Terms) (pc : ℕ) (k k' : CallerData)
    (result : Result Found Again) : Type 0 where
  pub first : ℕ
  pub second : ℕ
  pub between : List LoadEvent
  pub past : List Update
  pub sights : Sights
  pub receipts : List Receipt
  pub of_copy : AllByRecursion (λ l. IsTrue (is_of_copy t (upper first % 2) l.word)) between
  pub begins : IsPrefix k.log.past past
  pub seen : length past ≡ lower second
  pub answer : IsObjectAnswer t pc first second past receipts result
  pub log : k' ≡ record k {
    log = after_lookup
        (load_of k.log CLOCK first ∷ between ++ load_of k.log CLOCK second ∷ []) past sights
        receipts k.log;
  }
