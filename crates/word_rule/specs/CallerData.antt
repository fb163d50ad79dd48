-- What contracts see of the words, of a caller and of a note.
use Rattle.std.specs.Prelude.{◌≡◌, ℕ, ◌-◌, ◌*◌}
use Rattle.atomic_table.specs.Seated.{TableId}
use Rattle.word_rule.specs.declared.log.Terms.{Terms}
use Rattle.word_rule.specs.declared.log.Log.{Log}
use Rattle.word_rule.specs.Places.{CALL_CREDIT}

-- the words: which table they are, and with what they were made
pub record WordsData : Type 0 where
  pub table : TableId
  pub terms : Terms

-- a caller: of which table, the update calls that it may still begin, and its log
pub record CallerData : Type 0 where
  pub table : TableId
  pub left : ℕ
  pub log : Log

-- its update calls that were begun and not yet accepted
abbrev pub due : CallerData → ℕ
due c = c.log.budget.allowance - c.left

-- the releases that it may make beside those of the update calls that it may still begin
abbrev pub surplus : CallerData → ℕ
surplus c = c.log.budget.credit - CALL_CREDIT * c.left

-- Whose a caller is stays as it was, and what it may begin: its table, its calls, its terms, its
-- role, its names and whom it split off. It may have seen, loaded, stored, spent and locked more.
pub record KeepsCaller (k k' : CallerData) : Type 0 where
  pub table : k'.table ≡ k.table
  pub left : k'.left ≡ k.left
  pub terms : k'.log.terms ≡ k.log.terms
  pub role : k'.log.role ≡ k.log.role
  pub loader : k'.log.loader ≡ k.log.loader
  pub made : k'.log.made ≡ k.log.made
  pub lineage : k'.log.lineage ≡ k.log.lineage

-- and what it has seen of the history, and its receipts
pub record KeepsCalls (k k' : CallerData) : Type 0 where
  pub caller : KeepsCaller k k'
  pub past : k'.log.past ≡ k.log.past
  pub receipts : k'.log.receipts ≡ k.log.receipts

-- a note
pub record NoteData : Type 0 where
  pub table : TableId
  pub log : Log
