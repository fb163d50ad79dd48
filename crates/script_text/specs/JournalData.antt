-- Journals as plain data.
use Rattle.std.specs.Prelude.{ℕ, List}
use Rattle.script_text.specs.declared.journal.Answer.{Answer}

-- what a contract sees of a journal: by round and thread, the answers, and the number of updates
pub record JournalData : Type 0 where
  pub rounds : List (List (List Answer))
  pub updates : ℕ
