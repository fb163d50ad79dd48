-- How what a caller or a note keeps plainly is tied to its log.
use Rattle.std.specs.Prelude.{◌≡◌, ℕ, ◌+◌, ◌*◌, ◌≤◌, [], length, None}
use Rattle.word_rule.specs.declared.log.Role.TheVariants as role
use Rattle.word_rule.specs.declared.log.Log.{Log}
use Rattle.word_rule.specs.Places.{ALLOWANCE, CALL_CREDIT, CREDIT}
use Rattle.word_rule.specs.Plays.{Seated}

pub record IsCaller (left spare seen share : ℕ) (me : Seated) : Type 0 where
  pub bare : me.1 ≡ []
  pub role : me.0.role ≡ role.Caller
  pub seen_all : seen ≡ length me.0.past
  pub allowed : left ≤ me.0.budget.allowance
  pub most : left ≤ ALLOWANCE
  pub credit : me.0.budget.credit ≡ CALL_CREDIT * left + spare
  pub counted : me.0.budget.credit ≤ CREDIT
  pub shared : share ≡ me.0.lineage.share

-- A note's log has what its maker had seen, and a share; it may do nothing and has done nothing.
pub record IsNote (u : Log) : Type 0 where
  pub role : u.role ≡ role.Note
  pub loader : u.loader ≡ None
  pub held : u.holdings.held ≡ []
  pub out : u.holdings.out ≡ []
  pub own : u.receipts.own ≡ []
  pub joined : u.receipts.joined ≡ []
  pub allowance : u.budget.allowance ≡ 0
  pub credit : u.budget.credit ≡ 0
  pub made : u.made ≡ 0

-- the same of a note
pub record KeepsNote (seen share : ℕ) (me : Seated) : Type 0 where
  pub bare : me.1 ≡ []
  pub seen_all : seen ≡ length me.0.past
  pub shared : share ≡ me.0.lineage.share
  pub note : IsNote me.0

-- what a reader keeps plainly: how much it has seen
pub record KeepsReader (seen : ℕ) (me : Seated) : Type 0 where
  pub bare : me.1 ≡ []
  pub role : me.0.role ≡ role.Reader
  pub seen_all : seen ≡ length me.0.past
