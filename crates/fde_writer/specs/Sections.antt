-- A writer of sections under keys, and what holds of it between two calls.
use Rattle.std.specs.Prelude.{◌≡◌, ◌≤◌, ◌-◌, ◌^◌, ℕ, List, [], All, false, length, Contains}
use Rattle.frame_parse.specs.Sections.{SectionData}
use Rattle.fde_members.specs.Members.{AddsOnly, section_members}
use Rattle.reg_model.specs.State.{State}
use Rattle.reg_model.specs.declared.answer.Half.{Half}
use Rattle.sole_writer.specs.Writers.{WriterData, plain_registry}
use Rattle.fde_writer.specs.Places.{HoldsPlaces, HoldsAtLeast, PlaceData, members_in}
use Rattle.fde_writer.specs.Places.{placed_members}
use Rattle.fde_writer.specs.Standing.{StandingData, Standings, all_places, all_standing}
use Rattle.fde_writer.specs.Standing.{standing_sum}

-- What contracts see of a writer: the caller that updates the registry, where distances are counted
-- from, the sections that stand under each key, in the order in which they came, and all sections
-- that were ever begun to be registered.
pub record FdeWriterData : Type 0 where
  pub client : WriterData
  pub low : ℕ
  pub stands : Standings
  pub ever : List SectionData

-- a writer of FDEs by its parts
abbrev pub fde_writer : WriterData → ℕ → Standings → List SectionData → FdeWriterData
fde_writer client low stands ever =
    record { client = client; low = low; stands = stands; ever = ever }

-- the registry's members now
abbrev pub members_now : FdeWriterData → State
members_now u = (plain_registry u.client).state

-- how many members stand for sections: as many update calls are due to taking them away
abbrev pub members_due : FdeWriterData → ℕ
members_due u = standing_sum (λ x. length x.places) u.stands

-- a section that stands is one that was given, and all of its members are placed
pub record IsStanding (low : ℕ) (ever : List SectionData) (x : StandingData) : Type 0 where
  pub given : Contains ever x.section
  pub whole : placed_members x.places ≡ section_members low x.section

-- those of its members that are placed in a half stand there in this state
abbrev pub StandsIn : Half → StandingData → State → Type 0
StandsIn half x s = (p : PlaceData) → Contains x.places p → p.half ≡ half
    → Contains (members_in half s) p.member

-- Between two calls: the members of all sections that stand are placed, each in one half; they
-- stand there, and unless the writer was stopped no others do. Each update added a member of a
-- section that was given. As many update calls are left as members are placed.
pub record IsFdeWriter (u : FdeWriterData) : Type 0 where
  pub payloads : u.client.words.terms.payloads ≡ 2 ^ 32 - 1
  pub empty : u.client.words.terms.fixed ≡ []
  pub standing : All (IsStanding u.low u.ever) (all_standing u.stands)
  pub there : HoldsAtLeast (members_now u) (all_places u.stands)
  pub only : u.client.stuck ≡ false → HoldsPlaces (members_now u) (all_places u.stands)
  pub added : All (AddsOnly u.low u.ever) u.client.me.log.past
  pub calls : u.client.stuck ≡ false → members_due u ≤ u.client.me.left

-- and their number is kept beside
pub record IsFdeWriterWith (count : ℕ) (u : FdeWriterData) : Type 0 where
  pub is : IsFdeWriter u
  pub due_is : count ≡ members_due u
