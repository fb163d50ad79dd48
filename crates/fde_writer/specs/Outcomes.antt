-- How calls of a writer end.
use Rattle.std.specs.Prelude.{◌≡◌, ◌≢◌, ◌<◌, ◌≤◌, ◌+◌, ◌*◌, ℕ, List, [], ◌∷◌, ◌++◌, true, false}
use Rattle.std.specs.Prelude.{length, not, Some, ◌⊎◌}
use Rattle.std.specs.List.{find}
use Rattle.frame_parse.specs.Sections.{SectionData}
use Rattle.fde_members.specs.Members.{AreNear, is_near, section_members}
use Rattle.fde_members.specs.declared.members.MembersFault.{MembersFault}
use Rattle.fde_members.specs.declared.members.MembersFault.TheVariants as faults
use Rattle.reg_model.specs.declared.span.Member.{Member}
use Rattle.sole_writer.specs.Writers.{plain_registry}
use Rattle.fde_writer.specs.Places.{GainsPlaces, HaveSame, LosesAtMost, PlaceData, placed_members}
use Rattle.fde_writer.specs.Runs.{FoundFull, FoundOverlap, FoundTaken, Runs, numbers_told}
use Rattle.fde_writer.specs.Sections.{FdeWriterData, members_due, members_now}
use Rattle.fde_writer.specs.Standing.{StandingData, standing_under}
use Rattle.fde_writer.specs.declared.outcome.Deregistration.{Deregistration}
use Rattle.fde_writer.specs.declared.outcome.Deregistration.TheVariants as deregistration
use Rattle.fde_writer.specs.declared.outcome.Moving.{Moving}
use Rattle.fde_writer.specs.declared.outcome.Moving.TheVariants as moving
use Rattle.fde_writer.specs.declared.outcome.Numbers.{Numbers}
use Rattle.fde_writer.specs.declared.putting.PutFault.{PutFault}
use Rattle.fde_writer.specs.declared.putting.PutFault.TheVariants as put_fault
use Rattle.fde_writer.specs.declared.outcome.Registration.{Registration}
use Rattle.fde_writer.specs.declared.outcome.Registration.TheVariants as registration

-- how many updates there were
abbrev pub updates_now : FdeWriterData → ℕ
updates_now u = (plain_registry u.client).updates

-- how many members a section has here
abbrev pub member_count : FdeWriterData → SectionData → ℕ
member_count u s = length (section_members u.low s)

-- the update calls that a registration may want: those due to what stands, and three for each
-- member, put in one half, put in the other, taken back
abbrev pub calls_wanted : FdeWriterData → SectionData → ℕ
calls_wanted u s = members_due u + 3 * member_count u s

-- under this key these sections stand now, and under any other those of before
pub record ChangesUnder (key : ℕ) (now : List StandingData) (u u' : FdeWriterData) : Type 0 where
  pub here : standing_under key u'.stands ≡ now
  pub others : (other : ℕ) → other ≢ key
      → standing_under other u'.stands ≡ standing_under other u.stands

-- It was not stopped, the section's members are near enough, and there were update calls enough.
pub record BeginsSection (s : SectionData) (u : FdeWriterData) : Type 0 where
  pub free : u.client.stuck ≡ false
  pub near : AreNear (section_members u.low s)
  pub enough : calls_wanted u s ≤ u.client.me.left

-- The section stands as the latest under the key, with this note; its members were put, by updates
-- with these numbers.
pub record RegistersSection (key note : ℕ) (s : SectionData) (numbers : Numbers)
    (u u' : FdeWriterData) : Type 0 where
  pub begins : BeginsSection s u
  pub places : List PlaceData
  pub whole : placed_members places ≡ section_members u.low s
  pub stands : ChangesUnder key (standing_under key u.stands
      ++ record { note = note; section = s; places = places } ∷ []) u u'
  pub gains : GainsPlaces places (members_now u) (members_now u')
  pub runs : Runs (section_members u.low s) (2 * member_count u s) u.client u'.client
  pub count : updates_now u' ≡ updates_now u + member_count u s
  pub told : numbers ≡ numbers_told (updates_now u) (updates_now u')
  pub ever : u'.ever ≡ u.ever ++ s ∷ []
  pub low : u'.low ≡ u.low
  pub free : u'.client.stuck ≡ false

-- The section was given, and the same sections stand under each key.
pub record LeavesSections (s : SectionData) (u u' : FdeWriterData) : Type 0 where
  pub begins : BeginsSection s u
  pub stands : (key : ℕ) → standing_under key u'.stands ≡ standing_under key u.stands
  pub ever : u'.ever ≡ u.ever ++ s ∷ []
  pub low : u'.low ≡ u.low

-- What was put was taken back: the same sections stand, and the same members in each half.
pub record TakesSectionBack (s : SectionData) (u u' : FdeWriterData) : Type 0 where
  pub leaves : LeavesSections s u u'
  pub same : HaveSame (members_now u) (members_now u')
  pub runs : Runs (section_members u.low s) (3 * member_count u s) u.client u'.client
  pub free : u'.client.stuck ≡ false

-- A lock was found taken, and the writer is stopped: the same sections stand, and their members in
-- both halves; others of the section may be left.
pub record StopsRegistering (s : SectionData) (u u' : FdeWriterData) : Type 0 where
  pub leaves : LeavesSections s u u'
  pub keeps : LosesAtMost [] (members_now u) (members_now u')
  pub cause : FoundTaken (section_members u.low s) (3 * member_count u s) u.client u'.client
  pub stopped : u'.client.stuck ≡ true

-- the first member whose FDE is too far is so far
pub record IsFar (low : ℕ) (s : SectionData) (d : ℕ) : Type 0 where
  pub member : Member
  pub first : find (λ m. not (is_near m)) (section_members low s) ≡ Some member
  pub distance : member.payload ≡ d

-- nothing was done, by a writer that wasn't stopped
abbrev pub DoesNothing : FdeWriterData → FdeWriterData → Type 0
DoesNothing u u' = (u.client.stuck ≡ false) × (u' ≡ u)

-- how a registration ends
abbrev pub IsRegistration : ℕ → ℕ → SectionData → FdeWriterData → FdeWriterData → Registration
    → Type 0
IsRegistration key note s u u' (registration.Done numbers) =
    RegistersSection key note s numbers u u'
IsRegistration key note s u u' (registration.Far d) = DoesNothing u u' × IsFar u.low s d
IsRegistration key note s u u' registration.Spent = DoesNothing u u'
    × AreNear (section_members u.low s) × (u.client.me.left < calls_wanted u s)
IsRegistration key note s u u' registration.NoMemory = DoesNothing u u'
IsRegistration key note s u u' registration.Overlap = TakesSectionBack s u u'
    × FoundOverlap (section_members u.low s) u.client u'.client
IsRegistration key note s u u' registration.Full = TakesSectionBack s u u'
    × FoundFull (section_members u.low s) u.client u'.client
IsRegistration key note s u u' registration.Stuck =
    ((u.client.stuck ≡ true) × (u' ≡ u)) ⊎ StopsRegistering s u u'

-- The latest section under the key is gone, with this note; its members were taken away, by updates
-- with these numbers.
pub record DeregistersSection (key note : ℕ) (numbers : Numbers) (u u' : FdeWriterData) : Type 0
  where
    pub free_before : u.client.stuck ≡ false
    pub rest : List StandingData
    pub latest : StandingData
    pub stood : standing_under key u.stands ≡ rest ++ latest ∷ []
    pub note_is : note ≡ latest.note
    pub stands : ChangesUnder key rest u u'
    pub loses : GainsPlaces latest.places (members_now u') (members_now u)
    pub runs : Runs [] (length latest.places) u.client u'.client
    pub count : updates_now u' ≡ updates_now u + length latest.places
    pub told : numbers ≡ numbers_told (updates_now u) (updates_now u')
    pub ever : u'.ever ≡ u.ever
    pub low : u'.low ≡ u.low
    pub free : u'.client.stuck ≡ false

-- A lock was found taken, and the writer is stopped: the latest section under the key stands no
-- longer, and those of its members that were not taken away are left. All others stand.
pub record StopsDeregistering (key : ℕ) (u u' : FdeWriterData) : Type 0 where
  pub free_before : u.client.stuck ≡ false
  pub rest : List StandingData
  pub latest : StandingData
  pub stood : standing_under key u.stands ≡ rest ++ latest ∷ []
  pub stands : ChangesUnder key rest u u'
  pub keeps : LosesAtMost latest.places (members_now u) (members_now u')
  pub cause : FoundTaken [] (length latest.places) u.client u'.client
  pub ever : u'.ever ≡ u.ever
  pub low : u'.low ≡ u.low
  pub stopped : u'.client.stuck ≡ true

-- how a deregistration ends
abbrev pub IsDeregistration : ℕ → FdeWriterData → FdeWriterData → Deregistration → Type 0
IsDeregistration key u u' (deregistration.Done note numbers) =
    DeregistersSection key note numbers u u'
IsDeregistration key u u' deregistration.Unknown =
    DoesNothing u u' × (standing_under key u.stands ≡ [])
IsDeregistration key u u' deregistration.Stuck =
    ((u.client.stuck ≡ true) × (u' ≡ u)) ⊎ StopsDeregistering key u u'

-- how a registration ends where a section has no members to put, and where they couldn't be put
abbrev pub refused : MembersFault → Registration
refused faults.NoMemory = registration.NoMemory
refused (faults.Far d) = registration.Far d

abbrev pub not_put : PutFault → Registration
not_put put_fault.Overlap = registration.Overlap
not_put put_fault.Full = registration.Full
not_put put_fault.Stuck = registration.Stuck

-- a section is the latest under its key
pub record IsLatest (key : ℕ) (x : StandingData) (u : FdeWriterData) : Type 0 where
  pub earlier : List StandingData
  pub is : standing_under key u.stands ≡ earlier ++ x ∷ []

-- a section that was moved is taken away, or was left where a lock was found taken
abbrev pub IsGivenAway : ℕ → Numbers → FdeWriterData → FdeWriterData → Moving → Type 0
IsGivenAway key numbers u u' (moving.Done note told) = (told ≡ numbers)
    × ((own : Numbers) × DeregistersSection key note own u u')
IsGivenAway key numbers u u' (moving.Left told) = (told ≡ numbers) × StopsDeregistering key u u'
IsGivenAway key numbers u u' _ = ⊥

-- a registration that was refused
abbrev pub IsRefusedRegistration : Registration → Type 0
IsRefusedRegistration (registration.Done numbers) = ⊥
IsRefusedRegistration _ = Unit {0}

-- How a move of the latest section under a key ends, from u to v.
abbrev pub IsMoving : ℕ → FdeWriterData → FdeWriterData → FdeWriterData → FdeWriterData → Moving
    → Type 0
IsMoving key u u' v v' (moving.Done note numbers) = (x : StandingData) × (IsLatest key x u
    × RegistersSection key x.note x.section numbers v v'
    × IsGivenAway key numbers u u' (moving.Done note numbers))
IsMoving key u u' v v' (moving.Left numbers) = (x : StandingData) × (IsLatest key x u
    × RegistersSection key x.note x.section numbers v v'
    × IsGivenAway key numbers u u' (moving.Left numbers))
IsMoving key u u' v v' moving.Unknown =
    DoesNothing u u' × (standing_under key u.stands ≡ []) × (v' ≡ v)
IsMoving key u u' v v' (moving.Refused why) = DoesNothing u u'
    × ((x : StandingData) × (IsLatest key x u × IsRefusedRegistration why
    × IsRegistration key x.note x.section v v' why))
IsMoving key u u' v v' moving.Stuck = (u.client.stuck ≡ true) × (u' ≡ u) × (v' ≡ v)
