-- What putting members into a registry and taking them away make of the caller that updates it.
use Rattle.std.specs.Prelude.{◌≡◌, ◌≢◌, ◌≤◌, ◌⊎◌, ◌+◌, ◌*◌, ℕ, List, [], ◌∷◌, ◌++◌, true, false}
use Rattle.std.specs.Prelude.{length, ◌<◌}
use Rattle.std.specs.List.{All}
use Rattle.reg_model.specs.State.{State}
use Rattle.reg_model.specs.declared.answer.Half.{Half}
use Rattle.reg_model.specs.declared.answer.Half.TheVariants.{Loaded, Registered}
use Rattle.reg_model.specs.declared.answer.Loading.{Loading}
use Rattle.reg_model.specs.declared.answer.Receipt.{Receipt}
use Rattle.reg_model.specs.declared.answer.Receipt.TheVariants as receipt
use Rattle.reg_model.specs.declared.answer.Removed.{Removed}
use Rattle.reg_model.specs.declared.span.Member.{Member}
use Rattle.sole_writer.specs.Writers.{WriterData, plain_registry}
use Rattle.fde_writer.specs.Places.{GainsPlaces, HaveSame, HoldsAtLeast, LosesAtMost, PlaceData}
use Rattle.fde_writer.specs.Places.{placed_members}
use Rattle.fde_writer.specs.Runs.{FoundFull, FoundOverlap, FoundTaken, IsNoRoom, Received, Runs}
use Rattle.fde_writer.specs.Runs.{numbers_told}
use Rattle.fde_writer.specs.Standing.{AreOfBefore, LeavesStanding, StandingData, Standings}
use Rattle.fde_writer.specs.Standing.{standing_under, standing_sum}
use Rattle.fde_writer.specs.declared.entering.SectionFault.{SectionFault}
use Rattle.fde_writer.specs.declared.entering.SectionFault.TheVariants.{NoMemory, NotPut}
use Rattle.fde_writer.specs.declared.outcome.Numbers.{Numbers}
use Rattle.fde_writer.specs.declared.putting.PutFault.{PutFault}
use Rattle.fde_writer.specs.declared.putting.PutFault.TheVariants.{Full, Overlap, Stuck}

-- the members of its registry, and how many updates there were
abbrev pub writer_state : WriterData → State
writer_state w = (plain_registry w).state

abbrev pub writer_updates : WriterData → ℕ
writer_updates w = (plain_registry w).updates

-- These members were put, each into one half, by updates with these numbers.
pub record Puts (members : List Member) (calls : ℕ) (places : List PlaceData) (numbers : Numbers)
    (w w' : WriterData) : Type 0 where
  pub whole : placed_members places ≡ members
  pub gains : GainsPlaces places (writer_state w) (writer_state w')
  pub runs : Runs members calls w w'
  pub count : writer_updates w' ≡ writer_updates w + length places
  pub told : numbers ≡ numbers_told (writer_updates w) (writer_updates w')
  pub free : w'.stuck ≡ false

-- The same members stand as before.
pub record PutsNone (members : List Member) (calls : ℕ) (w w' : WriterData) : Type 0 where
  pub same : HaveSame (writer_state w) (writer_state w')
  pub runs : Runs members calls w w'
  pub free : w'.stuck ≡ false

-- It was stopped. All members of before stand.
pub record StopsPutting (members : List Member) (calls : ℕ) (w w' : WriterData) : Type 0 where
  pub keeps : LosesAtMost [] (writer_state w) (writer_state w')
  pub cause : FoundTaken members calls w w'
  pub stopped : w'.stuck ≡ true

-- why a member couldn't be put into the half of loaded ones
abbrev pub IsLoadingFault : Member → WriterData → WriterData → PutFault → Type 0
IsLoadingFault m w w' Overlap = PutsNone (m ∷ []) 1 w w'
    × ((answer : Loading) × IsNoRoom answer × Received (receipt.Load m answer) w w')
IsLoadingFault m w w' Full = ⊥
IsLoadingFault m w w' Stuck = StopsPutting (m ∷ []) 1 w w'

-- why some of these members couldn't be put
abbrev pub IsPutFault : List Member → ℕ → WriterData → WriterData → PutFault → Type 0
IsPutFault members calls w w' Overlap = PutsNone members calls w w' × FoundOverlap members w w'
IsPutFault members calls w w' Full = PutsNone members calls w w' × FoundFull members w w'
IsPutFault members calls w w' Stuck = StopsPutting members calls w w'

-- the calls are left that putting the members of places may want
abbrev pub HasCallsFor : List PlaceData → WriterData → Type 0
HasCallsFor places w = 3 * length places ≤ w.me.left

-- there are the payloads of the members of places
abbrev pub HasPayloadsOf : List PlaceData → WriterData → Type 0
HasPayloadsOf places w = All (λ m. m.payload < w.words.terms.payloads) (placed_members places)

-- the members of places were put, each into the half that its place now tells
abbrev pub PutsAll
    : List PlaceData → List PlaceData → WriterData → WriterData → Numbers → Type 0
PutsAll old new w w' numbers = Puts (placed_members old) (2 * length old) new numbers w w'

-- why they couldn't be put
abbrev pub IsFaultOfAll : List PlaceData → WriterData → WriterData → PutFault → Type 0
IsFaultOfAll places = IsPutFault (placed_members places) (3 * length places)

-- how a half tells of a removal
abbrev pub removal_from : Half → ℕ → Removed → Receipt
removal_from Registered base answer = receipt.Deregister base answer
removal_from Loaded base answer = receipt.Unload base answer

-- The members at these places were taken away, by updates with these numbers.
pub record TakesAway (places : List PlaceData) (numbers : Numbers) (w w' : WriterData) : Type 0
  where
    pub loses : GainsPlaces places (writer_state w') (writer_state w)
    pub runs : Runs [] (length places) w w'
    pub count : writer_updates w' ≡ writer_updates w + length places
    pub told : numbers ≡ numbers_told (writer_updates w) (writer_updates w')
    pub free : w'.stuck ≡ false

-- It was stopped. All members stand but some of those.
pub record StopsTaking (places : List PlaceData) (w w' : WriterData) : Type 0 where
  pub keeps : LosesAtMost places (writer_state w) (writer_state w')
  pub cause : FoundTaken [] (length places) w w'
  pub stopped : w'.stuck ≡ true

-- What was put before a fault was taken back: a fault that stopped the caller stays, and any other
-- one too, unless a lock was found taken on the way.
abbrev pub IsUndone : List PlaceData → WriterData → WriterData → PutFault → PutFault → Type 0
IsUndone places w w' Stuck told = (told ≡ Stuck) × (w' ≡ w)
IsUndone places w w' Overlap told =
    ((told ≡ Overlap) × ((numbers : Numbers) × TakesAway places numbers w w'))
    ⊎ ((told ≡ Stuck) × StopsTaking places w w')
IsUndone places w w' Full told =
    ((told ≡ Full) × ((numbers : Numbers) × TakesAway places numbers w w'))
    ⊎ ((told ≡ Stuck) × StopsTaking places w w')

-- it may be taken back, where the caller wasn't stopped
pub record MayUndo (places : List PlaceData) (w : WriterData) : Type 0 where
  pub free : w.stuck ≡ false
  pub left : length places ≤ w.me.left
  pub there : HoldsAtLeast (writer_state w) places

abbrev pub UnlessStuck : PutFault → Type 0 → Type 0
UnlessStuck Stuck P = Unit {0}
UnlessStuck Overlap P = P
UnlessStuck Full P = P

-- A section was entered as the latest under its key, with the places to which its members were put.
pub record Enters (key : ℕ) (x : StandingData) (numbers : Numbers) (w w' : WriterData)
    (stands stands' : Standings) : Type 0 where
  pub places : List PlaceData
  pub puts : Puts (placed_members x.places) (2 * length x.places) places numbers w w'
  pub here : standing_under key stands'
      ≡ standing_under key stands ++ record x { places = places } ∷ []
  pub others : (other : ℕ) → other ≢ key
      → standing_under other stands' ≡ standing_under other stands
  pub weighs : (f : StandingData → ℕ)
      → standing_sum f stands' ≡ standing_sum f stands + f (record x { places = places })
  pub of_before : AreOfBefore x stands stands'

-- why it wasn't: memory ran out, and nothing was done; or its members couldn't be put
abbrev pub IsSectionFault : StandingData → WriterData → WriterData → Standings → Standings
    → SectionFault → Type 0
IsSectionFault x w w' stands stands' NoMemory = (w' ≡ w) × (stands' ≡ stands)
IsSectionFault x w w' stands stands' (NotPut fault) =
    IsPutFault (placed_members x.places) (3 * length x.places) w w' fault
    × LeavesStanding x stands stands'
