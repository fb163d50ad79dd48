-- What a handle owns, and what a call does to one that is given to it.
use mir.Syntax.{Ty}
use base.Fml.{Fml, ftrue}
use denote.RattleType.{RattleType}
use denote.RawPtr.{Ptr}
use Rattle.std.specs.Prelude.{◌≡◌, Option, Some, None}
use Rattle.std.specs.Box.Ownership.{box_owns}
use Rattle.std_heap.specs.contracts.GlobalAllocator.TheImpl.{ghosts}

-- the right to free a block of the heap
abbrev pub frees_block : Ty → Ptr → Fml
frees_block = ghosts.dealloc_token (record { memory = record { seal = tt } })

-- nothing, or what a box on the heap owns
abbrev pub handle_owns : (R : RattleType) → Ptr → Option R.Denot → Fml
handle_owns R at None = ftrue
handle_owns R at (Some value) = box_owns frees_block R at value

-- a handle leads to something, or to nothing
abbrev pub LeadsSomewhere : {D : Type 0} → Option D → Type 0
LeadsSomewhere {D} held = (x : D) × (held ≡ Some x)

abbrev pub LeadsNowhere : {D : Type 0} → Option D → Type 0
LeadsNowhere held = held ≡ None

-- A handle that led to something leads to it again, and this was made of it.
abbrev pub HandsBack : {D : Type 0} → (D → D → Type 0) → Option D → Option D → Type 0
HandsBack step (Some x) (Some x') = step x x'
HandsBack step _ _ = ⊥
