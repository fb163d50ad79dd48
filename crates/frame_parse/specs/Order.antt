-- What holds along the steps of a program that was read without fault, after DWARF 5, section
-- 6.4.2.
use Rattle.std.specs.Prelude.{◌≡◌, ℕ, ◌+◌, ◌-◌, ◌<◌, ◌≤◌, List, [], ◌∷◌, length}
use Rattle.frame_parse.specs.declared.instructions.InstructionWith.{InstructionWith}
use Rattle.frame_parse.specs.declared.instructions.InstructionWith.TheVariants.{Advance, Remember}
use Rattle.frame_parse.specs.declared.instructions.InstructionWith.TheVariants.{RestoreState}
use Rattle.frame_parse.specs.declared.instructions.StepWith.{StepWith}
use Rattle.frame_parse.specs.declared.instructions.context.ProgramKind.TheVariants.{Initial}
use Rattle.frame_parse.specs.Programs.{PlacedProgramData, most_remembered}

-- an Advance may move the location up, every other instruction leaves it
abbrev pub Moves : {A B : Type 0} → InstructionWith A B → ℕ → ℕ → Type 0
Moves Advance location next = location ≤ next
Moves _ location next = next ≡ location

-- from a first one on, the locations of the steps never fall, and only an Advance moves them
abbrev pub IsAscendingFrom : {A B : Type 0} → ℕ → List (StepWith A B) → Type 0
IsAscendingFrom location [] = Unit {0}
IsAscendingFrom location (x ∷ xs) =
    Moves x.instruction location x.location × IsAscendingFrom x.location xs

-- all steps hold at one location
abbrev pub AreAt : {A B : Type 0} → ℕ → List (StepWith A B) → Type 0
AreAt location [] = Unit {0}
AreAt location (x ∷ xs) = (x.location ≡ location) × AreAt location xs

-- how many states may be remembered where an instruction is met
abbrev pub MayStandAt : {A B : Type 0} → ℕ → InstructionWith A B → Type 0
MayStandAt depth Remember = depth < most_remembered
MayStandAt depth RestoreState = 0 < depth
MayStandAt depth _ = Unit {0}

-- how many are remembered after it
abbrev pub remembered_after : {A B : Type 0} → ℕ → InstructionWith A B → ℕ
remembered_after depth Remember = depth + 1
remembered_after depth RestoreState = depth - 1
remembered_after depth _ = depth

-- from so many remembered states on, never more than may be are, and none is restored that wasn't
-- remembered
abbrev pub IsBalanced : {A B : Type 0} → ℕ → List (StepWith A B) → Type 0
IsBalanced depth [] = Unit {0}
IsBalanced depth (x ∷ xs) =
    MayStandAt depth x.instruction × IsBalanced (remembered_after depth x.instruction) xs

-- what holds along the steps that a program goes on with
pub record AreOrdered {A B : Type 0} (p : PlacedProgramData) (steps : List (StepWith A B))
    : Type 0 where
  pub ascending : IsAscendingFrom p.state.location steps
  -- in a CIE
  pub staying : p.context.kind ≡ Initial → AreAt p.state.location steps
  pub balanced : IsBalanced (length p.state.remembered) steps
