-- The steps of an FDE's programs, each expression told by its bytes.
use Rattle.std.specs.Prelude.{◌≡◌, ℕ, List, map}
use Rattle.frame_parse.specs.Instructions.{PlacedStep, StepData, step_told}
use Rattle.frame_parse.specs.Blocks.{block_in}
use Rattle.frame_parse.specs.Programs.{PlacedProgramData, HasPlacedSteps, initial_of, program_of}
use Rattle.frame_parse.specs.Programs.{text_in}
use Rattle.frame_parse.specs.Sections.{FdeData}

-- what contracts see of a program: what is left of it, in the bytes of its section
pub record ProgramData : Type 0 where
  pub bytes : List ℕ
  pub left : PlacedProgramData

-- a step with its expression, which stands in its block
abbrev pub lent_step : List ℕ → PlacedStep → StepData
lent_step bytes x = step_told (block_in bytes) (block_in bytes) x

-- the steps that a program goes on with: pairs of location and instruction
unfoldable pub HasSteps : ProgramData → List StepData → Type 0
HasSteps p steps =
    (placed : List PlacedStep) × HasPlacedSteps p.left placed
    × (steps ≡ map (lent_step p.bytes) placed)

-- the initial instructions of an FDE's CIE, and its own
abbrev pub left_of_initial : FdeData → PlacedProgramData
left_of_initial f = initial_of f.section f.entry (text_in f.bytes f.entry.cie.initial)

abbrev pub left_of_program : FdeData → PlacedProgramData
left_of_program f = program_of f.section f.entry (text_in f.bytes f.entry.program)

abbrev pub initial_in : FdeData → ProgramData
initial_in f = record { bytes = f.bytes; left = left_of_initial f }

abbrev pub program_in : FdeData → ProgramData
program_in f = record { bytes = f.bytes; left = left_of_program f }

-- FDEs of one section with one CIE
pub record HaveOneCie (f g : FdeData) : Type 0 where
  pub section : f.section ≡ g.section
  pub bytes : f.bytes ≡ g.bytes
  pub cie : f.entry.cie ≡ g.entry.cie

-- steps with the same instructions, wherever these hold
abbrev pub HaveOneProgram : List PlacedStep → List PlacedStep → Type 0
HaveOneProgram xs ys =
    map (λ (x : PlacedStep). x.instruction) xs ≡ map (λ (x : PlacedStep). x.instruction) ys
