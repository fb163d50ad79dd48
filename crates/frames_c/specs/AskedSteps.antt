-- A step by what was told of a memory, as C is told.
use Rattle.std.specs.Prelude.{◌≡◌, ℕ, List, None}
use Rattle.frame_expr.specs.Regions.{RegionData, word_at}
use Rattle.told_memory.specs.Telling.{IsToldOf, told_regions}
use Rattle.told_memory.specs.declared.told.ToldMemory.{ToldMemory}
use Rattle.frames_c.specs.FrameSteps.{AnswersStep}
use Rattle.frames_c.specs.Held.{LoadedData}
use Rattle.frames_c.specs.declared.step.FramesFrame.{FramesFrame}

-- what was told
abbrev pub told_in : ToldMemory → List RegionData
told_in told = told_regions told.lent.address told.lent.bytes.now told.words.now

-- Of whatever memory it was told, that memory makes the same of the frame; where 4 asks for a word,
-- if the memory has none there either.
abbrev pub ServesMemory : LoadedData → List RegionData → FramesFrame → ℕ → FramesFrame → Type 0
ServesMemory l told old result new =
    (memory : List RegionData) → IsToldOf told memory
    → (result ≡ 4 → word_at new.missing memory ≡ None)
    → AnswersStep l memory old result new
