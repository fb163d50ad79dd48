-- Words that were told of a memory, beside what is lent of it.
use Rattle.std.specs.Prelude.{◌≡◌, ℕ, List, ◌∷◌, map, Some, None}
use Rattle.byteorder.specs.Endian.{little_bytes}
use Rattle.frame_expr.specs.Regions.{RegionData, word_at}
use Rattle.unwind_step.specs.declared.next.Stepped.{Stepped}
use Rattle.unwind_step.specs.declared.next.Stepped.TheVariants as stepped
use Rattle.told_memory.specs.declared.told.ToldWord.{ToldWord}

-- the eight bytes of a word
abbrev pub told_region : ToldWord → RegionData
told_region w = record { address = w.address; bytes = little_bytes 8 w.word }

-- the bytes that are lent from an address on, and then each word that was told
abbrev pub told_regions : ℕ → List ℕ → List ToldWord → List RegionData
told_regions address bytes words =
    record { address = address; bytes = bytes } ∷ map told_region words

-- what was told of the memory is so
abbrev pub IsToldOf : List RegionData → List RegionData → Type 0
IsToldOf told memory = (a n : ℕ) → word_at a told ≡ Some n → word_at a memory ≡ Some n

-- where it lacks a word, the memory has none there either
abbrev pub LacksAsMemory : List RegionData → Stepped → Type 0
LacksAsMemory memory (stepped.NoBytes a) = word_at a memory ≡ None
LacksAsMemory memory _ = Unit {0}
