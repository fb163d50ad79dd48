-- What was refused in a section, as C is told.
use Rattle.std.specs.Prelude.{◌≡◌, ◌≤◌, ◌<◌, ◌^◌, ℕ, List, [], ◌∷◌, length, Bool, true, false}
use Rattle.std.specs.Prelude.{Option, Some, None}
use Rattle.frame_parse.specs.declared.fault.FrameFault.TheVariants.{NoMemory}
use Rattle.c_sections.specs.Refusals.{load_told, refusal, refusal_told}
use Rattle.c_sections.specs.declared.refusal.FramesRefusal.{FramesRefusal}
use Rattle.c_sections.specs.declared.refusal.LoadFault.{LoadFault}
use Rattle.c_sections.specs.declared.refusal.LoadFault.TheVariants.{Long, Frames}
use Rattle.sound_records.specs.declared.refused.Claim.{Claim}
use Rattle.sound_records.specs.declared.refused.RefusedRecord.{RefusedRecord}
use Rattle.sound_records.specs.Sections.{sound_section}
use Rattle.frames_c.specs.Held.{LoadedData, loaded_with}
use Rattle.frames_c.specs.declared.claims.FramesClaim.{FramesClaim}
use Rattle.frames_c.specs.declared.claims.FramesRefused.{FramesRefused}

-- ---- reading

-- the section of the sound records of these bytes, beside all others, without a header's table
abbrev pub LeadsToSound : ℕ → List ℕ → Option LoadedData → Type 0
LeadsToSound address bytes held =
    (held ≡ Some (loaded_with (sound_section address bytes) None)) × (length bytes < 2 ^ 32)

-- how many are refused, and the first one's refusal
abbrev pub refusals_told : List RefusedRecord → FramesRefused
refusals_told [] = record { count = 0; first = refusal 0 0 0 0 }
refusals_told (x ∷ xs) =
    record { count = length (x ∷ xs); first = refusal_told x.fault }

-- why bytes aren't read at all: they are too many, or memory ran out
abbrev pub IsUnread : List ℕ → LoadFault → Type 0
IsUnread bytes Long = 2 ^ 32 ≤ length bytes
IsUnread bytes (Frames f) = (length bytes < 2 ^ 32) × (f ≡ NoMemory)

abbrev pub IsToldUnread : List ℕ → FramesRefusal → Type 0
IsToldUnread bytes told = (f : LoadFault) × IsUnread bytes f × (told ≡ load_told f)

-- ---- addresses

-- the addresses of a claim
abbrev pub claim_first : Option Claim → ℕ
claim_first None = 0
claim_first (Some c) = c.first

abbrev pub claim_range : Option Claim → ℕ
claim_range None = 0
claim_range (Some c) = c.range

-- a refused record by the addresses that it claims, and its refusal
abbrev pub claim_told : RefusedRecord → FramesClaim
claim_told x = record {
  first = claim_first x.claim;
  range = claim_range x.claim;
  refusal = refusal_told x.fault;
}

-- the refused record that answers, or nothing where none does
abbrev pub AnswersClaim : Option RefusedRecord → Bool → FramesClaim → FramesClaim → Type 0
AnswersClaim (Some x) found old new = (found ≡ true) × (new ≡ claim_told x)
AnswersClaim None found old new = (found ≡ false) × (new ≡ old)
