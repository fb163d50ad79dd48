-- FDEs, as C is told.
use Rattle.std.specs.Prelude.{◌≡◌, ℕ, Bool, true, false, Option, Some, None}
use Rattle.std.specs.Option.{unwrap_or}
use Rattle.frame_parse.specs.Entries.{FdeRecord}
use Rattle.frames_c.specs.declared.find.FramesFde.{FramesFde}

-- one where something is, else nought
abbrev pub flag : Bool → ℕ
flag true = 1
flag false = 0

abbrev pub is_there : {A : Type 0} → Option A → Bool
is_there (Some x) = true
is_there None = false

-- an FDE with the place of its first byte
abbrev pub fde_told : FdeRecord → FramesFde
fde_told f = record {
  first = f.first;
  range = f.range;
  lsda = unwrap_or f.lsda 0;
  personality = unwrap_or f.cie.augmentation.personality 0;
  has_lsda = flag (is_there f.lsda);
  has_personality = flag (is_there f.cie.augmentation.personality);
  signal = flag f.cie.augmentation.signal;
  place = f.start;
}

-- the FDE that answers, or nothing where none does
abbrev pub AnswersFde : Option FdeRecord → Bool → FramesFde → FramesFde → Type 0
AnswersFde (Some f) found old new = (found ≡ true) × (new ≡ fde_told f)
AnswersFde None found old new = (found ≡ false) × (new ≡ old)
