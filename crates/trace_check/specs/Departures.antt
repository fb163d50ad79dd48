-- Where a trace that was told leaves the traces that unfold.
use Rattle.std.specs.Prelude.{◌≡◌, ◌⊎◌, ℕ, ◌+◌, ◌<◌, List, ◌++◌, length, take}
use Rattle.frame_expr.specs.declared.regs.Regs.{Regs}
use Rattle.frame_expr.specs.Regions.{RegionData}
use Rattle.frame_parse.specs.Sections.{SectionData}
use Rattle.unwind_step.specs.Backtrace.{TraceData, Unfolds}
use Rattle.unwind_step.specs.declared.backtrace.FrameLine.{FrameLine}

-- some trace that unfolds begins with these lines
pub record BeginsUnfolding (sections : List SectionData) (memory : List RegionData) (regs : Regs)
    (lines : List FrameLine) : Type 0 where
  pub trace : TraceData
  pub unfolds : Unfolds sections memory regs trace
  pub rest : List FrameLine
  pub begins : trace.frames ≡ lines ++ rest

-- the lines before line k begin a trace that unfolds, and with line k they begin none
pub record LeavesAt (sections : List SectionData) (memory : List RegionData) (regs : Regs)
    (lines : List FrameLine) (k : ℕ) : Type 0 where
  pub within : k < length lines
  pub before : BeginsUnfolding sections memory regs (take k lines)
  pub leaves : ¬ BeginsUnfolding sections memory regs (take (k + 1) lines)

-- the lines of all frames begin a trace that unfolds, and with its end the trace itself doesn't
pub record LeavesAtEnd (sections : List SectionData) (memory : List RegionData) (regs : Regs)
    (trace : TraceData) : Type 0 where
  pub before : BeginsUnfolding sections memory regs trace.frames
  pub leaves : ¬ Unfolds sections memory regs trace

-- The first line of a trace such that no trace that unfolds begins with the lines up to it. They
-- are counted from 0, and the line after those of the frames tells the end.
abbrev pub IsDeparture : List SectionData → List RegionData → Regs → TraceData → ℕ → Type 0
IsDeparture sections memory regs trace k =
    LeavesAt sections memory regs trace.frames k
    ⊎ ((k ≡ length trace.frames) × LeavesAtEnd sections memory regs trace)

-- a trace that unfolds has no departure, and no trace has two
pub record DepartsOnce (sections : List SectionData) (memory : List RegionData) (regs : Regs)
    (trace : TraceData) : Type 0 where
  pub none : Unfolds sections memory regs trace → (k : ℕ)
      → ¬ IsDeparture sections memory regs trace k
  pub once : (j k : ℕ) → IsDeparture sections memory regs trace j
      → IsDeparture sections memory regs trace k → j ≡ k
