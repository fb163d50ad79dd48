-- One thing comes of a frame that is looked up in a section.
use Rattle.std.proofs.Common.{◌≡◌, ℕ, List, Bool, Some, option_map, sym, ◌∙◌, ap, subst}
use Rattle.frame_expr.specs.Regions.{RegionData}
use Rattle.frame_parse.specs.Entries.{FdeRecord}
use Rattle.frame_parse.specs.Sections.{FdeData, SectionData}
use Rattle.frame_rows.specs.Columns.{cfa_at, rule_at}
use Rattle.frame_rows.specs.Rules.{RowData}
use Rattle.unwind_step.specs.declared.next.Stepped.{Stepped}
use Rattle.unwind_step.specs.Backtrace.{fde_in}
use Rattle.unwind_step.specs.NextFrame.{IsNextFrame, IsStep}
use Rattle.unwind_step.specs.Sources.{IsFound, IsStepIn}
use Rattle.unwind_step.proofs.OneOutcome.{ExprLaw, one_outcome, same_outcome, same_rules}

abbrev pub fde_with : ℕ → List ℕ → FdeRecord → FdeData
fde_with section bytes entry = record { section = section; bytes = bytes; entry = entry }

abbrev fde_from : SectionData → FdeRecord → FdeData
fde_from s entry = fde_with s.address s.bytes entry

-- the FDE that was found is the section's at the address
found_fde : (s : SectionData) (pc : ℕ) (f g : FdeData) (row : RowData) → IsFound s pc f row → fde_in pc s ≡ Some g → g ≡ f
found_fde s pc f g row found is =
    let entries : fde_in pc s ≡ Some (fde_from s f.entry) = ap (option_map (fde_from s)) found.entry in
    let both : Some g ≡ Some (fde_from s f.entry) = sym is ∙ entries in
    let same : g ≡ fde_from s f.entry = cc in
    same ∙ ap (λ (k : ℕ). fde_with k s.bytes f.entry) (sym found.section) ∙ ap (λ (k : List ℕ). fde_with f.section k f.entry) (sym found.bytes)

pub only_step : ExprLaw → (s : SectionData) (look : ℕ) (f : FdeData) (row : RowData) (old : List ℕ) (memory : List RegionData) (outcome other : Stepped) (signal : Bool) → IsFound s look f row → IsStep row old memory outcome → IsStepIn s look old memory other signal → other ≡ outcome
only_step law s look f row old memory outcome other signal found is step =
    let next = subst (λ (k : FdeData). IsNextFrame k look old memory other) (found_fde s look f step.fde row found step.found) step.is_next in
    let at = next.is_row in
    let same = same_rules next.row row (cfa_at at.initial at.steps look) (λ r. rule_at r at.initial at.steps look) at.cfa (found.row.cfa at.initial at.steps at.has_initial at.has_program) at.columns (found.row.columns at.initial at.steps at.has_initial at.has_program) in
    one_outcome law row old memory other outcome (same_outcome next.row row old memory other same next.is_step) is
