-- A row that is handed out has the rules of its FDE's instructions, with their expressions.
use Rattle.std.proofs.Common.{◌≡◌, ℕ, ◌<◌, List, Option, Some, map, option_map, refl, sym, ap, ◌∙◌}
use Rattle.std.specs.Prelude.{slice_get}
use Rattle.std.proofs.lemmas.Option.{slice_get-map}
use Rattle.frame_parse.specs.Blocks.{block_in}
use Rattle.frame_parse.specs.Instructions.{PlacedStep, StepData}
use Rattle.frame_parse.specs.Sections.{FdeData}
use Rattle.frame_parse.specs.Steps.{HasSteps, lent_step}
use Rattle.frame_rows.specs.declared.placed_row.PlacedRow.{PlacedRow}
use Rattle.frame_rows.specs.Columns.{HasInitial, HasProgram, rule_at, cfa_at}
use Rattle.frame_rows.specs.Rows.{HasPlacedInitial, HasPlacedProgram}
use Rattle.frame_rows.specs.Rules.{RuleData, PlacedRule, rule_told, cfa_rule_told, lent_row}
use Rattle.frame_rows.proofs.Told.{rule_at_told, cfa_at_told}

pub initial_known : (f : FdeData) (placed : List PlacedStep) → HasPlacedInitial f placed → (steps : List StepData) × HasInitial f steps
unfolding HasSteps
initial_known f placed has = (map (lent_step f.bytes) placed, (placed, has, refl))

pub program_known : (f : FdeData) (placed : List PlacedStep) → HasPlacedProgram f placed → (steps : List StepData) × HasProgram f steps
unfolding HasSteps
program_known f placed has = (map (lent_step f.bytes) placed, (placed, has, refl))

-- what is known of a row by the places
abbrev pub CfaIs : FdeData → ℕ → PlacedRow → Type 0
CfaIs f pc row = (initial steps : List PlacedStep) → HasPlacedInitial f initial → HasPlacedProgram f steps → row.cfa ≡ cfa_at initial steps pc

abbrev pub ColumnsAre : FdeData → ℕ → PlacedRow → Type 0
ColumnsAre f pc row = (initial steps : List PlacedStep) → HasPlacedInitial f initial → HasPlacedProgram f steps → (r : ℕ) → r < 17 → slice_get row.columns r ≡ Some (rule_at r initial steps pc)

pub cfa_lent : (f : FdeData) (pc : ℕ) (row : PlacedRow) → CfaIs f pc row → (initial steps : List StepData) → HasInitial f initial → HasProgram f steps → (lent_row f.bytes row).cfa ≡ cfa_at initial steps pc
unfolding HasSteps
cfa_lent f pc row is initial steps has_initial has =
    let b = block_in f.bytes in
    ap (cfa_rule_told b) (is has_initial.0 has.0 has_initial.1 has.1)
    ∙ cfa_at_told b b has_initial.0 has.0 pc
    ∙ ap (λ (l : List StepData). cfa_at l (map (lent_step f.bytes) has.0) pc) (sym has_initial.2)
    ∙ ap (λ (l : List StepData). cfa_at initial l pc) (sym has.2)

pub columns_lent : (f : FdeData) (pc : ℕ) (row : PlacedRow) → ColumnsAre f pc row → (initial steps : List StepData) → HasInitial f initial → HasProgram f steps → (r : ℕ) → r < 17 → slice_get (lent_row f.bytes row).columns r ≡ Some (rule_at r initial steps pc)
unfolding HasSteps
columns_lent f pc row are initial steps has_initial has r lt =
    let b = block_in f.bytes in
    slice_get-map (rule_told b) row.columns r
    ∙ ap (λ (o : Option PlacedRule). option_map (rule_told b) o) (are has_initial.0 has.0 has_initial.1 has.1 r lt)
    ∙ ap (λ (rule : RuleData). Some rule) (
    rule_at_told b b r has_initial.0 has.0 pc
    ∙ ap (λ (l : List StepData). rule_at r l (map (lent_step f.bytes) has.0) pc) (sym has_initial.2)
    ∙ ap (λ (l : List StepData). rule_at r initial l pc) (sym has.2)
    )
