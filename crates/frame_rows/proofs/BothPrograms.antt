-- The two programs of an FDE, and the rows that their walks leave.
use Rattle.std.proofs.Common.{◌≡◌, ℕ, ◌<◌, ◌≤◌, List, [], length, Bool, true, false, refl, sym, ap, subst, ◌∙◌, arith}
use Rattle.std.specs.List.{fold}
use Rattle.frame_parse.specs.Instructions.{PlacedStep}
use Rattle.frame_rows.specs.Rows.{HasPlacedInitial, HasPlacedProgram}
use Rattle.frame_parse.specs.Order.{IsBalanced, AreAt, AreOrdered}
use Rattle.frame_parse.specs.Programs.{PlacedProgramData, HasPlacedSteps, initial_of, program_of, text_in}
use Rattle.frame_parse.specs.Sections.{FdeData}
use Rattle.frame_rows.specs.declared.placed_row.PlacedRow.{PlacedRow}
use Rattle.frame_rows.specs.Columns.{instructions, up_to}
use Rattle.frame_rows.specs.Rows.{unset, beside, rows_step, rows_after, base_row}
use Rattle.frame_rows.specs.Walk.{GoesOn}
use Rattle.frame_rows.proofs.Onward.{goes_on_from, none_up_to}
use Rattle.frame_rows.proofs.Agreement.{row_from, IsBehind}

-- what holds along the steps of every program
abbrev pub Law : Type 0
Law = (p : PlacedProgramData) (steps : List PlacedStep) → HasPlacedSteps p steps → AreOrdered p steps

opens : (p : PlacedProgramData) (pc : ℕ) (steps : List PlacedStep) → Law → HasPlacedSteps p steps → p.state.remembered ≡ [] → p.state.location ≤ pc → GoesOn p pc 0 steps
opens p pc steps law has none reached =
    goes_on_from p pc p.state.location steps reached has (law p steps has).ascending (subst (λ (d : ℕ). IsBalanced d steps) (ap length none) (law p steps has).balanced)

-- what going through a whole program makes of a row
abbrev pub Leaves : PlacedProgramData → ℕ → PlacedRow → PlacedRow → PlacedRow → Type 0
Leaves p pc base before after = (steps : List PlacedStep) → GoesOn p pc 0 steps → after ≡ (rows_after base pc (beside before []) steps).row

-- a walk that can't have met a rule that isn't told
pub whole_unless : (told : Bool) → (told ≡ false → ⊥) → told ≡ true
whole_unless true refute = refl
whole_unless false refute = absurd (refute refl)

pub initial_left : (f : FdeData) (p : PlacedProgramData) (first : ℕ) (start base : PlacedRow) (initial : List PlacedStep) → Law → p ≡ initial_of f.section f.entry (text_in f.bytes f.entry.cie.initial) → first ≡ f.entry.first → start ≡ unset → Leaves p first unset start base
    → HasPlacedInitial f initial → base ≡ base_row f.entry.first initial
initial_left f p first start base initial law is at none left has =
    let here : HasPlacedSteps p initial = subst (λ (k : PlacedProgramData). HasPlacedSteps k initial) (sym is) has in
    let place : p.state.location ≡ f.entry.first = ap (λ (k : PlacedProgramData). k.state.location) is in
    let made = left initial (opens p first initial law here (ap (λ (k : PlacedProgramData). k.state.remembered) is) (omega arith)) in
    made ∙ ap (λ (k : PlacedRow). (rows_after unset first (beside k []) initial).row) none ∙ ap (λ (l : ℕ). base_row l initial) at

-- the initial instructions all stand at the first address
pub initial_at : (f : FdeData) (initial : List PlacedStep) → Law → HasPlacedInitial f initial → AreAt f.entry.first initial
initial_at f initial law has = (law (initial_of f.section f.entry (text_in f.bytes f.entry.cie.initial)) initial has).staying refl

program_left : (f : FdeData) (q : PlacedProgramData) (first pc : ℕ) (base row : PlacedRow) (steps : List PlacedStep) → Law → q ≡ program_of f.section f.entry (text_in f.bytes f.entry.program) → first ≡ f.entry.first → first ≤ pc → Leaves q pc base base row → HasPlacedProgram f steps
    → row ≡ row_from base pc steps
program_left f q first pc base row steps law is at reached left has =
    let here : HasPlacedSteps q steps = subst (λ (k : PlacedProgramData). HasPlacedSteps k steps) (sym is) has in
    let place : q.state.location ≡ f.entry.first = ap (λ (k : PlacedProgramData). k.state.location) is in
    left steps (opens q pc steps law here (ap (λ (k : PlacedProgramData). k.state.remembered) is) (omega arith))

-- below the first address none of the program's own instructions holds
nothing_left : (f : FdeData) (first pc : ℕ) (base : PlacedRow) (steps : List PlacedStep) → Law → first ≡ f.entry.first → pc < first → HasPlacedProgram f steps → base ≡ row_from base pc steps
nothing_left f first pc base steps law at below has =
    let ascending = (law (program_of f.section f.entry (text_in f.bytes f.entry.program)) steps has).ascending in
    let none : up_to pc steps ≡ [] = none_up_to pc f.entry.first steps (omega arith) ascending in
    ap (λ (l : List PlacedStep). (fold (rows_step base) (beside base []) (instructions l)).row) (sym none)

-- the row after both programs, and after the initial instructions alone where the address is below the first one
pub after_both : (f : FdeData) (q : PlacedProgramData) (first pc : ℕ) (base row : PlacedRow) (initial steps : List PlacedStep) → Law → q ≡ program_of f.section f.entry (text_in f.bytes f.entry.program)
    → first ≡ f.entry.first → first ≤ pc → base ≡ base_row f.entry.first initial → Leaves q pc base base row → HasPlacedInitial f initial → HasPlacedProgram f steps → IsBehind f.entry.first pc initial steps row
after_both f q first pc base row initial steps law is at reached made left has_initial has =
    record { at = initial_at f initial law has_initial; is = program_left f q first pc base row steps law is at reached left has ∙ ap (λ (k : PlacedRow). row_from k pc steps) made }

pub after_initial : (f : FdeData) (first pc : ℕ) (base : PlacedRow) (initial steps : List PlacedStep) → Law → first ≡ f.entry.first → pc < first → base ≡ base_row f.entry.first initial → HasPlacedInitial f initial → HasPlacedProgram f steps
    → IsBehind f.entry.first pc initial steps base
after_initial f first pc base initial steps law at below made has_initial has =
    record { at = initial_at f initial law has_initial; is = nothing_left f first pc base steps law at below has ∙ ap (λ (k : PlacedRow). row_from k pc steps) made }
