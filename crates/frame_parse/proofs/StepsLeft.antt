-- The next step of a program, and what is left of it.
use Rattle.std.proofs.Common.{◌≡◌, ◌<◌, ◌≤◌, List, [], ◌∷◌, length, Result, Ok, Err}
use Rattle.eh_bytes.specs.CursorData.{CursorData}
use Rattle.frame_parse.specs.declared.fault.RecordFault.{RecordFault}
use Rattle.frame_parse.specs.Instructions.{PlacedStep}
use Rattle.frame_parse.specs.declared.program_state.ProgramState.{ProgramState}
use Rattle.eh_bytes.specs.CursorData.{Gives}
use Rattle.frame_parse.specs.Programs.{step, PlacedProgramData, HasPlacedSteps}
use Rattle.frame_parse.proofs.ProgramParts.{steps_sound}
use Rattle.eh_bytes.proofs.Steps.{no_steps, next_step, no_refusal}

pub nothing_left : (p : PlacedProgramData) (steps : List PlacedStep) → length p.rest.bytes ≤ 0 → HasPlacedSteps p steps → steps ≡ []
unfolding HasPlacedSteps
nothing_left p steps le a = no_steps (step p.context) p.rest.at p.state p.rest.bytes steps a.0 (steps_sound p.context) a.1 le

pub next_left : (p : PlacedProgramData) (steps : List PlacedStep) (x : PlacedStep) (m : ProgramState) (mid : CursorData) → 0 < length p.rest.bytes → HasPlacedSteps p steps → (step p.context p.state).read p.rest ≡ Ok ((x, m), mid)
    → (more : List PlacedStep) × (steps ≡ x ∷ more) × HasPlacedSteps (record p { state = m; rest = mid }) more
unfolding HasPlacedSteps
next_left p steps x m mid some a e =
    let n = next_step (step p.context) p.rest p.state steps a.0 x m mid (steps_sound p.context) some a.1 e in
    (n.0, n.1, (a.0, n.2))

pub none_refused : (p : PlacedProgramData) (steps : List PlacedStep) (f : RecordFault) → 0 < length p.rest.bytes → HasPlacedSteps p steps → (step p.context p.state).read p.rest ≡ Err f → ⊥
unfolding HasPlacedSteps
none_refused p steps f some a e = no_refusal (step p.context) p.rest p.state steps a.0 f (steps_sound p.context) some a.1 e

pub left_by : (p : PlacedProgramData) (steps : List PlacedStep) (r : Result PlacedStep RecordFault) (m : ProgramState) (mid : CursorData) → 0 < length p.rest.bytes → HasPlacedSteps p steps → Gives (λ x. (x, m)) (step p.context p.state).read p.rest r mid
    → (more : List PlacedStep) × HasPlacedSteps (record p { state = m; rest = mid }) more
left_by p steps (Ok x) m mid some a e = let n = next_left p steps x m mid some a e in (n.0, n.2)
left_by p steps (Err f) m mid some a e = absurd (none_refused p steps f some a e)
