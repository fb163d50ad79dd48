-- The next step of a program, with its expression.
use Rattle.std.proofs.Common.{◌≡◌, ℕ, List, [], ◌∷◌, map, refl, ap, ◌∙◌}
use Rattle.frame_parse.specs.Instructions.{PlacedStep, StepData}
use Rattle.frame_parse.specs.Programs.{PlacedProgramData, HasPlacedSteps}
use Rattle.frame_parse.specs.Steps.{ProgramData, HasSteps, lent_step}

-- what is left of a program of a section with these bytes
abbrev pub in_bytes : List ℕ → PlacedProgramData → ProgramData
in_bytes bytes p = record { bytes = bytes; left = p }

pub next_lent : (bytes : List ℕ) (p q : PlacedProgramData) (x : PlacedStep) (steps : List StepData)
    → ((placed : List PlacedStep) → HasPlacedSteps p placed → (more : List PlacedStep) × (placed ≡ x ∷ more) × HasPlacedSteps q more)
    → HasSteps (in_bytes bytes p) steps → (more : List StepData) × (steps ≡ lent_step bytes x ∷ more) × HasSteps (in_bytes bytes q) more
unfolding HasSteps
next_lent bytes p q x steps next has =
    let n = next has.0 has.1 in
    (map (lent_step bytes) n.0, has.2 ∙ ap (map (lent_step bytes)) n.1, (n.0, n.2, refl))

pub none_lent : (bytes : List ℕ) (p : PlacedProgramData) (steps : List StepData) → ((placed : List PlacedStep) → HasPlacedSteps p placed → placed ≡ [])
    → HasSteps (in_bytes bytes p) steps → steps ≡ []
unfolding HasSteps
none_lent bytes p steps none has = has.2 ∙ ap (map (lent_step bytes)) (none has.0 has.1)

pub known_lent : (bytes : List ℕ) (p : PlacedProgramData) (placed : List PlacedStep) → HasPlacedSteps p placed → (steps : List StepData) × HasSteps (in_bytes bytes p) steps
unfolding HasSteps
known_lent bytes p placed has = (map (lent_step bytes) placed, (placed, has, refl))
