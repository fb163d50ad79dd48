-- How large a registry may be that a library makes.
use Rattle.std.specs.Prelude.{ℕ, ◌≤◌}
use Rattle.c_handle.specs.declared.limits.SizeFault.{SizeFault}
use Rattle.c_handle.specs.declared.limits.SizeFault.TheVariants.{Loads, Nodes}

-- so many nodes, and so many members loaded, there may be
abbrev pub MayHaveNodes : ℕ → Type 0
MayHaveNodes nodes = (4 ≤ nodes) × (nodes ≤ 16384)

abbrev pub MayHaveLoads : ℕ → Type 0
MayHaveLoads loads = (1 ≤ loads) × (loads ≤ 1024)

abbrev pub MayHaveSize : ℕ → ℕ → Type 0
MayHaveSize nodes loads = MayHaveNodes nodes × MayHaveLoads loads

-- the first of both that there may not be
abbrev pub IsTooFewOrMany : ℕ → ℕ → SizeFault → Type 0
IsTooFewOrMany nodes loads Nodes = ¬ MayHaveNodes nodes
IsTooFewOrMany nodes loads Loads = MayHaveNodes nodes × (¬ MayHaveLoads loads)

-- what C is told of it
abbrev pub size_told : SizeFault → ℕ
size_told Nodes = 2
size_told Loads = 3
