-- How many nodes the registry of a script takes.
use Rattle.std.specs.Prelude.{◌≡◌, ◌⊎◌, ℕ, ◌+◌, ◌*◌, ◌-◌, ◌<◌, ◌≤◌, List, length, All, min}
use Rattle.std.specs.List.{sum_by}
use Rattle.script_text.specs.ScriptData.{ScriptData}
use Rattle.script_text.specs.declared.script.Event.{Event}
use Rattle.script_text.specs.declared.limits.TheConstants.{MOST_EVENTS, MOST_THREADS}
use Rattle.run_engine.specs.Played.{updates_in}

-- a round has few threads, of few events each
abbrev pub IsFew : List (List Event) → Type 0
IsFew threads =
    (length threads ≤ MOST_THREADS) × All (λ events. length events ≤ MOST_EVENTS) threads

-- how many updates the events of all rounds ask for
abbrev pub updates_asked : List (List (List Event)) → ℕ
updates_asked rounds = sum_by (λ threads. sum_by updates_in threads) rounds

-- the first caller, and one for each thread of each round
abbrev pub callers_asked : List (List (List Event)) → ℕ
callers_asked rounds = 1 + sum_by (λ threads. length threads) rounds

-- No more members are ever registered than updates were made, nor than there are images: they are
-- disjoint, and each has the span of an image.
abbrev pub members_asked : List (List (List Event)) → ℕ → ℕ
members_asked rounds images = min (updates_asked rounds) images

-- All nodes that the script may have, or so many that its tree is never full: each node has two
-- members but the four that a caller may have out.
abbrev pub AreEnough : ScriptData → ℕ → Type 0
AreEnough script nodes = (nodes ≡ script.nodes)
    ⊎ (members_asked script.rounds (length script.images) + 2
    < 2 * (nodes - 4 * callers_asked script.rounds))
