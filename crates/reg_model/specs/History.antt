-- Updates, and the states that a history of them leads to.
use Rattle.std.specs.Prelude.{ℕ, ◌<◌, List, [], ◌∷◌, ◌++◌, length, take, ◌==◌, not, IsSome, map}
use Rattle.std.specs.Prelude.{if◌then◌else◌}
use Rattle.std.specs.List.{filter}
use Rattle.reg_model.specs.SpanData.{is_same_span}
use Rattle.reg_model.specs.State.{State, objects, IsFree, at_base, at_span}
use Rattle.reg_model.specs.declared.span.Member.{Member}
use Rattle.reg_model.specs.declared.answer.Update.{Update}
use Rattle.reg_model.specs.declared.answer.Update.TheVariants.{Register, Deregister, Replace}
use Rattle.reg_model.specs.declared.answer.Update.TheVariants.{Load, Unload}

-- the members but the one with this first address
abbrev pub without : ℕ → List Member → List Member
without base members = filter (λ m. not (m.span.first == base)) members

-- the members, of which the one with this one's span gets its payload
abbrev pub with_payload : Member → List Member → List Member
with_payload m members = map (λ x. if is_same_span x.span m.span then m else x) members

-- whether the update can be made in this state
abbrev pub Fits : Update → State → Type 0
Fits (Register m) s = IsFree m.span s.registered
Fits (Deregister base) s = IsSome (at_base base s.registered)
Fits (Replace m) s = IsSome (at_span m.span s.registered)
Fits (Load m) s = IsFree m.span (objects s) × (length s.loaded < s.loads)
Fits (Unload base) s = IsSome (at_base base s.loaded)

-- the state after it
abbrev pub after : Update → State → State
after (Register m) s = record s { registered = s.registered ++ m ∷ [] }
after (Deregister base) s = record s { registered = without base s.registered }
after (Replace m) s = record s { registered = with_payload m s.registered }
after (Load m) s = record s { loaded = s.loaded ++ m ∷ [] }
after (Unload base) s = record s { loaded = without base s.loaded }

-- each update fits the state before it
abbrev pub IsHistory : State → List Update → Type 0
IsHistory s [] = Unit {0}
IsHistory s (u ∷ updates) = Fits u s × IsHistory (after u s) updates

-- the state after all of the updates
abbrev pub state_after : State → List Update → State
state_after s [] = s
state_after s (u ∷ updates) = state_after (after u s) updates

-- the state after the first k of them
abbrev pub state_at : State → List Update → ℕ → State
state_at s updates k = state_after s (take k updates)
