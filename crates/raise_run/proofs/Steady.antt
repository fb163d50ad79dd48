-- The fixed images answer each address with one member.
use Rattle.std.proofs.Common.{◌≡◌, ℕ, List, ◌++◌, All, Option, Some, None, IfSome, sym, ◌∙◌, ap, subst, arith}
use Rattle.std.specs.List.{Contains}
use Rattle.std.proofs.lemmas.List.{get_or-map, length-map}
use Rattle.std.proofs.lemmas.List.Elements.{All-contains, Contains-append_left, Contains-append_right}
use Rattle.std.proofs.lemmas.Option.{IfSome_then}
use Rattle.reg_model.specs.PlainRegistryData.{PlainRegistryData}
use Rattle.reg_model.specs.Query.{query}
use Rattle.reg_model.specs.Receipt.{IsPlace, member_of}
use Rattle.reg_model.specs.State.{State}
use Rattle.reg_model.specs.declared.answer.Found.{Found}
use Rattle.reg_model.specs.declared.answer.Found.TheVariants.{Hit, Miss}
use Rattle.reg_model.specs.declared.answer.Half.TheVariants.{Registered, Loaded}
use Rattle.reg_model.specs.declared.answer.Place.{Place}
use Rattle.reg_model.specs.declared.span.Member.{Member}
use Rattle.unwind_step.specs.Backtrace.{hit_of}
use Rattle.unwind_step.specs.Finders.{IsPlainPlace}
use Rattle.unwind_step.specs.declared.backtrace.FrameLine.{FrameLine}
use Rattle.raise_phases.specs.Raising.{FoundAlike, lines_of}
use Rattle.raise_phases.specs.declared.raised.Phase.{Phase}

-- the registered member where there is one, else the loader's
abbrev either : Option Member → Option Member → Option Member
either (Some m) loaded = Some m
either None loaded = loaded

-- a right place found the member that the state has at the address
hit_is : (s : State) (pc : ℕ) (registered : Found) (loaded : Option Found) → query Registered pc s ≡ member_of registered → IfSome loaded (λ found. query Loaded pc s ≡ member_of found) → IsPlace (record { registered = registered; loaded = loaded }) → hit_of (record { registered = registered; loaded = loaded }) ≡ either (query Registered pc s) (query Loaded pc s)
hit_is s pc (Hit m stamp) loaded here there halves = ap (λ found. either found (query Loaded pc s)) (sym here)
hit_is s pc (Miss stamp) None here there halves = absurd halves
hit_is s pc (Miss stamp) (Some found) here there halves = sym there ∙ ap (λ found. either found (query Loaded pc s)) (sym here)

hit_in : (registry : PlainRegistryData) (pc : ℕ) (place : Place) → IsPlainPlace registry pc place → hit_of place ≡ either (query Registered pc registry.state) (query Loaded pc registry.state)
hit_in registry pc place right =
    hit_is registry.state pc place.registered place.loaded right.registered.right
    (IfSome_then place.loaded right.loaded (λ found step. step.right)) right.halves

-- the line of a phase is one of the phases' lines
line_in : (phases : List Phase) (phase : Phase) → Contains phases phase → Contains (lines_of phases) phase.line
line_in phases phase at =
    let within = at.1 in
    (at.0, omega (arith, within, length-map phases (λ p. p.line)), get_or-map (λ (p : Phase). p.line) phases at.0 phase phase.line within ∙ ap (λ p. p.line) at.2)

-- places that are right of one registry are alike
pub found_alike : (registry : PlainRegistryData) (search cleanup : List Phase) → All (λ line. IsPlainPlace registry line.look line.place) (lines_of search ++ lines_of cleanup) → FoundAlike search cleanup
found_alike registry search cleanup right first second searched asked same =
    let all = lines_of search ++ lines_of cleanup in
    let IsRight : FrameLine → Type 0 = λ line. IsPlainPlace registry line.look line.place in
    let here = All-contains IsRight all first.line right (Contains-append_left (lines_of search) (lines_of cleanup) first.line (line_in search first searched)) in
    let there = All-contains IsRight all second.line right (Contains-append_right (lines_of search) (lines_of cleanup) second.line (line_in cleanup second asked)) in
    hit_in registry first.line.look first.line.place here
    ∙ sym (hit_in registry first.line.look second.line.place (subst (λ (pc : ℕ). IsPlainPlace registry pc second.line.place) same there))
