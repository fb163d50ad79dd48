-- What both halves have, after members were put and taken away.
use Rattle.std.proofs.Common.{◌≡◌, List, [], ◌∷◌, ◌++◌, sym, ap, subst, arith}
use Rattle.std.specs.List.{All, Contains}
use Rattle.reg_model.specs.History.{after}
use Rattle.reg_model.specs.SpanData.{IsSpan}
use Rattle.reg_model.specs.State.{AreDisjoint, State}
use Rattle.reg_model.specs.declared.answer.Half.{Half}
use Rattle.reg_model.specs.declared.answer.Half.TheVariants.{Loaded, Registered}
use Rattle.reg_model.specs.declared.answer.Update.TheVariants.{Register, Deregister, Load, Unload}
use Rattle.reg_model.specs.declared.span.Member.{Member}
use Rattle.fde_writer.specs.Places.{GainsPlaces, HaveSame, HoldsAtLeast, LosesAtMost, PlaceData, members_in, passes}
use Rattle.fde_writer.proofs.Counts.{count-append, count-push, counted_one, gone_count, is_same, is_same_itself, is_same_one}

-- a member's place
abbrev pub at : Half → Member → PlaceData
at half m = record { member = m; half = half }

pub gains_registered : (m : Member) (s : State) → GainsPlaces (at Registered m ∷ []) s (after (Register m) s)
gains_registered m s Registered test = (let e = count-push test s.registered m in omega (arith, e))
gains_registered m s Loaded test = omega arith

pub gains_loaded : (m : Member) (s : State) → GainsPlaces (at Loaded m ∷ []) s (after (Load m) s)
gains_loaded m s Registered test = omega arith
gains_loaded m s Loaded test = (let e = count-push test s.loaded m in omega (arith, e))

-- a member that is held in a half stands there
pub stands_there : (half : Half) (m : Member) (s : State) → HoldsAtLeast s (at half m ∷ []) → Contains (members_in half s) m
stands_there Registered m s holds =
    let found = counted_one (is_same m) s.registered (let least = holds Registered (is_same m) in let one : Rattle.fde_writer.proofs.Counts.one_if (is_same m m) ≡ 1 = ap Rattle.fde_writer.proofs.Counts.one_if (is_same_itself m) in omega (arith, least, one)) in
    subst (Contains s.registered) (sym (is_same_one m found.0 found.1.1)) found.1.0
stands_there Loaded m s holds =
    let found = counted_one (is_same m) s.loaded (let least = holds Loaded (is_same m) in let one : Rattle.fde_writer.proofs.Counts.one_if (is_same m m) ≡ 1 = ap Rattle.fde_writer.proofs.Counts.one_if (is_same_itself m) in omega (arith, least, one)) in
    subst (Contains s.loaded) (sym (is_same_one m found.0 found.1.1)) found.1.0

pub loses_registered : (m : Member) (s : State) → AreDisjoint s.registered → All (λ x. IsSpan x.span) s.registered → Contains s.registered m
    → GainsPlaces (at Registered m ∷ []) (after (Deregister m.span.first) s) s
loses_registered m s disjoint spans listed Registered test = (let e = gone_count s.registered m test disjoint spans listed in omega (arith, e))
loses_registered m s disjoint spans listed Loaded test = omega arith

pub loses_loaded : (m : Member) (s : State) → AreDisjoint s.loaded → All (λ x. IsSpan x.span) s.loaded → Contains s.loaded m
    → GainsPlaces (at Loaded m ∷ []) (after (Unload m.span.first) s) s
loses_loaded m s disjoint spans listed Registered test = omega arith
loses_loaded m s disjoint spans listed Loaded test = (let e = gone_count s.loaded m test disjoint spans listed in omega (arith, e))

pub gains_none : (s : State) → GainsPlaces [] s s
gains_none s half test = omega arith

pub gains_then : (ps qs : List PlaceData) (s t u : State) → GainsPlaces ps s t → GainsPlaces qs t u → GainsPlaces (ps ++ qs) s u
gains_then ps qs s t u first then half test =
    let x = first half test in
    let y = then half test in
    let e = count-append (passes half test) ps qs in
    omega (arith, x, y, e)

-- what was gained is held
pub gained_held : (ps : List PlaceData) (s t : State) → GainsPlaces ps s t → HoldsAtLeast t ps
gained_held ps s t gains half test = (let x = gains half test in omega (arith, x))

-- what was gained and lost again
pub gained_lost : (ps : List PlaceData) (s t u v : State) → GainsPlaces ps s t → HaveSame t u → GainsPlaces ps v u → HaveSame s v
gained_lost ps s t u v gains same loses half test =
    (let x = gains half test in let y = same half test in let z = loses half test in omega (arith, x, y, z))

pub gained_stopped : (ps : List PlaceData) (s t u v : State) → GainsPlaces ps s t → HaveSame t u → LosesAtMost ps u v → LosesAtMost [] s v
gained_stopped ps s t u v gains same keeps half test =
    (let x = gains half test in let y = same half test in let z = keeps half test in omega (arith, x, y, z))

pub gained_then_stopped : (ps : List PlaceData) (s t v : State) → GainsPlaces ps s t → LosesAtMost [] t v → LosesAtMost [] s v
gained_then_stopped ps s t v gains keeps half test =
    (let x = gains half test in let z = keeps half test in omega (arith, x, z))
