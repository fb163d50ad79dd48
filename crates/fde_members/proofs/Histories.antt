-- Members that updates added stay those of the sections.
use Rattle.std.proofs.Common.{◌≡◌, ℕ, List, [], ◌∷◌, ◌++◌, Some, not, eqb, refl, subst}
use Rattle.std.specs.List.{All}
use Rattle.std.proofs.lemmas.List.Elements.{All-filter, All-nil, All-push, All-head, All-tail}
use Rattle.frame_parse.specs.Sections.{SectionData}
use Rattle.reg_model.specs.History.{after, state_after}
use Rattle.reg_model.specs.Query.{member_at, query}
use Rattle.reg_model.specs.State.{State, opening}
use Rattle.reg_model.proofs.Replacing.{All-with_payload}
use Rattle.reg_model.specs.declared.answer.Half.{Half}
use Rattle.reg_model.specs.declared.answer.Half.TheVariants.{Loaded, Registered}
use Rattle.reg_model.specs.declared.answer.Update.{Update}
use Rattle.reg_model.specs.declared.answer.Update.TheVariants.{Register, Deregister, Replace, Load, Unload}
use Rattle.reg_model.specs.declared.span.Member.{Member}
use Rattle.fde_members.specs.Members.{AddsOnly, IsFdeMember}

module _ (low : ℕ) (sections : List SectionData) where
  abbrev Of : Member → Type 0
  Of = IsFdeMember low sections

  abbrev Adds : Update → Type 0
  Adds = AddsOnly low sections

  pub registered_stay : (s : State) (us : List Update) → All Of s.registered → All Adds us → All Of (state_after s us).registered
  registered_stay s [] all adds = all
  registered_stay s (Register m ∷ us) all adds = registered_stay (after (Register m) s) us (All-push Of s.registered m all (All-head Adds (Register m) us adds)) (All-tail Adds (Register m) us adds)
  registered_stay s (Deregister base ∷ us) all adds = registered_stay (after (Deregister base) s) us (All-filter (λ x. not (eqb x.span.first base)) Of s.registered all) (All-tail Adds (Deregister base) us adds)
  registered_stay s (Replace m ∷ us) all adds = registered_stay (after (Replace m) s) us (All-with_payload Of m s.registered (All-head Adds (Replace m) us adds) all) (All-tail Adds (Replace m) us adds)
  registered_stay s (Load m ∷ us) all adds = registered_stay (after (Load m) s) us all (All-tail Adds (Load m) us adds)
  registered_stay s (Unload base ∷ us) all adds = registered_stay (after (Unload base) s) us all (All-tail Adds (Unload base) us adds)

  pub loaded_stay : (s : State) (us : List Update) → All Of s.loaded → All Adds us → All Of (state_after s us).loaded
  loaded_stay s [] all adds = all
  loaded_stay s (Load m ∷ us) all adds = loaded_stay (after (Load m) s) us (All-push Of s.loaded m all (All-head Adds (Load m) us adds)) (All-tail Adds (Load m) us adds)
  loaded_stay s (Unload base ∷ us) all adds = loaded_stay (after (Unload base) s) us (All-filter (λ x. not (eqb x.span.first base)) Of s.loaded all) (All-tail Adds (Unload base) us adds)
  loaded_stay s (Register m ∷ us) all adds = loaded_stay (after (Register m) s) us all (All-tail Adds (Register m) us adds)
  loaded_stay s (Deregister base ∷ us) all adds = loaded_stay (after (Deregister base) s) us all (All-tail Adds (Deregister base) us adds)
  loaded_stay s (Replace m ∷ us) all adds = loaded_stay (after (Replace m) s) us all (All-tail Adds (Replace m) us adds)

pub fixed_stay : (s : State) (us : List Update) → (state_after s us).fixed ≡ s.fixed
fixed_stay s [] = refl
fixed_stay s (Register m ∷ us) = fixed_stay (after (Register m) s) us
fixed_stay s (Deregister base ∷ us) = fixed_stay (after (Deregister base) s) us
fixed_stay s (Replace m ∷ us) = fixed_stay (after (Replace m) s) us
fixed_stay s (Load m ∷ us) = fixed_stay (after (Load m) s) us
fixed_stay s (Unload base ∷ us) = fixed_stay (after (Unload base) s) us

-- what either half finds is one of them, where the registry was empty
pub of_sections : (low loads : ℕ) (sections : List SectionData) (us : List Update) (half : Half) (pc : ℕ) (m : Member) → All (AddsOnly low sections) us → query half pc (state_after (opening [] loads) us) ≡ Some m
    → (members : List Member) × (member_at pc members ≡ Some m) × All (IsFdeMember low sections) members
of_sections low loads sections us Registered pc m adds found =
    ((state_after (opening [] loads) us).registered, found, registered_stay low sections (opening [] loads) us (All-nil (IsFdeMember low sections)) adds)
of_sections low loads sections us Loaded pc m adds found =
    let s = state_after (opening [] loads) us in
    (s.loaded, subst (λ (fixed : List Member). member_at pc (fixed ++ s.loaded) ≡ Some m) (fixed_stay (opening [] loads) us) found, loaded_stay low sections (opening [] loads) us (All-nil (IsFdeMember low sections)) adds)
