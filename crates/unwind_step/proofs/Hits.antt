-- What a registry over plain lists finds is one of its members.
use Rattle.std.proofs.Common.{◌≡◌, ◌<◌, ℕ, List, [], ◌∷◌, All, Bool, true, false, cond, ◌⊎◌, inl, inr, suc, subst, Option, Some, None, IfSome, arith}
use Rattle.std.specs.List.{find}
use Rattle.std.proofs.lemmas.List.Elements.{All-append}
use Rattle.reg_model.specs.declared.answer.Found.{Found}
use Rattle.reg_model.specs.declared.answer.Found.TheVariants.{Hit, Miss}
use Rattle.reg_model.specs.declared.answer.Half.TheVariants.{Registered, Loaded}
use Rattle.reg_model.specs.declared.answer.Receipt.TheVariants.{Query}
use Rattle.reg_model.specs.PlainRegistryData.{PlainRegistryData, Step}
use Rattle.reg_model.specs.State.{objects}
use Rattle.unwind_step.specs.Backtrace.{IsBelow}
use Rattle.unwind_step.specs.Finders.{HasPayloadsBelow}

taken_or_left : {X : Type 0} (b : Bool) (y : X) (rest : Option X) (x : X) → cond b (Some y) rest ≡ Some x → (y ≡ x) ⊎ (rest ≡ Some x)
taken_or_left true y rest x found = inl (cc)
taken_or_left false y rest x found = inr found

-- what holds of each element holds of the one that is found
pub All-find : {X : Type 0} (P : X → Type 0) (test : X → Bool) (xs : List X) (x : X) → All P xs → find test xs ≡ Some x → P x
All-find P test [] x all found = cc
All-find {X} P test (y ∷ xs) x all found =
    elim (taken_or_left (test y) y (find test xs) x found) [
      | inl here ↦ subst P here (all 0 y (omega arith))
      | inr later ↦ All-find P test xs x (λ k d within. all (suc k) d (omega arith)) later
    ]

pub place_below : (registry : PlainRegistryData) (bound pc : ℕ) (registered : Found) (loaded : Option Found) → HasPayloadsBelow bound registry.state → Step registry (Query Registered pc registered) registry → IfSome loaded (λ found. Step registry (Query Loaded pc found) registry) → IsBelow bound (record { registered = registered; loaded = loaded })
place_below registry bound pc (Hit m stamp) loaded below step other = All-find (λ x. x.payload < bound) _ _ m below.registered step.right
place_below registry bound pc (Miss stamp) None below step other = tt
place_below registry bound pc (Miss stamp) (Some (Miss later)) below step other = tt
place_below registry bound pc (Miss stamp) (Some (Hit m later)) below step other = All-find (λ x. x.payload < bound) _ (objects registry.state) m (All-append (λ x. x.payload < bound) registry.state.fixed registry.state.loaded below.fixed below.loaded) other.right
