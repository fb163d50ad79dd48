-- The commit of an update that changes one held leaf is lawful, where all else that is held stays.
use Rattle.std.proofs.Common.{◌≡◌, List, [], ◌∷◌, refl, ap, ◌∙◌, Bool, false, cond, map}
use Rattle.std.specs.List.{AllByRecursion, filter}
use Rattle.word_rule.specs.declared.log.Holding.{Holding}

pub all_nothing : (test : Holding → Bool) (P : Holding → Type 0) → ((g : Holding) → P g → test g ≡ false) → (rest : List Holding) → AllByRecursion P rest → filter test rest ≡ []
all_nothing test P each [] all = refl
all_nothing test P each (g ∷ rest) all = ap (λ b. cond b (g ∷ filter test rest) (filter test rest)) (each g all.0) ∙ all_nothing test P each rest all.1

pub all_stay : (f : Holding → Holding) (P : Holding → Type 0) → ((g : Holding) → P g → f g ≡ g) → (rest : List Holding) → AllByRecursion P rest → map f rest ≡ rest
all_stay f P each [] all = refl
all_stay f P each (g ∷ rest) all = (λ i. each g all.0 i ∷ all_stay f P each rest all.1 i)
