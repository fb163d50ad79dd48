-- The last item of a list.
use Rattle.std.proofs.Common.{◌≡◌, ℕ, ◌-◌, List, [], ◌∷◌, ◌++◌, refl, ap, ◌∙◌, arith, length, length-append, get_or, set}
use Rattle.fde_writer.specs.Places.{PlaceData}
use Rattle.fde_writer.specs.Standing.{StandingData}

set_last : (earlier : List StandingData) (x y : StandingData) → set (earlier ++ x ∷ []) (length earlier) y ≡ earlier ++ y ∷ []
set_last [] x y = refl
set_last (z ∷ earlier) x y = ap (λ (xs : List StandingData). z ∷ xs) (set_last earlier x y)

get_last : (earlier : List StandingData) (x d : StandingData) → get_or (earlier ++ x ∷ []) (length earlier) d ≡ x
get_last [] x d = refl
get_last (z ∷ earlier) x d = get_last earlier x d

-- the last item with other places
pub settled_last : (items : List StandingData) (last y : StandingData) (l : ℕ) (places : List PlaceData) → l ≡ length items → last ≡ get_or items (l - 1) last → y ≡ record last { places = places }
    → (earlier : List StandingData) (x : StandingData) → items ≡ earlier ++ x ∷ [] → set items (l - 1) y ≡ earlier ++ record x { places = places } ∷ []
settled_last items last y l places long is told earlier x e =
    let there : l - 1 ≡ length earlier = (let m : length items ≡ length (earlier ++ x ∷ []) = ap length e in let n = length-append earlier (x ∷ []) in omega (arith, long, m, n)) in
    let was : last ≡ x = is ∙ ap (λ (xs : List StandingData). get_or xs (l - 1) last) e ∙ ap (λ (k : ℕ). get_or (earlier ++ x ∷ []) k last) there ∙ get_last earlier x last in
    let now : y ≡ record x { places = places } = told ∙ ap (λ (z : StandingData). record z { places = places }) was in
    ap (λ (xs : List StandingData). set xs (l - 1) y) e ∙ ap (λ (k : ℕ). set (earlier ++ x ∷ []) k y) there ∙ set_last earlier x y ∙ ap (λ (z : StandingData). earlier ++ z ∷ []) now
