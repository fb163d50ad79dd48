-- The FDE that is found at an address.
use Rattle.std.proofs.Common.{◌≡◌, ℕ, ◌+◌, ◌≤◌, List, [], ◌∷◌, Option, Some, None, IfSome, option_map, Bool, true, false, cond, nat_le, nat_lt, refl, sym, subst}
use Rattle.std.proofs.lemmas.Bool.{leb-true, and_parts}
use Rattle.frame_parse.specs.Entries.{FdeRecord}
use Rattle.frame_parse.specs.Sections.{FdeData, first_cover, covers}

chosen_begins : (pc : ℕ) (b : Bool) (f g : FdeRecord) (o : Option FdeRecord) → covers pc g ≡ b → cond b (Some g) o ≡ Some f → (o ≡ Some f → f.first ≤ pc) → f.first ≤ pc
chosen_begins pc true f g o here e later =
    let same : g ≡ f = cc in
    let parts = and_parts (nat_le g.first pc) (nat_lt pc (g.first + g.range)) here in
    subst (λ (k : FdeRecord). k.first ≤ pc) same (leb-true _ _ parts.0)
chosen_begins pc false f g o here e later = later e

-- an FDE that covers an address begins at it or below
begins_below : (pc : ℕ) (fs : List FdeRecord) (f : FdeRecord) → first_cover pc fs ≡ Some f → f.first ≤ pc
begins_below pc [] f e = absurd cc
begins_below pc (g ∷ gs) f e = chosen_begins pc (covers pc g) f g (first_cover pc gs) refl e (begins_below pc gs f)

pub found_begins_below : (pc : ℕ) (fs : List FdeRecord) (found : Option FdeData) → option_map (λ f. f.entry) found ≡ first_cover pc fs → IfSome found (λ f. f.entry.first ≤ pc)
found_begins_below pc fs None is = tt
found_begins_below pc fs (Some f) is = begins_below pc fs f.entry (sym is)
