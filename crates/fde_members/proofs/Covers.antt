-- Of FDEs that share no address, which one covers an address.
use Rattle.std.proofs.Common.{◌≡◌, ℕ, List, [], ◌∷◌, Contains, Bool, true, false, cond, Some, refl, sym, ap, ◌∙◌, arith, inl, inr, ◌⊎◌}
use Rattle.std.proofs.lemmas.List.Elements.{Contains-append_cases, Contains-append_right, Contains-push_cases}
use Rattle.frame_parse.specs.Entries.{FdeRecord}
use Rattle.frame_parse.specs.Sections.{covers, first_cover}
use Rattle.fde_members.specs.Members.{ShareNone}

-- what an item of a list is: the first one, or one of the rest
pub first_or_later : {X : Type 0} (h : X) (xs : List X) (x : X) → Contains (h ∷ xs) x → (x ≡ h) ⊎ Contains xs x
first_or_later h xs x among =
    elim (Contains-append_cases (h ∷ []) xs x among) [
      | inl here ↦ elim (Contains-push_cases [] h x here) [
        | inl nowhere ↦ absurd (let within = nowhere.1 in omega (arith, within))
        | inr same ↦ inl (sym same)
      ]
      | inr later ↦ inr later
    ]

pub only_cover : (fdes : List FdeRecord) (pc : ℕ) (f : FdeRecord) → ShareNone fdes → Contains fdes f → covers pc f ≡ true → first_cover pc fdes ≡ Some f
only_cover [] pc f none among has = absurd (let within = among.1 in omega (arith, within))
only_cover (g ∷ fs) pc f none among has =
    go (λ there. only_cover fs pc f (λ q a b in_a in_b. none q a b (later a in_a) (later b in_b)) there has) (covers pc g) refl
  where
    here : Contains (g ∷ fs) g
    here = (0, omega arith, refl)

    later : (x : FdeRecord) → Contains fs x → Contains (g ∷ fs) x
    later x there = Contains-append_right (g ∷ []) fs x there

    go : (Contains fs f → first_cover pc fs ≡ Some f) → (b : Bool) → covers pc g ≡ b → cond b (Some g) (first_cover pc fs) ≡ Some f
    go rest true is = ap Some (none pc g f here among is has)
    go rest false is = elim (first_or_later g fs f among) [
      | inl same ↦ absurd (let has_g : covers pc g ≡ true = ap (covers pc) (sym same) ∙ has in cc)
      | inr there ↦ rest there
    ]
