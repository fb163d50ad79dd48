-- What a hit is a member of.
use Rattle.std.proofs.Common.{rules, refl, ap, subst, ◌∙◌, ◌≡◌, ℕ, ◌<◌, ◌^◌, List, Some, None, [], ◌∷◌, Bool, true, false, inl, inr, sym, arith}
use Rattle.std.specs.Prelude.{Contains, if◌then◌else◌}
use Rattle.std.proofs.lemmas.List.Elements.{Contains-append_cases, Contains-append_right, Contains-push_cases}
use Rattle.frame_parse.specs.Sections.{SectionData}
use Rattle.reg_model.specs.Query.{member_at}
use Rattle.reg_model.specs.SpanData.{contains}
use Rattle.reg_model.specs.declared.span.Member.{Member}
use Rattle.fde_members.specs.Members.{LeadsToFde, IsFdeMember, fde_address}

pub hit : (members : List Member) (pc : ℕ) (m : Member) → member_at pc members ≡ Some m → Contains members m × (contains m.span pc ≡ true)
hit [] pc m found = search rules
hit (x ∷ members) pc m found = go (hit members pc m) (contains x.span pc) refl
  where
    go : (member_at pc members ≡ Some m → Contains members m × (contains m.span pc ≡ true)) → (b : Bool) → contains x.span pc ≡ b → Contains (x ∷ members) m × (contains m.span pc ≡ true)
    go more true is =
        let front : Some x ≡ Some m = subst (λ b. (if b then Some x else member_at pc members) ≡ Some m) is found in
        let same : x ≡ m = search rules in
        (search rules, subst (λ y. contains y.span pc ≡ true) same is)
    go more false is =
        let next : member_at pc members ≡ Some m = subst (λ b. (if b then Some x else member_at pc members) ≡ Some m) is found in
        let later = more next in
        (Contains-append_right (x ∷ []) members m later.0, later.1)

pub covered : (low : ℕ) (sections : List SectionData) (pc : ℕ) (m : Member) → low < 2 ^ 64 → m.span.first < 2 ^ 64 → contains m.span pc ≡ true → IsFdeMember low sections m → LeadsToFde low sections pc m
covered low sections pc m small below has of = record {
  section = of.section;
  fde = of.fde;
  listed = of.listed;
  among = of.among;
  has = search rules;
  first = ap (λ x. x.span.first) of.is_member;
  leads = ap (fde_address low) of.is_member ∙ search rules;
}

-- what isn't found at an address doesn't cover it
pub missed : (members : List Member) (pc : ℕ) (m : Member) → member_at pc members ≡ None → Contains members m → contains m.span pc ≡ false
missed [] pc m none among = absurd (let within = among.1 in omega (arith, within))
missed (x ∷ members) pc m none among = go (missed members pc m) (contains x.span pc) refl
  where
    go : (member_at pc members ≡ None → Contains members m → contains m.span pc ≡ false) → (b : Bool) → contains x.span pc ≡ b → contains m.span pc ≡ false
    go more true is = let never : Some x ≡ None = subst (λ b. (if b then Some x else member_at pc members) ≡ None) is none in absurd cc
    go more false is =
        let rest : member_at pc members ≡ None = subst (λ b. (if b then Some x else member_at pc members) ≡ None) is none in
        elim (Contains-append_cases (x ∷ []) members m among) [
          | inl here ↦ elim (Contains-push_cases [] x m here) [
            | inl nowhere ↦ absurd (let within = nowhere.1 in omega (arith, within))
            | inr same ↦ ap (λ (y : Member). contains y.span pc) (sym same) ∙ is
          ]
          | inr later ↦ more rest later
        ]
