-- The members of a section for another registry, in which distances are counted from elsewhere.
use Rattle.std.specs.Prelude.{◌≡◌, ℕ, List, map, not, Some}
use Rattle.std.specs.List.{find}
use Rattle.fde_members.specs.Members.{distance, fde_address, is_near}
use Rattle.fde_members.specs.declared.members.MembersFault.{MembersFault}
use Rattle.fde_members.specs.declared.members.MembersFault.TheVariants.{Far, NoMemory}
use Rattle.reg_model.specs.declared.span.Member.{Member}

-- a member whose payload leads to the same FDE, where distances are counted from elsewhere
abbrev pub moved_member : ℕ → ℕ → Member → Member
moved_member from to m = record {
  span = m.span;
  payload = distance to m.span.first (fde_address from m);
}

-- all of them
abbrev pub moved_members : ℕ → ℕ → List Member → List Member
moved_members from to members = map (moved_member from to) members

-- Memory ran out, which says nothing; or an FDE is too far from its code, and this is the distance
-- of the first such one.
abbrev pub IsMoveFault : ℕ → ℕ → List Member → MembersFault → Type 0
IsMoveFault from to members NoMemory = Unit {0}
IsMoveFault from to members (Far d) = (m : Member)
    × (find (λ x. not (is_near x)) (moved_members from to members) ≡ Some m) × (m.payload ≡ d)
