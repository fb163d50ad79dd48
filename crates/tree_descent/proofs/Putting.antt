-- A member is put into a held leaf and committed.
use Rattle.std.proofs.Common.{◌≡◌, sym, refl, ap, ◌∙◌, arith}
use Rattle.tree_laws.specs.Lawful.{IsOrderedAs}
use Rattle.tree_shape.specs.NodeData.{NodeData, Body, Entries, Pairs, Link, IsLeaf, entries_of, entries_in}

-- a node of level 0 in order is a leaf
pub leaf_at_zero : (s : NodeData) → IsOrderedAs s s.body → s.level ≡ 0 → IsLeaf s
leaf_at_zero s = go s.body refl
  where
    go : (body : Body) → s.body ≡ body → IsOrderedAs s body → s.level ≡ 0 → s.body ≡ Entries (entries_of s)
    go (Entries entries) e ordered zero_level = e ∙ ap Entries (ap entries_in (sym e))
    go (Pairs pairs) e ordered zero_level = absurd (let z = ordered.0 in omega (arith, z, zero_level))
    go (Link next) e ordered zero_level = absurd ordered
