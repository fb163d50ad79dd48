-- Trees whose nodes are numbered, over any contents: children, live nodes, entries, and ways inside
-- a set of nodes.
use Rattle.std.specs.Prelude.{ℕ, zero, suc, ◌+◌, Bool, List, [], ◌∷◌, Contains, IsTrue, nat_le}
use Rattle.std.specs.Prelude.{if◌then◌else◌}
use Rattle.std.specs.List.{flat_map}
use Rattle.reg_model.specs.declared.span.Member.{Member}
use Rattle.tree_shape.specs.declared.pair.Pair.{Pair}
use Rattle.tree_shape.specs.declared.node.NodeBounds.{NodeBounds}
use Rattle.tree_shape.specs.NodeData.{NodeData, pairs_of, entries_of}

-- what each node holds, by its number
abbrev pub Contents : Type 0
Contents = ℕ → NodeData

-- a child as its parent names it: its number, and its level and fences
pub record Branch : Type 0 where
  pub child : ℕ
  pub frame : NodeBounds

-- a child with its level and its fences
abbrev pub branch : ℕ → ℕ → ℕ → ℕ → Branch
branch child level low high = record {
  child = child;
  frame = record { level = level; low = low; high = high };
}

-- The children of pairs that begin at `low`. The fences of each are the address after the separator
-- before its own (`low` for the first) and its own separator.
abbrev pub branches_from : ℕ → ℕ → List Pair → List Branch
branches_from level low [] = []
branches_from level low (p ∷ pairs) =
    branch p.child level low p.separator ∷ branches_from level (p.separator + 1) pairs

-- the children of a node, which are to have this level
abbrev pub branches : ℕ → NodeData → List Branch
branches level s = branches_from level s.low (pairs_of s)

-- the node n and all that it reaches in so many levels, each as often as there are ways to it, from
-- left to right
abbrev pub nodes_under : Contents → ℕ → ℕ → List ℕ
nodes_under f zero n = n ∷ []
nodes_under f (suc level) n = n ∷ flat_map (λ b. nodes_under f level b.child) (branches level (f n))

-- the nodes of the tree, whose root is node 0
abbrev pub nodes : Contents → List ℕ
nodes f = nodes_under f (f 0).level 0

-- the entries of its leaves, from left to right
abbrev pub entries : Contents → List Member
entries f = flat_map (λ n. entries_of (f n)) (nodes f)

-- one of the nodes of a set has this entry
abbrev pub HasEntry : Contents → (ℕ → Bool) → Member → Type 0
HasEntry f set m = (n : ℕ) × (IsTrue (set n) × Contains (entries_of (f n)) m)

-- the child of the first pair whose separator is at least the address; 0 where there is none
abbrev pub child_for : ℕ → List Pair → ℕ
child_for pc [] = 0
child_for pc (p ∷ pairs) = if nat_le pc p.separator then p.child else child_for pc pairs

-- the node that the separators lead to, so many levels down from n
abbrev pub leaf_under : Contents → ℕ → ℕ → ℕ → ℕ
leaf_under f pc zero n = n
leaf_under f pc (suc level) n = leaf_under f pc level (child_for pc (pairs_of (f n)))

-- the leaf that an address leads to
abbrev pub leaf_for : Contents → ℕ → ℕ
leaf_for f pc = leaf_under f pc (f 0).level 0

-- the node n and what it reaches in so many levels by ways inside a set: those whose every node
-- after n is in the set
abbrev pub within : (ℕ → Bool) → Contents → ℕ → ℕ → List ℕ
within set f zero n = n ∷ []
within set f (suc level) n =
    n ∷ flat_map (λ b. if set b.child then within set f level b.child else [])
    (branches level (f n))

-- the branches by which such ways lead outside the set, from left to right
abbrev pub leaving : (ℕ → Bool) → Contents → ℕ → ℕ → List Branch
leaving set f zero n = []
leaving set f (suc level) n =
    flat_map (λ b. if set b.child then leaving set f level b.child else (b ∷ []))
    (branches level (f n))
