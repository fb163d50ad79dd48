-- The locks of nodes that a log has, by the node's number.
use Rattle.std.specs.Prelude.{ℕ, Bool, false, ◌==◌, not, List, Option, Some, None, map, is_some}
use Rattle.std.specs.Prelude.{if◌then◌else◌}
use Rattle.std.specs.List.{find, filter}
use Rattle.tree_shape.specs.NodeData.{NodeData, Link}
use Rattle.tree_laws.specs.Trees.{Contents}
use Rattle.word_rule.specs.Spelling.{spelled}
use Rattle.word_rule.specs.declared.log.Holding.{Holding}

-- the lock of this node
abbrev pub held_of : ℕ → List Holding → Option Holding
held_of n held = find (λ h. h.node == n) held

-- the lock of this node changed
abbrev pub edited : ℕ → (Holding → Holding) → List Holding → List Holding
edited n f held = map (λ h. if h.node == n then f h else h) held

-- all locks but this node's
abbrev pub without_lock : ℕ → List Holding → List Holding
without_lock n held = filter (λ h. not (h.node == n)) held

-- a list of nodes without this one
abbrev pub all_but : ℕ → List ℕ → List ℕ
all_but n nodes = filter (λ m. not (m == n)) nodes

-- what stands in for a node that is not held
abbrev pub no_shape : NodeData
no_shape = record { level = 0; low = 0; high = 0; body = Link 0 }

-- the settled contents that a log has
abbrev pub settled_shape : Option Holding → NodeData
settled_shape None = no_shape
settled_shape (Some h) = h.settled

abbrev pub settled_in : List Holding → Contents
settled_in held n = settled_shape (held_of n held)

-- what the words of a held node spell now, and its settled content where they spell nothing
abbrev pub now_of : Holding → Option NodeData → NodeData
now_of h None = h.settled
now_of h (Some shape) = shape

abbrev pub now_shape : Option Holding → NodeData
now_shape None = no_shape
now_shape (Some h) = now_of h (spelled h.words)

abbrev pub now_in : List Holding → Contents
now_in held n = now_shape (held_of n held)

-- whether a held node is marked live
abbrev pub is_marked : Option Holding → Bool
is_marked None = false
is_marked (Some h) = is_some h.mark

abbrev pub marked_in : List Holding → ℕ → Bool
marked_in held n = is_marked (held_of n held)
