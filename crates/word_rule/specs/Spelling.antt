-- What the words of a node after its version word spell: word 1 is its kind, 2 its level, 3 and 4
-- its fences, 5 its count, and from 6 on stand its pairs, its entries, or the next free node.
use Rattle.std.specs.Prelude.{◌≡◌, ℕ, zero, suc, ◌+◌, ◌-◌, ◌^◌, Bool, ◌&&◌, ◌==◌, nat_lt, nat_le}
use Rattle.std.specs.Prelude.{List, [], ◌∷◌, Option, Some, None, option_map, slice_index}
use Rattle.std.specs.Prelude.{if◌then◌else◌}
use Rattle.reg_model.specs.declared.span.Member.{Member}
use Rattle.tree_shape.specs.declared.pair.Pair.{Pair}
use Rattle.tree_shape.specs.NodeData.{NodeData, Body, Pairs, Entries, Link}
use Rattle.tree_shape.specs.declared.limits.TheConstants.{PAIRS, ENTRIES}
use Rattle.word_rule.specs.Places.{TOP}

-- the word of a node with this number, where these are the words after its version word
abbrev pub node_word : List ℕ → ℕ → ℕ
node_word words at = slice_index words (at - 1)

-- a number of 32 bits, as nodes, levels and payloads are
abbrev pub is_short : ℕ → Bool
is_short n = nat_lt n (2 ^ 32)

abbrev pub pair_at : List ℕ → ℕ → Pair
pair_at words at = record { child = node_word words at; separator = node_word words (at + 1) }

-- so many pairs from a place on
abbrev pub pairs_at : List ℕ → ℕ → ℕ → Option (List Pair)
pairs_at words at zero = Some []
pairs_at words at (suc count) =
    if is_short (node_word words at) then option_map
    (λ pairs. pair_at words at ∷ pairs) (pairs_at words (at + 2) count) else None

abbrev pub entry_at : List ℕ → ℕ → Member
entry_at words at = record {
  span = record {
    first = node_word words at;
    last = node_word words at + node_word words (at + 1) - 1;
  };
  payload = node_word words (at + 2);
}

-- a base and a size with an address above the last one, and a payload
abbrev pub is_entry_at : List ℕ → ℕ → Bool
is_entry_at words at =
    nat_le 1 (node_word words (at + 1))
    && nat_le (node_word words at + node_word words (at + 1)) TOP
    && is_short (node_word words (at + 2))

-- so many entries from a place on
abbrev pub entries_at : List ℕ → ℕ → ℕ → Option (List Member)
entries_at words at zero = Some []
entries_at words at (suc count) =
    if is_entry_at words at then option_map
    (λ entries. entry_at words at ∷ entries) (entries_at words (at + 3) count) else None

-- what a node of this kind with this count holds
abbrev pub body_of_kind : List ℕ → ℕ → ℕ → Option Body
body_of_kind words kind count =
    if kind == 0
    then (if nat_le count PAIRS then option_map Pairs (pairs_at words 6 count) else None)
    else (if kind == 1
    then (if nat_le count ENTRIES then option_map Entries (entries_at words 6 count) else None)
    else (if (kind == 2) && is_short (node_word words 6)
    then Some (Link (node_word words 6)) else None))

-- the node that the words spell, if they spell one
abbrev pub spelled : List ℕ → Option NodeData
spelled words =
    if is_short (node_word words 2)
    then option_map (λ body. record {
      level = node_word words 2;
      low = node_word words 3;
      high = node_word words 4;
      body = body;
    })
    (body_of_kind words (node_word words 1) (node_word words 5))
    else None

abbrev pub SpellsNode : List ℕ → NodeData → Type 0
SpellsNode words shape = spelled words ≡ Some shape
