-- The premises of a local change as tests over finite lists. The law `decided` says what they tell.
use Rattle.std.specs.Prelude.{ℕ, ◌+◌, ◌-◌, Bool, true, false, ◌&&◌, ◌||◌, not, List, [], ◌∷◌}
use Rattle.std.specs.Prelude.{length}
use Rattle.std.specs.Prelude.{Option, None, Some, ◌==◌, nat_le, nat_lt, if◌then◌else◌}
use Rattle.std.specs.List.{list_all, list_any, flat_map}
use lib.Pointwise.{pointwise}
use Rattle.reg_model.specs.declared.span.Member.{Member}
use Rattle.reg_model.specs.SpanData.{is_same_span}
use Rattle.reg_model.specs.History.{without, with_payload}
use Rattle.reg_model.specs.declared.answer.Update.{Update}
use Rattle.reg_model.specs.declared.answer.Update.TheVariants.{Register, Deregister, Replace}
use Rattle.reg_model.specs.declared.answer.Update.TheVariants.{Load, Unload}
use Rattle.tree_shape.specs.declared.pair.Pair.{Pair}
use Rattle.tree_shape.specs.declared.limits.TheConstants.{PAIRS, ENTRIES, HIGHEST_LEVEL}
use Rattle.tree_shape.specs.NodeData.{NodeData, Body, Pairs, Entries, Link, entries_of}
use Rattle.tree_laws.specs.Numbers.{times, is_among}
use Rattle.tree_laws.specs.Trees.{Contents, Branch, branches, within, leaving}
use Rattle.tree_laws.specs.Lawful.{fewest_entries, fewest_pairs}
use Rattle.tree_laws.specs.LocalChange.{either, reached_nodes}

-- whether two are the same
abbrev pub same_member : Member → Member → Bool
same_member m n =
    (m.span.first == n.span.first) && ((m.span.last == n.span.last) && (m.payload == n.payload))

abbrev pub same_branch : Branch → Branch → Bool
same_branch b c = (b.child == c.child) && ((b.frame.level == c.frame.level)
    && ((b.frame.low == c.frame.low) && (b.frame.high == c.frame.high)))

abbrev pub same_pair : Pair → Pair → Bool
same_pair p q = (p.child == q.child) && (p.separator == q.separator)

abbrev pub same_body : Body → Body → Bool
same_body (Pairs pairs) (Pairs others) = pointwise same_pair pairs others
same_body (Entries entries) (Entries others) = pointwise same_member entries others
same_body (Link next) (Link other) = next == other
same_body _ _ = false

abbrev pub same_shape : NodeData → NodeData → Bool
same_shape s t = (s.level == t.level) && ((s.low == t.low) && ((s.high == t.high)
    && same_body s.body t.body))

-- whether a node holds entries
abbrev pub is_entries : Body → Bool
is_entries (Pairs pairs) = false
is_entries (Entries entries) = true
is_entries (Link next) = false

-- whether members ascend from an address on, and lie between two fences
abbrev pub ascends_from : ℕ → List Member → Bool
ascends_from low [] = true
ascends_from low (m ∷ members) = nat_le low m.span.first
    && (nat_le m.span.first m.span.last && ascends_from (m.span.last + 1) members)

abbrev pub lie_within : ℕ → ℕ → List Member → Bool
lie_within low high entries =
    ascends_from low entries && list_all (λ m. nat_le m.span.last high) entries

-- whether separators cut the addresses between two fences
abbrev pub do_cut : ℕ → ℕ → List Pair → Bool
do_cut low high [] = low == (high + 1)
do_cut low high (p ∷ pairs) = nat_le low p.separator && do_cut (p.separator + 1) high pairs

-- whether a node is in order by itself, and filled
abbrev pub has_order_as : NodeData → Body → Bool
has_order_as s (Entries entries) = (s.level == 0) && lie_within s.low s.high entries
has_order_as s (Pairs pairs) = nat_lt 0 s.level && do_cut s.low s.high pairs
has_order_as s (Link next) = false

abbrev pub has_order : NodeData → Bool
has_order s = has_order_as s s.body

abbrev pub is_filled_as : ℕ → Body → Bool
is_filled_as n (Entries entries) =
    nat_le (fewest_entries n) (length entries) && nat_le (length entries) ENTRIES
is_filled_as n (Pairs pairs) =
    nat_le (fewest_pairs n) (length pairs) && nat_le (length pairs) PAIRS
is_filled_as n (Link next) = false

-- whether a child is as its parent names it, and all of a node's children in a set are
abbrev pub fits_parent : Contents → Branch → Bool
fits_parent f b = ((f b.child).level == b.frame.level)
    && (((f b.child).low == b.frame.low) && ((f b.child).high == b.frame.high))

abbrev pub children_fit : Contents → (ℕ → Bool) → ℕ → Bool
children_fit g set n =
    list_all (λ b. not (set b.child) || fits_parent g b) (branches ((g n).level - 1) (g n))

-- whether the top keeps its level, or stands at most at the highest where it is the root
abbrev pub keeps_level : ℕ → NodeData → NodeData → Bool
keeps_level top s t =
    if top == 0 then nat_le t.level HIGHEST_LEVEL else (t.level == s.level)

-- The premises of a local change of listed nodes, but that all others stay.
abbrev pub is_local_change :
    Contents → (ℕ → Bool) → ℕ → List ℕ → (ℕ → Bool) → List ℕ → Contents → Bool
is_local_change f live top group fresh fresh_nodes g =
    let ways = within (is_among group) f (f top).level top in
    let reached = reached_nodes top (is_among group) fresh g in
    let set = either (is_among group) fresh in
    live top && (is_among group top && (list_all (λ n. nat_lt 0 (times n ways)) group
    && (list_all (λ n. not (fresh n && live n)) fresh_nodes
    && (((g top).low == (f top).low) && (((g top).high == (f top).high)
    && (keeps_level top (f top) (g top)
    && (list_all (λ n. has_order (g n)) reached
    && (list_all (λ n. nat_le (times n reached) 1) reached
    && (list_all (children_fit g set) reached
    && pointwise same_branch (leaving set g (g top).level top)
    (leaving (is_among group) f (f top).level top))))))))))

-- the entries that listed nodes have
abbrev pub entries_at_nodes : Contents → List ℕ → List Member
entries_at_nodes f nodes = flat_map (λ n. entries_of (f n)) nodes

abbrev pub has_member : List Member → Member → Bool
has_member members m = list_any (same_member m) members

abbrev pub are_included : List Member → List Member → Bool
are_included members others = list_all (has_member others) members

abbrev pub same_members : List Member → List Member → Bool
same_members members others = are_included members others && are_included others members

-- whether entries stay, or change by the update
abbrev pub entries_become : Option Update → List Member → List Member → Bool
entries_become None before after = same_members after before
entries_become (Some (Register m)) before after =
    not (has_member before m) && same_members after (m ∷ before)
entries_become (Some (Deregister base)) before after =
    list_any (λ m. m.span.first == base) before
    && same_members after (without base before)
entries_become (Some (Replace m)) before after =
    list_any (λ x. is_same_span x.span m.span) before
    && same_members after (with_payload m before)
entries_become (Some (Load m)) before after = false
entries_become (Some (Unload base)) before after = false

-- The premises of a lawful change of listed nodes, but that all others stay.
abbrev pub is_lawful_change : Contents → (ℕ → Bool) → ℕ → List ℕ → (ℕ → Bool) → List ℕ → Contents
    → Option Update → Bool
is_lawful_change f live top group fresh fresh_nodes g update =
    let reached = reached_nodes top (is_among group) fresh g in
    is_local_change f live top group fresh fresh_nodes g
    && (list_all (λ n. is_filled_as n (g n).body) reached
    && entries_become update (entries_at_nodes f group) (entries_at_nodes g reached))
