-- When and how the settled contents of the nodes that a caller holds become what their words spell.
-- Nothing is asked of the rest of the tree.
use Rattle.std.specs.Prelude.{◌≡◌, ◌≢◌, ℕ, ◌≤◌, Bool, true, false, ◌&&◌, ◌||◌, not, IsTrue, IsSome}
use Rattle.std.specs.Prelude.{is_some, List, ◌++◌, length, Option, Some, None, map, nat_le, nat_lt}
use Rattle.std.specs.Prelude.{[], ◌∷◌, if◌then◌else◌}
use Rattle.std.specs.List.{AllByRecursion, filter, list_all}
use Rattle.reg_model.specs.declared.answer.Update.{Update}
use Rattle.reg_model.specs.declared.answer.Update.TheVariants.{Register, Deregister, Replace}
use Rattle.reg_model.specs.declared.answer.Update.TheVariants.{Load, Unload}
use Rattle.tree_laws.specs.Decisions.{same_shape, is_entries, is_lawful_change}
use Rattle.tree_shape.specs.NodeData.{NodeData, frame_of}
use Rattle.tree_laws.specs.Trees.{Contents, HasEntry}
use Rattle.tree_laws.specs.Lawful.{IsTree, IsLawfulTree, IsFilled}
use Rattle.tree_laws.specs.Numbers.{is_among}
use Rattle.tree_laws.specs.LocalChange.{either, reached_nodes, live_after, IsLawfulChange}
use Rattle.tree_laws.specs.LocalChange.{IsLocalChange, IsSameChange, EntriesBecome}
use Rattle.word_rule.specs.declared.log.Log.{Log}
use Rattle.word_rule.specs.declared.log.Holding.{Holding}
use Rattle.tree_shape.specs.declared.node.NodeBounds.{NodeBounds}
use Rattle.word_rule.specs.Spelling.{spelled, SpellsNode}
use Rattle.word_rule.specs.Held.{held_of, settled_in, now_in, now_of, marked_in}

-- the words of a held node spell another content than its settled one
abbrev pub Differs : Holding → Type 0
Differs h = spelled (h.words) ≢ Some h.settled

-- whether a held node is out
abbrev pub is_fresh : List Holding → List ℕ → ℕ → Bool
is_fresh held out n = is_some (held_of n held) && is_among out n

-- the contents after the exchange of a group and of the nodes that are out
abbrev pub exchanged_in : Log → (ℕ → Bool) → Contents
exchanged_in v group n =
    if either group (is_fresh v.holdings.held v.holdings.out) n
    then now_in v.holdings.held n else settled_in v.holdings.held n

-- the nodes that the top reaches by ways inside the group and the nodes that are out, afterwards
abbrev pub reached_in : Log → ℕ → (ℕ → Bool) → List ℕ
reached_in v top group =
    reached_nodes top group (is_fresh v.holdings.held v.holdings.out) (exchanged_in v group)

abbrev pub is_reached : Log → ℕ → (ℕ → Bool) → ℕ → Bool
is_reached v top group n = is_among (reached_in v top group) n

abbrev pub node_of : Holding → ℕ
node_of h = h.node

-- the nodes out afterwards: those before that the top doesn't reach, and those of the group that it
-- doesn't
abbrev pub out_after : Log → ℕ → (ℕ → Bool) → List ℕ
out_after v top group =
    filter (λ n. not (is_fresh v.holdings.held v.holdings.out n && is_reached v top group n))
    v.holdings.out
    ++ filter (λ n. group n && not (is_reached v top group n)) (map node_of v.holdings.held)

-- The exchange of a group of held live nodes under one of them, the top, and of the held nodes that
-- are out is lawful.
pub record IsLawfulExchange (v : Log) (update : Option Update) (top : ℕ) (group : ℕ
    → Bool) : Type 0 where
  -- the words of each node of the group, and of each that the top reaches, spell a node
  pub spell : AllByRecursion
      (λ h. IsTrue (group h.node || is_reached v top group h.node)
      → IsSome (spelled h.words)) v.holdings.held
  -- the group is of held live nodes; every other one spells its settled content
  pub grouped : (n : ℕ) → IsTrue (group n) → IsTrue (marked_in v.holdings.held n)
  pub covers : AllByRecursion
      (λ h. IsSome h.mark → group h.node ≡ false → SpellsNode h.words h.settled) v.holdings.held
  -- These nodes alone change the tree lawfully: its entries stay as they were, or change by the
  -- update.
  pub change : IsLawfulChange (settled_in v.holdings.held) (marked_in v.holdings.held) top group
      (is_fresh v.holdings.held v.holdings.out) (exchanged_in v group) update
  -- Each node that leaves the tree, and each that enters it, had a word stored under its lock. So
  -- no sight of it stands.
  pub leaves : AllByRecursion
      (λ h. IsTrue (group h.node) → is_reached v top group h.node ≡ false
      → h.stored ≡ true) v.holdings.held
  pub enters : AllByRecursion
      (λ h. IsTrue (is_fresh v.holdings.held v.holdings.out h.node)
      → IsTrue (is_reached v top group h.node) → h.stored ≡ true) v.holdings.held
  pub room : length (out_after v top group) ≤ 4

-- A held node's settled content becomes what its words spell, where it is in the group or isn't
-- live. It is marked where it is reached, and no more where it is of the group and isn't.
abbrev pub mark_after : NodeData → (ℕ → Bool) → (ℕ → Bool) → Holding → Option NodeBounds
mark_after now group reached h =
    if reached h.node then Some (frame_of now) else (if group h.node then None else h.mark)

abbrev pub exchange : (ℕ → Bool) → (ℕ → Bool) → Holding → Holding
exchange group reached h = record h {
  settled = if group h.node
      then now_of h (spelled (h.words))
      else (if is_some h.mark then h.settled else now_of h (spelled (h.words)));
  mark = mark_after (now_of h (spelled (h.words))) group reached h;
}

-- the log after the exchange
abbrev pub after_exchange : Log → ℕ → (ℕ → Bool) → Log
after_exchange v top group =
    record v {
      holdings = record v.holdings {
        held = map (exchange group (is_reached v top group)) v.holdings.held;
        out = out_after v top group;
      };
    }

-- the held nodes that aren't live settle to what their words spell, and no others
abbrev pub nothing_reached : ℕ → Bool
nothing_reached n = false

abbrev pub settle_free : Log → Log
settle_free v = record v {
  holdings = record v.holdings {
    held = map (exchange nothing_reached nothing_reached) v.holdings.held;
  };
}

-- whether what words spell is this content
abbrev pub are_spelled : Option NodeData → NodeData → Bool
are_spelled None s = false
are_spelled (Some t) s = same_shape t s

-- the address that an update is about
abbrev pub address_of : Update → ℕ
address_of (Register m) = m.span.first
address_of (Deregister base) = base
address_of (Replace m) = m.span.first
address_of (Load m) = m.span.first
address_of (Unload base) = base

-- whether the words spell a leaf whose fences hold the address
abbrev pub is_leaf_at : ℕ → Option NodeData → Bool
is_leaf_at pc None = false
is_leaf_at pc (Some s) = is_entries s.body && (nat_le s.low pc && nat_le pc s.high)

-- whether a commit of the update is made in this node
abbrev pub is_updated : Option Update → Holding → Bool
is_updated None h = false
is_updated (Some update) h = is_leaf_at (address_of update) (spelled h.words)

-- whether the caller changed a live node: its words spell something else than its settled content,
-- or the update is made there
abbrev pub is_changed : Option Update → Holding → Bool
is_changed update h =
    is_some h.mark && (not (are_spelled (spelled h.words) h.settled) || is_updated update h)

abbrev pub changed_of : Log → Option Update → List Holding
changed_of v update = filter (is_changed update) v.holdings.held

-- the group of an exchange: all live nodes that the caller changed
abbrev pub group_of : Log → Option Update → List ℕ
group_of v update = map node_of (changed_of v update)

-- Its top: the one with the greatest settled level. If two have it neither reaches the other, and
-- no exchange of them is lawful, whichever is taken.
abbrev pub highest : ℕ → ℕ → List Holding → ℕ
highest node level [] = node
highest node level (h ∷ held) =
    if nat_lt level h.settled.level then highest h.node h.settled.level held
    else highest node level held

abbrev pub highest_of : List Holding → ℕ
highest_of [] = 0
highest_of (h ∷ held) = highest h.node h.settled.level held

abbrev pub top_of : Log → Option Update → ℕ
top_of v update = highest_of (changed_of v update)

-- whether each holding with the one property has the other
abbrev pub each_with : (Holding → Bool) → (Holding → Bool) → List Holding → Bool
each_with some more held = list_all (λ h. not (some h) || more h) held

-- Whether the exchange of all that the caller changed is lawful. It is true exactly where
-- `IsLawfulExchange` holds of this top and this group.
abbrev pub is_lawful : Log → Option Update → Bool
is_lawful v update =
    let held = v.holdings.held in
    let top = top_of v update in
    let nodes = group_of v update in
    let group = is_among nodes in
    let fresh = is_fresh held v.holdings.out in
    let reached = is_reached v top group in
    each_with (λ h. group h.node || reached h.node) (λ h. is_some (spelled h.words)) held
    && (list_all (marked_in held) nodes
    && (is_lawful_change (settled_in held) (marked_in held) top nodes fresh v.holdings.out
    (exchanged_in v group) update
    && (each_with (λ h. group h.node && not (reached h.node)) (λ h. h.stored) held
    && (each_with (λ h. fresh h.node && reached h.node) (λ h. h.stored) held
    && nat_le (length (out_after v top group)) 4))))

-- The log after a step at which contents settle: after the exchange where it is lawful, else with
-- the nodes alone that aren't live.
abbrev pub settle : Option Update → Log → Log
settle update v =
    if is_lawful v update then after_exchange v (top_of v update) (is_among (group_of v update))
    else settle_free v

-- the laws of tree_shape on which an exchange rests
pub record ChangeLaws : Type 0 where
  pub transfer : (top : ℕ) (group fresh : ℕ → Bool) (f : Contents) (live : ℕ → Bool)
      (g f' : Contents) (live' : ℕ → Bool) (g' : Contents) (update : Option Update)
      → IsLawfulChange f live top group fresh g update
      → IsSameChange top group fresh f g f' live' g'
      → IsLawfulChange f' live' top group fresh g' update
  pub reached : (top : ℕ) (group fresh : ℕ → Bool) (f : Contents) (live : ℕ → Bool)
      (g f' : Contents) (live' : ℕ → Bool) (g' : Contents)
      → IsLocalChange f live top group fresh g → IsSameChange top group fresh f g f' live' g'
      → reached_nodes top group fresh g' ≡ reached_nodes top group fresh g
  pub widen : (f : Contents) (live : ℕ → Bool) (top : ℕ) (group fresh more : ℕ → Bool)
      (g : Contents) (update : Option Update)
      → IsTree f live → IsLawfulChange f live top group fresh g update
      → ((n : ℕ) → IsTrue (fresh n) → IsTrue (more n))
      → ((n : ℕ) → IsTrue (more n) → live n ≡ false)
      → IsLawfulChange f live top group more g update
  pub wider : (f : Contents) (live : ℕ → Bool) (top : ℕ) (group fresh more : ℕ → Bool)
      (g : Contents) → IsTree f live → IsLocalChange f live top group fresh g
      → ((n : ℕ) → IsTrue (fresh n) → IsTrue (more n))
      → ((n : ℕ) → IsTrue (more n) → live n ≡ false)
      → reached_nodes top group more g ≡ reached_nodes top group fresh g
  pub lawful : (f : Contents) (live : ℕ → Bool) (top : ℕ) (group fresh : ℕ → Bool) (g : Contents)
      → IsLawfulTree f live → IsLocalChange f live top group fresh g
      → AllByRecursion (λ n. IsFilled n (g n)) (reached_nodes top group fresh g)
      → IsLawfulTree g (live_after live top group fresh g)
  pub update : (f : Contents) (live : ℕ → Bool) (top : ℕ) (group fresh : ℕ → Bool) (g : Contents)
      (update : Option Update) → IsLawfulTree f live
      → IsLawfulChange f live top group fresh g update
      → EntriesBecome update (HasEntry f live) (HasEntry g (live_after live top group fresh g))
