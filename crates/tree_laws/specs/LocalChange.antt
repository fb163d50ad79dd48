-- When a change of the contents of some nodes, seen from these nodes alone, keeps the tree lawful.
use Rattle.std.specs.Prelude.{◌≡◌, ◌≢◌, ℕ, ◌-◌, ◌<◌, ◌≤◌, ◌↔◌, ◌⊎◌, Bool, false, ◌||◌, IsTrue, List}
use Rattle.std.specs.Prelude.{Option, Some, None, if◌then◌else◌}
use Rattle.std.specs.List.{AllByRecursion}
use Rattle.reg_model.specs.declared.span.Member.{Member}
use Rattle.reg_model.specs.declared.answer.Update.{Update}
use Rattle.reg_model.specs.declared.answer.Update.TheVariants.{Register, Deregister, Replace}
use Rattle.reg_model.specs.declared.answer.Update.TheVariants.{Load, Unload}
use Rattle.tree_shape.specs.declared.limits.TheConstants.{HIGHEST_LEVEL}
use Rattle.tree_laws.specs.Numbers.{times, is_among}
use Rattle.tree_laws.specs.Trees.{Contents, branches, within, leaving, HasEntry}
use Rattle.tree_laws.specs.Lawful.{IsOrdered, IsFilled, FitsParent}

-- in the group, or fresh
abbrev pub either : (ℕ → Bool) → (ℕ → Bool) → ℕ → Bool
either group fresh n = group n || fresh n

-- the nodes that the top reaches by ways inside the group and the fresh nodes
abbrev pub reached_nodes : ℕ → (ℕ → Bool) → (ℕ → Bool) → Contents → List ℕ
reached_nodes top group fresh g = within (either group fresh) g (g top).level top

-- Below a live node `top` the contents f become g. The `group` is a set of live nodes: `top`, and
-- else only nodes that it reaches by ways inside the group. These and the `fresh` nodes, which
-- aren't live, get new contents. All is said of these nodes alone.
pub record IsLocalChange (f : Contents) (live : ℕ → Bool) (top : ℕ) (group fresh : ℕ → Bool)
    (g : Contents) : Type 0 where
  pub top_live : IsTrue (live top)
  pub top_grouped : IsTrue (group top)
  pub grouped : (n : ℕ) → IsTrue (group n) → 0 < times n (within group f (f top).level top)
  pub fresh_free : (n : ℕ) → IsTrue (fresh n) → live n ≡ false
  pub others_stay : (n : ℕ) → either group fresh n ≡ false → g n ≡ f n
  -- The top keeps its fences, and its level unless it is the root.
  pub low : (g top).low ≡ (f top).low
  pub high : (g top).high ≡ (f top).high
  pub level : top ≢ 0 → (g top).level ≡ (f top).level
  pub height : top ≡ 0 → (g top).level ≤ HIGHEST_LEVEL
  -- Each node with new contents that the top now reaches is in order by itself.
  pub ordered : AllByRecursion (λ n. IsOrdered (g n)) (reached_nodes top group fresh g)
  -- Each is reached by one way, with the level and the fences that its parent gives.
  pub reached_once : (n : ℕ) → times n (reached_nodes top group fresh g) ≤ 1
  pub fitting : AllByRecursion
      (λ n. AllByRecursion (λ b. IsTrue (either group fresh b.child) → FitsParent g b)
      (branches ((g n).level - 1) (g n))) (reached_nodes top group fresh g)
  -- These ways lead outside to the children that the old ones led to, in their order, with the same
  -- levels and fences.
  pub exits : leaving (either group fresh) g (g top).level top ≡ leaving group f (f top).level top

-- the nodes of the group and the fresh ones are live where the top now reaches them; all others
-- stay as they were
abbrev pub live_after : (ℕ → Bool) → ℕ → (ℕ → Bool) → (ℕ → Bool) → Contents → ℕ → Bool
live_after live top group fresh g n =
    if either group fresh n then is_among (reached_nodes top group fresh g) n else live n

-- The entries that such a change leaves: the old ones without those of the group's leaves, and
-- those of the leaves that the top now reaches by ways inside the group and the fresh nodes.
abbrev pub ChangesEntries : Contents → (ℕ → Bool) → ℕ → (ℕ → Bool) → (ℕ → Bool) → Contents → Type 0
ChangesEntries f live top group fresh g =
    (m : Member) → HasEntry g (live_after live top group fresh g) m ↔
    ((HasEntry f live m × ¬ HasEntry f group m)
    ⊎ HasEntry g (is_among (reached_nodes top group fresh g)) m)

-- What a change makes of entries: it keeps them, or changes them by an update. A member is added
-- that was not there, one is taken away that was, or one gives way to another with the same span.
-- The loader's members are no entries.
abbrev pub EntriesBecome : Option Update → (Member → Type 0) → (Member → Type 0) → Type 0
EntriesBecome None before after = (m : Member) → after m ↔ before m
EntriesBecome (Some (Register added)) before after =
    (¬ before added) × ((m : Member) → after m ↔ (before m ⊎ (m ≡ added)))
EntriesBecome (Some (Deregister base)) before after =
    ((m : Member) × (before m × (m.span.first ≡ base)))
    × ((m : Member) → after m ↔ (before m × (m.span.first ≢ base)))
EntriesBecome (Some (Replace m)) before after =
    ((x : Member) × (before x × (x.span ≡ m.span)))
    × ((x : Member) → after x ↔ ((before x × (x.span ≢ m.span)) ⊎ (x ≡ m)))
EntriesBecome (Some (Load m)) before after = ⊥
EntriesBecome (Some (Unload base)) before after = ⊥

-- A local change that leaves the nodes that the top now reaches filled, and makes this of the
-- entries of the group's leaves.
pub record IsLawfulChange (f : Contents) (live : ℕ → Bool) (top : ℕ) (group fresh : ℕ → Bool)
    (g : Contents) (update : Option Update) : Type 0 where
  pub change : IsLocalChange f live top group fresh g
  pub filled : AllByRecursion (λ n. IsFilled n (g n)) (reached_nodes top group fresh g)
  pub entries : EntriesBecome update
      (HasEntry f group) (HasEntry g (is_among (reached_nodes top group fresh g)))

-- The same with the nodes listed: those of the group, the fresh ones, and those that the top then
-- reaches.
pub record IsChangeOf (f : Contents) (live : ℕ → Bool) (top : ℕ) (group fresh : List ℕ)
    (g : Contents) (update : Option Update) (reached : List ℕ) : Type 0 where
  pub lawful : IsLawfulChange f live top (is_among group) (is_among fresh) g update
  pub reaches : reached_nodes top (is_among group) (is_among fresh) g ≡ reached

-- contents that agree on the nodes of a set
abbrev pub AgreeOn : (ℕ → Bool) → Contents → Contents → Type 0
AgreeOn set f g = (n : ℕ) → IsTrue (set n) → g n ≡ f n

-- A change from f' to g' that is the one from f to g, as far as its own nodes go. It is what a
-- caller sees of a tree that holds these nodes alone, or the tree of which it sees them.
pub record IsSameChange (top : ℕ) (group fresh : ℕ → Bool) (f g : Contents)
    (f' : Contents) (live' : ℕ → Bool) (g' : Contents) : Type 0 where
  pub before : AgreeOn group f f'
  pub after : AgreeOn (is_among (reached_nodes top group fresh g)) g g'
  pub others_stay : (n : ℕ) → either group fresh n ≡ false → g' n ≡ f' n
  pub top_live : IsTrue (live' top)
  pub fresh_free : (n : ℕ) → IsTrue (fresh n) → live' n ≡ false
