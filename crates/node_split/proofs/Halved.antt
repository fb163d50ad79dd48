-- A full node was halved under a node above, and settles when the half that isn't on the way is let
-- go of: what is held then.
use Rattle.std.proofs.Common.{Some, ◌≡◌, IsSome, ℕ, refl, true, ◌≢◌, ◌<◌, List, ◌∷◌, [], drop, Bool, false, nat_le, if◌then◌else◌, sym, ap, ◌∙◌, subst, IsSomeAnd}
use Rattle.tree_shape.specs.NodeData.{NodeData, frame_of, IsInFences}
use Rattle.tree_shape.specs.Changes.{first_half, last_half}
use Rattle.tree_laws.specs.Steps.{middle, middle_fence}
use Rattle.word_rule.specs.declared.log.Holding.{Holding}
use Rattle.word_rule.specs.Spelling.{SpellsNode, spelled}
use Rattle.word_rule.specs.CallerData.{CallerData}
use Rattle.word_rule.specs.declared.log.Terms.{Terms}
use Rattle.word_rule.specs.Held.{held_of, without_lock}
use Rattle.word_rule.specs.NodeTells.{HolderTells}
use Rattle.word_rule.specs.Steps.{MayRelease, after_node_release}
use Rattle.word_rule.specs.declared.log.Holdings.{Holdings}
use Rattle.node_store.specs.Holding.{SpellsHeld}
use Rattle.tree_descent.specs.declared.descent.Held.{Held}
use Rattle.tree_descent.specs.Paths.{IsHeldAs, HasChildFor, StepsOnNodes, AreHigher}
use Rattle.tree_descent.specs.Stands.{HasSpace, HoldsPair}
use Rattle.tree_descent.specs.Releases.{with_release_less}
use Rattle.tree_descent.proofs.NodeSteps.{less_release_then, steps_then}
use Rattle.tree_descent.proofs.Outlining.{may_read, spell_one, spells_held}
use Rattle.tree_descent.proofs.Storing.{found_at}
use Rattle.node_split.specs.Halves.{IsNewLock, IsWrittenLock}
use Rattle.node_split.proofs.HeldParts.{told_place}
use Rattle.node_split.specs.Splits.{half_for, other_half, SplitsUnder, other_in, way_in}
use Rattle.node_split.specs.declared.split.SplitNodes.{SplitNodes}
use Rattle.node_split.specs.declared.split.Coupled.{Coupled}
use Rattle.node_split.specs.declared.split.Ways.{Ways}
use Rattle.node_split.specs.declared.split.Room.TheVariants as room

-- the lock of a node that settled to what its words spell
abbrev pub settled_lock : Holding → NodeData → Holding
settled_lock h s = record h { settled = s; mark = Some (frame_of s) }

-- A lock is of this node, and settled as it.
pub record IsSettledAs (at : Held) (h : Holding) : Type 0 where
  pub node : h.node ≡ at.node
  pub settled : h.settled ≡ at.content
  pub spells : SpellsNode h.words at.content
  pub stored : h.stored ≡ at.changed
  pub marked : IsSome h.mark

pub new_settled : (n : ℕ) (s : NodeData) (h : Holding) → IsNewLock n s h → IsSettledAs (record { node = n; content = s; changed = true }) (settled_lock h s)
new_settled n s h is = record { node = is.node; settled = refl; spells = is.spells; stored = is.stored; marked = refl }

pub written_settled : (at : Held) (s : NodeData) (h : Holding) → IsWrittenLock at s h → IsSettledAs (record { node = at.node; content = s; changed = true }) (settled_lock h s)
written_settled at s h is = record { node = is.node; settled = refl; spells = is.spells; stored = is.stored; marked = refl }

-- with what is told of its place it is held so
held_as : (t : Terms) (at : Held) (h : Holding) (k : CallerData) → IsSettledAs at h → k.log.terms ≡ t → held_of at.node k.log.holdings.held ≡ Some h → HolderTells at.node k.log → IsHeldAs t at h
held_as t at h k is terms found told = record { node = is.node; settled = is.settled; spells = is.spells; stored = is.stored; marked = is.marked; live = told_place t at.node at.content h k.log terms found is.node is.settled told }

-- What is left of the halves once the other one is let go of: the lock of the one on the way.
pub record Ends (t : Terms) (over : Held) (held : List Holding) (upper : Holding) (rest : List Holding) (way : Held) (other : ℕ) (k : CallerData) : Type 0 where
  pub lock : Holding
  pub left : without_lock other held ≡ lock ∷ upper ∷ rest
  pub is : IsSettledAs way lock
  pub far : way.node ≢ over.node
  pub within : way.node < t.nodes
  pub may : MayRelease other k.log

-- what is said of the half itself
pub record IsHalf (pc : ℕ) (over way : Held) : Type 0 where
  pub here : IsInFences pc way.content
  pub leads : HasChildFor over.content pc way.node
  pub level : way.content.level < over.content.level
  pub room : HasSpace way.content.body

-- what is held after the release
pub record IsReleased (lock upper : Holding) (rest : List Holding) (k k' : CallerData) : Type 0 where
  pub held : k'.log.holdings.held ≡ lock ∷ upper ∷ rest
  pub out : k'.log.holdings.out ≡ []
  pub same : StepsOnNodes (with_release_less k) k'

-- The halves of a node were written, and the node above them.
pub record IsHalved (t : Terms) (left right pc : ℕ) (s : NodeData) (over : Held) (k k' : CallerData) : Type 0 where
  pub held : List Holding
  pub upper : Holding
  pub rest : List Holding
  pub rest_is : rest ≡ drop 3 k.log.holdings.held
  pub ends : Ends t over held upper rest (half_for left right pc s) (other_half left right pc s) k'
  pub half : IsHalf pc over (half_for left right pc s)
  pub above : IsSettledAs over upper
  pub same : StepsOnNodes k k'
  pub released : (k5 : CallerData) → k5 ≡ record k' { log = after_node_release (other_half left right pc s) k'.log } → IsReleased ends.lock upper rest k' k5

half_changed : (left right pc : ℕ) (s : NodeData) → (half_for left right pc s).changed ≡ true
half_changed left right pc s = go (nat_le pc (middle_fence s))
  where
    changed_in : Held → Bool
    changed_in at = at.changed

    go : (b : Bool) → changed_in (if b then record { node = left; content = first_half (middle s.body) s; changed = true } else record { node = right; content = last_half (middle s.body) s; changed = true }) ≡ true
    go true = refl
    go false = refl

-- what is held is known by its parts
same_held : (a b : Held) → a.node ≡ b.node → a.content ≡ b.content → a.changed ≡ b.changed → a ≡ b
same_held a b node content changed = (λ i. record { node = node i; content = content i; changed = changed i })

module _ {t : Terms} {left right pc : ℕ} {s : NodeData} {over : Held} {k k' : CallerData} (h : IsHalved t left right pc s over k k') where
  abbrev way : Held
  way = half_for left right pc s

  -- both that are held may be read after the release
  module _ (k5 : CallerData) (is : k5 ≡ record k' { log = after_node_release (other_half left right pc s) k'.log }) where
    found_way : held_of way.node k5.log.holdings.held ≡ Some h.ends.lock
    found_way = ap (held_of way.node) (h.released k5 is).held ∙ found_at way.node [] h.ends.lock (h.upper ∷ h.rest) h.ends.is.node tt

    found_over : held_of over.node k5.log.holdings.held ≡ Some h.upper
    found_over = ap (held_of over.node) (h.released k5 is).held ∙ found_at over.node (h.ends.lock ∷ []) h.upper h.rest h.above.node ((λ e. h.ends.far (sym h.ends.is.node ∙ e)), tt)

    spells_way : SpellsHeld way.node way.content k5.log
    spells_way = spells_held way.node way.content h.ends.lock k5.log found_way h.ends.is.spells

    spells_over : SpellsHeld over.node over.content k5.log
    spells_over = spells_held over.node over.content h.upper k5.log found_over h.above.spells

  -- the same for the ways that were worked out
  module _ (parts : SplitNodes) (parts_are : parts ≡ record { left = first_half (middle s.body) s; right = last_half (middle s.body) s; above = over.content }) (ways : Ways) (way_at : ways.way ≡ (way_in left right pc parts).node) (other_at : ways.other ≡ other_in left right pc parts) where
    way_node : ways.way ≡ (half_for left right pc s).node
    way_node = way_at ∙ ap (λ (z : SplitNodes). (way_in left right pc z).node) parts_are

    other_node : ways.other ≡ other_half left right pc s
    other_node = other_at ∙ ap (other_in left right pc) parts_are

    pub may_let_go : MayRelease ways.other k'.log
    may_let_go = subst (λ n. MayRelease n k'.log) (sym other_node) h.ends.may

    pub way_within : ways.way < t.nodes
    way_within = subst (λ n. n < t.nodes) (sym way_node) h.ends.within

    module _ (k5 : CallerData) (let_go : k5 ≡ record k' { log = after_node_release ways.other k'.log }) where
      is5 : k5 ≡ record k' { log = after_node_release (other_half left right pc s) k'.log }
      is5 = subst (λ n. k5 ≡ record k' { log = after_node_release n k'.log }) other_node let_go

      pub may_read_over : IsSomeAnd (held_of over.node k5.log.holdings.held) (λ x. IsSome (spelled x.words))
      may_read_over = may_read over.node over.content k5.log (spells_over k5 is5)

      pub may_read_way : IsSomeAnd (held_of ways.way k5.log.holdings.held) (λ x. IsSome (spelled x.words))
      may_read_way = subst (λ n. IsSomeAnd (held_of n k5.log.holdings.held) (λ x. IsSome (spelled x.words))) (sym way_node) (may_read way.node way.content k5.log (spells_way k5 is5))

      -- and after loads of both
      pub splits_so : k.log.terms ≡ t → over.changed ≡ true → (k7 : CallerData) (step : Coupled)
          → (step.parent.node ≡ over.node) × (step.parent.changed ≡ true) → (step.child.node ≡ ways.way) × (step.child.changed ≡ true) → step.room ≡ room.Splitting
          → SpellsHeld over.node step.parent.content k5.log → SpellsHeld ways.way step.child.content k5.log
          → HolderTells over.node k5.log → HolderTells ways.way k5.log
          → StepsOnNodes k5 k7 → k7.log.holdings ≡ k5.log.holdings
          → SplitsUnder t pc way over step k k7
      splits_so terms changed k7 step parent_as way_as splitting spells_parent spells_half told_parent told_way same kept =
          let r = h.released k5 is5 in
          let way_is : step.child ≡ way = same_held step.child way (way_as.0 ∙ way_node) (sym (spell_one way.node way.content step.child.content k5.log (spells_way k5 is5) (subst (λ n. SpellsHeld n step.child.content k5.log) way_node spells_half))) (way_as.1 ∙ sym (half_changed left right pc s)) in
          let parent_is : step.parent ≡ over = same_held step.parent over parent_as.0 (sym (spell_one over.node over.content step.parent.content k5.log (spells_over k5 is5) spells_parent)) (parent_as.1 ∙ sym changed) in
          let steps5 : StepsOnNodes (with_release_less k) k5 = steps_then (with_release_less k) (with_release_less k') k5 (less_release_then k k' h.same) r.same in
          let terms5 = steps5.calls.caller.terms ∙ terms in record {
            lower = h.ends.lock;
            upper = h.upper;
            held = ap (λ (z : Holdings). z.held) kept ∙ (r.held ∙ ap (λ xs. h.ends.lock ∷ h.upper ∷ xs) h.rest_is);
            out = ap (λ (z : Holdings). z.out) kept ∙ r.out;
            way_held = subst (λ z. IsHeldAs t z h.ends.lock) (sym way_is) (held_as t way h.ends.lock k5 h.ends.is terms5 (found_way k5 is5) (subst (λ n. HolderTells n k5.log) way_node told_way));
            parent_held = subst (λ z. IsHeldAs t z h.upper) (sym parent_is) (held_as t over h.upper k5 h.above terms5 (found_over k5 is5) told_parent);
            way = way_is;
            parent = parent_is;
            splitting = splitting;
            within = subst (λ (z : Held). z.node < t.nodes) (sym way_is) h.ends.within;
            here = subst (λ (z : Held). IsInFences pc z.content) (sym way_is) h.half.here;
            leads = subst (λ (z : Held). HasChildFor step.parent.content pc z.node) (sym way_is) (subst (λ (z : Held). HasChildFor z.content pc way.node) (sym parent_is) h.half.leads);
            lower_level = subst (λ (z : Held). z.content.level < step.parent.content.level) (sym way_is) (subst (λ (z : Held). way.content.level < z.content.level) (sym parent_is) h.half.level);
            room = subst (λ (z : Held). HasSpace z.content.body) (sym way_is) h.half.room;
            same = steps_then (with_release_less k) k5 k7 steps5 same;
          }

-- What a split left is held as a node and its child.
pub split_pair : (t : Terms) (pc : ℕ) (half over : Held) (step : Coupled) (k k' : CallerData) (rest : List Holding) → SplitsUnder t pc half over step k k' → drop 3 k.log.holdings.held ≡ rest → over.node < t.nodes → 0 < over.content.level → AreHigher t over.content.level rest → HoldsPair t pc step.parent step.child rest k'.log.holdings
split_pair t pc half over step k k' rest s is within inner higher = record {
  parent_within = subst (λ (h : Held). h.node < t.nodes) (sym s.parent) within;
  child_within = s.within;
  lower = s.lower;
  upper = s.upper;
  held = s.held ∙ ap (λ hs. s.lower ∷ s.upper ∷ hs) is;
  child_is = s.way_held;
  parent_is = s.parent_held;
  leads = s.leads;
  here = s.here;
  inner = subst (λ (h : Held). 0 < h.content.level) (sym s.parent) inner;
  higher = subst (λ (h : Held). AreHigher t h.content.level rest) (sym s.parent) higher;
  out = s.out;
}
