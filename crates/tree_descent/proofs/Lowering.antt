-- From a node that is held down to its child for an address.
use Rattle.std.proofs.Common.{◌≡◌, ℕ, sym, refl, Bool, true≢false, Option, Some, None, IfSome, IsSome, ◌<◌, List, [], ◌∷◌, false, ◌≢◌, ap, ◌∙◌, subst, ne_eqb, ◌-◌, drop, arith, IsSomeAnd, eq-eqb, cond}
use Rattle.tree_shape.specs.declared.node.NodeBounds.{NodeBounds}
use Rattle.tree_shape.specs.NodeData.{NodeData, InOrder, IsInner, IsInFences}
use Rattle.tree_laws.specs.Trees.{branches}
use Rattle.word_rule.specs.declared.log.Holding.{Holding}
use Rattle.word_rule.specs.declared.log.Terms.{Terms}
use Rattle.word_rule.specs.NodeTells.{IsLiveNode}
use Rattle.word_rule.specs.declared.log.Holdings.{Holdings}
use Rattle.word_rule.specs.CallerData.{CallerData}
use Rattle.word_rule.specs.Steps.{mark_at_lock, place_by_held, place_by, place_in, first_mark}
use Rattle.word_rule.specs.Held.{held_of}
use Rattle.word_rule.specs.Spelling.{spelled}
use Rattle.version_locks.specs.Locking.{Locks}
use Rattle.node_store.specs.Holding.{SpellsHeld}
use Rattle.node_store.specs.Outlines.{OnlyLoads}
use Rattle.tree_descent.specs.Paths.{IsSettledLock, AreHigher, HasChildFor, StepsOnNodes}
use Rattle.tree_descent.proofs.Descending.{in_order, is_inner, IsChildOf, child_of, steps_of_take}
use Rattle.tree_descent.specs.declared.descent.Held.{Held}
use Rattle.tree_descent.specs.Stands.{HoldsPair, StandsAt}
use Rattle.tree_descent.proofs.Outlining.{spells_same, steps_of_loads}
use Rattle.tree_descent.proofs.NodeSteps.{steps_then}
use Rattle.word_rule.specs.declared.log.LockId.TheVariants as lock

-- what is marked has its place
pub settled_live : (t : Terms) (n : ℕ) (s : NodeData) (changed : Bool) (h : Holding) → IsSettledLock t n s changed h → (f : NodeBounds) × ((h.mark ≡ Some f) × IsLiveNode t n s f)
settled_live t n s changed h c = go h.mark refl c.marked c.live
  where
    go : (o : Option NodeBounds) → h.mark ≡ o → IsSome o → IfSome o (IsLiveNode t n s) → (f : NodeBounds) × ((h.mark ≡ Some f) × IsLiveNode t n s f)
    go None e is live = absurd (true≢false (sym is))
    go (Some f) e is live = (f, (e, live))

pub settled_order : (t : Terms) (n : ℕ) (s : NodeData) (changed : Bool) (h : Holding) → IsSettledLock t n s changed h → InOrder s
settled_order t n s changed h c = let own = settled_live t n s changed h c in in_order n s own.1.1.ordered own.1.1.filled

pub settled_inner : (t : Terms) (n : ℕ) (s : NodeData) (changed : Bool) (h : Holding) → IsSettledLock t n s changed h → 0 < s.level → IsInner s
settled_inner t n s changed h c above = let own = settled_live t n s changed h c in (is_inner s own.1.1.ordered above).0

pub pair_inner : (t : Terms) (pc : ℕ) (parent child : Held) (above : List Holding) (holdings : Holdings) → HoldsPair t pc parent child above holdings → IsInner parent.content
pair_inner t pc parent child above holdings pair = settled_inner t parent.node parent.content parent.changed pair.upper pair.parent_is pair.inner

-- A node was locked, and its lock is marked with a place.
pub record IsTakenAt (t : Terms) (c : ℕ) (f : NodeBounds) (before : List Holding) (holdings : Holdings) : Type 0 where
  pub new : Holding
  pub content : NodeData
  pub held : holdings.held ≡ new ∷ before
  pub here : IsSettledLock t c content false new
  pub level : content.level ≡ f.level
  pub low : content.low ≡ f.low
  pub high : content.high ≡ f.high
  pub out : holdings.out ≡ []

pub taken_at : (t : Terms) (c : ℕ) (f : NodeBounds) (before : List Holding) (k k' : CallerData) → k.log.terms ≡ t → k.log.holdings.held ≡ before → k.log.holdings.out ≡ [] → c ≢ 0 → place_by_held c before ≡ Some f → Locks (lock.Node c) k k' → IsTakenAt t c f before k'.log.holdings
taken_at t c f before k k' terms held out some placed (more, marks, nodes, version, settled, words, (tries, taken, is)) =
    subst (λ (z : CallerData). IsTakenAt t c f before z.log.holdings) (sym is) (record {
      new = record { node = c; version = version; settled = settled; words = words; stored = false; mark = mark_at_lock c settled k.log.holdings.held };
      content = settled;
      held = ap (λ hs. record { node = c; version = version; settled = settled; words = words; stored = false; mark = mark_at_lock c settled k.log.holdings.held } ∷ hs) held;
      here = record {
        node = refl;
        settled = refl;
        spells = taken.spells;
        stored = refl;
        marked = subst IsSome (sym mark_is) refl;
        live = subst (λ o. IfSome o (IsLiveNode t c settled)) (sym mark_is) live;
      };
      level = live.placed.0;
      low = live.placed.1;
      high = live.placed.2;
      out = out;
    })
  where
    mark_is : mark_at_lock c settled k.log.holdings.held ≡ Some f
    mark_is = rw (ne_eqb c 0 some) (ap (place_by_held c) held ∙ placed)

    live : IsLiveNode t c settled f
    live = subst (λ z. IsLiveNode z c settled f) terms (subst (λ o. IfSome o (IsLiveNode k.log.terms c settled)) mark_is taken.live)

-- A child was locked.
module _ (t : Terms) (at : Held) (pc c : ℕ) (k k1 : CallerData) (terms : k.log.terms ≡ t) (stands : StandsAt t at k.log.holdings) (inner : 0 < at.content.level) (leads : HasChildFor at.content pc c) (locks : Locks (lock.Node c) k k1) where
  own : (f : NodeBounds) × ((stands.lock.mark ≡ Some f) × IsLiveNode t at.node at.content f)
  own = settled_live t at.node at.content at.changed stands.lock stands.here

  child : IsChildOf t at.node at.content pc c
  child = child_of t at.node at.content own.0 pc c own.1.1 inner leads

  by_lock : place_by_held c (stands.lock ∷ stands.above) ≡ Some child.frame
  by_lock =
      let e : place_by c stands.lock.mark stands.lock ≡ Some child.frame = ap (λ o. place_by c o stands.lock) own.1.0 ∙ (ap (λ z. place_in c (branches (z.level - 1) z)) stands.here.settled ∙ child.placed) in
      ap (λ o. first_mark o (place_by_held c stands.above)) e

  taken : IsTakenAt t c child.frame (stands.lock ∷ stands.above) k1.log.holdings
  taken = taken_at t c child.frame (stands.lock ∷ stands.above) k k1 terms stands.held stands.out child.never_root by_lock locks

  inside : IsInFences pc taken.content
  inside = let a = taken.low in let b = taken.high in let l = child.low in let h = child.high in (omega (arith, a, l), omega (arith, b, h))

  less : taken.content.level < at.content.level
  less = let a = taken.level in let l = child.level in omega (arith, a, l, inner)

  found : held_of c k1.log.holdings.held ≡ Some taken.new
  found = ap (held_of c) taken.held ∙ ap (λ b. cond b (Some taken.new) (held_of c (stands.lock ∷ stands.above))) (eq-eqb taken.new.node c taken.here.node)

  pub may_read_child : IsSomeAnd (held_of c k1.log.holdings.held) (λ h. IsSome (spelled h.words))
  may_read_child = subst (λ o. IsSomeAnd o (λ h. IsSome (spelled h.words))) (sym found) (subst IsSome (sym taken.here.spells) refl)

  pub lowered : (shape : NodeData) (k2 : CallerData) → SpellsHeld c shape k1.log → k2.log.holdings ≡ k1.log.holdings → HoldsPair t pc at (record { node = c; content = shape; changed = false }) (drop 1 k.log.holdings.held) k2.log.holdings × (shape.level < at.content.level)
  lowered shape k2 spells same =
      let is = spells_same c taken.content shape taken.new k1.log found taken.here.spells spells in (
        record {
          parent_within = stands.within;
          child_within = child.within;
          lower = taken.new;
          upper = stands.lock;
          held = ap (λ (hs : Holdings). hs.held) same ∙ (taken.held ∙ ap (λ hs. taken.new ∷ stands.lock ∷ hs) (sym (ap (drop 1) stands.held)));
          child_is = subst (λ s. IsSettledLock t c s false taken.new) is taken.here;
          parent_is = stands.here;
          leads = leads;
          here = subst (IsInFences pc) is inside;
          inner = inner;
          higher = subst (AreHigher t at.content.level) (sym (ap (drop 1) stands.held)) stands.higher;
          out = ap (λ (hs : Holdings). hs.out) same ∙ taken.out;
        },
        subst (λ (z : NodeData). z.level < at.content.level) is less,
      )

  pub steps_lowered : (k2 : CallerData) → OnlyLoads k1 k2 → StepsOnNodes k k2
  steps_lowered k2 loads = steps_then k k1 k2 (steps_of_take c k k1 locks) (steps_of_loads k1 k2 loads)
