-- A node that is in sight, and what its lock at the visit's version tells.
use Rattle.std.proofs.Common.{◌≡◌, ◌≢◌, ℕ, Bool, true, false, List, ◌∷◌, map, Option, Some, None, option_map, IfSome, IsSome, is_some, refl, ap, sym, ◌∙◌, subst, arith, eq-eqb, ne_eqb, if◌then◌else◌}
use Rattle.tree_shape.specs.NodeData.{NodeData}
use Rattle.tree_shape.specs.declared.node.NodeBounds.{NodeBounds}
use Rattle.word_rule.specs.declared.log.Holding.{Holding}
use Rattle.word_rule.specs.declared.log.Terms.{Terms}
use Rattle.word_rule.specs.CallerData.{CallerData}
use Rattle.word_rule.specs.Held.{held_of}
use Rattle.word_rule.specs.NodeTells.{IsLiveNode, IsSeenNode}
use Rattle.word_rule.specs.Observations.{AreOfNode}
use Rattle.word_rule.specs.Sights.{after_node_load, place_at, place_of, sight_of, with_word}
use Rattle.word_rule.specs.Steps.{first_mark, mark_at_lock, mark_at_version}
use Rattle.word_rule.specs.VersionLocks.{NodeSeen}
use Rattle.word_rule.proofs.NodeSights.{sight_changed, word_keeps}
use Rattle.word_rule.proofs.NodeVersions.{loaded_is}
use Rattle.btree_lookup.specs.Visits.{IsInSight, IsLockSeen, SeesCount}
use Rattle.btree_lookup.specs.declared.visit.Visit.{Visit}
use Rattle.btree_lookup.proofs.Sighting.{joined, node_of_sight}

-- the node whose count was loaded is in sight
pub count_in_sight : (t : Terms) (pc : ℕ) (k : CallerData) (visit : Visit) (count : ℕ) (k1 : CallerData) → SeesCount t pc k visit count k1 → IsInSight pc visit count k1
count_in_sight t pc k visit count k1 w = let s = w.sees in record {
  sight = s.sight;
  found = ap (λ (z : CallerData). sight_of visit.node z.log.sights.nodes) s.log ∙ s.found;
  same = s.same;
  place = s.place;
  placed = s.placed;
  level = s.level;
  inside = s.inside;
  counted = w.counted;
}

-- and stays there while words of others are loaded
pub other_word_in_sight : (pc : ℕ) (visit : Visit) (count : ℕ) (k : CallerData) (n at value : ℕ) → visit.node ≢ n → IsInSight pc visit count k → IsInSight pc visit count (record k { log = after_node_load n at value k.log })
other_word_in_sight pc visit count k n at value far seen = record {
  sight = seen.sight;
  found = go (is_some (held_of n k.log.holdings.held));
  same = seen.same;
  place = seen.place;
  placed = seen.placed;
  level = seen.level;
  inside = seen.inside;
  counted = seen.counted;
}
  where
    own : with_word n at value seen.sight ≡ seen.sight
    own = ap (λ b. if b then joined at value seen.sight else seen.sight) (ne_eqb seen.sight.node n (λ e. far (sym (node_of_sight visit.node k.log.sights.nodes seen.sight seen.found) ∙ e)))

    go : (b : Bool) → sight_of visit.node (if b then k.log.sights else record k.log.sights { nodes = map (with_word n at value) k.log.sights.nodes }).nodes ≡ Some seen.sight
    go true = seen.found
    go false = sight_changed visit.node (with_word n at value) (word_keeps n at value) k.log.sights.nodes ∙ (ap (option_map (with_word n at value)) seen.found ∙ ap Some own)

module _ (pc : ℕ) (visit : Visit) (count : ℕ) (k : CallerData) (seen : IsInSight pc visit count k) (settled : NodeData) (words : List ℕ) (told : IsSeenNode visit.node visit.version k.log words settled) where
  -- the sight gives its place
  placed_there : place_at visit.version (sight_of visit.node k.log.sights.nodes) ≡ Some seen.place
  placed_there =
      ap (place_at visit.version) seen.found
      ∙ (ap (λ b. if b then place_of seen.sight else None) (eq-eqb seen.sight.version visit.version seen.same) ∙ seen.placed)

  live_there : IsLiveNode k.log.terms visit.node settled seen.place
  live_there = subst (λ o. IfSome o (IsLiveNode k.log.terms visit.node settled)) placed_there told.live

  marked_by : (o : Option NodeBounds) → IsSome (first_mark o (place_at visit.version (sight_of visit.node k.log.sights.nodes)))
  marked_by None = subst (λ p. IsSome p) (sym placed_there) refl
  marked_by (Some f) = refl

  live_by : (o : Option NodeBounds) → IfSome o (IsLiveNode k.log.terms visit.node settled) → IfSome (first_mark o (place_at visit.version (sight_of visit.node k.log.sights.nodes))) (IsLiveNode k.log.terms visit.node settled)
  live_by None held = told.live
  live_by (Some f) held = held

  loaded_so : AreOfNode words seen.sight.words
  loaded_so = subst (λ o. IfSome o (λ s. s.version ≡ visit.version → AreOfNode words s.words)) seen.found told.loaded seen.same

  abbrev lock : Holding
  lock = record { node = visit.node; version = visit.version; settled = settled; words = words; stored = false; mark = mark_at_version visit.node visit.version settled k.log }

  seen_lock : IsLockSeen k.log.terms pc visit count lock
  seen_lock =
      let placed = live_there.placed in let inside = seen.inside in let level = seen.level in record {
        node = refl;
        version = refl;
        wide = told.taken.wide;
        spells = told.taken.spells;
        clean = refl;
        marked = marked_by (mark_at_lock visit.node settled k.log.holdings.held);
        live = live_by (mark_at_lock visit.node settled k.log.holdings.held) told.taken.live;
        level = placed.0 ∙ level;
        fences = (let low = placed.1 in let i = inside.0 in omega (arith, low, i), let high = placed.2 in let i = inside.1 in omega (arith, high, i));
        counted = loaded_is words seen.sight.words 5 count loaded_so seen.counted;
      }

-- where it is locked at the visit's version, it is held as it was seen
pub held_by_sight : (pc : ℕ) (visit : Visit) (count : ℕ) (k k' : CallerData) → IsInSight pc visit count k → NodeSeen visit.node visit.version k k' → (h : Holding) × ((k'.log.holdings.held ≡ h ∷ k.log.holdings.held) × IsLockSeen k.log.terms pc visit count h)
held_by_sight pc visit count k k' seen taken =
    (lock pc visit count k seen taken.0 taken.1 taken.2.0, (ap (λ (z : CallerData). z.log.holdings.held) taken.2.1, seen_lock pc visit count k seen taken.0 taken.1 taken.2.0))
