-- The step of a lookup from a node to its child, from what its loads of versions tell.
use Rattle.std.proofs.Common.{◌≡◌, ◌≢◌, ℕ, ◌+◌, ◌%◌, ◌<◌, ◌==◌, cond, List, [], ◌∷◌, ◌++◌, length, length-append, map, option_map, Some, None, IfSome, refl, ap, sym, ◌∙◌, subst, arith, eq-eqb, ne_eqb, if◌then◌else◌}
use Rattle.std.proofs.lemmas.List.Elements.{Contains-append_left}
use Rattle.reg_model.specs.declared.answer.Again.TheVariants.{Changed, Locked}
use Rattle.word_rule.specs.declared.log.Ask.TheVariants as ask
use Rattle.word_rule.specs.declared.log.LoadedWord.{LoadedWord}
use Rattle.word_rule.specs.declared.log.NodeSight.{NodeSight}
use Rattle.word_rule.specs.declared.log.Sights.{Sights}
use Rattle.word_rule.specs.declared.log.Terms.{Terms}
use Rattle.word_rule.specs.CallerData.{CallerData}
use Rattle.word_rule.specs.Callers.{IsAlone, IsLockedAt}
use Rattle.word_rule.specs.Held.{held_of}
use Rattle.word_rule.specs.NodeTells.{AloneTells}
use Rattle.word_rule.specs.Places.{node_place}
use Rattle.word_rule.specs.Sights.{after_node_begin, after_node_version, mark_child, or_mark, place_of, place_under, sight_begun, sight_of, sights_after_begin, sights_after_version, without_sight}
use Rattle.btree_lookup.specs.Loads.{loaded_at}
use Rattle.btree_lookup.specs.Tries.{EndsOnWay}
use Rattle.btree_lookup.specs.Visits.{IsInSight, Sees, SeesChild, Way}
use Rattle.btree_lookup.specs.Ways.{AreLed}
use Rattle.btree_lookup.specs.declared.visit.Visit.{Visit}
use Rattle.btree_lookup.proofs.Loading.{come_in_order, last_loaded, led_more, looked, sight_loaded, sights_then, still_led, version_led, version_loaded}
use Rattle.btree_lookup.proofs.Sighting.{node_of_sight}
use Rattle.btree_lookup.proofs.Visiting.{fails_so, none_held, still_found}
use Rattle.word_rule.proofs.NodeSights.{mark_keeps, sight_changed, without_other}

module _ (t : Terms) (pc : ℕ) (k : CallerData) (visit : Visit) (counted child : ℕ) (k1 : CallerData) (c : SeesChild t pc k visit counted child k1) (inside : child < t.nodes) (version : ℕ) (k2 : CallerData)
    (begun : k2 ≡ record k1 { log = after_node_begin child version k1.log }) where
  abbrev s : Sees t pc k visit 17 k1
  s = c.sees

  abbrev first : LoadedWord
  first = loaded_at (node_place child) version

  abbrev sights : Sights
  sights = record s.sights { nodes = sights_after_begin child version s.sights.nodes }

  child_begun : k2 ≡ looked (s.loaded ++ first ∷ []) sights k
  child_begun = begun ∙ (ap (λ (z : CallerData). record z { log = after_node_begin child version z.log }) s.log ∙ sight_loaded k s.loaded s.sights child version)

  child_led : AreLed pc [] (s.loaded ++ first ∷ [])
  child_led = led_more pc [] s.loaded first s.led (version_led pc s.loaded child version c.way)

  pub child_locked : version % 2 ≢ 0 → EndsOnWay t pc k (Locked (node_place child) version) k2
  child_locked odd =
      let len = length-append s.loaded (first ∷ []) in let few = s.few in
      fails_so t pc k k2 (s.loaded ++ first ∷ []) sights (Locked (node_place child) version) child_begun child_led (let l = c.level in omega (arith, len, few, l)) (child, (inside, refl, omega (arith, odd), last_loaded s.loaded first))

  pub child_unlocked : IsAlone k.log.lineage → k.log.holdings.held ≡ [] → AloneTells child version k1.log → version % 2 ≡ 0
  child_unlocked alone nothing tells = (subst (λ (z : CallerData). AloneTells child version z.log) s.log tells alone).0 nothing

  module _ (even : version % 2 ≡ 0) where
    nodes_are : sights.nodes ≡ sight_begun child version ∷ without_sight child s.sights.nodes
    nodes_are = ap (λ b. if b then (sight_begun child version ∷ without_sight child s.sights.nodes) else s.sights.nodes) (eq-eqb (version % 2) 0 even)

    -- the sight of the parent is as it was
    parent_there : sight_of visit.node sights.nodes ≡ Some s.sight
    parent_there =
        ap (sight_of visit.node) nodes_are
        ∙ (ap (λ b. cond b (Some (sight_begun child version)) (sight_of visit.node (without_sight child s.sights.nodes))) (ne_eqb child visit.node c.other)
        ∙ (without_other child visit.node (λ e. c.other (sym e)) s.sights.nodes ∙ s.found))

    child_there : sight_of child sights.nodes ≡ Some (sight_begun child version)
    child_there = ap (sight_of child) nodes_are ∙ ap (λ b. cond b (Some (sight_begun child version)) (sight_of child (without_sight child s.sights.nodes))) (eq-eqb child child refl)

    module _ (found : ℕ) (k3 : CallerData) (looks : k3 ≡ record k2 { log = after_node_version ask.Nothing visit.node found k2.log }) where
      abbrev second : LoadedWord
      second = loaded_at (node_place visit.node) found

      abbrev loaded : List LoadedWord
      loaded = (s.loaded ++ first ∷ []) ++ second ∷ []

      parent_looked : k3 ≡ looked loaded (sights_then visit.node found sights) k
      parent_looked = looks ∙ (ap (λ (z : CallerData). record z { log = after_node_version ask.Nothing visit.node found z.log }) child_begun ∙ version_loaded k (s.loaded ++ first ∷ []) sights visit.node found)

      all_led : AreLed pc [] loaded
      all_led = led_more pc [] (s.loaded ++ first ∷ []) second child_led (version_led pc (s.loaded ++ first ∷ []) visit.node found (still_led pc s.loaded (first ∷ []) visit.node s.way))

      count : length loaded ≡ length s.loaded + 2
      count = let a = length-append (s.loaded ++ first ∷ []) (second ∷ []) in let b = length-append s.loaded (first ∷ []) in omega (arith, a, b)

      pub parent_changed : visit.version ≢ found → EndsOnWay t pc k (Changed (node_place visit.node) visit.version found) k3
      parent_changed other =
          let few = s.few in let c' = count in let l = c.level in
          fails_so t pc k k3 loaded (sights_then visit.node found sights) (Changed (node_place visit.node) visit.version found) parent_looked all_led (omega (arith, few, c', l))
          (visit.node, (s.within, refl, other, come_in_order (loaded_at (node_place visit.node) visit.version) second (s.loaded ++ first ∷ []) (Contains-append_left s.loaded (first ∷ []) (loaded_at (node_place visit.node) visit.version) s.version)))

      pub parent_alone : IsAlone k.log.lineage → AloneTells visit.node found k2.log → visit.version ≡ found
      parent_alone alone tells = still_found k (s.loaded ++ first ∷ []) sights visit.node visit.version found (Contains-append_left s.loaded (first ∷ []) (loaded_at (node_place visit.node) visit.version) s.version) alone (subst (λ (z : CallerData). AloneTells visit.node found z.log) child_begun tells)

      module _ (same : found ≡ visit.version) (held : IfSome (held_of child k1.log.holdings.held) (λ h. IsLockedAt h.version version)) where
        abbrev marked : NodeSight
        marked = record (sight_begun child version) { mark = Some c.next }

        marks : mark_child s.sight (sight_begun child version) ≡ marked
        marks =
            ap (λ b. if b then sight_begun child version else record (sight_begun child version) { mark = or_mark (place_under child s.sight (place_of s.sight)) None }) (ne_eqb child s.sight.node (λ e. c.other (e ∙ node_of_sight visit.node s.sights.nodes s.sight s.found)))
            ∙ ap (λ o. record (sight_begun child version) { mark = or_mark o None }) c.placed

        then_nodes : sights_after_version visit.node found (sight_of visit.node sights.nodes) sights.nodes ≡ map (mark_child s.sight) sights.nodes
        then_nodes =
            ap (λ o. sights_after_version visit.node found o sights.nodes) parent_there
            ∙ ap (λ b. if b then map (mark_child s.sight) sights.nodes else (if found % 2 == 0 then (sight_begun visit.node found ∷ without_sight visit.node sights.nodes) else sights.nodes)) (eq-eqb s.sight.version found (s.same ∙ sym same))

        marked_there : sight_of child (sights_then visit.node found sights).nodes ≡ Some marked
        marked_there = ap (sight_of child) then_nodes ∙ (sight_changed child (mark_child s.sight) (mark_keeps s.sight) sights.nodes ∙ (ap (option_map (mark_child s.sight)) child_there ∙ ap Some marks))

        -- the parent stays in sight
        parent_kept : sight_of visit.node (sights_then visit.node found sights).nodes ≡ Some s.sight
        parent_kept = ap (sight_of visit.node) then_nodes ∙ (sight_changed visit.node (mark_child s.sight) (mark_keeps s.sight) sights.nodes ∙ (ap (option_map (mark_child s.sight)) parent_there ∙ ap Some own))
          where
            own : mark_child s.sight s.sight ≡ s.sight
            own = ap (λ b. if b then s.sight else record s.sight { mark = or_mark (place_under s.sight.node s.sight (place_of s.sight)) s.sight.mark }) (eq-eqb s.sight.node s.sight.node refl)

        pub parent_in_sight : IsInSight pc visit counted k3
        parent_in_sight = record {
          sight = s.sight;
          found = ap (λ (z : CallerData). sight_of visit.node z.log.sights.nodes) parent_looked ∙ parent_kept;
          same = s.same;
          place = s.place;
          placed = s.placed;
          level = s.level;
          inside = s.inside;
          counted = c.counted;
        }

        pub child_visited : (level : ℕ) → level + 1 ≡ visit.level → Way t pc k (record { node = child; version = version; level = level }) k3
        child_visited level one = record {
          sees = record {
            loaded = loaded;
            sights = sights_then visit.node found sights;
            log = parent_looked;
            led = all_led;
            few = (let few = s.few in let c' = count in omega (arith, few, c', one));
            way = still_led pc (s.loaded ++ first ∷ []) (second ∷ []) child (still_led pc s.loaded (first ∷ []) child c.way);
            within = inside;
            free = none_held (held_of child k.log.holdings.held) version (subst (λ (z : CallerData). IfSome (held_of child z.log.holdings.held) (λ h. IsLockedAt h.version version)) s.log held) even;
            version = Contains-append_left (s.loaded ++ first ∷ []) (second ∷ []) first (last_loaded s.loaded first);
            sight = marked;
            found = marked_there;
            same = refl;
            place = c.next;
            placed = ap (λ b. if b then None else Some c.next) (ne_eqb child 0 c.below);
            level = (let l = c.level in omega (arith, l, one));
            inside = c.inside;
          };
          fresh = λ i. refl;
        }
