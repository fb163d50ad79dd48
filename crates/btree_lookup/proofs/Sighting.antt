-- What loads make of the sight of the node that a lookup visits.
use Rattle.std.proofs.Common.{◌≡◌, ◌≢◌, ℕ, ◌+◌, ◌≤◌, ◌==◌, Bool, true, false, cond, List, [], ◌∷◌, ◌++◌, length-append, map, option_map, Some, inr, refl, ap, sym, ◌∙◌, arith, nat_eq, eq-eqb, ne_eqb, if◌then◌else◌}
use Rattle.std.proofs.lemmas.Bool.{eqb-true}
use Rattle.std.proofs.lemmas.Option.{none-some, same_Some}
use Rattle.std.proofs.lemmas.List.Elements.{Contains-append_left}
use Rattle.word_rule.specs.declared.log.LoadedWord.{LoadedWord}
use Rattle.word_rule.specs.declared.log.NodeSight.{NodeSight}
use Rattle.word_rule.specs.declared.log.Terms.{Terms}
use Rattle.word_rule.specs.CallerData.{CallerData}
use Rattle.word_rule.specs.Places.{TOP, node_place}
use Rattle.word_rule.specs.Sights.{after_node_load, loaded_word, place_of, sight_of, with_word}
use Rattle.btree_lookup.specs.Loads.{loaded_at, loaded_of}
use Rattle.btree_lookup.specs.Visits.{Sees}
use Rattle.btree_lookup.specs.declared.visit.Visit.{Visit}
use Rattle.btree_lookup.proofs.Loading.{led_more, still_led, word_loaded}
use Rattle.word_rule.proofs.NodeSights.{sight_changed, word_keeps}

-- it is of this node
pub node_of_sight : (n : ℕ) (sights : List NodeSight) (s : NodeSight) → sight_of n sights ≡ Some s → s.node ≡ n
node_of_sight n [] s e = absurd (none-some s e)
node_of_sight n (x ∷ sights) s e = go (nat_eq x.node n) refl e (node_of_sight n sights s)
  where
    go : (b : Bool) → nat_eq x.node n ≡ b → cond b (Some x) (sight_of n sights) ≡ Some s → (sight_of n sights ≡ Some s → s.node ≡ n) → s.node ≡ n
    go true is e later = ap (λ (z : NodeSight). z.node) (sym (same_Some _ _ e)) ∙ eqb-true x.node n is
    go false is e later = later e

abbrev pub joined : ℕ → ℕ → NodeSight → NodeSight
joined at value s = record s { words = record { at = at; value = value } ∷ s.words }

joins : (n at value : ℕ) (s : NodeSight) → s.node ≡ n → with_word n at value s ≡ joined at value s
joins n at value s is = ap (λ b. if b then joined at value s else s) (eq-eqb s.node n is)

pub word_here : (at value : ℕ) (ws : List LoadedWord) → loaded_word at (record { at = at; value = value } ∷ ws) ≡ Some value
word_here at value ws = ap (λ b. if b then Some value else loaded_word at ws) (eq-eqb at at refl)

pub word_other : (at value other : ℕ) (ws : List LoadedWord) → at ≢ other → loaded_word other (record { at = at; value = value } ∷ ws) ≡ loaded_word other ws
word_other at value other ws ne = ap (λ b. if b then Some value else loaded_word other ws) (ne_eqb at other ne)

-- only the level gives the root another place
pub same_place : (at value : ℕ) (s : NodeSight) → at ≢ 2 → place_of (joined at value s) ≡ place_of s
same_place at value s ne =
    ap (λ o. if s.node == 0 then option_map (λ level. record { level = level; low = 0; high = TOP }) o else s.mark) (word_other at value 2 s.words ne)

-- the sight of the node after a word of it was loaded
pub sight_joined : (n at value : ℕ) (sights : List NodeSight) (s : NodeSight) → sight_of n sights ≡ Some s → sight_of n (map (with_word n at value) sights) ≡ Some (joined at value s)
sight_joined n at value sights s e =
    sight_changed n (with_word n at value) (word_keeps n at value) sights ∙ (ap (option_map (with_word n at value)) e ∙ ap Some (joins n at value s (node_of_sight n sights s e)))

module _ (t : Terms) (pc : ℕ) (k : CallerData) (visit : Visit) where
  -- more may have been used
  abbrev pub at_most : (used more : ℕ) (k1 : CallerData) → used ≤ more → Sees t pc k visit used k1 → Sees t pc k visit more k1
  at_most used more k1 less s = record {
    loaded = s.loaded;
    sights = s.sights;
    log = s.log;
    led = s.led;
    few = (let few = s.few in omega (arith, few, less));
    way = s.way;
    within = s.within;
    free = s.free;
    version = s.version;
    sight = s.sight;
    found = s.found;
    same = s.same;
    place = s.place;
    placed = s.placed;
    level = s.level;
    inside = s.inside;
  }

  -- a word of the node was loaded
  abbrev pub one_more : (used : ℕ) (k1 k2 : CallerData) (s : Sees t pc k visit used k1) (at value : ℕ) → at ≢ 2 → at ≤ 35 → k2 ≡ record k1 { log = after_node_load visit.node at value k1.log } → Sees t pc k visit (used + 1) k2
  one_more used k1 k2 s at value other small is = record {
    loaded = s.loaded ++ loaded_of visit.node at value ∷ [];
    sights = record s.sights { nodes = map (with_word visit.node at value) s.sights.nodes };
    log = is ∙ (ap (λ (z : CallerData). record z { log = after_node_load visit.node at value z.log }) s.log ∙ word_loaded k s.loaded s.sights visit.node at value s.free);
    led = led_more pc [] s.loaded (loaded_of visit.node at value) s.led (inr (visit.node, at, (small, refl, s.way)));
    few = (let few = s.few in let len = length-append s.loaded (loaded_of visit.node at value ∷ []) in omega (arith, few, len));
    way = still_led pc s.loaded (loaded_of visit.node at value ∷ []) visit.node s.way;
    within = s.within;
    free = s.free;
    version = Contains-append_left s.loaded (loaded_of visit.node at value ∷ []) (loaded_at (node_place visit.node) visit.version) s.version;
    sight = joined at value s.sight;
    found = sight_joined visit.node at value s.sights.nodes s.sight s.found;
    same = s.same;
    place = s.place;
    placed = same_place at value s.sight other ∙ s.placed;
    level = s.level;
    inside = s.inside;
  }
