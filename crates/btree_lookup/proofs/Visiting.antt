-- The steps of a lookup from node to node, from what its loads of versions tell.
use Rattle.std.proofs.Common.{◌≡◌, ◌≢◌, ℕ, zero, suc, ◌+◌, ◌*◌, ◌%◌, ◌<◌, ◌≤◌, List, [], ◌∷◌, ◌++◌, length, length-append, map, Option, Some, None, IfSome, Contains, inl, inr, refl, ap, sym, ◌∙◌, subst, arith, append-nil, eq-eqb, if◌then◌else◌}
use Rattle.std.specs.List.{AllByRecursion}
use Rattle.reg_model.specs.declared.answer.Again.{Again}
use Rattle.reg_model.specs.declared.answer.Again.TheVariants.{Changed, Locked}
use Rattle.reg_model.specs.declared.answer.Update.{Update}
use Rattle.tree_shape.specs.NodeData.{NodeData}
use Rattle.word_rule.specs.declared.log.Ask.TheVariants as ask
use Rattle.word_rule.specs.declared.log.Holding.{Holding}
use Rattle.word_rule.specs.declared.log.LoadEvent.{LoadEvent}
use Rattle.word_rule.specs.declared.log.LoadedWord.{LoadedWord}
use Rattle.word_rule.specs.declared.log.LockId.TheVariants as lock
use Rattle.word_rule.specs.declared.log.Log.{Log}
use Rattle.word_rule.specs.declared.log.NodeSight.{NodeSight}
use Rattle.word_rule.specs.declared.log.Sights.{Sights}
use Rattle.word_rule.specs.declared.log.Terms.{Terms}
use Rattle.word_rule.specs.CallerData.{CallerData}
use Rattle.word_rule.specs.Callers.{IsAlone, IsLockedAt}
use Rattle.word_rule.specs.Held.{held_of}
use Rattle.word_rule.specs.Logs.{load_of, turns}
use Rattle.word_rule.specs.NodeTells.{AloneTells, IsLiveNode, IsOfNode, SightTells}
use Rattle.word_rule.specs.Places.{TOP, node_place}
use Rattle.word_rule.specs.Sights.{after_node_begin, after_node_load, after_node_version, sight_begun, sight_of, sights_after_begin, with_word, without_sight}
use Rattle.word_rule.specs.VersionLocks.{VersionTells}
use Rattle.btree_lookup.specs.Loads.{after_looks, after_try, load_events, loaded_at, loaded_of}
use Rattle.btree_lookup.specs.Tries.{EndsOnWay}
use Rattle.btree_lookup.specs.Visits.{Agrees, Sees, Way}
use Rattle.btree_lookup.specs.Ways.{AreLed, IsCause}
use Rattle.btree_lookup.specs.declared.visit.Visit.{Visit}
use Rattle.btree_lookup.proofs.Loading.{come_in_order, last_loaded, led_more, looked, nothing_looked, sight_loaded, sights_then, version_led, version_loaded, word_loaded}
use Rattle.btree_lookup.proofs.Sighting.{joined, sight_joined, word_other}

-- what a node is that a sight is of, but for what the clock tells
pub agrees : (t : Terms) (past : List Update) (s : NodeSight) (o : IsOfNode t past s) → Agrees t s o.shape
agrees t past s o = record { words = o.words; spells = o.spells; loaded_so = o.loaded_so; live = o.live }

-- where the version is that of the sight, the sight is of a node
pub told_again : (t : Terms) (n found : ℕ) (v : Log) (s : NodeSight) → v.terms ≡ t → SightTells n found v → sight_of n v.sights.nodes ≡ Some s → s.version ≡ found → IsOfNode t v.past s
told_again t n found v s terms tells is same =
    subst (λ u. IsOfNode u v.past s) terms (subst (λ o. IfSome o (λ z. z.version ≡ found → IsOfNode v.terms v.past z)) is tells same)

-- what holds of each load holds of one among them
event_there : (P : LoadEvent → Type 0) (v : Log) (before : List LoadEvent) (loaded : List LoadedWord) (w : LoadedWord) → AllByRecursion P (before ++ load_events v loaded) → Contains loaded w → P (load_of v w.at w.value)
event_there P v (x ∷ before) loaded w all there = event_there P v before loaded w all.1 there
event_there P v [] [] w all (k, l, e) = absurd (omega (arith, l))
event_there P v [] (x ∷ loaded) w all (zero, l, e) = subst (λ (z : LoadedWord). P (load_of v z.at z.value)) e all.0
event_there P v [] (x ∷ loaded) w all (suc k, l, e) = event_there P v [] loaded w all.1 (k, omega (arith, l), e)

-- one that is alone finds a version as it loaded it before in this try
pub still_found : (k : CallerData) (loaded : List LoadedWord) (sights : Sights) (n version found : ℕ) → Contains loaded (loaded_at (node_place n) version) → IsAlone k.log.lineage → AloneTells n found (looked loaded sights k).log → version ≡ found
still_found k loaded sights n version found there alone tells =
    event_there (λ l. l.word ≡ node_place n → l.turns ≡ turns k.log.trace → l.found ≡ found) k.log k.log.trace.loads loaded (loaded_at (node_place n) version) (tells alone).1 there refl refl

-- what was loaded, as a whole try has it
as_try : (k : CallerData) (loaded : List LoadedWord) (sights : Sights) → looked loaded sights k ≡ record k { log = after_try loaded k.log.past sights [] k.log }
as_try k loaded sights = λ i. record k { log = record (after_looks loaded sights k.log) { receipts = record k.log.receipts { own = sym (append-nil k.log.receipts.own) i } } }

-- a try that fails by these loads
pub fails_so : (t : Terms) (pc : ℕ) (k k' : CallerData) (loaded : List LoadedWord) (sights : Sights) (again : Again) → k' ≡ looked loaded sights k → AreLed pc [] loaded → length loaded ≤ 245 → IsCause t loaded again → EndsOnWay t pc k again k'
fails_so t pc k k' loaded sights again is led few cause = (
  record {
    loaded = loaded;
    past = k.log.past;
    sights = sights;
    begins = ([], append-nil k.log.past);
    led = led;
    few = few;
    answer = cause;
    log = is ∙ as_try k loaded sights;
  },
  ap (λ (z : CallerData). z.log.past) is,
)

module _ (t : Terms) (pc : ℕ) (k : CallerData) (visit : Visit) (used : ℕ) (k1 : CallerData) (s : Sees t pc k visit used k1) where
  -- the version was found another one
  pub fails_changed : (k2 : CallerData) (found : ℕ) → used ≤ 14 + 19 * visit.level → k2 ≡ record k1 { log = after_node_version ask.Nothing visit.node found k1.log } → visit.version ≢ found → EndsOnWay t pc k (Changed (node_place visit.node) visit.version found) k2
  fails_changed k2 found small is other =
      let w : LoadedWord = loaded_at (node_place visit.node) found in
      let len = length-append s.loaded (w ∷ []) in let few = s.few in
      fails_so t pc k k2 (s.loaded ++ w ∷ []) (sights_then visit.node found s.sights) (Changed (node_place visit.node) visit.version found)
      (is ∙ (ap (λ (z : CallerData). record z { log = after_node_version ask.Nothing visit.node found z.log }) s.log ∙ version_loaded k s.loaded s.sights visit.node found))
      (led_more pc [] s.loaded w s.led (version_led pc s.loaded visit.node found s.way)) (omega (arith, len, few, small))
      (visit.node, (s.within, refl, other, come_in_order (loaded_at (node_place visit.node) visit.version) w s.loaded s.version))

  -- and where the words are of no node it is another one
  pub never_again : (found : ℕ) → ((shape : NodeData) → Agrees t s.sight shape → ⊥) → VersionTells t (lock.Node visit.node) found k1.log → visit.version ≢ found
  never_again found never tells same =
      let told = subst (λ (z : CallerData). VersionTells t (lock.Node visit.node) found z.log) s.log tells in
      let o = told_again t visit.node found (looked s.loaded s.sights k).log s.sight told.0 told.1 s.found (s.same ∙ same) in
      never o.shape (agrees t k.log.past s.sight o)

  pub alone_same : (found : ℕ) → IsAlone k.log.lineage → AloneTells visit.node found k1.log → visit.version ≡ found
  alone_same found alone tells = still_found k s.loaded s.sights visit.node visit.version found s.version alone (subst (λ (z : CallerData). AloneTells visit.node found z.log) s.log tells)

-- a caller that holds a node finds its version locked
pub none_held : (o : Option Holding) (version : ℕ) → IfSome o (λ h. IsLockedAt h.version version) → version % 2 ≡ 0 → o ≡ None
none_held None version h even = refl
none_held (Some x) version (four, inl one) even = absurd (omega (arith, four, one, even))
none_held (Some x) version (four, inr three) even = absurd (omega (arith, four, three, even))

-- ---- the root

module _ (t : Terms) (k : CallerData) (some : 0 < t.nodes) (version : ℕ) (k1 : CallerData) (begun : k1 ≡ record k { log = after_node_begin 0 version k.log }) where
  abbrev first : LoadedWord
  first = loaded_at (node_place 0) version

  abbrev sights : Sights
  sights = record k.log.sights { nodes = sights_after_begin 0 version k.log.sights.nodes }

  begun_is : k1 ≡ looked (first ∷ []) sights k
  begun_is = begun ∙ (ap (λ (z : CallerData). record z { log = after_node_begin 0 version z.log }) (nothing_looked k) ∙ sight_loaded k [] k.log.sights 0 version)

  first_led : (pc : ℕ) → AreLed pc [] (first ∷ [])
  first_led pc = (version_led pc [] 0 version (inl refl), tt)

  pub root_locked : (pc : ℕ) → version % 2 ≢ 0 → EndsOnWay t pc k (Locked (node_place 0) version) k1
  root_locked pc odd = fails_so t pc k k1 (first ∷ []) sights (Locked (node_place 0) version) begun_is (first_led pc) (omega arith) (0, (some, refl, omega (arith, odd), last_loaded [] first))

  pub root_unlocked : IsAlone k.log.lineage → k.log.holdings.held ≡ [] → AloneTells 0 version k.log → version % 2 ≡ 0
  root_unlocked alone nothing tells = (tells alone).0 nothing

  module _ (even : version % 2 ≡ 0) (held : IfSome (held_of 0 k.log.holdings.held) (λ h. IsLockedAt h.version version)) (level : ℕ) (k2 : CallerData) (loads : k2 ≡ record k1 { log = after_node_load 0 2 level k1.log }) where
    free : held_of 0 k.log.holdings.held ≡ None
    free = none_held (held_of 0 k.log.holdings.held) version held even

    abbrev visit : Visit
    visit = record { node = 0; version = version; level = level }

    nodes_are : sights.nodes ≡ sight_begun 0 version ∷ without_sight 0 k.log.sights.nodes
    nodes_are = ap (λ b. if b then (sight_begun 0 version ∷ without_sight 0 k.log.sights.nodes) else k.log.sights.nodes) (eq-eqb (version % 2) 0 even)

    found_there : sight_of 0 sights.nodes ≡ Some (sight_begun 0 version)
    found_there = ap (sight_of 0) nodes_are

    -- the root is visited, at whatever level was loaded
    abbrev at_root : (pc spare : ℕ) → pc ≤ TOP → 2 + 19 * level ≤ 230 + spare → Sees t pc k visit spare k2
    at_root pc spare top few = record {
      loaded = first ∷ loaded_of 0 2 level ∷ [];
      sights = record sights { nodes = map (with_word 0 2 level) sights.nodes };
      log = loads ∙ (ap (λ (z : CallerData). record z { log = after_node_load 0 2 level z.log }) begun_is ∙ word_loaded k (first ∷ []) sights 0 2 level free);
      led = (version_led pc [] 0 version (inl refl), (inr (0, 2, (omega arith, refl, inl refl)), tt));
      few = few;
      way = inl refl;
      within = some;
      free = free;
      version = (0, omega arith, refl);
      sight = joined 2 level (sight_begun 0 version);
      found = sight_joined 0 2 level sights.nodes (sight_begun 0 version) found_there;
      same = refl;
      place = record { level = level; low = 0; high = TOP };
      placed = refl;
      level = refl;
      inside = (omega arith, top);
    }

    pub root_seen : (pc : ℕ) → pc ≤ TOP → level ≤ 12 → Way t pc k visit k2
    root_seen pc top low = record { sees = at_root pc 0 top (omega (arith, low)); fresh = λ i. word_other 2 level (6 + 2 * i) [] (λ e. omega (arith, e)) }

    -- no root has such a level
    too_high : (pc spare : ℕ) (top : pc ≤ TOP) (few : 2 + 19 * level ≤ 230 + spare) → 12 < level → (shape : NodeData) → Agrees t (at_root pc spare top few).sight shape → ⊥
    too_high pc spare top few high shape a =
        let live : IsLiveNode t 0 shape record { level = level; low = 0; high = TOP } = a.live in
        let is = live.placed.0 in let height = live.height refl in omega (arith, is, height, high)

    pub root_never : (found : ℕ) → 12 < level → VersionTells t (lock.Node 0) found k2.log → version ≢ found
    root_never found high tells = never_again t 0 k visit (19 * level) k2 (at_root 0 (19 * level) (omega arith) (omega arith)) found (too_high 0 (19 * level) (omega arith) (omega arith) high) tells

    pub root_alone : (found : ℕ) → IsAlone k.log.lineage → AloneTells 0 found k2.log → version ≡ found
    root_alone found alone tells = alone_same t 0 k visit (19 * level) k2 (at_root 0 (19 * level) (omega arith) (omega arith)) found alone tells

    pub root_changed : (k3 : CallerData) (found : ℕ) → 12 < level → k3 ≡ record k2 { log = after_node_version ask.Nothing 0 found k2.log } → VersionTells t (lock.Node 0) found k2.log → (pc : ℕ) → EndsOnWay t pc k (Changed (node_place 0) version found) k3
    root_changed k3 found high is tells pc =
        let w : LoadedWord = loaded_at (node_place 0) found in
        let loaded : List LoadedWord = first ∷ loaded_of 0 2 level ∷ [] in
        let s = at_root 0 (19 * level) (omega arith) (omega arith) in
        fails_so t pc k k3 (loaded ++ w ∷ []) (sights_then 0 found s.sights) (Changed (node_place 0) version found)
        (is ∙ (ap (λ (z : CallerData). record z { log = after_node_version ask.Nothing 0 found z.log }) s.log ∙ version_loaded k loaded s.sights 0 found))
        (version_led pc [] 0 version (inl refl), (inr (0, 2, (omega arith, refl, inl refl)), (version_led pc loaded 0 found (inl refl), tt))) (omega arith)
        (0, (some, refl, root_never found high tells, come_in_order (loaded_at (node_place 0) version) w loaded (0, omega arith, refl)))
