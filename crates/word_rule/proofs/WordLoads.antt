-- A load of a word of a node keeps the rule: of one that isn't held it joins the sight of it.
use Rattle.std.proofs.Common.{◌≡◌, ℕ, ◌+◌, ◌*◌, ◌<◌, ◌≤◌, List, [], ◌∷◌, get_or, map, sym, refl, ap, ◌∙◌, subst, arith, Bool, true, false, IsTrue, Option, Some, None, IfSome, is_some, eq-eqb, ne_eqb, if◌then◌else◌}
use Rattle.std.specs.List.{AllByRecursion}
use mathlib.Core.Option.{none, some}
use native.Mathlib.Decide.{ℕ_discrete}
use lib.ListN.{get_elem?}
use Rattle.atomic_table.specs.Table.{step, keeps, Allows}
use Rattle.word_rule.specs.declared.log.Holding.{Holding}
use Rattle.word_rule.specs.declared.log.NodeSight.{NodeSight}
use Rattle.word_rule.specs.declared.log.Terms.{Terms}
use Rattle.word_rule.specs.declared.log.Sights.{Sights}
use Rattle.word_rule.specs.declared.log.Log.{Log}
use Rattle.word_rule.specs.SharedWords.{SharedWords, memory_of}
use Rattle.word_rule.specs.Spelling.{node_word, SpellsNode}
use Rattle.word_rule.specs.Held.{held_of}
use Rattle.word_rule.specs.Logs.{is_gone, load_of}
use Rattle.word_rule.specs.Sights.{with_word, place_of, after_node_load}
use Rattle.word_rule.specs.Callers.{total}
use Rattle.word_rule.specs.Nodes.{IsPlaced}
use Rattle.word_rule.specs.Copies.{CopySightHolds}
use Rattle.word_rule.specs.Observations.{Stands, SightHolds}
use Rattle.word_rule.specs.NodeTells.{HeldTells}
use Rattle.word_rule.specs.TableInvariant.{TableInvariant}
use Rattle.word_rule.specs.Plays.{Seated, loads_node}
use Rattle.word_rule.proofs.Memories.{load_content_at, content_length}
use Rattle.word_rule.proofs.Spells.{reads}
use Rattle.word_rule.proofs.Standing.{stands_spells, held_by}
use Rattle.word_rule.proofs.CallersFrame.{idle_stays}
use Rattle.word_rule.proofs.ObservationsFrame.{observations_own}
use Rattle.word_rule.proofs.Frames.{Sit, still_after_load}
use Rattle.word_rule.proofs.Quiet.{quiet}
use Rattle.word_rule.proofs.HeadPlays.{RootLaw}
use Rattle.word_rule.proofs.NodeVersions.{ChildrenLaw}
use Rattle.word_rule.proofs.Holders.{out_tells, holder_tells, knows_tree}
use Rattle.word_rule.proofs.NodeLoads.{FullLaw, OrderLaw, full_count}

module _ (t : Terms) (slots id : ℕ) (me : Seated) (live : is_gone me.0.role ≡ false) (law : FullLaw) (order : OrderLaw) (root : RootLaw) (children : ChildrenLaw) (n at : ℕ) (inside : n < t.nodes) (low : 1 ≤ at) (high : at ≤ 35) where
  abbrev Holds : Sit → Type 0
  Holds s = TableInvariant t s.words s.views

  module _ (s : Sit) (r : Holds s) (here : get_elem? s.views id ≡ some me.0) where
    abbrev found : ℕ
    found = get_or s.words (4 + 36 * n + at) 0

    abbrev Holds_sight : NodeSight → Type 0
    Holds_sight = SightHolds t (memory_of t s.words).nodes r.memory.history r.memory.shadow

    found_is : node_word ((memory_of t s.words).nodes.contents n) at ≡ get_or s.words (4 + 36 * n + at) 0
    found_is = load_content_at t s.words n at inside low high

    -- where its level was loaded, the root has its place
    placed : (k : NodeSight) → k.node ≡ n → SightHolds t (memory_of t s.words).nodes r.memory.history r.memory.shadow k → Stands (memory_of t s.words).nodes.versions r.memory.shadow k
        → IfSome (place_of (record k { words = record { at = at; value = found } ∷ k.words })) (λ f. IsTrue (r.memory.shadow.live k.node) × IsPlaced (r.memory.shadow.settled k.node) f)
    placed k is h st = go (ℕ_discrete k.node 0) (ℕ_discrete at 2) (h.marked st)
      where
        go : Dec (k.node ≡ 0) → Dec (at ≡ 2) → IfSome (place_of k) (λ f. IsTrue (r.memory.shadow.live k.node) × IsPlaced (r.memory.shadow.settled k.node) f)
            → IfSome (place_of (record k { words = record { at = at; value = found } ∷ k.words })) (λ f. IsTrue (r.memory.shadow.live k.node) × IsPlaced (r.memory.shadow.settled k.node) f)
        go (no ne) second marked = rw (ne_eqb k.node 0 ne) (rw (ne_eqb k.node 0 ne) at marked)
        go (yes e) (no other) marked = rw (eq-eqb k.node 0 e, ne_eqb at 2 other) (rw (eq-eqb k.node 0 e) at marked)
        go (yes e) (yes two) marked =
            let spells : SpellsNode ((memory_of t s.words).nodes.contents k.node) (r.memory.shadow.settled k.node) = stands_spells t (memory_of t s.words).nodes s.views r.memory.history r.memory.shadow r.memory.nodes k h.within h.even st in
            let level : (r.memory.shadow.settled k.node).level ≡ found = (reads ((memory_of t s.words).nodes.contents k.node) (r.memory.shadow.settled k.node) spells).level ∙ (ap (λ i. node_word ((memory_of t s.words).nodes.contents i) 2) is ∙ (ap (node_word ((memory_of t s.words).nodes.contents n)) (sym two) ∙ found_is)) in
            let tree = r.memory.nodes.lawful.tree in
            rw (eq-eqb k.node 0 e, eq-eqb at 2 two) (
              ap r.memory.shadow.live e ∙ root r.memory.shadow.settled r.memory.shadow.live tree,
              (level, ap (λ i. (r.memory.shadow.settled i).low) e ∙ tree.root_low, ap (λ i. (r.memory.shadow.settled i).high) e ∙ tree.root_high),
            )

    joins : (k : NodeSight) → SightHolds t (memory_of t s.words).nodes r.memory.history r.memory.shadow k → SightHolds t (memory_of t s.words).nodes r.memory.history r.memory.shadow (with_word n at found k)
    joins k h = go (ℕ_discrete k.node n)
      where
        go : Dec (k.node ≡ n) → SightHolds t (memory_of t s.words).nodes r.memory.history r.memory.shadow (with_word n at found k)
        go (no ne) = rw (ne_eqb k.node n ne) h
        go (yes e) =
            let more : SightHolds t (memory_of t s.words).nodes r.memory.history r.memory.shadow (record k { words = record { at = at; value = found } ∷ k.words }) = record {
              within = h.within;
              even = h.even;
              later = h.later;
              places = ((low, high), h.places);
              loaded = λ st. (ap (λ i. node_word ((memory_of t s.words).nodes.contents i) at) e ∙ found_is, h.loaded st);
              marked = placed k e h;
              clock = h.clock;
            } in rw (eq-eqb k.node n e) more

    all_join : (ks : List NodeSight) → AllByRecursion (SightHolds t (memory_of t s.words).nodes r.memory.history r.memory.shadow) ks → AllByRecursion (SightHolds t (memory_of t s.words).nodes r.memory.history r.memory.shadow) (map (with_word n at found) ks)
    all_join [] h = tt
    all_join (k ∷ ks) h = (joins k h.0, all_join ks h.1)

    -- the sights afterwards, by whether the node is held
    abbrev seen : Bool → Sights
    seen b = if b then me.0.sights else record me.0.sights { nodes = map (with_word n at found) me.0.sights.nodes }

    sights : (b : Bool) → AllByRecursion (SightHolds t (memory_of t s.words).nodes r.memory.history r.memory.shadow) (seen b).nodes
    sights true = (r.memory.observations id me.0 here).sights
    sights false = all_join me.0.sights.nodes (r.memory.observations id me.0 here).sights

    copies : (b : Bool) → IfSome (seen b).copies (CopySightHolds t (get_or s.words 0 0) (memory_of t s.words).copies)
    copies true = (r.memory.observations id me.0 here).copies
    copies false = (r.memory.observations id me.0 here).copies

    -- the holder knows the word
    tells : HeldTells n at found me.0
    tells = go (held_of n me.0.holdings.held) refl
      where
        go : (o : Option Holding) → held_of n me.0.holdings.held ≡ o → IfSome o (λ h. node_word h.words at ≡ found)
        go None e = tt
        go (Some h) e =
            let mine = held_by t (memory_of t s.words).nodes s.views r.memory.history r.memory.shadow r.memory.nodes id me.0 n h here e in
            ap (λ ws. node_word ws at) (mine.0.as_now ∙ ap (memory_of t s.words).nodes.contents mine.1) ∙ found_is

  pub loads_word : Allows Holds slots id me (4 + 36 * n + at) (λ k. k) (loads_node n at (step slots (4 + 36 * n + at) 0 0 none) me)
  loads_word s r deep here small =
      let found : ℕ = get_or s.words (4 + 36 * n + at) 0 in
      let w : Log = after_node_load n at found me.0 in
      let m : SharedWords = memory_of t s.words in
      let callers : ℕ = total (λ u. u.made) s.views + 1 in
      let o = r.memory.observations id me.0 here in
      let b : Bool = is_some (held_of n me.0.holdings.held) in (
        w,
        keeps,
        tt,
        quiet t s.words s.views r id me.0 w here (4 + 36 * n + at) (record { terms = refl; role = refl; past = refl; receipts = refl; allowance = refl; made = refl; lineage = refl }) refl refl (idle_stays me.0 w refl refl (r.memory.callers.each id me.0 here).idle)
            (r.memory.nodes.holdings id me.0 here) (λ _ k. k) (λ _. refl)
            (observations_own t m r.memory.history callers r.memory.shadow me.0 w (load_of me.0 (4 + 36 * n + at) found ∷ []) (record { own = refl; turns = omega arith; loads = refl }) (sights s r here b) (copies s r here b) (full_count t slots id me live law order s r n at here low high, tt) ((omega arith, omega arith), tt) o)
            (λ alone. still_after_load s.words me.0 w (load_of me.0 (4 + 36 * n + at) found) refl refl refl (r.alone id me.0 here alone)),
        (
          refl,
          tells s r here,
          holder_tells t m.nodes s.views r.memory.history r.memory.shadow r.memory.nodes id me.0 here children (content_length t s.words r.wide) ((r.memory.callers.each id me.0 here).terms live) n,
          out_tells t m.nodes s.views r.memory.history r.memory.shadow r.memory.nodes id me.0 here root n,
          knows_tree t m.nodes s.views r.memory.history r.memory.shadow r.memory.nodes id me.0 here,
        ),
      )

  -- the same as the code has it
  pub loads_word_of : (k j place : ℕ) → k ≡ n → j ≡ at → place ≡ 4 + 36 * n + at → Allows Holds slots id me place (λ x. x) (loads_node k j (step slots place 0 0 none) me)
  loads_word_of k j place node word is =
      subst (λ p. Allows Holds slots id me p (λ x. x) (loads_node k j (step slots p 0 0 none) me)) (sym is)
      (subst (λ i. Allows Holds slots id me (4 + 36 * n + at) (λ x. x) (loads_node i j (step slots (4 + 36 * n + at) 0 0 none) me)) (sym node)
      (subst (λ i. Allows Holds slots id me (4 + 36 * n + at) (λ x. x) (loads_node n i (step slots (4 + 36 * n + at) 0 0 none) me)) (sym word) loads_word))
