-- Steps on the lock of any node: it is taken, is found taken, is marked as slept on, or is let go with the version that it had.
use Rattle.std.proofs.Common.{◌≡◌, ℕ, zero, suc, ◌+◌, ◌-◌, ◌*◌, ◌%◌, ◌^◌, ◌<◌, ◌⊎◌, List, [], ◌∷◌, length, get_or, set, sym, refl, ap, ◌∙◌, subst, inl, inr, ⊎_elim, arith, ◌==◌, MatchBool, Bool, true, false, IsTrue, if◌then◌else◌, bit_or, Option, Some, None, IfSome, eq-eqb, ne_eqb}
use Rattle.std.proofs.lemmas.Nat.{or_disjoint}
use Rattle.std.specs.Int.Bits.{or_add_and}
use lib.Bits.{and_mask}
use Rattle.std.proofs.lemmas.Option.{none-some}
use Rattle.std.specs.List.{AllByRecursion}
use mathlib.Core.Option.{none, some}
use native.Mathlib.Decide.{ℕ_discrete}
use lib.ListN.{get_elem?}
use prog.Atomic.{either}
use Rattle.atomic_table.specs.Table.{step, Act, keeps, stepped, carried_after, Valid, Allows}
use Rattle.tree_shape.specs.declared.node.NodeBounds.{NodeBounds}
use Rattle.tree_shape.specs.NodeData.{NodeData}
use Rattle.tree_laws.specs.Trees.{Contents, Branch, branches}
use Rattle.tree_laws.specs.Lawful.{FitsParent}
use Rattle.word_rule.specs.declared.log.Role.TheVariants as role
use Rattle.word_rule.specs.declared.log.Terms.{Terms}
use Rattle.word_rule.specs.declared.log.Holding.{Holding}
use Rattle.word_rule.specs.declared.log.Log.{Log}
use Rattle.word_rule.specs.declared.log.LockId.{LockId}
use Rattle.word_rule.specs.declared.log.LockId.TheVariants as lock
use Rattle.word_rule.specs.Places.{word_count}
use Rattle.word_rule.specs.VersionLocks.{IsLock, lock_place}
use Rattle.word_rule.proofs.Loader.{marks_by_bits}
use Rattle.word_rule.specs.SharedWords.{NodeWords, memory_of, updated}
use Rattle.word_rule.specs.Spelling.{SpellsNode}
use Rattle.word_rule.specs.Held.{held_of}
use Rattle.word_rule.specs.Logs.{is_gone, is_nameless, after_load, after_write}
use Rattle.word_rule.specs.Steps.{place_in, place_by, first_mark, place_by_held, mark_at_lock, mark_at_version, after_node_lock, after_seen_lock}
use Rattle.word_rule.specs.Sights.{place_at, place_of, sight_of}
use Rattle.word_rule.specs.Observations.{AreOfNode, SightHolds}
use Rattle.word_rule.specs.declared.log.NodeSight.{NodeSight}
use Rattle.word_rule.specs.Callers.{IsLockedAt}
use Rattle.word_rule.specs.Nodes.{HoldsNode, HoldingsHold, IsOpen, IsPlaced}
use Rattle.word_rule.specs.NodeTells.{IsLiveNode, IsSeenNode, IsTakenNode}
use Rattle.word_rule.specs.TableInvariant.{TableInvariant}
use Rattle.word_rule.specs.Plays.{Seated, locks_node, locks_seen, grabs_node, marks}
use Rattle.word_rule.proofs.Each.{all_map}
use Rattle.word_rule.proofs.Memories.{load_version_at, content_length, by_same}
use Rattle.word_rule.proofs.Spells.{eqb_true}
use Rattle.word_rule.proofs.Standing.{even_is_open, held_by}
use Rattle.word_rule.proofs.Frames.{Sit}
use Rattle.word_rule.proofs.NodesFrame.{holder_stays, lock_over}
use Rattle.word_rule.proofs.HeadPlays.{RootLaw}
use Rattle.word_rule.proofs.NodeLocks.{updated_here, updated_other, refused, locked, four, bounded}
use Rattle.word_rule.proofs.NodeVersions.{ChildrenLaw, found_sight, is_live_node}
use Rattle.word_rule.proofs.VersionSteps.{stepped_version, words', shadow'}

-- the child that a list of branches names has its place
named : (f : Contents) (live : ℕ → Bool) (n : ℕ) (bs : List Branch) → AllByRecursion (λ b. IsTrue (live b.child) × FitsParent f b) bs → IfSome (place_in n bs) (λ p. IsTrue (live n) × IsPlaced (f n) p)
named f live n [] all = tt
named f live n (b ∷ bs) all = go (ℕ_discrete b.child n) (named f live n bs all.1)
  where
    go : Dec (b.child ≡ n) → IfSome (place_in n bs) (λ p. IsTrue (live n) × IsPlaced (f n) p) → IfSome (place_in n (b ∷ bs)) (λ p. IsTrue (live n) × IsPlaced (f n) p)
    go (yes e) rest = let fits = all.0.1 in rw (eq-eqb b.child n e) (subst (λ k. IsTrue (live k) × IsPlaced (f k) b.frame) e (all.0.0, (fits.level, fits.low, fits.high)))
    go (no ne) rest = rw (ne_eqb b.child n ne) rest

module _ (t : Terms) (slots id : ℕ) (me : Seated) (caller : me.0.role ≡ role.Caller) where
  abbrev Holds : Sit → Type 0
  Holds s = TableInvariant t s.words s.views

  stands : is_nameless me.0.role ≡ false
  stands = ap is_nameless caller

  -- what a lock marks is live
  module _ (children : ChildrenLaw) (root : RootLaw) (s : Sit) (r : Holds s) (at : get_elem? s.views id ≡ some me.0) where
    abbrev nodes : NodeWords
    nodes = (memory_of t s.words).nodes

    abbrev IsLive : ℕ → NodeBounds → Type 0
    IsLive n f = IsTrue (r.memory.shadow.live n) × IsPlaced (r.memory.shadow.settled n) f

    named_by : (n : ℕ) (h : Holding) (o : Option NodeBounds) → HoldsNode t (memory_of t s.words).nodes r.memory.shadow id h → IfSome o (λ f. IsTrue (r.memory.shadow.live h.node) × IsPlaced h.settled f) → IfSome (place_by n o h) (λ f. IsTrue (r.memory.shadow.live n) × IsPlaced (r.memory.shadow.settled n) f)
    named_by n h None k marked = tt
    named_by n h (Some f) k marked =
        named r.memory.shadow.settled r.memory.shadow.live n (branches (h.settled.level - 1) h.settled)
        (subst (λ c. AllByRecursion (λ b. IsTrue (r.memory.shadow.live b.child) × FitsParent r.memory.shadow.settled b) (branches (c.level - 1) c)) (sym k.settled) (children.live r.memory.shadow.settled r.memory.shadow.live h.node r.memory.nodes.lawful.tree marked.0))

    by_held : (n : ℕ) (held : List Holding) → AllByRecursion (HoldsNode t (memory_of t s.words).nodes r.memory.shadow id) held → IfSome (place_by_held n held) (λ f. IsTrue (r.memory.shadow.live n) × IsPlaced (r.memory.shadow.settled n) f)
    by_held n [] all = tt
    by_held n (h ∷ held) all = go (place_by n h.mark h) (named_by n h h.mark all.0 all.0.marked) (by_held n held all.1)
      where
        go : (o : Option NodeBounds) → IfSome o (λ f. IsTrue (r.memory.shadow.live n) × IsPlaced (r.memory.shadow.settled n) f) → IfSome (place_by_held n held) (λ f. IsTrue (r.memory.shadow.live n) × IsPlaced (r.memory.shadow.settled n) f)
            → IfSome (first_mark o (place_by_held n held)) (λ f. IsTrue (r.memory.shadow.live n) × IsPlaced (r.memory.shadow.settled n) f)
        go None told rest = rest
        go (Some f) told rest = told

    marks_live : (n : ℕ) → IfSome (mark_at_lock n (r.memory.shadow.settled n) me.0.holdings.held) (λ f. IsTrue (r.memory.shadow.live n) × IsPlaced (r.memory.shadow.settled n) f)
    marks_live n = go (ℕ_discrete n 0) (by_held n me.0.holdings.held (r.memory.nodes.holdings id me.0 at).each)
      where
        go : Dec (n ≡ 0) → IfSome (place_by_held n me.0.holdings.held) (λ f. IsTrue (r.memory.shadow.live n) × IsPlaced (r.memory.shadow.settled n) f)
            → IfSome (mark_at_lock n (r.memory.shadow.settled n) me.0.holdings.held) (λ f. IsTrue (r.memory.shadow.live n) × IsPlaced (r.memory.shadow.settled n) f)
        go (yes e) named_there = rw (eq-eqb n 0 e) (ap r.memory.shadow.live e ∙ root r.memory.shadow.settled r.memory.shadow.live r.memory.nodes.lawful.tree, (refl, refl, refl))
        go (no ne) named_there = rw (ne_eqb n 0 ne) named_there

    -- a live sight that has the node's version marks it, since it stands
    by_sight : (n seen : ℕ) → (memory_of t s.words).nodes.versions n ≡ seen → IfSome (place_at seen (sight_of n me.0.sights.nodes)) (λ f. IsTrue (r.memory.shadow.live n) × IsPlaced (r.memory.shadow.settled n) f)
    by_sight n seen hit = go (sight_of n me.0.sights.nodes) refl
      where
        at_version : (c : NodeSight) → SightHolds t (memory_of t s.words).nodes r.memory.history r.memory.shadow c → c.node ≡ n → (b : Bool) → (c.version == seen) ≡ b → IfSome (if b then place_of c else None) (λ f. IsTrue (r.memory.shadow.live n) × IsPlaced (r.memory.shadow.settled n) f)
        at_version c h e false test = tt
        at_version c h e true test = subst (λ k. IfSome (place_of c) (λ f. IsTrue (r.memory.shadow.live k) × IsPlaced (r.memory.shadow.settled k) f)) e (h.marked (inl (ap (memory_of t s.words).nodes.versions e ∙ (hit ∙ sym (eqb_true c.version seen test)))))

        go : (o : Option NodeSight) → sight_of n me.0.sights.nodes ≡ o → IfSome (place_at seen o) (λ f. IsTrue (r.memory.shadow.live n) × IsPlaced (r.memory.shadow.settled n) f)
        go None e = tt
        go (Some c) e =
            let is = found_sight t (memory_of t s.words).nodes s.views r.memory.history r.memory.shadow r.memory.nodes children n me.0.sights.nodes c (r.memory.observations id me.0 at).sights e in
            at_version c is.0 is.1 (c.version == seen) refl

    marks_seen : (n seen : ℕ) → (memory_of t s.words).nodes.versions n ≡ seen → IfSome (mark_at_version n seen (r.memory.shadow.settled n) me.0) (λ f. IsTrue (r.memory.shadow.live n) × IsPlaced (r.memory.shadow.settled n) f)
    marks_seen n seen hit = go (mark_at_lock n (r.memory.shadow.settled n) me.0.holdings.held) (marks_live n) (by_sight n seen hit)
      where
        go : (o : Option NodeBounds) → IfSome o (λ f. IsTrue (r.memory.shadow.live n) × IsPlaced (r.memory.shadow.settled n) f) → IfSome (place_at seen (sight_of n me.0.sights.nodes)) (λ f. IsTrue (r.memory.shadow.live n) × IsPlaced (r.memory.shadow.settled n) f)
            → IfSome (first_mark o (place_at seen (sight_of n me.0.sights.nodes))) (λ f. IsTrue (r.memory.shadow.live n) × IsPlaced (r.memory.shadow.settled n) f)
        go None held seen_there = seen_there
        go (Some f) held seen_there = held

    -- its words are those that were loaded in such a sight
    words_seen : (n seen : ℕ) → (memory_of t s.words).nodes.versions n ≡ seen → IfSome (sight_of n me.0.sights.nodes) (λ c. c.version ≡ seen → AreOfNode ((memory_of t s.words).nodes.contents n) c.words)
    words_seen n seen hit = go (sight_of n me.0.sights.nodes) refl
      where
        go : (o : Option NodeSight) → sight_of n me.0.sights.nodes ≡ o → IfSome o (λ c. c.version ≡ seen → AreOfNode ((memory_of t s.words).nodes.contents n) c.words)
        go None e = tt
        go (Some c) e =
            let is = found_sight t (memory_of t s.words).nodes s.views r.memory.history r.memory.shadow r.memory.nodes children n me.0.sights.nodes c (r.memory.observations id me.0 at).sights e in
            λ same. subst (λ k. AreOfNode ((memory_of t s.words).nodes.contents k) c.words) is.1 (is.0.loaded (inl (ap (memory_of t s.words).nodes.versions is.1 ∙ (hit ∙ sym same))))

    -- what is marked is live at its place, as a log is told it
    each_live : (n : ℕ) (o : Option NodeBounds) → IfSome o (λ f. IsTrue (r.memory.shadow.live n) × IsPlaced (r.memory.shadow.settled n) f) → IfSome o (IsLiveNode t n (r.memory.shadow.settled n))
    each_live n None told = tt
    each_live n (Some f) told = is_live_node t (memory_of t s.words).nodes s.views r.memory.history r.memory.shadow r.memory.nodes children n f told.0 told.1

    taken : (n seen : ℕ) → n < t.nodes → (memory_of t s.words).nodes.versions n ≡ seen → seen % 2 ≡ 0 → IsTakenNode n me.0 ((memory_of t s.words).nodes.contents n) (r.memory.shadow.settled n)
    taken n seen inside hit even =
        let terms : me.0.terms ≡ t = (r.memory.callers.each id me.0 at).terms (ap is_gone caller) in
        let free : r.memory.shadow.holder n ≡ None = even_is_open t (memory_of t s.words).nodes s.views r.memory.history r.memory.shadow r.memory.nodes n (ap (λ k. k % 2) hit ∙ even) in
        let spells : SpellsNode ((memory_of t s.words).nodes.contents n) (r.memory.shadow.settled n) = (subst (IsOpen ((memory_of t s.words).nodes.versions n) ((memory_of t s.words).nodes.contents n) (r.memory.shadow.settled n)) free (r.memory.nodes.unlocked n inside)).1 in record {
          within = subst (λ k. n < k.nodes) (sym terms) inside;
          new = not_held (held_of n me.0.holdings.held) refl free;
          wide = content_length t s.words r.wide n inside;
          spells = spells;
          live = subst (λ k. IfSome (mark_at_lock n (r.memory.shadow.settled n) me.0.holdings.held) (IsLiveNode k n (r.memory.shadow.settled n))) (sym terms) (each_live n (mark_at_lock n (r.memory.shadow.settled n) me.0.holdings.held) (marks_live n));
        }
      where
        not_held : (o : Option Holding) → held_of n me.0.holdings.held ≡ o → r.memory.shadow.holder n ≡ None → held_of n me.0.holdings.held ≡ None
        not_held None e free = e
        not_held (Some h) e free = let l = held_by t (memory_of t s.words).nodes s.views r.memory.history r.memory.shadow r.memory.nodes id me.0 n h at e in absurd (none-some id (sym free ∙ (ap r.memory.shadow.holder (sym l.1) ∙ l.0.is_holder)))

    seen_node : (n seen : ℕ) → n < t.nodes → (memory_of t s.words).nodes.versions n ≡ seen → seen % 2 ≡ 0 → IsSeenNode n seen me.0 ((memory_of t s.words).nodes.contents n) (r.memory.shadow.settled n)
    seen_node n seen inside hit even =
        let terms : me.0.terms ≡ t = (r.memory.callers.each id me.0 at).terms (ap is_gone caller) in record {
          taken = taken n seen inside hit even;
          live = subst (λ k. IfSome (place_at seen (sight_of n me.0.sights.nodes)) (IsLiveNode k n (r.memory.shadow.settled n))) (sym terms) (each_live n (place_at seen (sight_of n me.0.sights.nodes)) (by_sight n seen hit));
          loaded = words_seen n seen hit;
        }

  pub locks_any : ChildrenLaw → RootLaw → (n seen : ℕ) → seen % 2 ≡ 0 → n < t.nodes → Allows Holds slots id me (4 + 36 * n) (λ k. either (k == seen) (seen + 1) k) (locks_node n (step slots (4 + 36 * n) seen (seen + 1) none) me)
  locks_any children root n seen even inside s r deep at small =
      let k : ℕ = get_or s.words (4 + 36 * n) 0 in
      by_same k seen (λ b. (w : Log) × (a : Act (Unit {0})) × Valid s.homes me.1 a × Holds (stepped s (4 + 36 * n) (either b (seen + 1) k) id me.1 w a) × MatchBool b
      ((seen % 4 ≡ 0) × (seen < 2 ^ 63) × ((settled : NodeData) × (words : List ℕ) × (IsTakenNode n me.0 words settled × ◌≡◌ {A = Seated} (w, carried_after me.1 a) (after_node_lock n seen settled words me.0, me.1))))
      (◌≡◌ {A = Seated} (w, carried_after me.1 a) (after_load (4 + 36 * n) k me.0, me.1)))
      (λ is.
      let hit : (memory_of t s.words).nodes.versions n ≡ seen = load_version_at t s.words n inside ∙ is in
      let live = marks_live children root s r at n in (
        after_node_lock n seen (r.memory.shadow.settled n) ((memory_of t s.words).nodes.contents n) me.0,
        keeps,
        tt,
        locked t slots id me caller n seen inside s r at hit even (mark_at_lock n (r.memory.shadow.settled n) me.0.holdings.held) live,
        (
          four t slots id me caller n seen inside s r at hit even (mark_at_lock n (r.memory.shadow.settled n) me.0.holdings.held) live,
          bounded t slots id me caller n seen inside s r at hit even (mark_at_lock n (r.memory.shadow.settled n) me.0.holdings.held) live,
          (r.memory.shadow.settled n, (memory_of t s.words).nodes.contents n, (taken children root s r at n seen inside hit even, refl)),
        ),
      ))
      (λ miss. (after_load (4 + 36 * n) k me.0, keeps, tt, refused t slots id me caller s r n at, refl))

  -- the same as the code has it: the bit is set by `|`
  pub locks_node_by_bit : ChildrenLaw → RootLaw → (n k place seen : ℕ) → k ≡ n → place ≡ 4 + 36 * n → seen % 2 ≡ 0 → n < t.nodes → Allows Holds slots id me place (λ x. either (x == seen) (bit_or seen 1) x) (locks_node k (step slots place seen (bit_or seen 1) none) me)
  locks_node_by_bit children root n k place seen node is even inside =
      subst (λ p. Allows Holds slots id me p (λ x. either (x == seen) (bit_or seen 1) x) (locks_node k (step slots p seen (bit_or seen 1) none) me)) (sym is)
      (subst (λ j. Allows Holds slots id me (4 + 36 * n) (λ x. either (x == seen) (bit_or seen 1) x) (locks_node j (step slots (4 + 36 * n) seen (bit_or seen 1) none) me)) (sym node)
      (subst (λ z. Allows Holds slots id me (4 + 36 * n) (λ x. either (x == seen) z x) (locks_node n (step slots (4 + 36 * n) seen z none) me)) (sym (or_disjoint seen 1 (and_mask seen 1 ∙ even))) (locks_any children root n seen even inside)))

  -- the same by sight
  locks_seen_any : ChildrenLaw → RootLaw → (n seen : ℕ) → seen % 2 ≡ 0 → n < t.nodes → Allows Holds slots id me (4 + 36 * n) (λ k. either (k == seen) (seen + 1) k) (locks_seen n (step slots (4 + 36 * n) seen (seen + 1) none) me)
  locks_seen_any children root n seen even inside s r deep at small =
      let k : ℕ = get_or s.words (4 + 36 * n) 0 in
      by_same k seen (λ b. (w : Log) × (a : Act (Unit {0})) × Valid s.homes me.1 a × Holds (stepped s (4 + 36 * n) (either b (seen + 1) k) id me.1 w a) × MatchBool b
      ((seen % 4 ≡ 0) × (seen < 2 ^ 63) × ((settled : NodeData) × (words : List ℕ) × (IsSeenNode n seen me.0 words settled × ◌≡◌ {A = Seated} (w, carried_after me.1 a) (after_seen_lock n seen settled words me.0, me.1))))
      (◌≡◌ {A = Seated} (w, carried_after me.1 a) (after_load (4 + 36 * n) k me.0, me.1)))
      (λ is.
      let hit : (memory_of t s.words).nodes.versions n ≡ seen = load_version_at t s.words n inside ∙ is in
      let live = marks_seen children root s r at n seen hit in (
        after_seen_lock n seen (r.memory.shadow.settled n) ((memory_of t s.words).nodes.contents n) me.0,
        keeps,
        tt,
        locked t slots id me caller n seen inside s r at hit even (mark_at_version n seen (r.memory.shadow.settled n) me.0) live,
        (
          four t slots id me caller n seen inside s r at hit even (mark_at_version n seen (r.memory.shadow.settled n) me.0) live,
          bounded t slots id me caller n seen inside s r at hit even (mark_at_version n seen (r.memory.shadow.settled n) me.0) live,
          (r.memory.shadow.settled n, (memory_of t s.words).nodes.contents n, (seen_node children root s r at n seen inside hit even, refl)),
        ),
      ))
      (λ miss. (after_load (4 + 36 * n) k me.0, keeps, tt, refused t slots id me caller s r n at, refl))

  -- as the code has it: the bit is set by `|`
  pub locks_seen_by_bit : ChildrenLaw → RootLaw → (n k place seen : ℕ) → k ≡ n → place ≡ 4 + 36 * n → seen % 2 ≡ 0 → n < t.nodes → Allows Holds slots id me place (λ x. either (x == seen) (bit_or seen 1) x) (locks_seen k (step slots place seen (bit_or seen 1) none) me)
  locks_seen_by_bit children root n k place seen node is even inside =
      subst (λ p. Allows Holds slots id me p (λ x. either (x == seen) (bit_or seen 1) x) (locks_seen k (step slots p seen (bit_or seen 1) none) me)) (sym is)
      (subst (λ j. Allows Holds slots id me (4 + 36 * n) (λ x. either (x == seen) (bit_or seen 1) x) (locks_seen j (step slots (4 + 36 * n) seen (bit_or seen 1) none) me)) (sym node)
      (subst (λ z. Allows Holds slots id me (4 + 36 * n) (λ x. either (x == seen) z x) (locks_seen n (step slots (4 + 36 * n) seen z none) me)) (sym (or_disjoint seen 1 (and_mask seen 1 ∙ even))) (locks_seen_any children root n seen even inside)))

  -- bit 0 is set in one step, whatever the word was
  module _ (children : ChildrenLaw) (root : RootLaw) (n : ℕ) (inside : n < t.nodes) where
    abbrev Grabbed : Sit → ℕ → Bool → Type 0
    Grabbed s x b = (w : Log) × (a : Act (Unit {0})) × Valid s.homes me.1 a × Holds (stepped s (4 + 36 * n) x id me.1 w a) × MatchBool b
        ((get_or s.words (4 + 36 * n) 0 % 4 ≡ 0) × (get_or s.words (4 + 36 * n) 0 < 2 ^ 63) × ((settled : NodeData) × (words : List ℕ) × (IsTakenNode n me.0 words settled × ◌≡◌ {A = Seated} (w, carried_after me.1 a) (after_node_lock n (get_or s.words (4 + 36 * n) 0) settled words me.0, me.1))))
        (◌≡◌ {A = Seated} (w, carried_after me.1 a) (after_load (4 + 36 * n) (get_or s.words (4 + 36 * n) 0) me.0, me.1))

    grabs_word : (s : Sit) (r : Holds s) → length s.homes ≡ slots → (at : get_elem? s.views id ≡ some me.0) → get_or s.words (4 + 36 * n) 0 < 18446744073709551616 → (m : ℕ) → get_or s.words (4 + 36 * n) 0 % 2 ≡ m
        → Grabbed s (bit_or (get_or s.words (4 + 36 * n) 0) 1) (get_or s.words (4 + 36 * n) 0 % 2 == 0)
    grabs_word s r deep at small zero even =
        let x : ℕ = get_or s.words (4 + 36 * n) 0 in
        let hit : Grabbed s (either (x == x) (bit_or x 1) x) (x == x) = locks_node_by_bit children root n n (4 + 36 * n) x refl refl even inside s r deep at small in
        subst (Grabbed s (bit_or x 1)) (sym (eq-eqb (x % 2) 0 even)) (subst (λ b. Grabbed s (either b (bit_or x 1) x) b) (eq-eqb x x refl) hit)
    grabs_word s r deep at small (suc m) odd =
        let x : ℕ = get_or s.words (4 + 36 * n) 0 in
        let sum = or_add_and x 1 in
        let low = and_mask x 1 in
        let same : bit_or x 1 ≡ x = omega (arith, sum, low, odd) in
        let miss : Grabbed s x false = (after_load (4 + 36 * n) x me.0, keeps, tt, refused t slots id me caller s r n at, refl) in
        subst (Grabbed s (bit_or x 1)) (sym (ne_eqb (x % 2) 0 (λ e. omega (arith, e, odd)))) (subst (λ y. Grabbed s y false) (sym same) miss)

    grabs_any : Allows Holds slots id me (4 + 36 * n) (λ x. bit_or x 1) (grabs_node n (step slots (4 + 36 * n) 1 0 none) me)
    grabs_any s r deep at small = grabs_word s r deep at small (get_or s.words (4 + 36 * n) 0 % 2) refl

    pub grabs_of : (k place : ℕ) → k ≡ n → place ≡ 4 + 36 * n → Allows Holds slots id me place (λ x. bit_or x 1) (grabs_node k (step slots place 1 0 none) me)
    grabs_of k place node is =
        subst (λ p. Allows Holds slots id me p (λ x. bit_or x 1) (grabs_node k (step slots p 1 0 none) me)) (sym is)
        (subst (λ j. Allows Holds slots id me (4 + 36 * n) (λ x. bit_or x 1) (grabs_node j (step slots (4 + 36 * n) 1 0 none) me)) (sym node) grabs_any)

  -- the low two bits of an odd word set
  abbrev marked : ℕ → ℕ
  marked seen = seen - seen % 4 + 3

  -- the lock is marked as slept on
  module _ (n seen : ℕ) (inside : n < t.nodes) (odd : seen % 2 ≡ 1) (s : Sit) (r : Holds s) (at : get_elem? s.views id ≡ some me.0) (hit : (memory_of t s.words).nodes.versions n ≡ seen) where
    raised : (version : ℕ) → IsLockedAt version seen → IsLockedAt version (marked seen)
    raised version h = let z = h.0 in (h.0, inr (⊎_elim (λ (e : seen ≡ version + 1). omega (arith, e, z)) (λ (e : seen ≡ version + 3). omega (arith, e, z)) h.1))

    lowered : (version : ℕ) → IsLockedAt version (marked seen) → IsLockedAt version seen
    lowered version h = let z = h.0 in (h.0, ⊎_elim (λ (e : marked seen ≡ version + 1). absurd (omega (arith, e, z, odd))) (λ (e : marked seen ≡ version + 3). by_bit (ℕ_discrete (seen % 4) 1) e) h.1)
      where
        by_bit : Dec (seen % 4 ≡ 1) → marked seen ≡ version + 3 → (seen ≡ version + 1) ⊎ (seen ≡ version + 3)
        by_bit (yes one) e = let z = h.0 in inl (omega (arith, one, e, z))
        by_bit (no other) e = let z = h.0 in inr (omega (arith, other, e, z, odd))

    abbrev w : Log
    w = after_write me.0

    same_lock : (j : ℕ) (h : Holding) → HoldsNode t (memory_of t s.words).nodes r.memory.shadow j h → HoldsNode t (words' t id me.0 w caller n (marked seen) inside s r at r.memory.shadow.holder (λ _ _. refl)) (shadow' t id me.0 w caller n (marked seen) inside s r at r.memory.shadow.holder (λ _ _. refl)) j h
    same_lock j h k = lock_over (updated (memory_of t s.words).nodes.versions n (marked seen)) r.memory.shadow.holder r.memory.shadow.stored j h refl (by_node (ℕ_discrete h.node n)) refl k
      where
        by_node : Dec (h.node ≡ n) → IsLockedAt h.version (updated (memory_of t s.words).nodes.versions n (marked seen) h.node)
        by_node (yes e) = subst (IsLockedAt h.version) (sym (updated_here (memory_of t s.words).nodes.versions n (marked seen) h.node e)) (raised h.version (subst (IsLockedAt h.version) (ap (memory_of t s.words).nodes.versions e ∙ hit) k.locked))
        by_node (no ne) = subst (IsLockedAt h.version) (sym (updated_other (memory_of t s.words).nodes.versions n (marked seen) h.node ne)) k.locked

    all_locks : (j : ℕ) (u : Log) → get_elem? s.views j ≡ some u → HoldingsHold t (words' t id me.0 w caller n (marked seen) inside s r at r.memory.shadow.holder (λ _ _. refl)) (shadow' t id me.0 w caller n (marked seen) inside s r at r.memory.shadow.holder (λ _ _. refl)) j u.holdings
    all_locks j u there = let h = r.memory.nodes.holdings j u there in record {
      each = all_map (HoldsNode t (memory_of t s.words).nodes r.memory.shadow j) (HoldsNode t (words' t id me.0 w caller n (marked seen) inside s r at r.memory.shadow.holder (λ _ _. refl)) (shadow' t id me.0 w caller n (marked seen) inside s r at r.memory.shadow.holder (λ _ _. refl)) j) (same_lock j) u.holdings.held h.each;
      once = h.once;
      few_out = h.few_out;
    }

    pub marked_node : TableInvariant t (set s.words (4 + 36 * n) (marked seen)) (set s.views id (after_write me.0))
    marked_node = stepped_version t id me.0 w caller n (marked seen) inside s r at r.memory.shadow.holder (λ _ _. refl) (record {
      mine = all_locks id me.0 at;
      others = λ j u _ there. all_locks j u there;
      open_then = still_open r.memory.shadow.holder refl;
      held_then = holder_stays s.views id me.0 w at n (r.memory.shadow.holder n) (λ h. h) (r.memory.nodes.holders n);
      kept = λ _ _ h. h;
      later = λ k _ less. (let e = hit in omega (arith, less, e));
      stood = λ k even less st. inr (⊎_elim (λ (is : marked seen ≡ k). absurd (omega (arith, is, even, odd))) (λ (l : IsLockedAt k (marked seen) × (r.memory.shadow.stored n ≡ false)). (subst (IsLockedAt k) (sym hit) (lowered k l.0), l.1)) st);
    }) refl (record { terms = refl; role = refl; past = refl; receipts = refl; allowance = refl; made = refl; lineage = refl }) refl (let e = hit in omega (arith, e, odd)) (record { own = refl; sights = refl; loads = refl; turn = omega arith })
      where
        still_open : (holder : ℕ → Option ℕ) → holder ≡ r.memory.shadow.holder → IsOpen (marked seen) ((memory_of t s.words).nodes.contents n) (r.memory.shadow.settled n) (holder n)
        still_open holder is = go (holder n) refl
          where
            go : (o : Option ℕ) → holder n ≡ o → IsOpen (marked seen) ((memory_of t s.words).nodes.contents n) (r.memory.shadow.settled n) o
            go None e = let open_before = subst (IsOpen ((memory_of t s.words).nodes.versions n) ((memory_of t s.words).nodes.contents n) (r.memory.shadow.settled n)) (ap (λ f. f n) (sym is) ∙ e) (r.memory.nodes.unlocked n inside) in let z = open_before.0 in let h = hit in absurd (omega (arith, z, h, odd))
            go (Some j) e = tt

  marks_any : (n seen : ℕ) → n < t.nodes → seen % 2 ≡ 1 → Allows Holds slots id me (4 + 36 * n) (λ x. either (x == seen) (marked seen) x) (marks (step slots (4 + 36 * n) seen (marked seen) none) me)
  marks_any n seen inside odd s r deep at small =
      let k : ℕ = get_or s.words (4 + 36 * n) 0 in
      by_same k seen (λ b. (w : Log) × (a : Act (Unit {0})) × Valid s.homes me.1 a × Holds (stepped s (4 + 36 * n) (either b (marked seen) k) id me.1 w a) × MatchBool b
      (◌≡◌ {A = Seated} (w, carried_after me.1 a) (after_write me.0, me.1)) (◌≡◌ {A = Seated} (w, carried_after me.1 a) (after_load (4 + 36 * n) k me.0, me.1)))
      (λ is. (after_write me.0, keeps, tt, marked_node n seen inside odd s r at (load_version_at t s.words n inside ∙ is), refl))
      (λ miss. (after_load (4 + 36 * n) k me.0, keeps, tt, refused t slots id me caller s r n at, refl))

  pub marks_node_by_bits : (n place seen : ℕ) → place ≡ 4 + 36 * n → n < t.nodes → seen % 2 ≡ 1 → Allows Holds slots id me place (λ x. either (x == seen) (bit_or seen 3) x) (marks (step slots place seen (bit_or seen 3) none) me)
  marks_node_by_bits n place seen is inside odd =
      let sum = or_add_and seen 3 in
      let low = and_mask seen 2 in
      let set_bits : marked seen ≡ bit_or seen 3 = omega (arith, sum, low) in
      subst (λ p. Allows Holds slots id me p (λ x. either (x == seen) (bit_or seen 3) x) (marks (step slots p seen (bit_or seen 3) none) me)) (sym is)
      (subst (λ z. Allows Holds slots id me (4 + 36 * n) (λ x. either (x == seen) z x) (marks (step slots (4 + 36 * n) seen z none) me)) set_bits (marks_any n seen inside odd))

  -- of whichever lock it is, by its place
  pub marks_lock : (lock : LockId) (place seen : ℕ) → place ≡ lock_place lock → IsLock t lock → seen % 2 ≡ 1 → Allows Holds slots id me place (λ x. either (x == seen) (bit_or seen 3) x) (marks (step slots place seen (bit_or seen 3) none) me)
  marks_lock lock.Loader place seen is there odd = subst (λ p. Allows Holds slots id me p (λ x. either (x == seen) (bit_or seen 3) x) (marks (step slots p seen (bit_or seen 3) none) me)) (sym is) (marks_by_bits t slots id me caller seen odd)
  marks_lock (lock.Node n) place seen is there odd = marks_node_by_bits n place seen is there odd

-- the place of a lock is one of the table's words
pub lock_within : (t : Terms) (lock : LockId) → IsLock t lock → lock_place lock < word_count t
lock_within t lock.Loader there = omega arith
lock_within t (lock.Node n) there = omega (arith, there)
