-- A load of a node's version keeps the rule: a sight begins, or one that is found to stand marks those that it names.
use Rattle.std.proofs.Common.{◌≡◌, ℕ, zero, suc, ◌+◌, ◌-◌, ◌*◌, ◌%◌, ◌<◌, ◌≤◌, ◌≢◌, ◌⊎◌, ⊎_elim, List, [], ◌∷◌, get_or, set, length, ◌&&◌, map, sym, refl, ap, ◌∙◌, subst, inl, inr, arith, ◌==◌, not, nat_le, nat_lt, Bool, true, false, IsTrue, true≢false, Option, Some, None, IfSome, IsSome, is_some, take_all, option_map, eq-eqb, ne_eqb, if◌then◌else◌}
use Rattle.std.proofs.lemmas.Option.{none-some, same_Some}
use Rattle.std.specs.List.{AllByRecursion}
use mathlib.Core.Option.{none, some, some-injective}
use mathlib.Core.List.{IsPrefix}
use lib.ListN.{get_elem?}
use native.Mathlib.Decide.{ℕ_discrete}
use Rattle.atomic_table.specs.Table.{step, keeps, Allows}
use Rattle.reg_model.specs.declared.answer.Update.{Update}
use Rattle.reg_model.specs.declared.answer.Receipt.{Receipt}
use Rattle.tree_shape.specs.declared.node.NodeBounds.{NodeBounds}
use Rattle.tree_shape.specs.declared.pair.Pair.{Pair}
use Rattle.reg_model.specs.History.{state_after, state_at}
use Rattle.tree_shape.specs.NodeData.{Body, Pairs, Entries, Link, frame_of, pairs_in}
use Rattle.tree_laws.specs.Trees.{Contents, Branch, branches, branches_from}
use Rattle.tree_shape.specs.declared.limits.TheConstants.{HIGHEST_LEVEL}
use Rattle.tree_laws.specs.Lawful.{IsTree, IsOrderedAs, FitsParent}
use Rattle.word_rule.specs.declared.log.Role.{Role}
use Rattle.word_rule.specs.declared.log.Role.TheVariants as role
use Rattle.word_rule.specs.declared.log.Ask.TheVariants as ask
use Rattle.word_rule.specs.declared.log.Terms.{Terms}
use Rattle.word_rule.specs.declared.log.LoadedWord.{LoadedWord}
use Rattle.word_rule.specs.declared.log.NodeSight.{NodeSight}
use Rattle.word_rule.specs.declared.log.Log.{Log}
use Rattle.word_rule.specs.SharedWords.{NodeWords, SharedWords, memory_of}
use Rattle.word_rule.specs.Spelling.{node_word, is_short, pair_at, pairs_at, SpellsNode}
use Rattle.word_rule.specs.Logs.{is_gone, is_nameless, weight, turns, load_of, after_load, own_list}
use Rattle.word_rule.specs.NodeTells.{AloneTells, IsLiveNode, IsOfNode}
use Rattle.word_rule.specs.declared.log.Ask.{Ask}
use Rattle.reg_model.specs.declared.answer.Half.TheVariants as half
use Rattle.tree_laws.specs.Numbers.{once}
use Rattle.atomic_table.proofs.Lists.{set_here}
use Rattle.std.proofs.lemmas.Bool.{and_parts}
use Rattle.word_rule.proofs.Answering.{Told, answered}
use Rattle.word_rule.proofs.Refusals.{query_at, query_answers}
use Rattle.word_rule.proofs.Facts.{within, decided, set_twice}
use Rattle.word_rule.proofs.Each.{all_map}
use Rattle.word_rule.specs.Sights.{sight_of, without_sight, loaded_word, place_of, low_of, place_between, is_loaded_as, named_place, pairs_in_sight, place_under, or_mark, mark_child, sight_begun, sights_after_begin, sights_after_version, receipts_after_version, after_node_begin, after_node_version, try_receipts, is_leaf_for, query_receipt, with_receipts}
use Rattle.word_rule.specs.Held.{held_of}
use Rattle.word_rule.specs.Callers.{total, start, IsAlone, IsLockedAt}
use Rattle.word_rule.specs.Nodes.{Shadow, NodesHold, HeldBy, IsOpen, IsPlaced}
use Rattle.word_rule.specs.Observations.{Stands, AreInside, AreOfNode, SightHolds}
use Rattle.word_rule.specs.TableInvariant.{TableInvariant}
use Rattle.word_rule.specs.Plays.{Seated, begins_sight, loads_version}
use Rattle.word_rule.proofs.Memories.{load_version_at, content_length}
use Rattle.word_rule.proofs.Spells.{reads_pairs, eqb_true}
use Rattle.word_rule.proofs.Standing.{even_is_open, stands_spells, version_locked}
use Rattle.word_rule.proofs.CallersFrame.{idle_stays}
use Rattle.word_rule.proofs.Lineages.{others_nameless}
use Rattle.word_rule.proofs.ObservationsFrame.{observations_own, same_moment}
use Rattle.word_rule.proofs.Frames.{Sit, still_after_load}
use Rattle.word_rule.proofs.Quiet.{quiet}
use Rattle.word_rule.proofs.NodeLoads.{ltb_true}
use Rattle.word_rule.proofs.NodeLocks.{of_version}

-- the children of a live node are live, and as it names them, and none of them is the root: laws of tree_shape
pub record ChildrenLaw : Type 0 where
  pub live : (f : Contents) (live : ℕ → Bool) (n : ℕ) → IsTree f live → IsTrue (live n) → AllByRecursion (λ b. IsTrue (live b.child) × FitsParent f b) (branches ((f n).level - 1) (f n))
  pub never_root : (f : Contents) (live : ℕ → Bool) (n : ℕ) → IsTree f live → IsTrue (live n) → AllByRecursion (λ b. b.child ≢ 0) (branches ((f n).level - 1) (f n))

-- a loaded word is the node's
pub loaded_is : (words : List ℕ) (loaded : List LoadedWord) (at x : ℕ) → AreOfNode words loaded → loaded_word at loaded ≡ Some x → node_word words at ≡ x
loaded_is words [] at x all e = absurd (none-some x e)
loaded_is words (w ∷ loaded) at x all e = go (ℕ_discrete w.at at) (loaded_is words loaded at x all.1)
  where
    go : Dec (w.at ≡ at) → (loaded_word at loaded ≡ Some x → node_word words at ≡ x) → node_word words at ≡ x
    go (yes same) rest = ap (node_word words) (sym same) ∙ (all.0 ∙ same_Some _ _ (rw (eq-eqb w.at at same) at e))
    go (no ne) rest = rest (rw (ne_eqb w.at at ne) at e)

-- the parts of a place between two fences
between : (place : NodeBounds) (low high : Option ℕ) (p : NodeBounds) → place_between place low high ≡ Some p → (l : ℕ) × (h : ℕ) × ((low ≡ Some l) × (high ≡ Some h) × (p ≡ record { level = place.level - 1; low = l; high = h }))
between place None high p e = absurd (none-some p e)
between place (Some l) None p e = absurd (none-some p e)
between place (Some l) (Some h) p e = (l, h, (refl, refl, sym (same_Some _ _ e)))

mapped : (o : Option ℕ) (x : ℕ) → option_map (λ separator. separator + 1) o ≡ Some x → (y : ℕ) × ((o ≡ Some y) × (x ≡ y + 1))
mapped None x e = absurd (none-some x e)
mapped (Some y) x e = (y, (refl, sym (same_Some _ _ e)))

module _ (f : Contents) (live : ℕ → Bool) (words : List ℕ) (loaded : List LoadedWord) (all : AreOfNode words loaded) (child : ℕ) (place : NodeBounds) where
  -- the child that is named among the pairs from the i-th on is live, at the place that its pair gives
  named : (i more low : ℕ) (pairs : List Pair) (p : NodeBounds) → pairs_at words (6 + 2 * i) more ≡ Some pairs → ((l : ℕ) → low_of place i loaded ≡ Some l → l ≡ low)
      → AllByRecursion (λ b. IsTrue (live b.child) × FitsParent f b) (branches_from (place.level - 1) low pairs) → named_place child place loaded i more ≡ Some p → IsTrue (live child) × IsPlaced (f child) p
  named i zero low pairs p read first hold e = absurd (none-some p e)
  named i (suc more) low pairs p read first hold e = by_pair (λ low' ys. named (i + 1) more low' ys p) (is_short (node_word words (6 + 2 * i))) (pairs_at words (6 + 2 * i + 2) more) refl read
    where
      later : ((low' : ℕ) (ys : List Pair) → pairs_at words (6 + 2 * (i + 1)) more ≡ Some ys → ((l : ℕ) → low_of place (i + 1) loaded ≡ Some l → l ≡ low') → AllByRecursion (λ b. IsTrue (live b.child) × FitsParent f b) (branches_from (place.level - 1) low' ys) → named_place child place loaded (i + 1) more ≡ Some p → IsTrue (live child) × IsPlaced (f child) p) → (ys : List Pair) → pairs_at words (6 + 2 * i + 2) more ≡ Some ys → AllByRecursion (λ b. IsTrue (live b.child) × FitsParent f b) (branches_from (place.level - 1) (node_word words (6 + 2 * i + 1) + 1) ys) → named_place child place loaded (i + 1) more ≡ Some p → IsTrue (live child) × IsPlaced (f child) p
      later again ys rest hold' e' =
          let place_is : 6 + 2 * i + 2 ≡ 6 + 2 * (i + 1) = omega arith in
          let separator : 7 + 2 * i ≡ 6 + 2 * i + 1 = omega arith in
          let next : i + 1 ≡ suc i = omega arith in
          again (node_word words (6 + 2 * i + 1) + 1) ys (ap (λ k. pairs_at words k more) (sym place_is) ∙ rest)
          (λ l e''. let m = mapped (loaded_word (7 + 2 * i) loaded) l (subst (λ k. low_of place k loaded ≡ Some l) next e'') in m.1.1 ∙ ap (λ k. k + 1) (sym (loaded_is words loaded (7 + 2 * i) m.0 all m.1.0) ∙ ap (node_word words) separator)) hold' e'

      here : ((low' : ℕ) (ys : List Pair) → pairs_at words (6 + 2 * (i + 1)) more ≡ Some ys → ((l : ℕ) → low_of place (i + 1) loaded ≡ Some l → l ≡ low') → AllByRecursion (λ b. IsTrue (live b.child) × FitsParent f b) (branches_from (place.level - 1) low' ys) → named_place child place loaded (i + 1) more ≡ Some p → IsTrue (live child) × IsPlaced (f child) p) → (y : Pair) (ys : List Pair) → y ≡ pair_at words (6 + 2 * i) → pairs ≡ y ∷ ys → (b : Bool) → is_loaded_as child (loaded_word (6 + 2 * i) loaded) ≡ b
          → (if b then place_between place (low_of place i loaded) (loaded_word (7 + 2 * i) loaded) else named_place child place loaded (i + 1) more) ≡ Some p → pairs_at words (6 + 2 * i + 2) more ≡ Some ys → IsTrue (live child) × IsPlaced (f child) p
      here again y ys y_is pairs_are true test e' rest =
          let parts = between place (low_of place i loaded) (loaded_word (7 + 2 * i) loaded) p e' in
          let named_word : node_word words (6 + 2 * i) ≡ child = child_word (loaded_word (6 + 2 * i) loaded) refl test in
          let separator : 7 + 2 * i ≡ 6 + 2 * i + 1 = omega arith in
          let high : parts.1 ≡ y.separator = sym (loaded_is words loaded (7 + 2 * i) parts.1 all parts.2.1) ∙ (ap (node_word words) separator ∙ ap (λ z. z.separator) (sym y_is)) in
          let whole = subst (λ ps. AllByRecursion (λ b. IsTrue (live b.child) × FitsParent f b) (branches_from (place.level - 1) low ps)) pairs_are hold in
          let is_child : y.child ≡ child = ap (λ z. z.child) y_is ∙ named_word in
          let fit = whole.0.1 in
          let low_is = first parts.0 parts.2.0 in (
            subst (λ k. IsTrue (live k)) is_child whole.0.0,
            (
              ap (λ k. (f k).level) (sym is_child) ∙ (fit.level ∙ ap (λ z. z.level) (sym parts.2.2)),
              ap (λ k. (f k).low) (sym is_child) ∙ (fit.low ∙ (sym low_is ∙ ap (λ z. z.low) (sym parts.2.2))),
              ap (λ k. (f k).high) (sym is_child) ∙ (fit.high ∙ (sym high ∙ ap (λ z. z.high) (sym parts.2.2))),
            ),
          )
        where
          child_word : (o : Option ℕ) → loaded_word (6 + 2 * i) loaded ≡ o → is_loaded_as child o ≡ true → node_word words (6 + 2 * i) ≡ child
          child_word None is t = absurd (true≢false (sym t))
          child_word (Some z) is t = loaded_is words loaded (6 + 2 * i) z all is ∙ same_number (ℕ_discrete z child)
            where
              same_number : Dec (z ≡ child) → z ≡ child
              same_number (yes e'') = e''
              same_number (no ne) = absurd (true≢false (sym t ∙ ne_eqb z child ne))
      here again y ys y_is pairs_are false test e' rest =
          let whole = subst (λ ps. AllByRecursion (λ b. IsTrue (live b.child) × FitsParent f b) (branches_from (place.level - 1) low ps)) pairs_are hold in
          later again ys rest (subst (λ z. AllByRecursion (λ b. IsTrue (live b.child) × FitsParent f b) (branches_from (place.level - 1) (z.separator + 1) ys)) y_is whole.1) e'

      by_pair : ((low' : ℕ) (ys : List Pair) → pairs_at words (6 + 2 * (i + 1)) more ≡ Some ys → ((l : ℕ) → low_of place (i + 1) loaded ≡ Some l → l ≡ low') → AllByRecursion (λ b. IsTrue (live b.child) × FitsParent f b) (branches_from (place.level - 1) low' ys) → named_place child place loaded (i + 1) more ≡ Some p → IsTrue (live child) × IsPlaced (f child) p) → (b : Bool) (o : Option (List Pair)) → pairs_at words (6 + 2 * i + 2) more ≡ o → ◌≡◌ {A = Option (List Pair)} (if b then option_map (λ ps. pair_at words (6 + 2 * i) ∷ ps) o else None) (Some pairs) → IsTrue (live child) × IsPlaced (f child) p
      by_pair again true None is read' = absurd (none-some pairs read')
      by_pair again true (Some ys) is read' = here again (pair_at words (6 + 2 * i)) ys refl (sym (same_Some _ _ read')) (is_loaded_as child (loaded_word (6 + 2 * i) loaded)) refl e is
      by_pair again false o is read' = absurd (none-some pairs read')

module _ (t : Terms) (words : NodeWords) (views : List Log) (history : List Update) (shadow : Shadow) (r : NodesHold t words views history shadow) (law : ChildrenLaw) where
  -- the place that a sight that stands gives to a child
  under : (s : NodeSight) → SightHolds t words history shadow s → Stands words.versions shadow s → (child : ℕ) (p : NodeBounds) → place_under child s (place_of s) ≡ Some p → IsTrue (shadow.live child) × IsPlaced (shadow.settled child) p
  under s h stands child p e = go (place_of s) (h.marked stands) e
    where
      spells : SpellsNode (words.contents s.node) (shadow.settled s.node)
      spells = stands_spells t words views history shadow r s h.within h.even stands

      go : (o : Option NodeBounds) → IfSome o (λ f. IsTrue (shadow.live s.node) × IsPlaced (shadow.settled s.node) f) → place_under child s o ≡ Some p → IsTrue (shadow.live child) × IsPlaced (shadow.settled child) p
      go None marked f = absurd (none-some p f)
      go (Some place) marked f = inner (nat_lt 0 place.level) refl f
        where
          body : (b : Body) → (shadow.settled s.node).body ≡ b → IsOrderedAs (shadow.settled s.node) b → 0 < place.level → (count : Option ℕ) → loaded_word 5 s.words ≡ count → named_place child place s.words 0 (pairs_in_sight count) ≡ Some p → IsTrue (shadow.live child) × IsPlaced (shadow.settled child) p
          body (Entries es) is ordered above count known g = absurd (let a = ordered.0 in let b = marked.1.0 in omega (arith, a, b, above))
          body (Link next) is ordered above count known g = absurd ordered
          body (Pairs ps) is ordered above None known g = absurd (none-some p g)
          body (Pairs ps) is ordered above (Some n) known g = counted (nat_le n 15) g
            where
              counted : (b : Bool) → named_place child place s.words 0 (if b then n else 0) ≡ Some p → IsTrue (shadow.live child) × IsPlaced (shadow.settled child) p
              counted false z = absurd (none-some p z)
              counted true z =
                  let number : node_word (words.contents s.node) 5 ≡ n = loaded_is (words.contents s.node) s.words 5 n (h.loaded stands) known in
                  let read = reads_pairs (words.contents s.node) (shadow.settled s.node) ps spells is in
                  let zero_place : 6 + 2 * 0 ≡ 6 = omega arith in
                  let kids = law.live shadow.settled shadow.live s.node r.lawful.tree marked.0 in
                  let kids' : AllByRecursion (λ b. IsTrue (shadow.live b.child) × FitsParent shadow.settled b) (branches_from (place.level - 1) (shadow.settled s.node).low ps) =
                  subst (λ q. AllByRecursion (λ b. IsTrue (shadow.live b.child) × FitsParent shadow.settled b) (branches_from (q - 1) (shadow.settled s.node).low ps)) marked.1.0
                  (subst (λ q. AllByRecursion (λ b. IsTrue (shadow.live b.child) × FitsParent shadow.settled b) (branches_from ((shadow.settled s.node).level - 1) (shadow.settled s.node).low (pairs_in q))) is kids) in
                  named shadow.settled shadow.live (words.contents s.node) s.words (h.loaded stands) child place 0 n (shadow.settled s.node).low ps p
                  (ap (λ k. pairs_at (words.contents s.node) k n) zero_place ∙ (ap (pairs_at (words.contents s.node) 6) (sym number) ∙ read))
                  (λ l q. sym (same_Some _ _ q) ∙ sym marked.1.1) kids' z

          inner : (b : Bool) → nat_lt 0 place.level ≡ b → (if b then named_place child place s.words 0 (pairs_in_sight (loaded_word 5 s.words)) else None) ≡ Some p → IsTrue (shadow.live child) × IsPlaced (shadow.settled child) p
          inner false test g = absurd (none-some p g)
          inner true test g = body (shadow.settled s.node).body refl (r.lawful.tree.ordered s.node marked.0) (ltb_true 0 place.level test) (loaded_word 5 s.words) refl g

  -- a child's sight, marked by its parent's
  marks : (s c : NodeSight) → SightHolds t words history shadow s → Stands words.versions shadow s → SightHolds t words history shadow c → SightHolds t words history shadow (mark_child s c)
  marks s c h stands g = go (c.node == s.node)
    where
      with_mark : (x : Option NodeBounds) → (place_of (record c { mark = x }) ≡ place_of c) ⊎ ((p : NodeBounds) × ((place_of (record c { mark = x }) ≡ Some p) × (IsTrue (shadow.live c.node) × IsPlaced (shadow.settled c.node) p))) → SightHolds t words history shadow (record c { mark = x })
      with_mark x told = record {
        within = g.within;
        even = g.even;
        later = g.later;
        places = g.places;
        loaded = g.loaded;
        marked = λ st. marked_by told st;
        clock = g.clock;
      }
        where
          marked_by : (place_of (record c { mark = x }) ≡ place_of c) ⊎ ((p : NodeBounds) × ((place_of (record c { mark = x }) ≡ Some p) × (IsTrue (shadow.live c.node) × IsPlaced (shadow.settled c.node) p))) → Stands words.versions shadow c
              → IfSome (place_of (record c { mark = x })) (λ f. IsTrue (shadow.live c.node) × IsPlaced (shadow.settled c.node) f)
          marked_by (inl same) st = subst (λ o. IfSome o (λ f. IsTrue (shadow.live c.node) × IsPlaced (shadow.settled c.node) f)) (sym same) (g.marked st)
          marked_by (inr new) st = subst (λ o. IfSome o (λ f. IsTrue (shadow.live c.node) × IsPlaced (shadow.settled c.node) f)) (sym new.1.0) new.1.1

      place_with : (x : Option NodeBounds) → ((c.node ≡ 0) × (place_of (record c { mark = x }) ≡ place_of c)) ⊎ ((place_of (record c { mark = x }) ≡ x) × (place_of c ≡ c.mark))
      place_with x = at_root (ℕ_discrete c.node 0)
        where
          at_root : Dec (c.node ≡ 0) → ((c.node ≡ 0) × (place_of (record c { mark = x }) ≡ place_of c)) ⊎ ((place_of (record c { mark = x }) ≡ x) × (place_of c ≡ c.mark))
          at_root (yes e) = inl (e, rw (eq-eqb c.node 0 e) refl)
          at_root (no ne) = inr (rw (ne_eqb c.node 0 ne) refl, rw (ne_eqb c.node 0 ne) refl)

      marked_child : (o : Option NodeBounds) → place_under c.node s (place_of s) ≡ o → SightHolds t words history shadow (record c { mark = or_mark o c.mark })
      marked_child None is = with_mark c.mark (inl refl)
      marked_child (Some p) is = pick (place_with (Some p))
        where
          pick : ((c.node ≡ 0) × (place_of (record c { mark = Some p }) ≡ place_of c)) ⊎ ((place_of (record c { mark = Some p }) ≡ Some p) × (place_of c ≡ c.mark)) → SightHolds t words history shadow (record c { mark = Some p })
          pick (inl root) = with_mark (Some p) (inl root.1)
          pick (inr other) = with_mark (Some p) (inr (p, (other.0, under s h stands c.node p is)))

      go : (b : Bool) → SightHolds t words history shadow (if b then c else record c { mark = or_mark (place_under c.node s (place_of s)) c.mark })
      go true = g
      go false = marked_child (place_under c.node s (place_of s)) refl

  all_marked : (s : NodeSight) → SightHolds t words history shadow s → Stands words.versions shadow s → (cs : List NodeSight) → AllByRecursion (SightHolds t words history shadow) cs → AllByRecursion (SightHolds t words history shadow) (map (mark_child s) cs)
  all_marked s h stands [] all = tt
  all_marked s h stands (c ∷ cs) all = (marks s c h stands all.0, all_marked s h stands cs all.1)

  -- a sight that begins
  begins : (n found : ℕ) → n < t.nodes → words.versions n ≡ found → found % 2 ≡ 0 → SightHolds t words history shadow (sight_begun n found)
  begins n found inside is even =
      let open_now = subst (IsOpen (words.versions n) (words.contents n) (shadow.settled n)) (even_is_open t words views history shadow r n (ap (λ k. k % 2) is ∙ even)) (r.unlocked n inside) in
      record {
        within = inside;
        even = ap (λ k. k % 4) (sym is) ∙ open_now.0;
        later = omega (arith, is);
        places = tt;
        loaded = λ _. tt;
        marked = λ _. at_root (ℕ_discrete n 0);
        clock = λ _. tt;
      }
    where
      at_root : Dec (n ≡ 0) → IfSome (place_of (sight_begun n found)) (λ f. IsTrue (shadow.live n) × IsPlaced (shadow.settled n) f)
      at_root (yes e) = rw (eq-eqb n 0 e) tt
      at_root (no ne) = rw (ne_eqb n 0 ne) tt

  kept : (n : ℕ) (cs : List NodeSight) → AllByRecursion (SightHolds t words history shadow) cs → AllByRecursion (SightHolds t words history shadow) (without_sight n cs)
  kept n [] all = tt
  kept n (c ∷ cs) all = go (not (c.node == n)) (kept n cs all.1)
    where
      go : (b : Bool) → AllByRecursion (SightHolds t words history shadow) (without_sight n cs) → AllByRecursion (SightHolds t words history shadow) (if b then (c ∷ without_sight n cs) else without_sight n cs)
      go true rest = (all.0, rest)
      go false rest = rest

  pub found_sight : (n : ℕ) (cs : List NodeSight) (s : NodeSight) → AllByRecursion (SightHolds t words history shadow) cs → sight_of n cs ≡ Some s → SightHolds t words history shadow s × (s.node ≡ n)
  found_sight n [] s all e = absurd (none-some s e)
  found_sight n (c ∷ cs) s all e = go (ℕ_discrete c.node n) (found_sight n cs s all.1)
    where
      go : Dec (c.node ≡ n) → (sight_of n cs ≡ Some s → SightHolds t words history shadow s × (s.node ≡ n)) → SightHolds t words history shadow s × (s.node ≡ n)
      go (yes same) rest = let is : c ≡ s = same_Some _ _ (rw (eq-eqb c.node n same) at e) in (subst (SightHolds t words history shadow) is all.0, ap (λ k. k.node) (sym is) ∙ same)
      go (no ne) rest = rest (rw (ne_eqb c.node n ne) at e)

  -- all sights, after the version was found
  after_version : (n found : ℕ) → n < t.nodes → words.versions n ≡ found → (cs : List NodeSight) (o : Option NodeSight) → sight_of n cs ≡ o → AllByRecursion (SightHolds t words history shadow) cs → AllByRecursion (SightHolds t words history shadow) (sights_after_version n found o cs)
  after_version n found inside is cs None none_there all = even_or_not (ℕ_discrete (found % 2) 0)
    where
      even_or_not : Dec (found % 2 ≡ 0) → AllByRecursion (SightHolds t words history shadow) (if found % 2 == 0 then (sight_begun n found ∷ cs) else cs)
      even_or_not (yes e) = rw (eq-eqb (found % 2) 0 e) (begins n found inside is e, all)
      even_or_not (no ne) = rw (ne_eqb (found % 2) 0 ne) all
  after_version n found inside is cs (Some s) there all = same_or_not (ℕ_discrete s.version found) (ℕ_discrete (found % 2) 0)
    where
      same_or_not : Dec (s.version ≡ found) → Dec (found % 2 ≡ 0) → AllByRecursion (SightHolds t words history shadow) (if s.version == found then map (mark_child s) cs else (if found % 2 == 0 then (sight_begun n found ∷ without_sight n cs) else cs))
      same_or_not (yes e) even = let h = found_sight n cs s all there in rw (eq-eqb s.version found e) (all_marked s h.0 (inl (ap words.versions h.1 ∙ (is ∙ sym e))) cs all)
      same_or_not (no ne) (yes e) = rw (ne_eqb s.version found ne, eq-eqb (found % 2) 0 e) (begins n found inside is e, kept n cs all)
      same_or_not (no ne) (no odd) = rw (ne_eqb s.version found ne, ne_eqb (found % 2) 0 odd) all

  -- and where one is begun anew
  begun_anew : (n found : ℕ) → n < t.nodes → words.versions n ≡ found → (cs : List NodeSight) → AllByRecursion (SightHolds t words history shadow) cs → AllByRecursion (SightHolds t words history shadow) (sights_after_begin n found cs)
  begun_anew n found inside is cs all = go (ℕ_discrete (found % 2) 0)
    where
      go : Dec (found % 2 ≡ 0) → AllByRecursion (SightHolds t words history shadow) (if found % 2 == 0 then (sight_begun n found ∷ without_sight n cs) else cs)
      go (yes e) = rw (eq-eqb (found % 2) 0 e) (begins n found inside is e, kept n cs all)
      go (no odd) = rw (ne_eqb (found % 2) 0 odd) all

  live_inside : (k : ℕ) → IsTrue (shadow.live k) → k < t.nodes
  live_inside k alive = go (nat_lt k t.nodes) refl
    where
      go : (b : Bool) → nat_lt k t.nodes ≡ b → k < t.nodes
      go true e = ltb_true k t.nodes e
      go false e = let all = r.each_once k in let mine : once (shadow.live k) ≡ 1 = ap once alive in let nothing : once (nat_lt k t.nodes) ≡ 0 = ap once e in absurd (omega (arith, all, mine, nothing))

  -- what is said of a live node at its place
  pub is_live_node : (n : ℕ) (f : NodeBounds) → IsTrue (shadow.live n) → IsPlaced (shadow.settled n) f → IsLiveNode t n (shadow.settled n) f
  is_live_node n f alive placed = record {
    placed = placed;
    ordered = r.lawful.tree.ordered n alive;
    filled = r.lawful.filled n alive;
    height = λ root. subst (λ k. (shadow.settled k).level ≤ HIGHEST_LEVEL) (sym root) r.lawful.tree.height;
    places = λ k. frame_of (shadow.settled k);
    own = refl;
    children = kids (branches ((shadow.settled n).level - 1) (shadow.settled n)) (law.live shadow.settled shadow.live n r.lawful.tree alive) (law.never_root shadow.settled shadow.live n r.lawful.tree alive);
  }
    where
      kids : (bs : List Branch) → AllByRecursion (λ b. IsTrue (shadow.live b.child) × FitsParent shadow.settled b) bs → AllByRecursion (λ b. b.child ≢ 0) bs
          → AllByRecursion (λ b. (b.child < t.nodes) × (b.child ≢ 0) × (frame_of (shadow.settled b.child) ≡ b.frame)) bs
      kids [] all others = tt
      kids (b ∷ bs) all others =
          let fit = all.0.1 in
          ((live_inside b.child all.0.0, others.0, (λ i. record { level = fit.level i; low = fit.low i; high = fit.high i })), kids bs all.1 others.1)

  -- what a sight that stands is of
  is_of : ((k : ℕ) → k < t.nodes → length (words.contents k) ≡ 35) → (past : List Update) → IsPrefix past history → (s : NodeSight) → SightHolds t words history shadow s → Stands words.versions shadow s → IsOfNode t past s
  is_of wide past seen s h stands = record {
    words = words.contents s.node;
    shape = shadow.settled s.node;
    wide = wide s.node h.within;
    spells = stands_spells t words views history shadow r s h.within h.even stands;
    loaded_so = h.loaded stands;
    live = go (place_of s) (h.marked stands);
    entries = at_clock s.clock (h.clock stands);
  }
    where
      alive : (o : Option NodeBounds) → IfSome o (λ f. IsTrue (shadow.live s.node) × IsPlaced (shadow.settled s.node) f) → IsSome o → IsTrue (shadow.live s.node)
      alive None marked there = absurd (true≢false (sym there))
      alive (Some f) marked there = marked.0

      at_clock : (o : Option ℕ) → IfSome o (λ k. (k ≤ length history) × (IsTrue (shadow.live s.node) → (shadow.settled s.node).level ≡ 0 → AreInside (state_at (start t) history k).registered (shadow.settled s.node)))
          → IfSome o (λ k. k ≡ length past → IsSome (place_of s) → (shadow.settled s.node).level ≡ 0 → AreInside (state_after (start t) past).registered (shadow.settled s.node))
      at_clock None told = tt
      at_clock (Some k) told = λ all there level.
          let now : state_at (start t) history k ≡ state_after (start t) past = same_moment t past history k seen (omega (arith, all)) ∙ ap (state_after (start t)) (take_all k past (omega (arith, all))) in
          subst (λ st. AreInside st.registered (shadow.settled s.node)) now (told.1 (alive (place_of s) (h.marked stands) there) level)

      go : (o : Option NodeBounds) → IfSome o (λ f. IsTrue (shadow.live s.node) × IsPlaced (shadow.settled s.node) f) → IfSome o (IsLiveNode t s.node (shadow.settled s.node))
      go None marked = tt
      go (Some f) marked = is_live_node s.node f marked.0 marked.1

  pub found_again : ((k : ℕ) → k < t.nodes → length (words.contents k) ≡ 35) → (past : List Update) → IsPrefix past history → (u : Terms) → u ≡ t → (n found : ℕ) → words.versions n ≡ found → (o : Option NodeSight) (cs : List NodeSight) → sight_of n cs ≡ o → AllByRecursion (SightHolds t words history shadow) cs → IfSome o (λ s. s.version ≡ found → IsOfNode u past s)
  found_again wide past seen u terms n found is None cs there all = tt
  found_again wide past seen u terms n found is (Some s) cs there all = λ same. let h = found_sight n cs s all there in subst (λ k. IsOfNode k past s) (sym terms) (is_of wide past seen s h.0 (inl (ap words.versions h.1 ∙ (is ∙ sym same))))

-- the receipts of a version are those of a try, which holds now
told_version : (t : Terms) (callers : ℕ) (v : Log) (a : Ask) (found : ℕ) (o : Option NodeSight) → v.terms ≡ t → Told t v.past callers (own_list v.receipts) (receipts_after_version v a found o)
told_version t callers v a found None terms = inl refl
told_version t callers v a found (Some s) terms = go (s.version == found) (tried a s.clock)
  where
    go : (b : Bool) → Told t v.past callers (own_list v.receipts) (try_receipts v a s s.clock) → Told t v.past callers (own_list v.receipts) (if b then try_receipts v a s s.clock else [])
    go true told = told
    go false told = inl refl

    tried : (b : Ask) (clock : Option ℕ) → Told t v.past callers (own_list v.receipts) (try_receipts v b s clock)
    tried ask.Nothing clock = inl refl
    tried (ask.Loaded pc) clock = inl refl
    tried (ask.Refused u) clock = inl refl
    tried (ask.Registered pc) None = inl refl
    tried (ask.Registered pc) (Some stamp) = by_test (is_leaf_for pc (place_of s) && (stamp == length v.past)) refl
      where
        by_test : (b : Bool) → (is_leaf_for pc (place_of s) && (stamp == length v.past)) ≡ b → Told t v.past callers (own_list v.receipts) (if b then (query_receipt half.Registered v pc stamp ∷ []) else [])
        by_test false is = inl refl
        by_test true is =
            let now : stamp ≡ length v.past = eqb_true stamp (length v.past) (and_parts (is_leaf_for pc (place_of s)) (stamp == length v.past) is).1 in
            inr (query_at t v.past half.Registered pc (length v.past), ((λ i. query_at (terms i) v.past half.Registered pc (now i) ∷ []), query_answers t v.past half.Registered pc _ _))

-- what the version tells one that is alone
module _ (t : Terms) (words : List ℕ) (views : List Log) (r : TableInvariant t words views) (id : ℕ) (v : Log) (here : get_elem? views id ≡ some v) (n : ℕ) (inside : n < t.nodes) where
  abbrev found : ℕ
  found = get_or words (4 + 36 * n) 0

  abbrev nodes : NodeWords
  nodes = (memory_of t words).nodes

  is_version : nodes.versions n ≡ found
  is_version = load_version_at t words n inside

  -- nobody holds it where the caller is alone and holds nothing
  unlocked : IsAlone v.lineage → v.holdings.held ≡ [] → (o : Option ℕ) → r.memory.shadow.holder n ≡ o → found % 2 ≡ 0
  unlocked alone none_held None e =
      let z = (subst (IsOpen (nodes.versions n) (nodes.contents n) (r.memory.shadow.settled n)) e (r.memory.nodes.unlocked n inside)).0 in let is = is_version in omega (arith, z, is)
  unlocked alone none_held (Some j) e =
      let b = subst (HeldBy n views) e (r.memory.nodes.holders n) in
      absurd (⊎_elim
      (λ (is : j ≡ id). nothing b.0 (ap (λ (u : Log). u.holdings.held) (some-injective b.0 v (sym b.1.0 ∙ (ap (get_elem? views) is ∙ here))) ∙ none_held) b.1.1)
      (λ (far : j ≢ id).
      let gone = others_nameless views r.memory.callers.lineages id v here alone j b.0 far b.1.0 in
      nothing b.0 ((r.memory.callers.each j b.0 b.1.0).idle (weightless b.0.role gone)).held b.1.1)
      (decided j id))
    where
      nothing : (u : Log) → u.holdings.held ≡ [] → IsSome (held_of n u.holdings.held) → ⊥
      nothing u empty there = true≢false (sym there ∙ ap (λ hs. is_some (held_of n hs)) empty)

      weightless : (a : Role) → is_nameless a ≡ true → weight a ≡ 0
      weightless role.Caller gone = absurd (true≢false (sym gone))
      weightless role.Note gone = refl
      weightless role.Reader gone = refl
      weightless role.Spent gone = refl

  pub told_alone : AloneTells n found v
  told_alone alone = (
    (λ none_held. unlocked alone none_held (r.memory.shadow.holder n) refl),
    all_map (λ l. l.turns ≡ turns v.trace → get_or words l.word 0 ≡ l.found) (λ l. l.word ≡ 4 + 36 * n → l.turns ≡ turns v.trace → l.found ≡ found)
        (λ l as_found word turn. sym (as_found turn) ∙ ap (λ k. get_or words k 0) word) v.trace.loads (r.alone id v here alone),
  )

module _ (t : Terms) (slots id : ℕ) (me : Seated) (live : is_gone me.0.role ≡ false) where
  abbrev Holds : Sit → Type 0
  Holds s = TableInvariant t s.words s.views

  pub loads_node_version : ChildrenLaw → (a : Ask) (n : ℕ) → n < t.nodes → Allows Holds slots id me (4 + 36 * n) (λ k. k) (loads_version t a n (step slots (4 + 36 * n) 0 0 none) me)
  loads_node_version law a n inside s r deep here small =
      let found : ℕ = get_or s.words (4 + 36 * n) 0 in
      let w : Log = record (after_load (4 + 36 * n) found me.0) { sights = record me.0.sights { nodes = sights_after_version n found (sight_of n me.0.sights.nodes) me.0.sights.nodes } } in
      let m : SharedWords = memory_of t s.words in
      let callers : ℕ = total (λ u. u.made) s.views + 1 in
      let o = r.memory.observations id me.0 here in
      let terms : me.0.terms ≡ t = (r.memory.callers.each id me.0 here).terms live in
      let at = load_version_at t s.words n inside in
      let sights = after_version t m.nodes s.views r.memory.history r.memory.shadow r.memory.nodes law n found inside at me.0.sights.nodes (sight_of n me.0.sights.nodes) refl o.sights in
      let looked : TableInvariant t (set s.words (4 + 36 * n) found) (set s.views id w) =
      quiet t s.words s.views r id me.0 w here (4 + 36 * n) (record { terms = refl; role = refl; past = refl; receipts = refl; allowance = refl; made = refl; lineage = refl }) refl refl
      (idle_stays me.0 w refl refl (r.memory.callers.each id me.0 here).idle) (r.memory.nodes.holdings id me.0 here) (λ _ h. h) (λ _. refl)
      (observations_own t m r.memory.history callers r.memory.shadow me.0 w (load_of me.0 (4 + 36 * n) found ∷ []) (record { own = refl; turns = omega arith; loads = refl }) sights o.copies (of_version t id me s r n, tt) ((omega arith, omega arith), tt) o)
      (λ alone. still_after_load s.words me.0 w (load_of me.0 (4 + 36 * n) found) refl refl refl (r.alone id me.0 here alone)) in
      let rs : List Receipt = receipts_after_version me.0 a found (sight_of n me.0.sights.nodes) in
      let both : set (set s.views id w) id (with_receipts rs w) ≡ set s.views id (with_receipts rs w) = set_twice s.views id w (with_receipts rs w) in (
        after_node_version a n found me.0,
        keeps,
        tt,
        subst (λ vs. TableInvariant t (set s.words (4 + 36 * n) found) vs) both
            (answered t (set s.words (4 + 36 * n) found) (set s.views id w) looked id w (set_here s.views id w (within s.views id me.0 here)) rs (told_version t _ me.0 a found (sight_of n me.0.sights.nodes) terms)),
        (
          refl,
          terms,
          found_again t m.nodes s.views r.memory.history r.memory.shadow r.memory.nodes law (content_length t s.words r.wide) me.0.past (r.memory.callers.each id me.0 here).begins me.0.terms terms n found at (sight_of n me.0.sights.nodes) me.0.sights.nodes refl o.sights,
          subst (λ k. IfSome (held_of n me.0.holdings.held) (λ h. IsLockedAt h.version k)) at (version_locked t m.nodes s.views r.memory.history r.memory.shadow r.memory.nodes id me.0 n here),
          told_alone t s.words s.views r id me.0 here n inside,
        ),
      )

  -- the same as the code has it
  pub loads_version_of : ChildrenLaw → (u : Terms) (a b : Ask) (n k place : ℕ) → t ≡ u → b ≡ a → k ≡ n → place ≡ 4 + 36 * n → n < t.nodes → Allows Holds slots id me place (λ x. x) (loads_version u b k (step slots place 0 0 none) me)
  loads_version_of law u a b n k place same asked node is inside =
      subst (λ p. Allows Holds slots id me p (λ x. x) (loads_version u b k (step slots p 0 0 none) me)) (sym is)
      (subst (λ j. Allows Holds slots id me (4 + 36 * n) (λ x. x) (loads_version u b j (step slots (4 + 36 * n) 0 0 none) me)) (sym node)
      (subst (λ j. Allows Holds slots id me (4 + 36 * n) (λ x. x) (loads_version u j n (step slots (4 + 36 * n) 0 0 none) me)) (sym asked)
      (subst (λ j. Allows Holds slots id me (4 + 36 * n) (λ x. x) (loads_version j a n (step slots (4 + 36 * n) 0 0 none) me)) same (loads_node_version law a n inside))))

  -- A sight of a node begins anew.
  pub begins_node_sight : ChildrenLaw → (n : ℕ) → n < t.nodes → Allows Holds slots id me (4 + 36 * n) (λ k. k) (begins_sight n (step slots (4 + 36 * n) 0 0 none) me)
  begins_node_sight law n inside s r deep here small =
      let found : ℕ = get_or s.words (4 + 36 * n) 0 in
      let w : Log = after_node_begin n found me.0 in
      let m : SharedWords = memory_of t s.words in
      let callers : ℕ = total (λ u. u.made) s.views + 1 in
      let o = r.memory.observations id me.0 here in
      let at = load_version_at t s.words n inside in
      let sights = begun_anew t m.nodes s.views r.memory.history r.memory.shadow r.memory.nodes law n found inside at me.0.sights.nodes o.sights in (
        w,
        keeps,
        tt,
        quiet t s.words s.views r id me.0 w here (4 + 36 * n) (record { terms = refl; role = refl; past = refl; receipts = refl; allowance = refl; made = refl; lineage = refl }) refl refl
            (idle_stays me.0 w refl refl (r.memory.callers.each id me.0 here).idle) (r.memory.nodes.holdings id me.0 here) (λ _ h. h) (λ _. refl)
            (observations_own t m r.memory.history callers r.memory.shadow me.0 w (load_of me.0 (4 + 36 * n) found ∷ []) (record { own = refl; turns = omega arith; loads = refl }) sights o.copies (of_version t id me s r n, tt) ((omega arith, omega arith), tt) o)
            (λ alone. still_after_load s.words me.0 w (load_of me.0 (4 + 36 * n) found) refl refl refl (r.alone id me.0 here alone)),
        (
          refl,
          subst (λ k. IfSome (held_of n me.0.holdings.held) (λ h. IsLockedAt h.version k)) at (version_locked t m.nodes s.views r.memory.history r.memory.shadow r.memory.nodes id me.0 n here),
          told_alone t s.words s.views r id me.0 here n inside,
        ),
      )

  pub begins_sight_of : ChildrenLaw → (n k place : ℕ) → k ≡ n → place ≡ 4 + 36 * n → n < t.nodes → Allows Holds slots id me place (λ x. x) (begins_sight k (step slots place 0 0 none) me)
  begins_sight_of law n k place node is inside =
      subst (λ p. Allows Holds slots id me p (λ x. x) (begins_sight k (step slots p 0 0 none) me)) (sym is)
      (subst (λ j. Allows Holds slots id me (4 + 36 * n) (λ x. x) (begins_sight j (step slots (4 + 36 * n) 0 0 none) me)) (sym node) (begins_node_sight law n inside))
