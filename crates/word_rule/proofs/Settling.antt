-- What is said of nodes and of sights stays where settled contents change: what such a change owes.
use Rattle.std.proofs.Common.{◌≡◌, ◌≢◌, ℕ, ◌+◌, ◌%◌, ◌<◌, List, [], ◌∷◌, set, map, sym, refl, ap, ◌∙◌, subst, ⊎_elim, arith, ◌==◌, Bool, false, IsTrue, Option, Some, None, IfSome, IsSome, option_map, Contains, ◌↔◌, eq-eqb, ne_eqb, append-nil}
use Rattle.std.proofs.lemmas.Option.{none-some, same_Some}
use Rattle.std.proofs.lemmas.List.Sums.{sum_by-cons}
use Rattle.std.specs.List.{AllByRecursion, count_by}
use mathlib.Core.Option.{some}
use native.Mathlib.Decide.{ℕ_discrete}
use lib.ListN.{get_elem?}
use Rattle.tree_shape.specs.declared.node.NodeBounds.{NodeBounds}
use mathlib.Core.List.{IsPrefix}
use Rattle.reg_model.specs.declared.span.Member.{Member}
use Rattle.reg_model.specs.declared.answer.Update.{Update}
use Rattle.reg_model.specs.History.{state_after}
use Rattle.tree_laws.specs.Trees.{Contents, HasEntry}
use Rattle.tree_laws.specs.Lawful.{IsLawfulTree}
use Rattle.word_rule.specs.declared.log.Holdings.{Holdings}
use Rattle.tree_laws.specs.Numbers.{times, once}
use Rattle.tree_laws.specs.LocalChange.{AgreeOn}
use Rattle.word_rule.specs.declared.log.Role.TheVariants as role
use Rattle.word_rule.specs.declared.log.Terms.{Terms}
use Rattle.word_rule.specs.declared.log.Holding.{Holding}
use Rattle.word_rule.specs.declared.log.NodeSight.{NodeSight}
use Rattle.word_rule.specs.declared.log.Log.{Log}
use Rattle.word_rule.specs.SharedWords.{SharedWords, memory_of}
use Rattle.word_rule.specs.Spelling.{SpellsNode}
use Rattle.word_rule.specs.Held.{held_of}
use Rattle.word_rule.specs.Logs.{is_nameless}
use Rattle.word_rule.specs.Callers.{start, total, IsLockedAt}
use Rattle.word_rule.specs.Nodes.{Shadow, NodesHold, HoldsNode, HoldingsHold, IsOpen, IsPlaced}
use Rattle.word_rule.specs.Observations.{Stands, SightHolds, ObservationsHold}
use Rattle.word_rule.specs.TableInvariant.{TableInvariant}
use Rattle.word_rule.proofs.Facts.{total_set, total_same, after_step}
use Rattle.word_rule.proofs.Each.{all_map}
use Rattle.word_rule.proofs.Standing.{locked_is_odd, held_by}
use Rattle.word_rule.proofs.CallersFrame.{busy}
use Rattle.word_rule.proofs.NodesFrame.{holder_stays}
use Rattle.word_rule.proofs.ObservationsFrame.{sight_over, observations_over}
use Rattle.word_rule.proofs.Frames.{table_step}
use Rattle.word_rule.proofs.Writes.{callers_over_nodes}

-- contents that agree with a lawful tree on its live nodes are one: a law of tree_shape
abbrev pub AgreementLaw : Type 0
AgreementLaw = (f g : Contents) (live : ℕ → Bool) → IsLawfulTree f live → AgreeOn live f g → IsLawfulTree g live

-- locks that are each changed but for their node
module _ (f : Holding → Holding) (same_node : (h : Holding) → (f h).node ≡ h.node) where
  pub mapped_all : (P : Holding → Type 0) (held : List Holding) → AllByRecursion (λ h. P (f h)) held → AllByRecursion P (map f held)
  mapped_all P [] all = tt
  mapped_all P (h ∷ held) all = (all.0, mapped_all P held all.1)

  pub mapped_once : (k : ℕ) (held : List Holding) → count_by (λ h. h.node == k) (map f held) ≡ count_by (λ h. h.node == k) held
  mapped_once k [] = refl
  mapped_once k (h ∷ held) =
      let c = sum_by-cons (λ (g : Holding). once (g.node == k)) h held in let d = sum_by-cons (λ (g : Holding). once (g.node == k)) (f h) (map f held) in
      let same : once ((f h).node == k) ≡ once (h.node == k) = ap (λ z. once (z == k)) (same_node h) in let rest = mapped_once k held in omega (arith, c, d, same, rest)

  pub mapped_held : (k : ℕ) (held : List Holding) → held_of k (map f held) ≡ option_map f (held_of k held)
  mapped_held k [] = refl
  mapped_held k (h ∷ held) = go (ℕ_discrete h.node k) (mapped_held k held)
    where
      go : Dec (h.node ≡ k) → held_of k (map f held) ≡ option_map f (held_of k held) → held_of k (map f (h ∷ held)) ≡ option_map f (held_of k (h ∷ held))
      go (yes e) rest = rw (eq-eqb (f h).node k (same_node h ∙ e), eq-eqb h.node k e) refl
      go (no ne) rest = rw (ne_eqb (f h).node k (λ z. ne (sym (same_node h) ∙ z)), ne_eqb h.node k ne) rest

  pub mapped_kept : (k : ℕ) (held : List Holding) → IsSome (held_of k held) → IsSome (held_of k (map f held))
  mapped_kept k held some_lock = subst IsSome (sym (mapped_held k held)) (go (held_of k held) some_lock)
    where
      go : (o : Option Holding) → IsSome o → IsSome (option_map f o)
      go None h = h
      go (Some h) e = refl

module _ (t : Terms) (id : ℕ) (v : Log) (caller : v.role ≡ role.Caller) (words : List ℕ) (views : List Log) (r : TableInvariant t words views) (at : get_elem? views id ≡ some v) where
  stands : is_nameless v.role ≡ false
  stands = ap is_nameless caller

  mine_of : (k : ℕ) (h : Holding) → held_of k v.holdings.held ≡ Some h → HoldsNode t (memory_of t words).nodes r.memory.shadow id h × (h.node ≡ k)
  mine_of k h f = held_by t (memory_of t words).nodes views r.memory.history r.memory.shadow r.memory.nodes id v k h at f

  not_mine : (k : ℕ) → r.memory.shadow.holder k ≢ Some id → held_of k v.holdings.held ≡ None
  not_mine k far = go (held_of k v.holdings.held) refl
    where
      go : (o : Option Holding) → held_of k v.holdings.held ≡ o → held_of k v.holdings.held ≡ None
      go None e = e
      go (Some h) e = let l = mine_of k h e in absurd (far (ap r.memory.shadow.holder (sym l.1) ∙ l.0.is_holder))

  -- These contents, with these live nodes and these holdings, after a history that goes on.
  module _ (now : Contents) (alive : ℕ → Bool) (holdings : Holdings) (history' : List Update) where
    abbrev over : Shadow
    over = record r.memory.shadow { settled = now; live = alive }

    pub record OnSettling : Type 0 where
      pub lawful : IsLawfulTree now alive
      pub entries : (m : Member) → HasEntry now alive m ↔ Contains (state_after (start t) history').registered m
      pub balance : (k : ℕ) → once (alive k) + times k holdings.out ≡ once (r.memory.shadow.live k) + times k v.holdings.out
      pub mine : HoldingsHold t (memory_of t words).nodes over id holdings
      pub kept : (k : ℕ) → IsSome (held_of k v.holdings.held) → IsSome (held_of k holdings.held)
      -- a node that isn't held, or in which nothing was stored, stays as it was
      pub unheld : (k : ℕ) → held_of k v.holdings.held ≡ None → (now k ≡ r.memory.shadow.settled k) × (alive k ≡ r.memory.shadow.live k)
      pub clean : (k : ℕ) (h : Holding) → held_of k v.holdings.held ≡ Some h → h.stored ≡ false → (now k ≡ r.memory.shadow.settled k) × (alive k ≡ r.memory.shadow.live k)

    module _ (o : OnSettling) where
      abbrev w : Log
      w = record v { holdings = holdings }

      other_lock : (j : ℕ) (h : Holding) → j ≢ id → HoldsNode t (memory_of t words).nodes r.memory.shadow j h → HoldsNode t (memory_of t words).nodes over j h
      other_lock j h far k =
          let same = o.unheld h.node (not_mine h.node (λ e. far (same_Some _ _ (sym k.is_holder ∙ e)))) in record {
            within = k.within;
            is_holder = k.is_holder;
            locked = k.locked;
            as_now = k.as_now;
            settled = k.settled ∙ sym same.0;
            stored = k.stored;
            clean = k.clean;
            marked = lives h.mark same.1 k.marked;
            unmarked = λ e l. k.unmarked e (sym same.1 ∙ l);
          }
        where
          lives : (p : Option NodeBounds) → alive h.node ≡ r.memory.shadow.live h.node → IfSome p (λ f. IsTrue (r.memory.shadow.live h.node) × IsPlaced h.settled f) → IfSome p (λ f. IsTrue (alive h.node) × IsPlaced h.settled f)
          lives None life told = tt
          lives (Some f) life told = (life ∙ told.0, told.1)

      open_after : (k : ℕ) → (p : Option ℕ) → r.memory.shadow.holder k ≡ p → k < t.nodes → IsOpen ((memory_of t words).nodes.versions k) ((memory_of t words).nodes.contents k) (now k) p
      open_after k None e less =
          let was = subst (IsOpen ((memory_of t words).nodes.versions k) ((memory_of t words).nodes.contents k) (r.memory.shadow.settled k)) e (r.memory.nodes.unlocked k less) in
          (was.0, subst (SpellsNode ((memory_of t words).nodes.contents k)) (sym (o.unheld k (not_mine k (λ z. none-some id (sym e ∙ z)))).0) was.1)
      open_after k (Some j) e less = tt

      pub nodes : NodesHold t (memory_of t words).nodes (set views id w) history' over
      nodes = record {
        lawful = o.lawful;
        entries = o.entries;
        unlocked = λ k less. open_after k (r.memory.shadow.holder k) refl less;
        holdings = after_step (λ j z. HoldingsHold t (memory_of t words).nodes over j z.holdings) views id w o.mine
            (λ j u far there. let h = r.memory.nodes.holdings j u there in record {
              each = all_map (HoldsNode t (memory_of t words).nodes r.memory.shadow j) (HoldsNode t (memory_of t words).nodes over j) (λ a k. other_lock j a far k) u.holdings.held h.each;
              once = h.once;
              few_out = h.few_out;
            });
        holders = λ k. holder_stays views id v w at k (r.memory.shadow.holder k) (o.kept k) (r.memory.nodes.holders k);
        each_once = λ k. (let a = total_set (λ z. times k z.holdings.out) views id v w at in let b = o.balance k in let p = r.memory.nodes.each_once k in omega (arith, a, b, p));
        chain = r.memory.nodes.chain;
      }

      pub sights : IsPrefix r.memory.history history' → (k : NodeSight) → SightHolds t (memory_of t words).nodes r.memory.history r.memory.shadow k → SightHolds t (memory_of t words).nodes history' over k
      sights longer k p = sight_over t (memory_of t words).nodes (memory_of t words).nodes r.memory.history history' r.memory.shadow over k p.later
          (λ st. let same = same_node (held_of k.node v.holdings.held) refl st in record { stands = st; contents = refl; settled = same.0; live = same.1 }) longer p
        where
          same_node : (h : Option Holding) → held_of k.node v.holdings.held ≡ h → Stands (memory_of t words).nodes.versions r.memory.shadow k → (now k.node ≡ r.memory.shadow.settled k.node) × (alive k.node ≡ r.memory.shadow.live k.node)
          same_node None is st = o.unheld k.node is
          same_node (Some h) is st =
              let l = mine_of k.node h is in let ev = p.even in
              let odd = locked_is_odd h.version ((memory_of t words).nodes.versions k.node) (subst (λ z. IsLockedAt h.version ((memory_of t words).nodes.versions z)) l.1 l.0.locked) in
              let clean : h.stored ≡ false = l.0.stored ∙ (ap r.memory.shadow.stored l.1 ∙ ⊎_elim (λ (same : (memory_of t words).nodes.versions k.node ≡ k.version). absurd (odd (ap (λ z. z % 4) same ∙ ev))) (λ (locked : IsLockedAt k.version ((memory_of t words).nodes.versions k.node) × (r.memory.shadow.stored k.node ≡ false)). locked.1) st) in
              o.clean k.node h is clean

  -- no word changes, and of the log its holdings alone
  pub settled_table : (now : Contents) (alive : ℕ → Bool) (holdings : Holdings) → OnSettling now alive holdings r.memory.history → TableInvariant t words (set views id (record v { holdings = holdings }))
  settled_table now alive holdings o =
      let m : SharedWords = memory_of t words in
      let after : Log = record v { holdings = holdings } in
      let shadow : Shadow = record r.memory.shadow { settled = now; live = alive } in
      let same : total (λ u. u.made) (set views id after) ≡ total (λ u. u.made) views = total_same (λ u. u.made) views id v after at refl in
      let each : (u : Log) → ObservationsHold t m r.memory.history (total (λ z. z.made) views + 1) r.memory.shadow u → ObservationsHold t m r.memory.history (total (λ z. z.made) views + 1) shadow u =
      observations_over t m m r.memory.history r.memory.history (total (λ z. z.made) views + 1) (total (λ z. z.made) views + 1) r.memory.shadow shadow (sights now alive holdings r.memory.history o ([], append-nil r.memory.history)) (λ k h. h) ([], append-nil r.memory.history) (omega arith) in
      let mine = each v (r.memory.observations id v at) in
      table_step t words views r id v after at stands words m refl refl (record {
        history = r.memory.history;
        callers = callers_over_nodes t words views r id v after at stands m.nodes (record { terms = refl; role = refl; past = refl; receipts = refl; allowance = refl; made = refl; lineage = refl }) refl (omega arith) (busy v after caller);
        shadow = shadow;
        nodes = nodes now alive holdings r.memory.history o;
        active = r.memory.active;
        observations = subst (λ c. (j : ℕ) (u : Log) → get_elem? (set views id after) j ≡ some u → ObservationsHold t m r.memory.history (c + 1) shadow u) (sym same)
            (after_step (λ _ u. ObservationsHold t m r.memory.history (total (λ z. z.made) views + 1) shadow u) views id after (record { sights = mine.sights; copies = mine.copies; full = mine.full; earlier = mine.earlier }) (λ j u _ there. each u (r.memory.observations j u there)));
      }) (λ alone. r.alone id v at alone)
