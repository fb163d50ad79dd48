-- A node is let go, with the version that it had or with the next one, at which what its holder changed settles: the rule is kept.
use Rattle.std.proofs.lemmas.Bool.{cases_Bool}
use Rattle.std.proofs.Common.{◌≡◌, ◌≢◌, ℕ, ◌+◌, ◌*◌, ◌/◌, ◌%◌, ◌<◌, ◌≤◌, ◌⊎◌, List, [], ◌∷◌, get_or, set, map, sym, refl, ap, ◌∙◌, subst, inl, inr, ⊎_elim, arith, ◌==◌, Bool, true, false, IsTrue, true≢false, Option, Some, None, IfSome, IsSome, IsSomeAnd, is_some, option_map, eq-eqb, ne_eqb, if◌then◌else◌}
use Rattle.std.proofs.lemmas.Option.{same_Some}
use Rattle.std.proofs.lemmas.List.Sums.{sum_by-cons}
use Rattle.std.specs.List.{AllByRecursion, count_by}
use mathlib.Core.Option.{none, some}
use native.Mathlib.Decide.{ℕ_discrete}
use lib.ListN.{get_elem?}
use Rattle.atomic_table.specs.Table.{step, keeps, Allows}
use Rattle.atomic_table.proofs.Lists.{set_here}
use Rattle.tree_shape.specs.NodeData.{NodeData}
use Rattle.reg_model.specs.declared.answer.Update.{Update}
use Rattle.tree_laws.specs.Numbers.{once, is_among}
use Rattle.word_rule.specs.declared.log.Role.TheVariants as role
use Rattle.word_rule.specs.declared.log.Budget.{Budget}
use Rattle.word_rule.specs.declared.log.Terms.{Terms}
use Rattle.word_rule.specs.declared.log.Holding.{Holding}
use Rattle.word_rule.specs.declared.log.Log.{Log}
use Rattle.word_rule.specs.SharedWords.{NodeWords, memory_of, updated}
use Rattle.word_rule.specs.Spelling.{spelled, SpellsNode}
use Rattle.word_rule.specs.Held.{held_of, without_lock, now_of}
use Rattle.word_rule.specs.Logs.{after_spending}
use Rattle.word_rule.specs.Exchange.{ChangeLaws, Differs, after_exchange, are_spelled, exchange, group_of, is_lawful, is_reached, nothing_reached, settle, settle_free, top_of}
use Rattle.word_rule.specs.Steps.{MayRelease, after_node_release_same}
use Rattle.word_rule.specs.Callers.{IsLockedAt}
use Rattle.word_rule.specs.Nodes.{Shadow, HoldsNode, HoldingsHold, HeldBy, IsOpen}
use Rattle.word_rule.specs.TableInvariant.{TableInvariant}
use Rattle.word_rule.specs.Plays.{Seated, releases_node, releases_same_node}
use Rattle.word_rule.proofs.Facts.{set_twice, within}
use Rattle.word_rule.proofs.Each.{all_map, some_with}
use Rattle.word_rule.proofs.Memories.{load_version_at}
use Rattle.word_rule.proofs.Standing.{locked_is_odd, held_by}
use Rattle.word_rule.proofs.Frames.{Sit}
use Rattle.word_rule.proofs.NodeLocks.{updated_here, updated_other}
use Rattle.word_rule.proofs.Exchanges.{DecidedLaw, exchange_decides, spelled_decides}
use Rattle.word_rule.proofs.NodesFrame.{lock_over}
use Rattle.word_rule.proofs.VersionSteps.{stepped_version}
use Rattle.word_rule.proofs.Settling.{AgreementLaw, mapped_held}
use Rattle.word_rule.proofs.Settles.{settles, spells_now}

map_same : (held : List Holding) → map (λ h. h) held ≡ held
map_same [] = refl
map_same (h ∷ held) = ap (λ hs. h ∷ hs) (map_same held)

-- the locks that are left after one is let go, each changed but for its node
module _ (f : Holding → Holding) (same_node : (h : Holding) → (f h).node ≡ h.node) (n : ℕ) where
  pub left_all : (P : Holding → Type 0) (held : List Holding) → AllByRecursion (λ h. h.node ≢ n → P (f h)) held → AllByRecursion P (without_lock n (map f held))
  left_all P [] all = tt
  left_all P (h ∷ held) all = go (ℕ_discrete (f h).node n) (left_all P held all.1)
    where
      go : Dec ((f h).node ≡ n) → AllByRecursion P (without_lock n (map f held)) → AllByRecursion P (without_lock n (map f (h ∷ held)))
      go (yes e) rest = rw (eq-eqb (f h).node n e) rest
      go (no ne) rest = rw (ne_eqb (f h).node n ne) (all.0 (λ e. ne (same_node h ∙ e)), rest)

  pub left_once : (k : ℕ) (held : List Holding) → count_by (λ h. h.node == k) (without_lock n (map f held)) ≤ count_by (λ h. h.node == k) held
  left_once k [] = omega arith
  left_once k (h ∷ held) = go (ℕ_discrete (f h).node n) (left_once k held) (sum_by-cons (λ (g : Holding). once (g.node == k)) h held) (sum_by-cons (λ (g : Holding). once (g.node == k)) (f h) (without_lock n (map f held)))
    where
      go : Dec ((f h).node ≡ n) → count_by (λ h. h.node == k) (without_lock n (map f held)) ≤ count_by (λ h. h.node == k) held → count_by (λ g. g.node == k) (h ∷ held) ≡ once (h.node == k) + count_by (λ g. g.node == k) held
          → count_by (λ g. g.node == k) (f h ∷ without_lock n (map f held)) ≡ once ((f h).node == k) + count_by (λ g. g.node == k) (without_lock n (map f held)) → count_by (λ g. g.node == k) (without_lock n (map f (h ∷ held))) ≤ count_by (λ g. g.node == k) (h ∷ held)
      go (yes e) rest c d = rw (eq-eqb (f h).node n e) (omega (arith, rest, c))
      go (no ne) rest c d = let same : once ((f h).node == k) ≡ once (h.node == k) = ap (λ z. once (z == k)) (same_node h) in rw (ne_eqb (f h).node n ne) (omega (arith, rest, c, d, same))

  pub left_held : (k : ℕ) → k ≢ n → (held : List Holding) → IsSome (held_of k held) → IsSome (held_of k (without_lock n (map f held)))
  left_held k far [] h = absurd (true≢false (sym h))
  left_held k far (g ∷ held) h = go (ℕ_discrete (f g).node n) (ℕ_discrete g.node k) (left_held k far held)
    where
      go : Dec ((f g).node ≡ n) → Dec (g.node ≡ k) → (IsSome (held_of k held) → IsSome (held_of k (without_lock n (map f held)))) → IsSome (held_of k (without_lock n (map f (g ∷ held))))
      go (yes e) (yes is) rest = absurd (far (sym is ∙ (sym (same_node g) ∙ e)))
      go (yes e) (no other) rest = rw (eq-eqb (f g).node n e) (rest (rw (ne_eqb g.node k other) at h))
      go (no ne) (yes is) rest = let here : ((f g).node == k) ≡ true = eq-eqb (f g).node k (same_node g ∙ is) in rw (ne_eqb (f g).node n ne) (rw here refl)
      go (no ne) (no other) rest = let there : ((f g).node == k) ≡ false = ne_eqb (f g).node k (λ z. other (sym (same_node g) ∙ z)) in rw (ne_eqb (f g).node n ne) (rw there (rest (rw (ne_eqb g.node k other) at h)))

-- a node whose words spell its settled content is let go, with such a version and such a budget
module _ (t : Terms) (id : ℕ) (v : Log) (caller : v.role ≡ role.Caller) (n : ℕ) (hn : Holding) (found : held_of n v.holdings.held ≡ Some hn) (spells_own : SpellsNode hn.words hn.settled) (x : ℕ) (four : x % 4 ≡ 0) (above : hn.version ≤ x) (budget : Budget) (s : Sit) (r : TableInvariant t s.words s.views) (at : get_elem? s.views id ≡ some v) where
  abbrev v' : Log
  v' = record (after_node_release_same n v) { budget = budget }

  my_lock : HoldsNode t (memory_of t s.words).nodes r.memory.shadow id hn × (hn.node ≡ n)
  my_lock = held_by t (memory_of t s.words).nodes s.views r.memory.history r.memory.shadow r.memory.nodes id v n hn at found

  inside : n < t.nodes
  inside = subst (λ k. k < t.nodes) my_lock.1 my_lock.0.within

  pub locked_at : IsLockedAt hn.version ((memory_of t s.words).nodes.versions n)
  locked_at = subst (λ k. IsLockedAt hn.version ((memory_of t s.words).nodes.versions k)) my_lock.1 my_lock.0.locked

  holder_n : r.memory.shadow.holder n ≡ Some id
  holder_n = ap r.memory.shadow.holder (sym my_lock.1) ∙ my_lock.0.is_holder

  abbrev words'' : NodeWords
  words'' = record (memory_of t s.words).nodes { versions = updated (memory_of t s.words).nodes.versions n x }

  abbrev shadow'' : Shadow
  shadow'' = record r.memory.shadow { holder = updated r.memory.shadow.holder n None }

  kept_lock : (j : ℕ) (h : Holding) → h.node ≢ n → HoldsNode t (memory_of t s.words).nodes r.memory.shadow j h → HoldsNode t words'' shadow'' j h
  kept_lock j h far k = lock_over words''.versions shadow''.holder r.memory.shadow.stored j h (updated_other r.memory.shadow.holder n None h.node far) (subst (IsLockedAt h.version) (sym (updated_other (memory_of t s.words).nodes.versions n x h.node far)) k.locked) refl k

  left : (P : Holding → Type 0) → AllByRecursion (λ h. h.node ≢ n → P h) v.holdings.held → AllByRecursion P (without_lock n v.holdings.held)
  left P all = subst (λ xs. AllByRecursion P (without_lock n xs)) (map_same v.holdings.held) (left_all (λ h. h) (λ _. refl) n P v.holdings.held all)

  still_held : (k : ℕ) → k ≢ n → IsSome (held_of k v.holdings.held) → IsSome (held_of k (without_lock n v.holdings.held))
  still_held k far h = subst (λ xs. IsSome (held_of k (without_lock n xs))) (map_same v.holdings.held) (left_held (λ h. h) (λ _. refl) n k far v.holdings.held h)

  mine : HoldingsHold t words'' shadow'' id v'.holdings
  mine = let h = r.memory.nodes.holdings id v at in record {
    each = left (HoldsNode t words'' shadow'' id) (all_map (HoldsNode t (memory_of t s.words).nodes r.memory.shadow id) (λ h. h.node ≢ n → HoldsNode t words'' shadow'' id h) (λ h k far. kept_lock id h far k) v.holdings.held h.each);
    once = λ k. (let a = subst (λ xs. count_by (λ h. h.node == k) (without_lock n xs) ≤ count_by (λ h. h.node == k) v.holdings.held) (map_same v.holdings.held) (left_once (λ h. h) (λ _. refl) n k v.holdings.held) in let b = h.once k in omega (arith, a, b));
    few_out = h.few_out;
  }

  others : (j : ℕ) (u : Log) → j ≢ id → get_elem? s.views j ≡ some u → HoldingsHold t words'' shadow'' j u.holdings
  others j u far there = let h = r.memory.nodes.holdings j u there in record {
    each = all_map (HoldsNode t (memory_of t s.words).nodes r.memory.shadow j) (HoldsNode t words'' shadow'' j) (λ h k. kept_lock j h (λ e. far (same_Some _ _ (sym k.is_holder ∙ (ap r.memory.shadow.holder e ∙ holder_n)))) k) u.holdings.held h.each;
    once = h.once;
    few_out = h.few_out;
  }

  spells : SpellsNode ((memory_of t s.words).nodes.contents n) (r.memory.shadow.settled n)
  spells = subst (λ ws. SpellsNode ws (r.memory.shadow.settled n)) (my_lock.0.as_now ∙ ap (memory_of t s.words).nodes.contents my_lock.1) (subst (SpellsNode hn.words) (my_lock.0.settled ∙ ap r.memory.shadow.settled my_lock.1) spells_own)

  -- what is owed of the version and of the budget
  pub let_go : budget.allowance ≡ v.budget.allowance → x / 4 + budget.credit ≤ (memory_of t s.words).nodes.versions n / 4 + v.budget.credit
      → ((k : ℕ) → k % 4 ≡ 0 → k ≤ (memory_of t s.words).nodes.versions n → (x ≡ k) ⊎ (IsLockedAt k x × (r.memory.shadow.stored n ≡ false)) → ((memory_of t s.words).nodes.versions n ≡ k) ⊎ (IsLockedAt k ((memory_of t s.words).nodes.versions n) × (r.memory.shadow.stored n ≡ false)))
      → TableInvariant t (set s.words (4 + 36 * n) x) (set s.views id (record (after_node_release_same n v) { budget = budget }))
  let_go allowance fewer stood =
      let l = locked_at in
      let low = l.0 in
      let fo = four in
      let ab = above in
      stepped_version t id v v' caller n x inside s r at (updated r.memory.shadow.holder n None) (λ k far. updated_other r.memory.shadow.holder n None k far) (record {
        mine = mine;
        others = others;
        open_then = subst (IsOpen x ((memory_of t s.words).nodes.contents n) (r.memory.shadow.settled n)) (sym (updated_here r.memory.shadow.holder n None n refl)) (fo, spells);
        held_then = subst (HeldBy n (set s.views id v')) (sym (updated_here r.memory.shadow.holder n None n refl)) tt;
        kept = still_held;
        later = λ k even less. ⊎_elim (λ (e : (memory_of t s.words).nodes.versions n ≡ hn.version + 1). omega (arith, e, low, even, less, ab)) (λ (e : (memory_of t s.words).nodes.versions n ≡ hn.version + 3). omega (arith, e, low, even, less, ab)) l.1;
        stood = stood;
      }) refl (record { terms = refl; role = refl; past = refl; receipts = refl; allowance = allowance; made = refl; lineage = refl }) refl fewer (record { own = refl; sights = refl; loads = refl; turn = omega arith })

-- what settles keeps all but the holdings
pub settle_is : (update : Option Update) (v : Log) → settle update v ≡ record v { holdings = (settle update v).holdings }
settle_is update v = go (is_lawful v update)
  where
    go : (b : Bool) → ◌≡◌ {A = Log} (if b then after_exchange v (top_of v update) (is_among (group_of v update)) else settle_free v) (record v { holdings = (if b then after_exchange v (top_of v update) (is_among (group_of v update)) else settle_free v).holdings })
    go true = refl
    go false = refl

-- a lock among others: its version and its words are as they were
pub record IsLockIn (held : List Holding) (n : ℕ) (h : Holding) : Type 0 where
  pub lock : Holding
  pub found : held_of n held ≡ Some lock
  pub version : lock.version ≡ h.version
  pub words : lock.words ≡ h.words
  pub spells : SpellsNode lock.words lock.settled

module _ (t : Terms) (slots id : ℕ) (me : Seated) (caller : me.0.role ≡ role.Caller) where
  abbrev Holds : Sit → Type 0
  Holds s = TableInvariant t s.words s.views

  pub releases_same_any : (n : ℕ) (hn : Holding) → held_of n me.0.holdings.held ≡ Some hn → hn.stored ≡ false → Allows Holds slots id me (4 + 36 * n) (λ _. hn.version) (releases_same_node n (step slots (4 + 36 * n) hn.version 0 none) me)
  releases_same_any n hn found clean s r deep at small =
      let own = held_by t (memory_of t s.words).nodes s.views r.memory.history r.memory.shadow r.memory.nodes id me.0 n hn at found in
      let lock : IsLockedAt hn.version ((memory_of t s.words).nodes.versions n) = subst (λ k. IsLockedAt hn.version ((memory_of t s.words).nodes.versions k)) own.1 own.0.locked in
      let low = lock.0 in
      let word = load_version_at t s.words n (subst (λ k. k < t.nodes) own.1 own.0.within) in
      let not_stored : r.memory.shadow.stored n ≡ false = ap r.memory.shadow.stored (sym own.1) ∙ (sym own.0.stored ∙ clean) in (
        after_node_release_same n me.0,
        keeps,
        tt,
        let_go t id me.0 caller n hn found (own.0.clean clean) hn.version low (omega arith) me.0.budget s r at refl
            (⊎_elim (λ (e : (memory_of t s.words).nodes.versions n ≡ hn.version + 1). omega (arith, e, low)) (λ (e : (memory_of t s.words).nodes.versions n ≡ hn.version + 3). omega (arith, e, low)) lock.1)
            (λ k even less st. inr (⊎_elim (λ (is : hn.version ≡ k). (subst (λ z. IsLockedAt z ((memory_of t s.words).nodes.versions n)) is lock, not_stored))
            (λ (o : IsLockedAt k hn.version × (r.memory.shadow.stored n ≡ false)). absurd (⊎_elim (λ (e : hn.version ≡ k + 1). omega (arith, e, low, even)) (λ (e : hn.version ≡ k + 3). omega (arith, e, low, even)) o.0.1)) st)),
        (refl, subst (λ o. IfSome o (λ h. IsLockedAt h.version (get_or s.words (4 + 36 * n) 0))) (sym found) (subst (IsLockedAt hn.version) word lock)),
      )

  -- the same as the code has it: the version is the one that the caller keeps
  pub releases_same_of : (n k place version : ℕ) → k ≡ n → place ≡ 4 + 36 * n → IsSomeAnd (held_of n me.0.holdings.held) (λ h. h.stored ≡ false) → IfSome (held_of n me.0.holdings.held) (λ h. h.version ≡ version)
      → Allows Holds slots id me place (λ _. version) (releases_same_node k (step slots place version 0 none) me)
  releases_same_of n k place version node is clean kept =
      let h = some_with (held_of n me.0.holdings.held) (λ (h : Holding). h.stored ≡ false) clean in
      let same = subst (λ o. IfSome o (λ h. h.version ≡ version)) h.1.0 kept in
      subst (λ p. Allows Holds slots id me p (λ _. version) (releases_same_node k (step slots p version 0 none) me)) (sym is)
      (subst (λ j. Allows Holds slots id me (4 + 36 * n) (λ _. version) (releases_same_node j (step slots (4 + 36 * n) version 0 none) me)) (sym node)
      (subst (λ z. Allows Holds slots id me (4 + 36 * n) (λ _. z) (releases_same_node n (step slots (4 + 36 * n) z 0 none) me)) same (releases_same_any n h.0 h.1.0 h.1.1)))

  -- where the node may be let go, its words then spell its settled content
  module _ (laws : ChangeLaws) (agreement : AgreementLaw) (decided : DecidedLaw) (s : Sit) (r : Holds s) (at : get_elem? s.views id ≡ some me.0) where
    lock_after : (n : ℕ) (hn : Holding) → held_of n me.0.holdings.held ≡ Some hn → IsSome (spelled hn.words) → (IsSome hn.mark → Differs hn → IsTrue (is_lawful me.0 None)) → IsLockIn (settle None me.0).holdings.held n hn
    lock_after n hn found spells lawful = go (is_lawful me.0 None) refl
      where
        after : (group reached : ℕ → Bool) → held_of n (map (exchange group reached) me.0.holdings.held) ≡ Some (exchange group reached hn)
        after group reached = mapped_held (exchange group reached) (λ _. refl) n me.0.holdings.held ∙ ap (option_map (exchange group reached)) found

        free_spells : is_lawful me.0 None ≡ false → SpellsNode hn.words (exchange nothing_reached nothing_reached hn).settled
        free_spells not_lawful = by_mark (cases_Bool (is_some hn.mark)) (spelled hn.words) refl spells (cases_Bool (are_spelled (spelled hn.words) hn.settled))
          where
            by_mark : (is_some hn.mark ≡ true) ⊎ (is_some hn.mark ≡ false) → (o : Option NodeData) → spelled hn.words ≡ o → IsSome o → (are_spelled (spelled hn.words) hn.settled ≡ true) ⊎ (are_spelled (spelled hn.words) hn.settled ≡ false)
                → SpellsNode hn.words (exchange nothing_reached nothing_reached hn).settled
            by_mark m None e some_content same = absurd (true≢false (sym some_content))
            by_mark (inr m) (Some c) e some_content same = rw m (e ∙ ap Some (sym (ap (now_of hn) e)))
            by_mark (inl m) (Some c) e some_content (inl same) = rw m ((spelled_decides (spelled hn.words) hn.settled).0 same)
            by_mark (inl m) (Some c) e some_content (inr other) = absurd (true≢false (sym (lawful m (λ is. true≢false (sym ((spelled_decides (spelled hn.words) hn.settled).1 is) ∙ other))) ∙ not_lawful))

        go : (b : Bool) → is_lawful me.0 None ≡ b → IsLockIn (if b then after_exchange me.0 (top_of me.0 None) (is_among (group_of me.0 None)) else settle_free me.0).holdings.held n hn
        go true is =
            let top : ℕ = top_of me.0 None in
            let group : ℕ → Bool = is_among (group_of me.0 None) in
            let ex = (exchange_decides decided me.0 None).0 is in record {
              lock = exchange group (is_reached me.0 top group) hn;
              found = after group (is_reached me.0 top group);
              version = refl;
              words = refl;
              spells = spells_now t id me.0 caller s.words s.views r at laws None top group ex n hn found spells;
            }
        go false is = record { lock = exchange nothing_reached nothing_reached hn; found = after nothing_reached nothing_reached; version = refl; words = refl; spells = free_spells is }

  -- what the caller holds settles, and the node is let go with the next version
  pub releases_any : ChangeLaws → AgreementLaw → DecidedLaw → (n : ℕ) (hn : Holding) → held_of n me.0.holdings.held ≡ Some hn → IsSome (spelled hn.words) → (IsSome hn.mark → Differs hn → IsTrue (is_lawful me.0 None)) → 0 < me.0.budget.credit
      → Allows Holds slots id me (4 + 36 * n) (λ _. hn.version + 4) (releases_node n (step slots (4 + 36 * n) (hn.version + 4) 0 none) me)
  releases_any laws agreement decided n hn found spells lawful some_credit s r deep at small =
      let u : Log = record me.0 { holdings = (settle None me.0).holdings } in
      let w : Log = record (after_node_release_same n u) { budget = after_spending me.0.budget } in
      let r1 : TableInvariant t s.words (set s.views id u) = subst (λ z. TableInvariant t s.words (set s.views id z)) (settle_is None me.0) (settles t id me.0 caller s.words s.views r at laws agreement decided) in
      let s1 : Sit = record s { views = set s.views id u } in
      let at1 = set_here s.views id u (within s.views id me.0 at) in
      let l = lock_after laws agreement decided s r at n hn found spells lawful in
      let own = held_by t (memory_of t s.words).nodes s.views r.memory.history r.memory.shadow r.memory.nodes id me.0 n hn at found in
      let lock : IsLockedAt hn.version ((memory_of t s.words).nodes.versions n) = subst (λ k. IsLockedAt hn.version ((memory_of t s.words).nodes.versions k)) own.1 own.0.locked in
      let low = lock.0 in
      let word = load_version_at t s.words n (subst (λ k. k < t.nodes) own.1 own.0.within) in
      let same = l.version in
      let gone : TableInvariant t (set s.words (4 + 36 * n) (hn.version + 4)) (set (set s.views id u) id w) =
      let_go t id u caller n l.lock l.found l.spells (hn.version + 4) (omega (arith, low)) (omega (arith, same)) (after_spending me.0.budget) s1 r1 at1 refl
      (⊎_elim (λ (e : (memory_of t s.words).nodes.versions n ≡ hn.version + 1). omega (arith, e, low, some_credit)) (λ (e : (memory_of t s.words).nodes.versions n ≡ hn.version + 3). omega (arith, e, low, some_credit)) lock.1)
      (λ k even less st. absurd (⊎_elim
      (λ (e : (memory_of t s.words).nodes.versions n ≡ hn.version + 1). ⊎_elim (λ (is : hn.version + 4 ≡ k). omega (arith, is, e, less)) (λ (o : IsLockedAt k (hn.version + 4) × (r1.memory.shadow.stored n ≡ false)). locked_is_odd k (hn.version + 4) o.0 (omega (arith, low))) st)
      (λ (e : (memory_of t s.words).nodes.versions n ≡ hn.version + 3). ⊎_elim (λ (is : hn.version + 4 ≡ k). omega (arith, is, e, less)) (λ (o : IsLockedAt k (hn.version + 4) × (r1.memory.shadow.stored n ≡ false)). locked_is_odd k (hn.version + 4) o.0 (omega (arith, low))) st) lock.1)) in (
        w,
        keeps,
        tt,
        subst (TableInvariant t (set s.words (4 + 36 * n) (hn.version + 4))) (set_twice s.views id u w) gone,
        (
          ap (λ (z : Log). (record (after_node_release_same n z) { budget = after_spending z.budget }, me.1)) (sym (settle_is None me.0)),
          subst (λ o. IfSome o (λ h. IsLockedAt h.version (get_or s.words (4 + 36 * n) 0))) (sym found) (subst (IsLockedAt hn.version) word lock),
        ),
      )

  -- the same as the code has it
  pub releases_of : ChangeLaws → AgreementLaw → DecidedLaw → (n k place version : ℕ) → k ≡ n → place ≡ 4 + 36 * n → MayRelease n me.0 → 0 < me.0.budget.credit → IfSome (held_of n me.0.holdings.held) (λ h. h.version ≡ version)
      → Allows Holds slots id me place (λ _. version + 4) (releases_node k (step slots place (version + 4) 0 none) me)
  releases_of laws agreement decided n k place version node is may some_credit kept =
      let h = some_with (held_of n me.0.holdings.held) (λ (h : Holding). IsSome (spelled h.words) × (IsSome h.mark → Differs h → IsTrue (is_lawful me.0 None))) may in
      let same = subst (λ o. IfSome o (λ h. h.version ≡ version)) h.1.0 kept in
      subst (λ p. Allows Holds slots id me p (λ _. version + 4) (releases_node k (step slots p (version + 4) 0 none) me)) (sym is)
      (subst (λ j. Allows Holds slots id me (4 + 36 * n) (λ _. version + 4) (releases_node j (step slots (4 + 36 * n) (version + 4) 0 none) me)) (sym node)
      (subst (λ z. Allows Holds slots id me (4 + 36 * n) (λ _. z + 4) (releases_node n (step slots (4 + 36 * n) (z + 4) 0 none) me)) same (releases_any laws agreement decided n h.0 h.1.0 h.1.1.0 h.1.1.1 some_credit)))
