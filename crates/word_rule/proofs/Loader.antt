-- Steps on the loader's lock keep the rule.
use Rattle.std.proofs.Common.{◌≡◌, ◌≢◌, ℕ, zero, suc, ◌+◌, ◌-◌, ◌/◌, ◌%◌, ◌^◌, ◌<◌, ◌≤◌, List, [], ◌∷◌, length, get_or, set, sym, refl, ap, ◌∙◌, subst, inl, inr, ⊎_elim, arith, ◌==◌, MatchBool, IfSome, IsSomeAnd, bit_or, Option, Some, None, Bool, false, eq-eqb, ne_eqb, length-set}
use Rattle.std.specs.List.{AllByRecursion}
use Rattle.std.proofs.lemmas.Option.{none-some, same_Some}
use Rattle.std.proofs.lemmas.Nat.{or_disjoint}
use Rattle.std.specs.Int.Bits.{or_add_and}
use lib.Bits.{and_mask}
use mathlib.Core.Option.{none, some}
use lib.ListN.{get_elem?}
use prog.Atomic.{either}
use Rattle.atomic_table.specs.Table.{step, Act, keeps, stepped, carried_after, Valid, Allows}
use Rattle.atomic_table.proofs.Lists.{set_here}
use Rattle.word_rule.specs.declared.log.Role.TheVariants as role
use Rattle.word_rule.specs.declared.log.Log.{Log}
use Rattle.word_rule.specs.declared.log.Terms.{Terms}
use Rattle.word_rule.specs.declared.log.LoadEvent.{LoadEvent}
use Rattle.word_rule.specs.declared.log.LoaderHolding.{LoaderHolding}
use Rattle.word_rule.specs.Places.{spare, upper}
use Rattle.word_rule.specs.SharedWords.{SharedWords, memory_of, copy_of}
use Rattle.word_rule.specs.Logs.{is_gone, is_nameless, weight, turns, load_of, IsTaken, after_load, after_loader_lock, after_write, after_loader_release, after_loader_release_same, own_list}
use Rattle.word_rule.specs.Callers.{total, AtLoader, LoaderLock, IsLockedAt}
use Rattle.word_rule.specs.Observations.{ObservationsHold, WasFull}
use Rattle.word_rule.specs.TableInvariant.{TableInvariant, IsStill}
use Rattle.word_rule.specs.Plays.{Seated, looks, locks, grabs, marks, releases, releases_same}
use Rattle.word_rule.proofs.Facts.{after_step, within}
use Rattle.word_rule.proofs.Each.{all_map, some_with}
use Rattle.word_rule.proofs.Memories.{set_loader, set_same, copy_length, by_same}
use Rattle.word_rule.proofs.CallersFrame.{IsLike, callers_step, lock_stays, none_before, busy}
use Rattle.word_rule.proofs.ObservationsFrame.{Loads, no_more, observations_same, of_loader}
use Rattle.word_rule.proofs.Frames.{Sit, table_step, loader_memory, still_after_turn, still_after_load}

-- a log's part in the lock stays where the word goes on to be its version, locked
part_stays : (m : SharedWords) (x : ℕ) (holder : Option ℕ) (j : ℕ) (mine : Option LoaderHolding) → ((version : ℕ) → IsLockedAt version m.loader → IsLockedAt version x) → AtLoader m holder j mine → AtLoader (record m { loader = x }) holder j mine
part_stays m x holder j None keeps_lock h = tt
part_stays m x holder j (Some g) keeps_lock h = (h.0, record { locked = keeps_lock g.version h.1.locked; published = h.1.published; active = h.1.active; spare = h.1.spare })

module _ (t : Terms) (slots id : ℕ) (me : Seated) (caller : me.0.role ≡ role.Caller) where
  abbrev Holds : Sit → Type 0
  Holds s = TableInvariant t s.words s.views

  abbrev mine_at : Sit → Type 0
  mine_at s = get_elem? s.views id ≡ some me.0

  stands : is_nameless me.0.role ≡ false
  stands = ap is_nameless caller

  -- what the log has observed stays where a step on the lock's word changes it
  observed : (s : Sit) (r : Holds s) (w : Log) (more : List LoadEvent) → mine_at s → w.sights ≡ me.0.sights → Loads me.0 w more
      → AllByRecursion (λ l. (l.word ≡ 2) × (l.turns ≤ turns w.trace) × (l.receipts ≤ length me.0.receipts.own)) more → ObservationsHold t (memory_of t s.words) r.memory.history (total (λ u. u.made) s.views + 1) r.memory.shadow w
  observed s r w more at sights loads told = observations_same t (memory_of t s.words) r.memory.history (total (λ u. u.made) s.views + 1) r.memory.shadow me.0 w more loads sights
      (all_map (λ l. (l.word ≡ 2) × (l.turns ≤ turns w.trace) × (l.receipts ≤ length me.0.receipts.own)) (WasFull t r.memory.history (total (λ u. u.made) s.views + 1) (own_list me.0.receipts))
      (λ l h. of_loader t r.memory.history (total (λ u. u.made) s.views + 1) (own_list me.0.receipts) l h.0) more told)
      (all_map (λ l. (l.word ≡ 2) × (l.turns ≤ turns w.trace) × (l.receipts ≤ length me.0.receipts.own)) (λ l. (l.turns ≤ turns w.trace) × (l.receipts ≤ length me.0.receipts.own)) (λ l h. (h.1, h.2)) more told)
      (r.memory.observations id me.0 at)

  -- a step that changes the lock's word to x
  writes : (s : Sit) (r : Holds s) (w : Log) (x : ℕ) (holder : Option ℕ) → mine_at s → IsLike me.0 w → w.holdings ≡ me.0.holdings → w.sights ≡ me.0.sights → w.trace.loads ≡ me.0.trace.loads → turns me.0.trace < turns w.trace
      → x / 4 + w.budget.credit ≤ get_or s.words 2 0 / 4 + me.0.budget.credit → (IfSome w.loader (λ h. h.stored ≡ false) → IfSome me.0.loader (λ h. h.stored ≡ false)) → LoaderLock x (set s.views id w) holder
      → ((j : ℕ) (u : Log) → get_elem? (set s.views id w) j ≡ some u → AtLoader (record (memory_of t s.words) { loader = x }) holder j u.loader) → TableInvariant t (set s.words 2 x) (set s.views id w)
  writes s r w x holder at like holdings sights loads turn fewer clean lock at_lock =
      table_step t s.words s.views r id me.0 w at stands (set s.words 2 x) (record (memory_of t s.words) { loader = x }) (length-set s.words 2 x) (set_loader t s.words r.wide x)
      (loader_memory t s.words s.views r id me.0 w at stands x holdings like.made
      (callers_step t (memory_of t s.words) s.views r.memory.history r.memory.callers id me.0 w at like (record (memory_of t s.words) { loader = x }) holder refl (omega (arith, fewer)) lock at_lock (λ zero_weight. busy me.0 w caller (ap weight (sym like.role) ∙ zero_weight))
      (λ all. r.memory.callers.spare_copy (none_before s.views id me.0 w at clean all)))
      (observed s r w [] at sights (no_more me.0 w (ap own_list like.receipts) (omega (arith, turn)) loads) tt))
      (λ _. still_after_turn (set s.words 2 x) me.0 w turn loads (r.memory.observations id me.0 at).earlier)

  -- a load of the lock's word
  loaded : (s : Sit) (r : Holds s) → mine_at s → TableInvariant t (set s.words 2 (get_or s.words 2 0)) (set s.views id (after_load 2 (get_or s.words 2 0) me.0))
  loaded s r at =
      let x : ℕ = get_or s.words 2 0 in
      let w : Log = after_load 2 x me.0 in
      let m : SharedWords = memory_of t s.words in
      let like : IsLike me.0 w = record { terms = refl; role = refl; past = refl; receipts = refl; allowance = refl; made = refl; lineage = refl } in
      table_step t s.words s.views r id me.0 w at stands (set s.words 2 x) (record m { loader = x }) (length-set s.words 2 x) (set_loader t s.words r.wide x)
      (loader_memory t s.words s.views r id me.0 w at stands x refl refl
      (callers_step t m s.views r.memory.history r.memory.callers id me.0 w at like (record m { loader = x }) r.memory.callers.holder refl (omega arith)
      (lock_stays s.views x x id me.0 w r.memory.callers.holder at refl (λ e. subst (LoaderLock x s.views) e r.memory.callers.loader) r.memory.callers.loader)
      (after_step (λ j u. AtLoader (record m { loader = x }) r.memory.callers.holder j u.loader) s.views id w
      (part_stays m x r.memory.callers.holder id me.0.loader (λ _ h. h) (r.memory.callers.at_loader id me.0 at))
      (λ j u _ e. part_stays m x r.memory.callers.holder j u.loader (λ _ h. h) (r.memory.callers.at_loader j u e))) (busy me.0 w caller)
      (λ all. r.memory.callers.spare_copy (none_before s.views id me.0 w at (λ h. h) all)))
      (observed s r w (load_of me.0 2 x ∷ []) at refl (record { own = refl; turns = omega arith; loads = refl }) ((refl, omega arith, omega arith), tt)))
      (λ alone. subst (λ ws. IsStill ws w) (sym (set_same s.words 2)) (still_after_load s.words me.0 w (load_of me.0 2 x) refl refl refl (r.alone id me.0 at alone)))

  pub loads_loader : Allows Holds slots id me 2 (λ n. n) (looks (step slots 2 0 0 none) me)
  loads_loader s r deep at small = (after_load 2 (get_or s.words 2 0) me.0, keeps, tt, loaded s r at, (refl, locked_word me.0.loader (r.memory.callers.at_loader id me.0 at)))
    where
      locked_word : (o : Option LoaderHolding) → AtLoader (memory_of t s.words) r.memory.callers.holder id o → IfSome o (λ h. IsLockedAt h.version (get_or s.words 2 0))
      locked_word None a = tt
      locked_word (Some h) a = a.1.locked

  -- nobody holds a lock whose word is even
  even_is_free : (s : Sit) (r : Holds s) → get_or s.words 2 0 % 2 ≡ 0 → r.memory.callers.holder ≡ None
  even_is_free s r even = go r.memory.callers.holder r.memory.callers.loader (λ j u e. r.memory.callers.at_loader j u e)
    where
      go : (holder : Option ℕ) → LoaderLock (get_or s.words 2 0) s.views holder → ((j : ℕ) (u : Log) → get_elem? s.views j ≡ some u → AtLoader (memory_of t s.words) holder j u.loader) → holder ≡ None
      go None h all = refl
      go (Some j) h all = let a : AtLoader (memory_of t s.words) (Some j) j (Some h.1) = subst (AtLoader (memory_of t s.words) (Some j) j) h.2.1 (all j h.0 h.2.0) in
          let locked = a.1.locked in
          absurd (⊎_elim (λ (e : get_or s.words 2 0 ≡ h.1.version + 1). let z = locked.0 in omega (arith, e, z, even)) (λ (e : get_or s.words 2 0 ≡ h.1.version + 3). let z = locked.0 in omega (arith, e, z, even)) locked.1)

  -- where nobody holds it, no log has it
  no_part : (m : SharedWords) (holder : Option ℕ) (j : ℕ) (mine : Option LoaderHolding) → holder ≢ Some j → AtLoader m holder j mine → mine ≡ None
  no_part m holder j None other h = refl
  no_part m holder j (Some g) other h = absurd (other h.0)

  nothing : (m : SharedWords) (holder : Option ℕ) (j : ℕ) (mine : Option LoaderHolding) → mine ≡ None → AtLoader m holder j mine
  nothing m holder j mine is = subst (AtLoader m holder j) (sym is) tt

  counter_bound : (s : Sit) (r : Holds s) → get_or s.words 2 0 / 4 ≤ 2 ^ 60 + 2 ^ 32
  counter_bound s r = let c = r.memory.callers.counted in omega (arith, c)

  pub locks_loader : (seen : ℕ) → seen % 2 ≡ 0 → Allows Holds slots id me 2 (λ n. either (n == seen) (seen + 1) n) (locks (step slots 2 seen (seen + 1) none) me)
  locks_loader seen even s r deep at small =
      let n : ℕ = get_or s.words 2 0 in
      by_same n seen (λ b. (w : Log) × (a : Act (Unit {0})) × Valid s.homes me.1 a × Holds (stepped s 2 (either b (seen + 1) n) id me.1 w a) × MatchBool b
      ((seen % 4 ≡ 0) × (seen < 2 ^ 63) × ((h : LoaderHolding) × (IsTaken me.0.terms seen h × ◌≡◌ {A = Seated} (w, carried_after me.1 a) (after_loader_lock h me.0, me.1))))
      (◌≡◌ {A = Seated} (w, carried_after me.1 a) (after_load 2 n me.0, me.1)))
      (λ hit.
      let free : r.memory.callers.holder ≡ None = even_is_free s r (rw hit even) in
      let four : seen % 4 ≡ 0 = rw hit at (subst (LoaderLock n s.views) free r.memory.callers.loader) in
      let bound = counter_bound s r in
      let m : SharedWords = memory_of t s.words in
      let u : ℕ = upper (get_or s.words 0 0) in
      let h : LoaderHolding = record { version = seen; published = u; active = copy_of t s.words (u % 2); spare = copy_of t s.words (spare (get_or s.words 0 0)); stored = false } in
      let w : Log = after_loader_lock h me.0 in
      let terms : me.0.terms ≡ t = (r.memory.callers.each id me.0 at).terms (ap is_gone caller) in (
        w,
        keeps,
        tt,
        writes s r w (seen + 1) (Some id) at (record { terms = refl; role = refl; past = refl; receipts = refl; allowance = refl; made = refl; lineage = refl }) refl refl refl (omega arith) (omega (arith, hit, four))
            (λ _. subst (λ o. IfSome o (λ g. g.stored ≡ false)) (sym (no_part m r.memory.callers.holder id me.0.loader (λ k. none-some id (sym free ∙ k)) (r.memory.callers.at_loader id me.0 at))) tt)
            (w, h, (set_here s.views id w (within s.views id me.0 at), refl))
            (after_step (λ j z. AtLoader (record m { loader = seen + 1 }) (Some id) j z.loader) s.views id w
            (refl, record { locked = (four, inl refl); published = refl; active = refl; spare = refl })
            (λ j z _ e. nothing (record m { loader = seen + 1 }) (Some id) j z.loader (no_part m r.memory.callers.holder j z.loader (λ k. none-some j (sym free ∙ k)) (r.memory.callers.at_loader j z e)))),
        (
          four,
          omega (arith, bound, hit),
          (h, (subst (λ k. IsTaken k seen h) (sym terms) (record { taken = refl; active = copy_length t s.words r.wide (u % 2) (omega arith); spare = copy_length t s.words r.wide (spare (get_or s.words 0 0)) (omega arith); clean = refl }), refl)),
        ),
      ))
      (λ miss. (after_load 2 n me.0, keeps, tt, loaded s r at, refl))

  -- the low two bits of an odd word set
  abbrev marked : ℕ → ℕ
  marked seen = seen - seen % 4 + 3

  pub marks_loader : (seen : ℕ) → seen % 2 ≡ 1 → Allows Holds slots id me 2 (λ n. either (n == seen) (marked seen) n) (marks (step slots 2 seen (marked seen) none) me)
  marks_loader seen odd s r deep at small =
      let n : ℕ = get_or s.words 2 0 in
      by_same n seen (λ b. (w : Log) × (a : Act (Unit {0})) × Valid s.homes me.1 a × Holds (stepped s 2 (either b (marked seen) n) id me.1 w a) × MatchBool b
      (◌≡◌ {A = Seated} (w, carried_after me.1 a) (after_write me.0, me.1)) (◌≡◌ {A = Seated} (w, carried_after me.1 a) (after_load 2 n me.0, me.1)))
      (λ hit.
      let w : Log = after_write me.0 in
      let m : SharedWords = memory_of t s.words in
      let keeps_lock : (version : ℕ) → IsLockedAt version (get_or s.words 2 0) → IsLockedAt version (marked seen) = λ version h. (h.0, inr (⊎_elim (λ (e : get_or s.words 2 0 ≡ version + 1). let z = h.0 in omega (arith, e, z, hit)) (λ (e : get_or s.words 2 0 ≡ version + 3). let z = h.0 in omega (arith, e, z, hit)) h.1)) in (
        w,
        keeps,
        tt,
        writes s r w (marked seen) r.memory.callers.holder at (record { terms = refl; role = refl; past = refl; receipts = refl; allowance = refl; made = refl; lineage = refl }) refl refl refl (omega arith) (omega (arith, hit)) (λ h. h)
            (lock_stays s.views n (marked seen) id me.0 w r.memory.callers.holder at refl (λ e. let z : get_or s.words 2 0 % 4 ≡ 0 = subst (LoaderLock n s.views) e r.memory.callers.loader in absurd (omega (arith, z, odd, hit))) r.memory.callers.loader)
            (after_step (λ j u. AtLoader (record m { loader = marked seen }) r.memory.callers.holder j u.loader) s.views id w
            (part_stays m (marked seen) r.memory.callers.holder id me.0.loader keeps_lock (r.memory.callers.at_loader id me.0 at))
            (λ j u _ e. part_stays m (marked seen) r.memory.callers.holder j u.loader keeps_lock (r.memory.callers.at_loader j u e))),
        refl,
      ))
      (λ miss. (after_load 2 n me.0, keeps, tt, loaded s r at, refl))

  -- a log that holds the lock: the word is its version, locked, and no other log holds it
  mine_held : (s : Sit) (r : Holds s) (h : LoaderHolding) → mine_at s → me.0.loader ≡ Some h → (r.memory.callers.holder ≡ Some id) × IsLockedAt h.version (get_or s.words 2 0)
  mine_held s r h at is = let a : AtLoader (memory_of t s.words) r.memory.callers.holder id (Some h) = subst (AtLoader (memory_of t s.words) r.memory.callers.holder id) is (r.memory.callers.at_loader id me.0 at) in (a.0, a.1.locked)

  -- the lock is let go with a word that is a multiple of 4
  lets_go : (s : Sit) (r : Holds s) (h : LoaderHolding) (w : Log) (x : ℕ) → mine_at s → me.0.loader ≡ Some h → IsLike me.0 w → w.holdings ≡ me.0.holdings → w.sights ≡ me.0.sights → w.trace.loads ≡ me.0.trace.loads → turns me.0.trace < turns w.trace → w.loader ≡ None → h.stored ≡ false → x % 4 ≡ 0
      → x / 4 + w.budget.credit ≤ get_or s.words 2 0 / 4 + me.0.budget.credit → TableInvariant t (set s.words 2 x) (set s.views id w)
  lets_go s r h w x at is like holdings sights loads turn gone clean four fewer =
      let mine = mine_held s r h at is in
      let m : SharedWords = memory_of t s.words in
      writes s r w x None at like holdings sights loads turn fewer (λ _. subst (λ o. IfSome o (λ g. g.stored ≡ false)) (sym is) clean) four
      (after_step (λ j u. AtLoader (record m { loader = x }) None j u.loader) s.views id w (nothing (record m { loader = x }) None id w.loader gone)
      (λ j u other e. nothing (record m { loader = x }) None j u.loader (no_part m r.memory.callers.holder j u.loader (λ held. other (same_Some _ _ (sym held ∙ mine.0))) (r.memory.callers.at_loader j u e))))

  pub releases_loader : (h : LoaderHolding) → me.0.loader ≡ Some h → h.stored ≡ false → 0 < me.0.budget.credit → Allows Holds slots id me 2 (λ _. h.version + 4) (releases (step slots 2 (h.version + 4) 0 none) me)
  releases_loader h is clean some_credit s r deep at small =
      let w : Log = after_loader_release me.0 in
      let lock = (mine_held s r h at is).1 in
      let four = lock.0 in (
        w,
        keeps,
        tt,
        lets_go s r h w (h.version + 4) at is (record { terms = refl; role = refl; past = refl; receipts = refl; allowance = refl; made = refl; lineage = refl }) refl refl refl (omega arith) refl clean (omega (arith, four))
            (⊎_elim (λ (e : get_or s.words 2 0 ≡ h.version + 1). omega (arith, e, four, some_credit)) (λ (e : get_or s.words 2 0 ≡ h.version + 3). omega (arith, e, four, some_credit)) lock.1),
        (refl, subst (λ part. IfSome part (λ g. IsLockedAt g.version (get_or s.words 2 0))) (sym is) lock),
      )

  pub releases_same_loader : (h : LoaderHolding) → me.0.loader ≡ Some h → h.stored ≡ false → Allows Holds slots id me 2 (λ _. h.version) (releases_same (step slots 2 h.version 0 none) me)
  releases_same_loader h is clean s r deep at small =
      let w : Log = after_loader_release_same me.0 in
      let lock = (mine_held s r h at is).1 in
      let four = lock.0 in (
        w,
        keeps,
        tt,
        lets_go s r h w h.version at is (record { terms = refl; role = refl; past = refl; receipts = refl; allowance = refl; made = refl; lineage = refl }) refl refl refl (omega arith) refl clean four
            (⊎_elim (λ (e : get_or s.words 2 0 ≡ h.version + 1). omega (arith, e, four)) (λ (e : get_or s.words 2 0 ≡ h.version + 3). omega (arith, e, four)) lock.1),
        (refl, subst (λ part. IfSome part (λ g. IsLockedAt g.version (get_or s.words 2 0))) (sym is) lock),
      )

  -- the same as the code has it: the bits are set by `|`
  pub locks_by_bit : (seen : ℕ) → seen % 2 ≡ 0 → Allows Holds slots id me 2 (λ n. either (n == seen) (bit_or seen 1) n) (locks (step slots 2 seen (bit_or seen 1) none) me)
  locks_by_bit seen even =
      subst (λ x. Allows Holds slots id me 2 (λ n. either (n == seen) x n) (locks (step slots 2 seen x none) me)) (sym (or_disjoint seen 1 (and_mask seen 1 ∙ even))) (locks_loader seen even)

  pub marks_by_bits : (seen : ℕ) → seen % 2 ≡ 1 → Allows Holds slots id me 2 (λ n. either (n == seen) (bit_or seen 3) n) (marks (step slots 2 seen (bit_or seen 3) none) me)
  marks_by_bits seen odd =
      let sum = or_add_and seen 3 in
      let low = and_mask seen 2 in
      let set_bits : marked seen ≡ bit_or seen 3 = omega (arith, sum, low) in
      subst (λ x. Allows Holds slots id me 2 (λ n. either (n == seen) x n) (marks (step slots 2 seen x none) me)) set_bits (marks_loader seen odd)

  -- bit 0 is set in one step, whatever the word was
  abbrev Grabbed : Sit → ℕ → Bool → Type 0
  Grabbed s x b = (w : Log) × (a : Act (Unit {0})) × Valid s.homes me.1 a × Holds (stepped s 2 x id me.1 w a) × MatchBool b
      ((get_or s.words 2 0 % 4 ≡ 0) × (get_or s.words 2 0 < 2 ^ 63) × ((h : LoaderHolding) × (IsTaken me.0.terms (get_or s.words 2 0) h × (◌≡◌ {A = Seated} (w, carried_after me.1 a) (after_loader_lock h me.0, me.1)))))
      (◌≡◌ {A = Seated} (w, carried_after me.1 a) (after_load 2 (get_or s.words 2 0) me.0, me.1))

  grabs_word : (s : Sit) (r : Holds s) → length s.homes ≡ slots → (at : mine_at s) → get_or s.words 2 0 < 18446744073709551616 → (m : ℕ) → get_or s.words 2 0 % 2 ≡ m → Grabbed s (bit_or (get_or s.words 2 0) 1) (get_or s.words 2 0 % 2 == 0)
  grabs_word s r deep at small zero even =
      let n : ℕ = get_or s.words 2 0 in
      let hit : Grabbed s (either (n == n) (bit_or n 1) n) (n == n) = locks_by_bit n even s r deep at small in
      subst (Grabbed s (bit_or n 1)) (sym (eq-eqb (n % 2) 0 even)) (subst (λ b. Grabbed s (either b (bit_or n 1) n) b) (eq-eqb n n refl) hit)
  grabs_word s r deep at small (suc m) odd =
      let n : ℕ = get_or s.words 2 0 in
      let sum = or_add_and n 1 in
      let low = and_mask n 1 in
      let same : bit_or n 1 ≡ n = omega (arith, sum, low, odd) in
      let miss : Grabbed s n false = (after_load 2 n me.0, keeps, tt, loaded s r at, refl) in
      subst (Grabbed s (bit_or n 1)) (sym (ne_eqb (n % 2) 0 (λ e. omega (arith, e, odd)))) (subst (λ x. Grabbed s x false) (sym same) miss)

  pub grabs_loader : Allows Holds slots id me 2 (λ n. bit_or n 1) (grabs (step slots 2 1 0 none) me)
  grabs_loader s r deep at small = grabs_word s r deep at small (get_or s.words 2 0 % 2) refl

  -- the same with the version as a number
  pub releases_kept : (version : ℕ) → IsSomeAnd me.0.loader (λ h. h.stored ≡ false) → IfSome me.0.loader (λ h. h.version ≡ version) → 0 < me.0.budget.credit
      → Allows Holds slots id me 2 (λ _. version + 4) (releases (step slots 2 (version + 4) 0 none) me)
  releases_kept version held kept some_credit =
      let h = some_with me.0.loader (λ g. g.stored ≡ false) held in let is = subst (λ part. IfSome part (λ g. g.version ≡ version)) h.1.0 kept in
      subst (λ k. Allows Holds slots id me 2 (λ _. k + 4) (releases (step slots 2 (k + 4) 0 none) me)) is (releases_loader h.0 h.1.0 h.1.1 some_credit)

  pub releases_same_kept : (version : ℕ) → IsSomeAnd me.0.loader (λ h. h.stored ≡ false) → IfSome me.0.loader (λ h. h.version ≡ version)
      → Allows Holds slots id me 2 (λ _. version) (releases_same (step slots 2 version 0 none) me)
  releases_same_kept version held kept =
      let h = some_with me.0.loader (λ g. g.stored ≡ false) held in let is = subst (λ part. IfSome part (λ g. g.version ≡ version)) h.1.0 kept in
      subst (λ k. Allows Holds slots id me 2 (λ _. k) (releases_same (step slots 2 k 0 none) me)) is (releases_same_loader h.0 h.1.0 h.1.1)
