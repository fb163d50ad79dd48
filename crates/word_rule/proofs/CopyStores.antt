-- A store in the copy that is not active keeps the rule.
use Rattle.std.proofs.Common.{◌≡◌, ◌≢◌, ℕ, zero, suc, ◌+◌, ◌-◌, ◌%◌, ◌<◌, List, [], get_or, set, length-set, sym, refl, ap, ◌∙◌, subst, arith, true, false, true≢false, Option, Some, None, IfSome, option_map, append-nil, IsSomeAnd}
use Rattle.std.proofs.lemmas.Option.{same_Some}
use Rattle.std.specs.List.{AllByRecursion}
use mathlib.Core.Option.{none, some}
use lib.ListN.{get_elem?}
use Rattle.atomic_table.specs.Table.{step, keeps, Allows}
use Rattle.atomic_table.proofs.Lists.{set_here}
use Rattle.word_rule.specs.declared.log.Role.TheVariants as role
use Rattle.word_rule.specs.declared.log.Terms.{Terms}
use Rattle.word_rule.specs.declared.log.LoaderHolding.{LoaderHolding}
use Rattle.word_rule.specs.declared.log.CopySight.{CopySight}
use Rattle.word_rule.specs.declared.log.Log.{Log}
use Rattle.word_rule.specs.Places.{copy_place, copy_words, upper, spare, word_count}
use Rattle.word_rule.specs.SharedWords.{SharedWords, memory_of, updated}
use Rattle.word_rule.specs.Logs.{is_gone, is_nameless, after_write}
use Rattle.word_rule.specs.Steps.{MayStoreCopy, store_in_copy, after_copy_store, spare_place}
use Rattle.reg_model.specs.History.{state_after}
use Rattle.word_rule.specs.Callers.{HoldsLoader, AtLoader, LoaderLock, start}
use Rattle.word_rule.specs.Copies.{ListsAll, CopySightHolds}
use Rattle.word_rule.specs.TableInvariant.{TableInvariant}
use Rattle.word_rule.specs.Plays.{Seated, stores_copy}
use Rattle.word_rule.proofs.Each.{some_with}
use Rattle.word_rule.proofs.Facts.{after_step, within}
use Rattle.word_rule.proofs.Memories.{set_copy}
use Rattle.word_rule.proofs.Frames.{Sit}
use Rattle.word_rule.proofs.CallersFrame.{IsLike, callers_step, busy}
use Rattle.word_rule.proofs.NodesFrame.{nodes_same}
use Rattle.word_rule.proofs.Writes.{written}
use Rattle.word_rule.proofs.NodeLocks.{updated_here, updated_other}

-- where another holds the lock, a log has no part in it
pub other_loader : (m m' : SharedWords) (holder : Option ℕ) (j : ℕ) (o : Option LoaderHolding) → holder ≢ Some j → AtLoader m holder j o → AtLoader m' holder j o
other_loader m m' holder j None far h = tt
other_loader m m' holder j (Some g) far h = absurd (far h.0)

-- a log that has the loader's lock
pub loader_held : (m : SharedWords) (holder : Option ℕ) (id : ℕ) (o : Option LoaderHolding) (h : LoaderHolding) → o ≡ Some h → AtLoader m holder id o → (holder ≡ Some id) × HoldsLoader m h
loader_held m holder id o h is a = subst (AtLoader m holder id) is a

-- the words that may be stored are in the table
pub spare_inside : (t : Terms) (at : ℕ) (o : Option LoaderHolding) → IsSomeAnd o (MayStoreCopy t at) → at < word_count t
spare_inside t at None h = absurd h
spare_inside t at (Some g) h = go ((g.published + 1) % 2) (omega arith) h.1
  where
    go : (c : ℕ) → c < 2 → at < copy_place t c + copy_words t → at < word_count t
    go zero two less = omega (arith, less)
    go (suc zero) two less = omega (arith, less)
    go (suc (suc c)) two less = absurd (omega (arith, two))

-- a word stored, counted from the copy's first
abbrev put_in_copy : ℕ → ℕ → LoaderHolding → LoaderHolding
put_in_copy k x h = record h { spare = set h.spare k x; stored = true }

abbrev after_put : ℕ → ℕ → Log → Log
after_put k x v = record (after_write v) { loader = option_map (put_in_copy k x) v.loader }

module _ (t : Terms) (slots id : ℕ) (me : Seated) (caller : me.0.role ≡ role.Caller) where
  abbrev Holds : Sit → Type 0
  Holds s = TableInvariant t s.words s.views

  stands : is_nameless me.0.role ≡ false
  stands = ap is_nameless caller

  module _ (h : LoaderHolding) (is : me.0.loader ≡ Some h) (k x : ℕ) (inside : k < copy_words t) (s : Sit) (r : Holds s) (at : get_elem? s.views id ≡ some me.0) where
    abbrev m : SharedWords
    m = memory_of t s.words

    -- the number of the copy that is not active
    c : ℕ
    c = spare (get_or s.words 0 0)

    abbrev copies' : ℕ → List ℕ
    copies' = updated (memory_of t s.words).copies (spare (get_or s.words 0 0)) (set ((memory_of t s.words).copies (spare (get_or s.words 0 0))) k x)

    abbrev m' : SharedWords
    m' = record (memory_of t s.words) { copies = copies' }

    abbrev w : Log
    w = after_put k x me.0

    mine : (r.memory.callers.holder ≡ Some id) × HoldsLoader (memory_of t s.words) h
    mine = loader_held (memory_of t s.words) r.memory.callers.holder id me.0.loader h is (r.memory.callers.at_loader id me.0 at)

    now : w.loader ≡ Some (put_in_copy k x h)
    now = ap (option_map (put_in_copy k x)) is

    -- the active copy is the other one
    active_stays : copies' (upper (get_or s.words 0 0) % 2) ≡ (memory_of t s.words).copies (upper (get_or s.words 0 0) % 2)
    active_stays = updated_other (memory_of t s.words).copies (spare (get_or s.words 0 0)) (set ((memory_of t s.words).copies (spare (get_or s.words 0 0))) k x) (upper (get_or s.words 0 0) % 2) (λ e. omega (arith, e))

    lock : LoaderLock (memory_of t s.words).loader (set s.views id w) r.memory.callers.holder
    lock = subst (LoaderLock (memory_of t s.words).loader (set s.views id w)) (sym mine.0) (w, put_in_copy k x h, (set_here s.views id w (within s.views id me.0 at), now))

    at_lock : (j : ℕ) (u : Log) → get_elem? (set s.views id w) j ≡ some u → AtLoader m' r.memory.callers.holder j u.loader
    at_lock = after_step (λ j u. AtLoader m' r.memory.callers.holder j u.loader) s.views id w
        (subst (AtLoader m' r.memory.callers.holder id) (sym now) (
          mine.0,
          record {
            locked = mine.1.locked;
            published = mine.1.published;
            active = mine.1.active ∙ sym active_stays;
            spare = ap (λ ws. set ws k x) mine.1.spare ∙ sym (updated_here (memory_of t s.words).copies (spare (get_or s.words 0 0)) (set ((memory_of t s.words).copies (spare (get_or s.words 0 0))) k x) (spare (get_or s.words 0 0)) refl);
          },
        ))
        (λ j u far there. other_loader (memory_of t s.words) m' r.memory.callers.holder j u.loader (λ e. far (same_Some _ _ (sym e ∙ mine.0))) (r.memory.callers.at_loader j u there))

    copies : (g : CopySight) → CopySightHolds t (memory_of t s.words).clock (memory_of t s.words).copies g → CopySightHolds t (memory_of t s.words).clock copies' g
    copies g p = record {
      earlier = p.earlier;
      own = p.own;
      loaded = λ guard. subst (λ ws. AllByRecursion (λ a. get_or ws (a.at - copy_place t (g.guard % 2)) 0 ≡ a.value) g.words) (sym (updated_other (memory_of t s.words).copies (spare (get_or s.words 0 0)) (set ((memory_of t s.words).copies (spare (get_or s.words 0 0))) k x) (g.guard % 2) (λ e. omega (arith, e, guard)))) (p.loaded guard);
    }

    pub stored : TableInvariant t (set s.words (copy_place t (spare (get_or s.words 0 0)) + k) x) (set s.views id w)
    stored =
        let like : IsLike me.0 w = record { terms = refl; role = refl; past = refl; receipts = refl; allowance = refl; made = refl; lineage = refl } in
        written t s.words s.views r id me.0 w at stands (set s.words (copy_place t (spare (get_or s.words 0 0)) + k) x) m' r.memory.history r.memory.shadow (length-set s.words (copy_place t (spare (get_or s.words 0 0)) + k) x)
        (set_copy t s.words r.wide x (spare (get_or s.words 0 0)) k (omega arith) inside) ([], append-nil r.memory.history)
        (callers_step t (memory_of t s.words) s.views r.memory.history r.memory.callers id me.0 w at like m' r.memory.callers.holder refl (omega arith) lock at_lock (busy me.0 w caller)
        (λ clean. absurd (true≢false (subst (λ o. IfSome o (λ g. g.stored ≡ false)) now (clean id w (set_here s.views id w (within s.views id me.0 at)))))))
        (nodes_same s.views id me.0 w at t (memory_of t s.words).nodes r.memory.history r.memory.shadow refl r.memory.nodes)
        (subst (λ ws. ListsAll ws (state_after (start t) r.memory.history).loaded) (sym active_stays) r.memory.active) refl (λ _ p. p) copies (record { own = refl; sights = refl; loads = refl; turn = omega arith })

  -- the place of the word is known from the log: its copy is the one that the lock's publications say
  pub stores_spare : (h : LoaderHolding) → me.0.loader ≡ Some h → (at x : ℕ) → MayStoreCopy t at h → Allows Holds slots id me at (λ _. x) (stores_copy (step slots at x 0 none) me)
  stores_spare h is at x may s r deep here small =
      let mine = loader_held (memory_of t s.words) r.memory.callers.holder id me.0.loader h is (r.memory.callers.at_loader id me.0 here) in
      let same : spare_place t h ≡ copy_place t (spare (get_or s.words 0 0)) = ap (λ u. copy_place t ((u + 1) % 2)) mine.1.published in
      let k : ℕ = at - spare_place t h in
      let low = may.0 in let high = may.1 in
      let place : copy_place t (spare (get_or s.words 0 0)) + k ≡ at = omega (arith, same, low) in
      let terms : me.0.terms ≡ t = (r.memory.callers.each id me.0 here).terms (ap is_gone caller) in
      let held : option_map (put_in_copy k x) me.0.loader ≡ option_map (store_in_copy me.0.terms at x) me.0.loader = ap (option_map (put_in_copy k x)) is ∙ (ap (λ u. Some (store_in_copy u at x h)) (sym terms) ∙ sym (ap (option_map (store_in_copy me.0.terms at x)) is)) in
      let w : Log = after_copy_store at x me.0 in
      let log : after_put k x me.0 ≡ w = (λ i. record (after_write me.0) { loader = held i }) in
      (w, keeps, tt, subst (λ (v : Log). TableInvariant t (set s.words at x) (set s.views id v)) log (subst (λ p. TableInvariant t (set s.words p x) (set s.views id (after_put k x me.0))) place (stored h is k x (omega (arith, low, high)) s r here)), refl)

  -- the same of the lock that the log has
  pub stores_held : (at x : ℕ) → IsSomeAnd me.0.loader (MayStoreCopy t at) → Allows Holds slots id me at (λ _. x) (stores_copy (step slots at x 0 none) me)
  stores_held at x may = let h = some_with me.0.loader (MayStoreCopy t at) may in stores_spare h.0 h.1.0 at x h.1.1
