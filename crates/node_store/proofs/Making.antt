-- Stores in a held node, with loads among them.
use Rattle.std.proofs.Common.{◌≡◌, ℕ, zero, suc, ◌⊎◌, Bool, true, false, List, [], ◌∷◌, ◌++◌, length, Option, Some, None, IfSome, IsSome, IsSomeAnd, IsTrue, if◌then◌else◌, refl, ap, sym, ◌∙◌, subst, arith, append_assoc, append-nil, eq-eqb, ne_eqb, ◌≢◌, ◌≤◌, ◌&&◌, ◌==◌}
use Rattle.tree_shape.specs.NodeData.{NodeData}
use Rattle.tree_laws.specs.Numbers.{is_among}
use Rattle.word_rule.specs.CallerData.{CallerData}
use Rattle.word_rule.specs.Exchange.{after_exchange, group_of, is_lawful, settle, settle_free, top_of}
use Rattle.word_rule.specs.Held.{held_of, marked_in}
use Rattle.word_rule.specs.NodeTells.{HolderTells, IsHeldNode}
use Rattle.word_rule.specs.Places.{CONTENT_WORDS}
use Rattle.word_rule.specs.Spelling.{node_word, SpellsNode}
use Rattle.word_rule.specs.Steps.{MayStore, after_node_store, frees, stored_log}
use Rattle.word_rule.specs.declared.log.Holding.{Holding}
use Rattle.word_rule.specs.declared.log.LoadEvent.{LoadEvent}
use Rattle.word_rule.specs.declared.log.Log.{Log}
use Rattle.node_store.specs.declared.writing.Store.{Store}
use Rattle.node_store.specs.Entries.{store_over}
use Rattle.node_store.specs.Holding.{AgreeUpto, AreHeld, MakesStores, SpellsHeld, StoresHeld, WritesInOrder, after_node_stores}
use Rattle.node_store.specs.Outlines.{OnlyLoads}
use Rattle.version_locks.specs.Locking.{loaded}
use Rattle.node_store.specs.Sights.{after_words}
use Rattle.node_store.specs.Writing.{FitsWords, Write, after_stores, stores}
use Rattle.node_store.proofs.HeldWrites.{HasHeld, append_node_stores, has_all_stored, may_stays, stores_same}
use Rattle.node_store.proofs.Outlined.{no_loads, one_load}

-- a store doesn't look at loads
plain_over : (n at value : ℕ) (more : List LoadEvent) (v : Log) → after_node_store n at value (loaded more v) ≡ loaded more (after_node_store n at value v)
plain_over n at value more v = go (frees n at value v)
  where
    settled : (b : Bool) → (if b then after_exchange (stored_log n at value (loaded more v)) (top_of (stored_log n at value v) None) (is_among (group_of (stored_log n at value v) None)) else settle_free (stored_log n at value (loaded more v)))
        ≡ loaded more (if b then after_exchange (stored_log n at value v) (top_of (stored_log n at value v) None) (is_among (group_of (stored_log n at value v) None)) else settle_free (stored_log n at value v))
    settled true = refl
    settled false = refl

    go : (b : Bool) → (if b then settle None (stored_log n at value (loaded more v)) else stored_log n at value (loaded more v)) ≡ loaded more (if b then settle None (stored_log n at value v) else stored_log n at value v)
    go true = settled (is_lawful (stored_log n at value v) None)
    go false = refl

pub loads_over : (n : ℕ) (made : List Store) (more : List LoadEvent) (v : Log) → after_node_stores n made (loaded more v) ≡ loaded more (after_node_stores n made v)
unfolding after_node_stores
loads_over n [] more v = refl
loads_over n (x ∷ made) more v = ap (after_node_stores n made) (plain_over n x.at x.value more v) ∙ loads_over n made more (after_node_store n x.at x.value v)

-- loads alone
pub only_loaded : (n : ℕ) (k k' : CallerData) → OnlyLoads k k' → MakesStores n [] k k'
unfolding after_node_stores
only_loaded n k k' only = only

-- stores alone
pub only_stored : (n : ℕ) (made : List Store) (k k' : CallerData) → k' ≡ record k { log = after_node_stores n made k.log } → MakesStores n made k k'
only_stored n made k k' is =
    let none = no_loads (record k { log = after_node_stores n made k.log }) in
    (none.0, is ∙ none.1)

-- and others after them
pub made_then : (n : ℕ) (made more : List Store) (k k1 k2 : CallerData) → MakesStores n made k k1 → MakesStores n more k1 k2 → MakesStores n (made ++ more) k k2
made_then n made more k k1 k2 first later =
    let w = after_node_stores n made k.log in (
      first.0 ++ later.0,
      later.1
          ∙ (ap (λ (z : CallerData). record z { log = loaded later.0 (after_node_stores n more z.log) }) first.1
          ∙ (ap (λ (v : Log). record k { log = loaded later.0 v }) (loads_over n more first.0 w)
          ∙ (ap (λ (v : Log). record k { log = loaded later.0 (loaded first.0 v) }) (sym (append_node_stores n made more k.log))
          ∙ ap (λ (loads : List LoadEvent). record k { log = record (after_node_stores n (made ++ more) k.log) { trace = record (after_node_stores n (made ++ more) k.log).trace { loads = loads } } }) (append_assoc (after_node_stores n (made ++ more) k.log).trace.loads first.0 later.0)))),
    )

-- the loads of a held node's words
pub words_loaded : (n : ℕ) (words : List ℕ) (count : ℕ) (k : CallerData) → IsSome (held_of n k.log.holdings.held) → OnlyLoads k (record k { log = after_words n words count k.log })
unfolding after_words
words_loaded n words zero k held = no_loads k
words_loaded n words (suc count) k held =
    one_load n (suc count) (node_word words (suc count)) k (record k { log = after_words n words count k.log }) (record k { log = after_words n words (suc count) k.log }) held (words_loaded n words count k held) refl

-- a held node was written
pub record Written (n : ℕ) (s : NodeData) (k k' : CallerData) : Type 0 where
  pub stores : StoresHeld n s k k'
  pub order : WritesInOrder n s k.log
  pub spells : SpellsHeld n s k'.log

pub written_by : (n : ℕ) (s : NodeData) (h : Holding) (k k' : CallerData) → held_of n k.log.holdings.held ≡ Some h → Write s h.words (stores s h.words) → MakesStores n (stores s h.words) k k' → Written n s k k'
written_by n s h k k' e write made =
    let has : HasHeld n h.words k.log = subst (λ o. IsSomeAnd o (λ (z : Holding). z.words ≡ h.words)) (sym e) refl in
    let after : HasHeld n (after_stores (stores s h.words) h.words) k'.log = subst (λ (z : CallerData). HasHeld n (after_stores (stores s h.words) h.words) z.log) (sym made.1) (has_all_stored n (stores s h.words) h.words k.log has) in
    record {
      stores = subst (λ o. IsSomeAnd o (λ (z : Holding). MakesStores n (stores s z.words) k k')) (sym e) made;
      order = subst (λ o. IsSomeAnd o (λ (z : Holding). Write s z.words (stores s z.words))) (sym e) write;
      spells = spelled_now (held_of n k'.log.holdings.held) (after_stores (stores s h.words) h.words) write.spells after;
    }
  where
    spelled_now : (o : Option Holding) (words : List ℕ) → SpellsNode words s → IsSomeAnd o (λ z. z.words ≡ words) → IsSomeAnd o (λ z. SpellsNode z.words s)
    spelled_now None words spells has = absurd has
    spelled_now (Some z) words spells has = subst (λ ws. SpellsNode ws s) (sym has) spells

-- the same, of all words loaded before the first store
pub written : (n : ℕ) (s : NodeData) (loaded : List ℕ) (k k' : CallerData) → FitsWords s → ((words : List ℕ) → length words ≡ CONTENT_WORDS → FitsWords s → Write s words (stores s words)) → MayStore n k.log → AreHeld n loaded 35 k.log → HolderTells n k.log → k' ≡ record k { log = after_node_stores n (stores s loaded) (after_words n loaded 35 k.log) } → Written n s k k'
written n s loaded k k' fits writes may held told is = go (held_of n k.log.holdings.held) refl may held told
  where
    go : (o : Option Holding) → held_of n k.log.holdings.held ≡ o → IsSomeAnd o (λ h. IsSome h.mark ⊎ IsTrue (is_among k.log.holdings.out n)) → IfSome o (λ h. AgreeUpto loaded h.words 35) → IfSome o (IsHeldNode k.log.terms) → Written n s k k'
    go None e may same told = absurd may
    go (Some h) e may same told =
        let k1 : CallerData = record k { log = after_words n loaded 35 k.log } in
        let loads = words_loaded n loaded 35 k (subst IsSome (sym e) refl) in
        let stored = is ∙ ap (λ made. record k { log = after_node_stores n made (after_words n loaded 35 k.log) }) (stores_same s loaded h.words same 35 (omega arith)) in
        written_by n s h k k' e (writes h.words told.wide fits) (made_then n [] (stores s h.words) k k1 k' (only_loaded n k k1 loads) (only_stored n (stores s h.words) k1 k' stored))

-- a word was stored where another stood, and not where it was the same
pub stored_over : (n old : ℕ) (store : Store) (k k' : CallerData) → old ≢ store.value → k' ≡ record k { log = after_node_store n store.at store.value k.log } → k' ≡ record k { log = after_node_stores n (store_over old store) k.log }
unfolding after_node_stores
stored_over n old store k k' other is =
    is ∙ ap (λ b. record k { log = after_node_stores n (if b then [] else store ∷ []) k.log }) (sym (ne_eqb old store.value other))

pub unstored_over : (n old : ℕ) (store : Store) (k : CallerData) → old ≡ store.value → k ≡ record k { log = after_node_stores n (store_over old store) k.log }
unfolding after_node_stores
unstored_over n old store k same =
    ap (λ b. record k { log = after_node_stores n (if b then [] else store ∷ []) k.log }) (sym (eq-eqb old store.value same))

-- a word after the kind was stored, so others may be
pub may_after : (n at value : ℕ) (k k' : CallerData) → 5 ≤ at → k' ≡ record k { log = after_node_store n at value k.log } → MayStore n k.log → MayStore n k'.log
may_after n at value k k' far is may =
    subst (λ (z : CallerData). MayStore n z.log) (sym is)
    (may_stays n at value k.log (ap (λ b. b && (value == 2) && marked_in k.log.holdings.held n) (ne_eqb at 1 (λ e. omega (arith, e, far)))) may)

-- three words, one after another
pub stored_thrice : (n : ℕ) (xs ys zs : List Store) (k k1 k2 k3 : CallerData) → k1 ≡ record k { log = after_node_stores n xs k.log } → k2 ≡ record k1 { log = after_node_stores n ys k1.log } → k3 ≡ record k2 { log = after_node_stores n zs k2.log } → k3 ≡ record k { log = after_node_stores n (xs ++ ys ++ zs) k.log }
stored_thrice n xs ys zs k k1 k2 k3 first second third =
    third
    ∙ (ap (λ (z : CallerData). record z { log = after_node_stores n zs z.log }) (second ∙ ap (λ (z : CallerData). record z { log = after_node_stores n ys z.log }) first)
    ∙ ap (λ (v : Log). record k { log = v }) (sym (append_node_stores n (xs ++ ys) zs k.log ∙ ap (after_node_stores n zs) (append_node_stores n xs ys k.log))))

-- loads, and then stores
pub made_more : (n : ℕ) (made more : List Store) (k k1 k2 k3 : CallerData) → MakesStores n made k k1 → OnlyLoads k1 k2 → k3 ≡ record k2 { log = after_node_stores n more k2.log } → MakesStores n (made ++ more) k k3
made_more n made more k k1 k2 k3 first loads stored =
    subst (λ xs. MakesStores n (xs ++ more) k k3) (append-nil made)
    (made_then n (made ++ []) more k k2 k3 (made_then n made [] k k1 k2 first (only_loaded n k1 k2 loads)) (only_stored n more k2 k3 stored))
