-- The stores that write a held node keep all else of the log; the node's lock has the new words.
use Rattle.std.proofs.Common.{◌≡◌, Some, ℕ, List, refl, Bool, true, false, ◌==◌, Option, None, if◌then◌else◌, zero, suc, ◌≢◌, ap, ◌∙◌, subst, ◌&&◌, ne_eqb, ◌∷◌, ◌++◌, ◌⊎◌, [], cond, eq-eqb, inl, inr, sym, IsSomeAnd}
use Rattle.std.specs.Option.{option_to_list}
use Rattle.std.specs.List.{AllByRecursion}
use Rattle.std.proofs.lemmas.Option.{same_Some}
use native.Mathlib.Decide.{ℕ_discrete}
use Rattle.tree_shape.specs.NodeData.{NodeData}
use Rattle.word_rule.specs.Spelling.{node_word, SpellsNode, spelled}
use Rattle.word_rule.proofs.Each.{all_append}
use Rattle.word_rule.specs.declared.log.Log.{Log}
use Rattle.word_rule.specs.Held.{marked_in, edited, held_of}
use Rattle.word_rule.specs.Steps.{frees, after_node_store, store_in, stored_log}
use Rattle.word_rule.specs.CallerData.{CallerData}
use Rattle.word_rule.specs.declared.log.Holding.{Holding}
use Rattle.word_rule.specs.Exchange.{settle}
use Rattle.node_store.specs.declared.writing.Store.{Store}
use Rattle.node_store.specs.Writing.{wanted_node_word, place_in_turn, store_in_turn, store_of, stores_upto, kind_of_body, stores}
use Rattle.node_store.specs.Holding.{after_node_stores, MakesStores, SpellsHeld, StoresHeld}
use Rattle.tree_descent.specs.Paths.{StepsOnNodes}
use Rattle.tree_descent.proofs.Loading.{none_more}
use Rattle.tree_descent.proofs.NodeSteps.{steps_none, steps_so, steps_then}
use Rattle.tree_descent.proofs.Outlining.{steps_of_loads}

-- what is stored is what is wanted there
abbrev IsWanted : NodeData → Store → Type 0
IsWanted s x = wanted_node_word s x.at ≡ Some x.value

turn_wanted : (s : NodeData) (words : List ℕ) (turn : ℕ) → AllByRecursion (IsWanted s) (option_to_list (store_in_turn s words turn))
turn_wanted s words turn = go (wanted_node_word s (place_in_turn turn)) refl
  where
    by_test : (value : ℕ) → wanted_node_word s (place_in_turn turn) ≡ Some value → (b : Bool) → AllByRecursion (IsWanted s) (option_to_list (if b then None else Some record { at = place_in_turn turn; value = value }))
    by_test value e true = tt
    by_test value e false = (e, tt)

    go : (o : Option ℕ) → wanted_node_word s (place_in_turn turn) ≡ o → AllByRecursion (IsWanted s) (option_to_list (store_of words (place_in_turn turn) o))
    go None e = tt
    go (Some value) e = by_test value e (node_word words (place_in_turn turn) == value)

all_wanted : (s : NodeData) (words : List ℕ) (turns : ℕ) → AllByRecursion (IsWanted s) (stores_upto s words turns)
all_wanted s words zero = tt
all_wanted s words (suc turn) = all_append (IsWanted s) (stores_upto s words turn) (option_to_list (store_in_turn s words turn)) (all_wanted s words turn) (turn_wanted s words turn)

-- a node that isn't to be free is freed by no store
no_free : (s : NodeData) (x : Store) (n : ℕ) (v : Log) → kind_of_body s.body ≢ 2 → IsWanted s x → frees n x.at x.value v ≡ false
no_free s x n v kind wanted = go (ℕ_discrete x.at 1)
  where
    and_false : (b : Bool) → (b && false) ≡ false
    and_false true = refl
    and_false false = refl

    go : Dec (x.at ≡ 1) → frees n x.at x.value v ≡ false
    go (no ne) = ap (λ b. (b && (x.value == 2)) && marked_in v.holdings.held n) (ne_eqb x.at 1 ne)
    go (yes e) =
        let value : kind_of_body s.body ≡ x.value = same_Some _ _ (subst (λ k. wanted_node_word s k ≡ Some x.value) e wanted) in
        ap (λ b. ((x.at == 1) && b) && marked_in v.holdings.held n) (ne_eqb x.value 2 (λ two. kind (value ∙ two))) ∙ ap (λ b. b && marked_in v.holdings.held n) (and_false (x.at == 1))

-- the lock of the node, changed by stores, and the others as they were
pub record KeepsLocks (h : Holding) (before above : List Holding) (v w : Log) : Type 0 where
  pub lock : Holding
  pub held : w.holdings.held ≡ before ++ lock ∷ above
  pub node : lock.node ≡ h.node
  pub mark : lock.mark ≡ h.mark
  pub settled : lock.settled ≡ h.settled
  pub stored : h.stored ≡ true → lock.stored ≡ true
  pub kept : (lock.words ≡ h.words) ⊎ (lock.stored ≡ true)
  pub out : w.holdings.out ≡ v.holdings.out
  pub same : (k : CallerData) → StepsOnNodes (record k { log = v }) (record k { log = w })

edited_above : (n : ℕ) (f : Holding → Holding) (above : List Holding) → AllByRecursion (λ a. a.node ≢ n) above → edited n f above ≡ above
edited_above n f [] far = refl
edited_above n f (a ∷ above) far = (λ i. cond (ne_eqb a.node n far.0 i) (f a) a ∷ edited_above n f above far.1 i)

-- the lock among others is the one that is changed, and that is found
pub edited_at : (n : ℕ) (f : Holding → Holding) (before : List Holding) (h : Holding) (above : List Holding) → h.node ≡ n → AllByRecursion (λ a. a.node ≢ n) before → AllByRecursion (λ a. a.node ≢ n) above → edited n f (before ++ h ∷ above) ≡ before ++ f h ∷ above
edited_at n f [] h above is none far = (λ i. cond (eq-eqb h.node n is i) (f h) h ∷ edited_above n f above far i)
edited_at n f (b ∷ before) h above is none far = (λ i. cond (ne_eqb b.node n none.0 i) (f b) b ∷ edited_at n f before h above is none.1 far i)

pub found_at : (n : ℕ) (before : List Holding) (h : Holding) (above : List Holding) → h.node ≡ n → AllByRecursion (λ a. a.node ≢ n) before → held_of n (before ++ h ∷ above) ≡ Some h
found_at n [] h above is none = ap (λ b. cond b (Some h) (held_of n above)) (eq-eqb h.node n is)
found_at n (b ∷ before) h above is none = ap (λ z. cond z (Some b) (held_of n (before ++ h ∷ above))) (ne_eqb b.node n none.0) ∙ found_at n before h above is none.1

stored_keeps : (s : NodeData) (n : ℕ) (xs : List Store) (h : Holding) (before above : List Holding) (v : Log) → kind_of_body s.body ≢ 2 → AllByRecursion (IsWanted s) xs → h.node ≡ n → AllByRecursion (λ a. a.node ≢ n) before → AllByRecursion (λ a. a.node ≢ n) above → v.holdings.held ≡ before ++ h ∷ above
    → KeepsLocks h before above v (after_node_stores n xs v)
unfolding after_node_stores
stored_keeps s n [] h before above v kind wanted is none far held = record { lock = h; held = held; node = refl; mark = refl; settled = refl; stored = λ e. e; kept = inl refl; out = refl; same = λ k. steps_none (record k { log = v }) }
stored_keeps s n (x ∷ xs) h before above v kind wanted is none far held =
    let plain : after_node_store n x.at x.value v ≡ stored_log n x.at x.value v = ap (λ b. if b then settle None (stored_log n x.at x.value v) else stored_log n x.at x.value v) (no_free s x n v kind wanted.0) in
    let one : (stored_log n x.at x.value v).holdings.held ≡ before ++ store_in x.at x.value h ∷ above = ap (edited n (store_in x.at x.value)) held ∙ edited_at n (store_in x.at x.value) before h above is none far in
    let rest = stored_keeps s n xs (store_in x.at x.value h) before above (stored_log n x.at x.value v) kind wanted.1 is none far one in
    subst (λ z. KeepsLocks h before above v (after_node_stores n xs z)) (sym plain) (record {
      lock = rest.lock;
      held = rest.held;
      node = rest.node;
      mark = rest.mark;
      settled = rest.settled;
      stored = λ _. rest.stored refl;
      kept = inr (rest.stored refl);
      out = rest.out;
      same = λ k. steps_then (record k { log = v }) (record k { log = stored_log n x.at x.value v }) (record k { log = after_node_stores n xs (stored_log n x.at x.value v) })
          (steps_so (record k { log = v }) refl refl (none_more v.trace.loads)) (rest.same k);
    })

-- A held node was written, and isn't free: its lock, which has this place among those that are held,
-- spells it, and all else is as it was. A word was stored where it spelled something else before.
pub record IsWrittenAs (s : NodeData) (h : Holding) (place : Holding → List Holding) (k k' : CallerData) : Type 0 where
  pub lock : Holding
  pub held : k'.log.holdings.held ≡ place lock
  pub node : lock.node ≡ h.node
  pub mark : lock.mark ≡ h.mark
  pub settled : lock.settled ≡ h.settled
  pub spells : SpellsNode lock.words s
  pub stored : (old : NodeData) → SpellsNode h.words old → old ≢ s → lock.stored ≡ true
  pub out : k'.log.holdings.out ≡ k.log.holdings.out
  pub same : StepsOnNodes k k'

-- its lock stands between others
abbrev pub IsRewritten : NodeData → Holding → List Holding → List Holding → CallerData → CallerData → Type 0
IsRewritten s h before above k k' = IsWrittenAs s h (λ lock. before ++ lock ∷ above) k k'

pub rewritten_so : (s : NodeData) (n : ℕ) (h : Holding) (before above : List Holding) (k k' : CallerData) → kind_of_body s.body ≢ 2 → h.node ≡ n → AllByRecursion (λ a. a.node ≢ n) before → AllByRecursion (λ a. a.node ≢ n) above → k.log.holdings.held ≡ before ++ h ∷ above → StoresHeld n s k k' → SpellsHeld n s k'.log
    → IsRewritten s h before above k k'
rewritten_so s n h before above k k' kind is none far held writes spells =
    let found : held_of n k.log.holdings.held ≡ Some h = ap (held_of n) held ∙ found_at n before h above is none in
    let made = subst (λ o. IsSomeAnd o (λ (z : Holding). MakesStores n (stores s z.words) k k')) found writes in
    let equal = made.1 in
    let kept = stored_keeps s n (stores s h.words) h before above k.log kind (all_wanted s h.words 35) is none far held in
    let w : CallerData = record k { log = after_node_stores n (stores s h.words) k.log } in
    let now : k'.log.holdings.held ≡ before ++ kept.lock ∷ above = ap (λ (z : CallerData). z.log.holdings.held) equal ∙ kept.held in
    let found' : held_of n k'.log.holdings.held ≡ Some kept.lock = ap (held_of n) now ∙ found_at n before kept.lock above (kept.node ∙ is) none in
    let spelled_now : SpellsNode kept.lock.words s = subst (λ o. IsSomeAnd o (λ (z : Holding). SpellsNode z.words s)) found' spells in record {
      lock = kept.lock;
      held = now;
      node = kept.node;
      mark = kept.mark;
      settled = kept.settled;
      spells = spelled_now;
      stored = λ old was differs. differ_stored kept.lock kept.kept spelled_now old was differs;
      out = ap (λ (z : CallerData). z.log.holdings.out) equal ∙ kept.out;
      same = steps_then k w k' (kept.same k) (steps_of_loads w k' (made.0, equal));
    }
  where
    differ_stored : (lock : Holding) → (lock.words ≡ h.words) ⊎ (lock.stored ≡ true) → SpellsNode lock.words s → (old : NodeData) → SpellsNode h.words old → old ≢ s → lock.stored ≡ true
    differ_stored lock (inl same) now old was differs = absurd (differs (same_Some _ _ (sym was ∙ (ap spelled (sym same) ∙ now))))
    differ_stored lock (inr e) now old was differs = e
