-- A free node is taken for a full one; or none is free, and the loads say so.
use Rattle.std.proofs.Common.{◌≡◌, ℕ, List, length, sym, refl, ◌∙◌, subst, Bool, true, false, Option, Some, None, option_map, if◌then◌else◌, ◌==◌, ◌&&◌, nat_le, suc, [], ◌∷◌, arith, Contains, eq-eqb, ne_eqb, ◌≢◌, ◌+◌, ◌⊎◌, inl, inr, ◌++◌, ap, Result, Ok, Err, IfSome, append_assoc, append-nil}
use Rattle.std.proofs.lemmas.Option.{none-some, same_Some}
use Rattle.std.specs.List.{AllByRecursion}
use native.Mathlib.Decide.{ℕ_discrete}
use Rattle.reg_model.specs.declared.span.Member.{Member}
use Rattle.tree_shape.specs.declared.pair.Pair.{Pair}
use Rattle.tree_shape.specs.NodeData.{Body, Pairs, Entries, Link, NodeData, IsInFences}
use Rattle.tree_laws.specs.Steps.{IsFull}
use Rattle.word_rule.specs.Observations.{IsFullBody, FoundHighest, IsFullCount}
use Rattle.word_rule.specs.Spelling.{entries_at, is_short, node_word, pairs_at, SpellsNode}
use Rattle.word_rule.proofs.Spells.{entries_length, pairs_length, reads, spells_free}
use Rattle.word_rule.specs.Held.{held_of}
use Rattle.word_rule.specs.declared.log.Holding.{Holding}
use Rattle.word_rule.specs.CallerData.{CallerData}
use Rattle.word_rule.specs.Logs.{load_of}
use Rattle.word_rule.specs.NodeTells.{HeldTells}
use Rattle.word_rule.specs.Places.{HEAD, node_place}
use Rattle.word_rule.specs.TreeRefusals.{FoundNoneFree, HadNoRoom, IsCountAt}
use Rattle.word_rule.specs.Sights.{after_node_load}
use Rattle.word_rule.specs.Steps.{mark_at_lock}
use Rattle.word_rule.specs.declared.log.LoadEvent.{LoadEvent}
use Rattle.word_rule.specs.declared.log.Terms.{Terms}
use Rattle.word_rule.proofs.Each.{all_map}
use Rattle.version_locks.specs.declared.locking.Busy.{Busy}
use Rattle.free_list.specs.Free.{IsFreeTaken, IsOfCount, LosesRounds, TakesFree, headed}
use Rattle.version_locks.specs.Locking.{tried}
use Rattle.tree_descent.specs.declared.descent.Held.{Held}
use Rattle.tree_descent.specs.Loads.{FoundNoRoom}
use Rattle.tree_descent.proofs.Loading.{found_after, keeps_load, keeps_then}
use Rattle.tree_descent.proofs.NodeSteps.{steps_so}
use Rattle.node_split.specs.Splits.{HoldsFull, IsRoomFor, StaysHeld, TakesRoom}

-- the count of a full node is the greatest
full_body : (inner few leaf low free : Bool) (pairs : Option (List Pair)) (entries : Option (List Member)) (link count : ℕ) (body : Body) → ((xs : List Pair) → pairs ≡ Some xs → length xs ≡ count) → ((xs : List Member) → entries ≡ Some xs → length xs ≡ count)
    → (if inner then (if few then option_map Pairs pairs else None) else (if leaf then (if low then option_map Entries entries else None) else (if free then Some (Link link) else None))) ≡ Some body
    → IsFull body → IsFullBody count body
full_body true true leaf low free None entries link count body ps es e = absurd (none-some body e)
full_body true true leaf low free (Some xs) entries link count body ps es e = subst (λ z. IsFull z → IsFullBody count z) (same_Some _ _ e) (λ full. sym (ps xs refl) ∙ full)
full_body true false leaf low free pairs entries link count body ps es e = absurd (none-some body e)
full_body false few true true free pairs None link count body ps es e = absurd (none-some body e)
full_body false few true true free pairs (Some xs) link count body ps es e = subst (λ z. IsFull z → IsFullBody count z) (same_Some _ _ e) (λ full. sym (es xs refl) ∙ full)
full_body false few true false free pairs entries link count body ps es e = absurd (none-some body e)
full_body false few false low true pairs entries link count body ps es e = subst (λ z. IsFull z → IsFullBody count z) (same_Some _ _ e) (λ full. absurd full)
full_body false few false low false pairs entries link count body ps es e = absurd (none-some body e)

full_count : (words : List ℕ) (s : NodeData) → SpellsNode words s → IsFull s.body → IsFullBody (node_word words 5) s.body
full_count words s spells full =
    full_body (node_word words 1 == 0) (nat_le (node_word words 5) 15) (node_word words 1 == 1) (nat_le (node_word words 5) 10) ((node_word words 1 == 2) && is_short (node_word words 6)) (pairs_at words 6 (node_word words 5)) (entries_at words 6 (node_word words 5)) (node_word words 6) (node_word words 5) s.body
    (pairs_length words 6 (node_word words 5)) (entries_length words 6 (node_word words 5)) (reads words s spells).body full

-- a lock that is found is one of those held
pub found_there : (n : ℕ) (held : List Holding) (h : Holding) → held_of n held ≡ Some h → Contains held h
found_there n [] h found = absurd (none-some h found)
found_there n (a ∷ held) h found = go (ℕ_discrete a.node n) (found_there n held h)
  where
    go : Dec (a.node ≡ n) → (held_of n held ≡ Some h → Contains held h) → Contains (a ∷ held) h
    go (yes e) rest = let same : a ≡ h = same_Some _ _ (rw (eq-eqb a.node n e) at found) in (0, omega arith, same)
    go (no ne) rest = let r = rest (rw (ne_eqb a.node n ne) at found) in (suc r.0, (let l = r.1 in omega (arith, l)), r.2)

module _ (t : Terms) (full : Held) (pc : ℕ) (k k1 : CallerData) (found : ℕ) (h : HoldsFull t full pc k.log.holdings) (load : k1 ≡ record k { log = after_node_load full.node 5 found k.log }) (tells : HeldTells full.node 5 found k.log) where
  count_is : node_word h.lock.words 5 ≡ found
  count_is = subst (λ o. IfSome o (λ (z : Holding). node_word z.words 5 ≡ found)) h.found tells

  -- the load of the full count
  pub is_full_count : IsFullCount (load_of k.log (node_place full.node + 5) found) h.lock
  is_full_count = (
    ap (λ n. node_place n + 5) (sym h.here.node),
    h.here.marked,
    subst (SpellsNode h.lock.words) (sym h.here.settled) h.here.spells,
    subst (λ (z : NodeData). IsFullBody found z.body) (sym h.here.settled) (subst (λ n. IsFullBody n full.content.body) count_is (full_count h.lock.words full.content h.here.spells h.is_full)),
  )

  -- the load behind it that shows that there is no room
  pub no_room_at : (between : List LoadEvent) (cause : LoadEvent) → AllByRecursion (λ l. ¬ IsCountAt pc l) between → cause.stores ≡ k.log.trace.stores → cause.receipts ≡ length k.log.receipts.own → FoundNoneFree h.lock.node cause ⊎ FoundHighest cause
      → HadNoRoom pc (length k.log.receipts.own) (load_of k.log (node_place full.node + 5) found ∷ (between ++ cause ∷ []))
  no_room_at between cause last stores still shut = record {
    before = [];
    count = load_of k.log (node_place full.node + 5) found;
    between = between;
    cause = cause;
    behind = [];
    in_order = refl;
    since = refl;
    node = h.lock;
    held = found_there full.node k.log.holdings.held h.lock h.found;
    full = is_full_count;
    on_way = subst (IsInFences pc) (sym h.here.settled) h.on_way;
    last = last;
    stores = [];
    stored = stores ∙ sym (append-nil k.log.trace.stores);
    unstored = refl;
    still = still;
    shut = shut;
  }

  -- lost rounds, and then a head of 0
  pub had_no_room : (lost k' : CallerData) → LosesRounds k1 lost → k' ≡ headed 0 lost → StaysHeld k k' × FoundNoRoom pc k k'
  had_no_room lost k' (more, marks, (none, rounds)) is =
      let whole : k' ≡ headed 0 (record k { log = tried more marks (after_node_load full.node 5 found k.log) }) = is ∙ (ap (headed 0) rounds ∙ ap (λ (z : CallerData). headed 0 (record z { log = tried more marks z.log })) load) in
      let count = load_of k.log (node_place full.node + 5) found in
      let cause = load_of (tried more marks (after_node_load full.node 5 found k.log)) HEAD 0 in
      let appended = ap (λ xs. xs ++ cause ∷ []) (append_assoc k.log.trace.loads (count ∷ []) more) ∙ append_assoc k.log.trace.loads (count ∷ more) (cause ∷ []) in (
        record {
          held = ap (λ (z : CallerData). z.log.holdings.held) whole;
          out = ap (λ (z : CallerData). z.log.holdings.out) whole;
          same = steps_so k whole refl (count ∷ (more ++ cause ∷ []), appended);
        },
        record {
          more = count ∷ (more ++ cause ∷ []);
          loads = ap (λ (z : CallerData). z.log.trace.loads) whole ∙ appended;
          no_room = no_room_at more cause (all_map (λ l. ¬ IsOfCount l) (λ l. ¬ IsCountAt pc l) (λ l no at. no (at.0.node, at.1.1)) more none) refl refl (inl (refl, refl, none_or_one h.out));
        },
      )
    where
      none_or_one : (k.log.holdings.out ≡ []) ⊎ ((length k.log.holdings.out ≡ 1) × (full.node ≡ 0)) → (k.log.holdings.out ≡ []) ⊎ ((length k.log.holdings.out ≡ 1) × (h.lock.node ≡ 0))
      none_or_one (inl none) = inl none
      none_or_one (inr one) = inr (one.0, h.here.node ∙ one.1)

  pub takes_room : (k' : CallerData) (n : ℕ) → n ≢ 0 → TakesFree n k1 k' → TakesRoom n k k'
  takes_room k' n far takes = go (subst (λ (z : CallerData). TakesFree n z k') load takes)
    where
      go : TakesFree n (record k { log = after_node_load full.node 5 found k.log }) k' → TakesRoom n k k'
      go (more, marks, version, settled, words, (taken, kind, whole)) =
          subst (TakesRoom n k) (sym whole) (record {
            never_root = far;
            within = taken.within;
            unheld = taken.new;
            new = record { node = n; version = version; settled = settled; words = words; stored = false; mark = mark_at_lock n settled k.log.holdings.held };
            held = refl;
            free = record { node = refl; spells = taken.spells; next = node_word words 6; free = spells_free words settled taken.spells kind };
            out = refl;
            same = steps_so k refl refl (keeps_then k (record k { log = after_node_load full.node 5 found k.log }) (record k { log = tried more marks (after_node_load full.node 5 found k.log) }) (_ ∷ [], refl) (more, refl));
          })

  pub stays_lost : (k' : CallerData) → LosesRounds k1 k' → StaysHeld k k'
  stays_lost k' lost = go (subst (λ (z : CallerData). LosesRounds z k') load lost)
    where
      go : LosesRounds (record k { log = after_node_load full.node 5 found k.log }) k' → StaysHeld k k'
      go (more, marks, (none, whole)) = subst (StaysHeld k) (sym whole) (record {
        held = refl;
        out = refl;
        same = steps_so k refl refl (keeps_then k (record k { log = after_node_load full.node 5 found k.log }) (record k { log = tried more marks (after_node_load full.node 5 found k.log) }) (_ ∷ [], refl) (more, refl));
      })

  pub room_found : (gives_up : Bool) (k' : CallerData) (r : Result (Option ℕ) Busy) → IsFreeTaken gives_up k1 k' r → IsRoomFor gives_up pc k k' r
  room_found gives_up k' (Ok None) (lost, (rounds, is)) = had_no_room lost k' rounds is
  room_found gives_up k' (Ok (Some n)) (far, takes) = takes_room k' n far takes
  room_found gives_up k' (Err why) ((rounds, cause), up) = (stays_lost k' rounds, up, found_after why k k1 k' (keeps_load full.node 5 found k k1 load) cause)
