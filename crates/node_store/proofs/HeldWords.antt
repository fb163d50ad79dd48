-- The words of a held node, loaded one after another.
use Rattle.std.proofs.Common.{◌≡◌, ℕ, zero, suc, ◌+◌, ◌-◌, ◌*◌, ◌<◌, ◌≤◌, Bool, true, false, List, ◌∷◌, length, Option, Some, None, IfSome, IsSome, IsSomeAnd, option_map, get_or, set, if◌then◌else◌, refl, ap, sym, ◌∙◌, subst, arith, get_or-set_same, get_or-set_other, leb-true, nat_le, ◌&&◌, ◌==◌}
use native.Mathlib.Decide.{ℕ_discrete}
use Rattle.tree_shape.specs.NodeData.{NodeData, Pairs, Entries, Link}
use Rattle.word_rule.specs.declared.log.Log.{Log}
use Rattle.word_rule.specs.declared.log.Holding.{Holding}
use Rattle.word_rule.specs.Held.{held_of}
use Rattle.word_rule.specs.NodeTells.{HeldTells, HolderTells, IsHeldNode, IsLiveNode}
use Rattle.word_rule.specs.Places.{TOP}
use Rattle.word_rule.specs.Spelling.{node_word, is_short, pairs_at, entries_at, body_of_kind, spelled, SpellsNode}
use Rattle.word_rule.specs.CallerData.{CallerData}
use Rattle.std.proofs.lemmas.Option.{cond_some}
use Rattle.std.proofs.lemmas.Bool.{eqb-true}
use Rattle.node_store.specs.Holding.{AgreeUpto, AreHeld, IsLiveHeld, ReadsHeld}
use Rattle.node_store.specs.Sights.{after_words}
use Rattle.node_store.proofs.Sighted.{found_passes, holdings_same, terms_same, words_same}

pairs_same : (words others : List ℕ) → AgreeUpto words others 35 → (count at : ℕ) → 1 ≤ at → at + 2 * count ≤ 36 → pairs_at words at count ≡ pairs_at others at count
pairs_same words others same zero at least most = refl
pairs_same words others same (suc count) at least most =
    let child = same at least (omega (arith, most)) in
    let separator = same (at + 1) (omega arith) (omega (arith, most)) in
    let rest = pairs_same words others same count (at + 2) (omega arith) (omega (arith, most)) in
    (λ i. if is_short (child i) then option_map (λ pairs. record { child = child i; separator = separator i } ∷ pairs) (rest i) else None)

entries_same : (words others : List ℕ) → AgreeUpto words others 35 → (count at : ℕ) → 1 ≤ at → at + 3 * count ≤ 36 → entries_at words at count ≡ entries_at others at count
entries_same words others same zero at least most = refl
entries_same words others same (suc count) at least most =
    let base = same at least (omega (arith, most)) in
    let size = same (at + 1) (omega arith) (omega (arith, most)) in
    let payload = same (at + 2) (omega arith) (omega (arith, most)) in
    let rest = entries_same words others same count (at + 3) (omega arith) (omega (arith, most)) in
    (λ i. if (nat_le 1 (size i) && nat_le (base i + size i) TOP && is_short (payload i))
    then option_map (λ entries. record { span = record { first = base i; last = base i + size i - 1 }; payload = payload i } ∷ entries) (rest i) else None)

-- what they hold, where the counts are read
pairs_body : (words others : List ℕ) → AgreeUpto words others 35 → (count : ℕ) (b : Bool) → nat_le count 15 ≡ b → (if b then option_map Pairs (pairs_at words 6 count) else None) ≡ (if b then option_map Pairs (pairs_at others 6 count) else None)
pairs_body words others same count true few = ap (option_map Pairs) (pairs_same words others same count 6 (omega arith) (omega (arith, leb-true count 15 few)))
pairs_body words others same count false few = refl

entries_body : (words others : List ℕ) → AgreeUpto words others 35 → (count : ℕ) (b : Bool) → nat_le count 10 ≡ b → (if b then option_map Entries (entries_at words 6 count) else None) ≡ (if b then option_map Entries (entries_at others 6 count) else None)
entries_body words others same count true few = ap (option_map Entries) (entries_same words others same count 6 (omega arith) (omega (arith, leb-true count 10 few)))
entries_body words others same count false few = refl

body_same : (words others : List ℕ) → AgreeUpto words others 35 → (kind count : ℕ) → body_of_kind words kind count ≡ body_of_kind others kind count
body_same words others same kind count =
    let pairs = pairs_body words others same count (nat_le count 15) refl in
    let entries = entries_body words others same count (nat_le count 10) refl in
    let link = same 6 (omega arith) (omega arith) in
    (λ i. if kind == 0 then pairs i else (if kind == 1 then entries i else (if (kind == 2) && is_short (link i) then Some (Link (link i)) else None)))

-- what words spell is a matter of the first 35
pub spelled_same : (words others : List ℕ) → AgreeUpto words others 35 → spelled words ≡ spelled others
spelled_same words others same =
    let kind = same 1 (omega arith) (omega arith) in
    let level = same 2 (omega arith) (omega arith) in
    let low = same 3 (omega arith) (omega arith) in
    let high = same 4 (omega arith) (omega arith) in
    let count = same 5 (omega arith) (omega arith) in
    let body = body_same words others same (node_word words 1) (node_word words 5) ∙ (λ i. body_of_kind others (kind i) (count i)) in
    (λ i. if is_short (level i) then option_map (λ b. record { level = level i; low = low i; high = high i; body = b }) (body i) else None)

agree_more : (at found : ℕ) (loaded words : List ℕ) → at < length loaded → node_word words (at + 1) ≡ found → AgreeUpto loaded words at → AgreeUpto (set loaded at found) words (at + 1)
agree_more at found loaded words inside is same k least most = each (ℕ_discrete k (at + 1))
  where
    each : Dec (k ≡ at + 1) → node_word (set loaded at found) k ≡ node_word words k
    each (yes e) =
        let back : k - 1 ≡ at = omega (arith, e) in
        ap (λ j. get_or (set loaded at found) j 0) back ∙ get_or-set_same loaded at found 0 inside ∙ sym is ∙ ap (node_word words) (sym e)
    each (no ne) = get_or-set_other loaded at (k - 1) found 0 (λ e. ne (omega (arith, e, least))) ∙ same k least (omega (arith, most, ne))

-- one word more was loaded
pub held_more : (n at found : ℕ) (loaded : List ℕ) (v w : Log) → at < length loaded → held_of n w.holdings.held ≡ held_of n v.holdings.held → HeldTells n (at + 1) found w → AreHeld n loaded at v → AreHeld n (set loaded at found) (at + 1) v
held_more n at found loaded v w inside same tells held = go (held_of n v.holdings.held) (subst (λ o. IfSome o (λ h. node_word h.words (at + 1) ≡ found)) same tells) held
  where
    go : (o : Option Holding) → IfSome o (λ h. node_word h.words (at + 1) ≡ found) → IfSome o (λ h. AgreeUpto loaded h.words at) → IfSome o (λ h. AgreeUpto (set loaded at found) h.words (at + 1))
    go None tells held = tt
    go (Some h) tells held = λ k least most. agree_more at found loaded h.words inside tells held k least most

-- what is known once all words were loaded
pub all_held : (n : ℕ) (loaded : List ℕ) (v : Log) → AreHeld n loaded 35 v → IsSomeAnd (held_of n v.holdings.held) (λ h. IsSome (spelled h.words)) → IsSomeAnd (held_of n v.holdings.held) (λ h. (spelled loaded ≡ spelled h.words) × (after_words n loaded 35 v ≡ after_words n h.words 35 v) × IsSome (spelled h.words))
all_held n loaded v held spells = go (held_of n v.holdings.held) held spells
  where
    go : (o : Option Holding) → IfSome o (λ h. AgreeUpto loaded h.words 35) → IsSomeAnd o (λ h. IsSome (spelled h.words)) → IsSomeAnd o (λ h. (spelled loaded ≡ spelled h.words) × (after_words n loaded 35 v ≡ after_words n h.words 35 v) × IsSome (spelled h.words))
    go None held spells = absurd spells
    go (Some h) held spells = (spelled_same loaded h.words held, words_same n loaded h.words 35 v held, spells)

-- a held node was read
pub read : (n : ℕ) (loaded : List ℕ) (k k' : CallerData) (shape : NodeData) → IsSomeAnd (held_of n k.log.holdings.held) (λ h. (spelled loaded ≡ spelled h.words) × (after_words n loaded 35 k.log ≡ after_words n h.words 35 k.log) × IsSome (spelled h.words)) → spelled loaded ≡ Some shape → k' ≡ record k { log = after_words n loaded 35 k.log } → ReadsHeld n k k' shape
read n loaded k k' shape held is loads = go (held_of n k.log.holdings.held) held
  where
    go : (o : Option Holding) → IsSomeAnd o (λ h. (spelled loaded ≡ spelled h.words) × (after_words n loaded 35 k.log ≡ after_words n h.words 35 k.log) × IsSome (spelled h.words)) → IsSomeAnd o (λ h. SpellsNode h.words shape × (k' ≡ record k { log = after_words n h.words 35 k.log }))
    go None held = absurd held
    go (Some h) held = (sym held.0 ∙ is, loads ∙ ap (λ v. record k { log = v }) held.1)

-- the words that were loaded spell a node
pub spells : (n : ℕ) (loaded : List ℕ) (v : Log) → IsSomeAnd (held_of n v.holdings.held) (λ h. (spelled loaded ≡ spelled h.words) × (after_words n loaded 35 v ≡ after_words n h.words 35 v) × IsSome (spelled h.words)) → IsSome (spelled loaded)
spells n loaded v held = go (held_of n v.holdings.held) held
  where
    go : (o : Option Holding) → IsSomeAnd o (λ h. (spelled loaded ≡ spelled h.words) × (after_words n loaded 35 v ≡ after_words n h.words 35 v) × IsSome (spelled h.words)) → IsSome (spelled loaded)
    go None held = absurd held
    go (Some h) held = subst IsSome (sym held.0) held.2

-- what is told after loads of words is told before them
pub holder_before : (n : ℕ) (words : List ℕ) (count : ℕ) (v : Log) → HolderTells n (after_words n words count v) → HolderTells n v
holder_before n words count v told =
    subst (λ t. IfSome (held_of n v.holdings.held) (IsHeldNode t)) (terms_same n words count v)
    (subst (λ hs. IfSome (held_of n hs.held) (IsHeldNode (after_words n words count v).terms)) (holdings_same n words count v) told)

-- a held node is as it settled, where nothing was stored
pub live_held : (n : ℕ) (loaded : List ℕ) (v : Log) (shape : NodeData) → HolderTells n v → AreHeld n loaded 35 v → spelled loaded ≡ Some shape → IsLiveHeld n v shape
live_held n loaded v shape told held is = go (held_of n v.holdings.held) refl told held
  where
    go : (o : Option Holding) → held_of n v.holdings.held ≡ o → IfSome o (IsHeldNode v.terms) → IfSome o (λ h. AgreeUpto loaded h.words 35) → IfSome o (λ h. h.stored ≡ false → IfSome h.mark (IsLiveNode v.terms n shape))
    go None e told same = tt
    go (Some h) e told same = λ clean.
        let node : h.node ≡ n = eqb-true h.node n (found_passes (λ z. z.node == n) v.holdings.held h e) in
        let settled : h.settled ≡ shape = (cond_some true h.settled shape (sym (told.clean clean) ∙ (sym (spelled_same loaded h.words same) ∙ is))).1 in
        subst (λ k. IfSome h.mark (IsLiveNode v.terms k shape)) node (subst (λ s. IfSome h.mark (IsLiveNode v.terms h.node s)) settled told.live)
