-- What loads of words of a held node tell of the node that they spell.
use Rattle.std.proofs.Common.{◌≡◌, ℕ, zero, suc, ◌+◌, ◌*◌, ◌<◌, ◌≤◌, Bool, true, false, List, [], ◌∷◌, ◌++◌, length, drop, map, Option, Some, None, IfSome, IsSome, IsSomeAnd, option_map, nat_le, if◌then◌else◌, is_some, refl, ap, sym, ◌∙◌, subst, arith, append_assoc, leb-true, true≢false, ◌==◌, ◌&&◌}
use Rattle.std.proofs.lemmas.Bool.{lt-leb, le-leb}
use Rattle.std.specs.List.{slice_get}
use Rattle.std.proofs.lemmas.List.{append-nil}
use Rattle.std.proofs.lemmas.Option.{none-some, same_Some}
use Rattle.reg_model.specs.declared.span.Member.{Member}
use Rattle.tree_shape.specs.declared.pair.Pair.{Pair}
use Rattle.tree_shape.specs.NodeData.{NodeData, Body, Pairs, Entries, Link, IsInner, pairs_of, slot_for}
use Rattle.word_rule.specs.CallerData.{CallerData}
use Rattle.word_rule.specs.Held.{held_of, now_in, now_shape, now_of}
use Rattle.word_rule.specs.Logs.{after_load}
use Rattle.word_rule.specs.NodeTells.{HeldTells, HolderTells}
use Rattle.word_rule.specs.Places.{node_place}
use Rattle.word_rule.specs.Sights.{after_node_load, with_word}
use Rattle.word_rule.specs.Spelling.{node_word, is_short, pair_at, pairs_at, entries_at, spelled, SpellsNode}
use Rattle.word_rule.specs.declared.log.Holding.{Holding}
use Rattle.word_rule.specs.declared.log.Holdings.{Holdings}
use Rattle.word_rule.specs.declared.log.Log.{Log}
use Rattle.word_rule.specs.Logs.{load_of}
use Rattle.word_rule.proofs.Spells.{entries_length, pairs_length, reads, reads_pairs}
use Rattle.node_store.specs.Holding.{IsLiveHeld, SpellsHeld}
use Rattle.node_store.specs.Outlines.{IsCountOf, OnlyLoads}
use Rattle.version_locks.specs.Locking.{loaded}
use Rattle.node_store.proofs.HeldWords.{live_held}

-- nothing was loaded yet
pub no_loads : (k : CallerData) → OnlyLoads k k
no_loads k = ([], λ i. record k { log = record k.log { trace = record k.log.trace { loads = sym (append-nil k.log.trace.loads) i } } })

-- loads leave what is held as it is
pub loads_hold : (k k' : CallerData) → OnlyLoads k k' → k'.log.holdings ≡ k.log.holdings
loads_hold k k' only = ap (λ (x : CallerData). x.log.holdings) only.1

-- a load of a held node's word is only a load
held_load : (n at value : ℕ) (v : Log) → IsSome (held_of n v.holdings.held) → after_node_load n at value v ≡ loaded (load_of v (node_place n + at) value ∷ []) v
held_load n at value v held = go (held_of n v.holdings.held) refl held
  where
    go : (o : Option Holding) → held_of n v.holdings.held ≡ o → IsSome o → after_node_load n at value v ≡ loaded (load_of v (node_place n + at) value ∷ []) v
    go None e held = absurd (true≢false (sym held))
    go (Some h) e held = ap (λ (o : Option Holding). record (after_load (node_place n + at) value v) {
      sights = if is_some o then v.sights else record v.sights { nodes = map (with_word n at value) v.sights.nodes };
    }) e

-- one load more
pub one_load : (n at value : ℕ) (k k' k'' : CallerData) → IsSome (held_of n k.log.holdings.held) → OnlyLoads k k' → k'' ≡ record k' { log = after_node_load n at value k'.log } → OnlyLoads k k''
one_load n at value k k' k'' held only step =
    let v = k'.log in
    let e = load_of v (node_place n + at) value in
    let still = subst (λ (hs : Holdings). IsSome (held_of n hs.held)) (sym (loads_hold k k' only)) held in
    let here = step ∙ ap (λ w. record k' { log = w }) (held_load n at value v still) in
    let all = here ∙ ap (λ (x : CallerData). record x { log = loaded (e ∷ []) x.log }) only.1 in
    (only.0 ++ e ∷ [], all ∙ ap (λ loads. record k { log = record k.log { trace = record k.log.trace { loads = loads } } }) (append_assoc k.log.trace.loads only.0 (e ∷ [])))

-- What is known of a held node whose words spell one.
pub record Known (n : ℕ) (s : NodeData) (v : Log) : Type 0 where
  pub lock : Holding
  pub found : held_of n v.holdings.held ≡ Some lock
  pub spells : SpellsNode lock.words s

pub known : (n : ℕ) (s : NodeData) (v : Log) → SpellsHeld n s v → Known n s v
known n s v held = go (held_of n v.holdings.held) refl held
  where
    go : (o : Option Holding) → held_of n v.holdings.held ≡ o → IsSomeAnd o (λ h. SpellsNode h.words s) → Known n s v
    go None e held = absurd held
    go (Some h) e held = record { lock = h; found = e; spells = held }

pub is_held : (n : ℕ) (s : NodeData) (v : Log) → SpellsHeld n s v → IsSome (held_of n v.holdings.held)
is_held n s v held = subst IsSome (sym (known n s v held).found) refl

pub spells_now : (n : ℕ) (v : Log) → IsSomeAnd (held_of n v.holdings.held) (λ h. IsSome (spelled h.words)) → SpellsHeld n (now_in v.holdings.held n) v
spells_now n v held = go (held_of n v.holdings.held) held
  where
    spell : (h : Holding) (o : Option NodeData) → spelled h.words ≡ o → IsSome o → SpellsNode h.words (now_of h o)
    spell h None e is = absurd (true≢false (sym is))
    spell h (Some s) e is = e

    go : (o : Option Holding) → IsSomeAnd o (λ h. IsSome (spelled h.words)) → IsSomeAnd o (λ h. SpellsNode h.words (now_shape o))
    go None held = absurd held
    go (Some h) held = spell h (spelled h.words) refl held

-- a load told a word of it
pub told : (n at found : ℕ) (s : NodeData) (v w : Log) (x : Known n s v) → w.holdings ≡ v.holdings → HeldTells n at found w → node_word x.lock.words at ≡ found
told n at found s v w x same tells =
    subst (λ (o : Option Holding). IfSome o (λ h. node_word h.words at ≡ found)) (ap (λ (hs : Holdings). held_of n hs.held) same ∙ x.found) tells

-- the count of a body of items, where they are read
counted : {A : Type 0} (kind : List A → Body) (count : ℕ) (body : Body) (o : Option (List A)) → ((xs : List A) → o ≡ Some xs → IsCountOf count (kind xs)) → option_map kind o ≡ Some body → IsCountOf count body
counted kind count body None is e = absurd (none-some body e)
counted kind count body (Some xs) is e = subst (IsCountOf count) (same_Some _ _ e) (is xs refl)

-- the count that the words of a body have
body_count : (words : List ℕ) (count : ℕ) (inner few leaf low free : Bool) (link : ℕ) (body : Body)
    → (if inner then (if few then option_map Pairs (pairs_at words 6 count) else None) else (if leaf then (if low then option_map Entries (entries_at words 6 count) else None) else (if free then Some (Link link) else None))) ≡ Some body
    → IsCountOf count body
body_count words count true true leaf low free link body e = counted Pairs count body (pairs_at words 6 count) (λ xs is. sym (pairs_length words 6 count xs is)) e
body_count words count true false leaf low free link body e = absurd (none-some body e)
body_count words count false few true true free link body e = counted Entries count body (entries_at words 6 count) (λ xs is. sym (entries_length words 6 count xs is)) e
body_count words count false few true false free link body e = absurd (none-some body e)
body_count words count false few false low true link body e = subst (IsCountOf count) (same_Some _ _ e) tt
body_count words count false few false low false link body e = absurd (none-some body e)

pub count_is : (words : List ℕ) (s : NodeData) → SpellsNode words s → IsCountOf (node_word words 5) s.body
count_is words s spells = body_count words (node_word words 5) (node_word words 1 == 0) (nat_le (node_word words 5) 15) (node_word words 1 == 1) (nat_le (node_word words 5) 10) ((node_word words 1 == 2) && is_short (node_word words 6)) (node_word words 6) s.body (reads words s spells).body

-- whether the count of an inner node may be
abbrev IsFew : Bool → Body → Type 0
IsFew few (Pairs pairs) = few ≡ true
IsFew few (Entries entries) = Unit {0}
IsFew few (Link next) = Unit {0}

body_few : (inner few leaf low free : Bool) (pairs : Option (List Pair)) (entries : Option (List Member)) (link : ℕ) (body : Body)
    → (if inner then (if few then option_map Pairs pairs else None) else (if leaf then (if low then option_map Entries entries else None) else (if free then Some (Link link) else None))) ≡ Some body
    → IsFew few body
body_few true true leaf low free None entries link body e = absurd (none-some body e)
body_few true true leaf low free (Some xs) entries link body e = subst (IsFew true) (same_Some _ _ e) refl
body_few true false leaf low free pairs entries link body e = absurd (none-some body e)
body_few false few true true free pairs None link body e = absurd (none-some body e)
body_few false few true true free pairs (Some xs) link body e = subst (IsFew few) (same_Some _ _ e) tt
body_few false few true false free pairs entries link body e = absurd (none-some body e)
body_few false few false low true pairs entries link body e = subst (IsFew few) (same_Some _ _ e) tt
body_few false few false low false pairs entries link body e = absurd (none-some body e)

-- What the words of an inner node say of its pairs.
pub record Inner (words : List ℕ) (s : NodeData) : Type 0 where
  pub pairs : pairs_at words 6 (node_word words 5) ≡ Some (pairs_of s)
  pub count : node_word words 5 ≡ length (pairs_of s)
  pub few : length (pairs_of s) ≤ 15

pub inner_of : (words : List ℕ) (s : NodeData) → SpellsNode words s → IsInner s → Inner words s
inner_of words s spells inner =
    let pairs = reads_pairs words s (pairs_of s) spells inner in
    let count = sym (pairs_length words 6 (node_word words 5) (pairs_of s) pairs) in
    let many = leb-true (node_word words 5) 15 (body_few (node_word words 1 == 0) (nat_le (node_word words 5) 15) (node_word words 1 == 1) (nat_le (node_word words 5) 10) ((node_word words 1 == 2) && is_short (node_word words 6)) (pairs_at words 6 (node_word words 5)) (entries_at words 6 (node_word words 5)) (node_word words 6) (Pairs (pairs_of s)) ((reads words s spells).body ∙ ap (λ (b : Body). Some b) inner)) in
    record { pairs = pairs; count = count; few = omega (arith, many, count) }

pub pairs_few : (n : ℕ) (s : NodeData) (v : Log) → SpellsHeld n s v → IsInner s → length (pairs_of s) ≤ 15
pairs_few n s v held inner = let x = known n s v held in (inner_of x.lock.words s x.spells inner).few

-- the count of an inner node that is held
pub few_slots : (n count : ℕ) (s : NodeData) (v : Log) → SpellsHeld n s v → IsInner s → IsCountOf count s.body → (count ≡ length (pairs_of s)) × (count ≤ 15)
few_slots n count s v held inner is =
    let few = pairs_few n s v held inner in
    let same : count ≡ length (pairs_of s) = subst (IsCountOf count) inner is in
    (same, omega (arith, same, few))

-- the pair at a slot stands in its two words
pair_stands : (words : List ℕ) (at count slot : ℕ) (xs : List Pair) → pairs_at words at count ≡ Some xs → slot < count → (is_short (node_word words (at + 2 * slot)) ≡ true) × (slice_get xs slot ≡ Some (pair_at words (at + 2 * slot)))
pair_stands words at zero slot xs e less = absurd (omega (arith, less))
pair_stands words at (suc count) slot xs e less = go (is_short (node_word words at)) refl (pairs_at words (at + 2) count) refl e (λ k ys is inside. pair_stands words (at + 2) count k ys is inside)
  where
    Stands : List Pair → ℕ → ℕ → Type 0
    Stands ys from k = (is_short (node_word words (from + 2 * k)) ≡ true) × (slice_get ys k ≡ Some (pair_at words (from + 2 * k)))

    at_slot : (k : ℕ) (ys : List Pair) → k < suc count → is_short (node_word words at) ≡ true → ((k : ℕ) → k < count → Stands ys (at + 2) k) → Stands (pair_at words at ∷ ys) at k
    at_slot zero ys less short rest =
        let here : at ≡ at + 2 * 0 = omega arith in
        (subst (λ j. is_short (node_word words j) ≡ true) here short, ap (λ j. Some (pair_at words j)) here)
    at_slot (suc k) ys less short rest =
        let next : at + 2 + 2 * k ≡ at + 2 * suc k = omega arith in
        let there = rest k (omega (arith, less)) in
        (subst (λ j. is_short (node_word words j) ≡ true) next there.0, subst (λ j. slice_get ys k ≡ Some (pair_at words j)) next there.1)

    go : (b : Bool) → is_short (node_word words at) ≡ b → (o : Option (List Pair)) → pairs_at words (at + 2) count ≡ o → ◌≡◌ {A = Option (List Pair)} (if b then option_map (λ pairs. pair_at words at ∷ pairs) o else None) (Some xs)
        → ((k : ℕ) (ys : List Pair) → pairs_at words (at + 2) count ≡ Some ys → k < count → Stands ys (at + 2) k) → Stands xs at slot
    go true short None is f rest = absurd (none-some xs f)
    go true short (Some ys) is f rest = subst (λ zs. Stands zs at slot) (same_Some _ _ f) (at_slot slot ys less short (λ k inside. rest k ys is inside))
    go false short o is f rest = absurd (none-some xs f)

pub pair_here : (words : List ℕ) (s : NodeData) → Inner words s → (slot : ℕ) → slot < length (pairs_of s) → (is_short (node_word words (6 + 2 * slot)) ≡ true) × (slice_get (pairs_of s) slot ≡ Some (pair_at words (6 + 2 * slot)))
pair_here words s x slot less = let count = x.count in pair_stands words 6 (node_word words 5) slot (pairs_of s) x.pairs (omega (arith, less, count))

-- it is the one whose separator was loaded
pub separator_told : (n slot found : ℕ) (s : NodeData) (v w : Log) → SpellsHeld n s v → IsInner s → slot < length (pairs_of s) → w.holdings ≡ v.holdings → HeldTells n (6 + 2 * slot + 1) found w → (p : Pair) × ((slice_get (pairs_of s) slot ≡ Some p) × (p.separator ≡ found))
separator_told n slot found s v w held inner less same tells =
    let x = known n s v held in
    (pair_at x.lock.words (6 + 2 * slot), ((pair_here x.lock.words s (inner_of x.lock.words s x.spells inner) slot less).1, told n (6 + 2 * slot + 1) found s v w x same tells))

-- the pairs from a slot on
from_slot : (xs : List Pair) (slot : ℕ) (p : Pair) → slice_get xs slot ≡ Some p → drop slot xs ≡ p ∷ drop (suc slot) xs
from_slot [] slot p is = absurd (none-some p is)
from_slot (x ∷ xs) zero p is = ap (λ y. y ∷ xs) (same_Some _ _ is)
from_slot (x ∷ xs) (suc slot) p is = from_slot xs slot p is

-- the search goes on, or ends
pub slot_next : (pc slot : ℕ) (xs : List Pair) (p : Pair) → slice_get xs slot ≡ Some p → p.separator < pc → slot_for pc xs ≡ slot_for pc (drop slot xs) + slot → slot_for pc xs ≡ slot_for pc (drop (slot + 1) xs) + (slot + 1)
slot_next pc slot xs p is above so_far =
    let next : suc slot ≡ slot + 1 = omega arith in
    let here : slot_for pc (drop slot xs) ≡ slot_for pc (drop (suc slot) xs) + 1 =
    ap (slot_for pc) (from_slot xs slot p is) ∙ ap (λ b. if b then 0 else (slot_for pc (drop (suc slot) xs) + 1)) (lt-leb pc p.separator above) in
    let there = subst (λ j. slot_for pc (drop slot xs) ≡ slot_for pc (drop j xs) + 1) next here in
    omega (arith, so_far, there)

pub slot_ends : (pc slot : ℕ) (xs : List Pair) (p : Pair) → slice_get xs slot ≡ Some p → pc ≤ p.separator → slot_for pc xs ≡ slot_for pc (drop slot xs) + slot → slot ≡ slot_for pc xs
slot_ends pc slot xs p is most so_far =
    let here : slot_for pc (drop slot xs) ≡ 0 =
    ap (slot_for pc) (from_slot xs slot p is) ∙ ap (λ b. if b then 0 else (slot_for pc (drop (suc slot) xs) + 1)) (le-leb pc p.separator most) in
    omega (arith, so_far, here)

-- it is as it settled, where nothing was stored
pub live_now : (n : ℕ) (s : NodeData) (v : Log) → Known n s v → HolderTells n v → IsLiveHeld n v s
live_now n s v x holder =
    live_held n x.lock.words v s holder
    (subst (λ (o : Option Holding). IfSome o (λ h. (at : ℕ) → 1 ≤ at → at ≤ 35 → node_word x.lock.words at ≡ node_word h.words at)) (sym x.found) (λ at least most. refl)) x.spells
