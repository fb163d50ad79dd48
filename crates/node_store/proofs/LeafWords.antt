-- The words of a leaf that is held, and those of the leaf that it becomes.
use Rattle.std.proofs.Common.{◌≡◌, ◌≢◌, ℕ, zero, suc, ◌+◌, ◌-◌, ◌*◌, ◌^◌, ◌<◌, ◌≤◌, Bool, true, false, ◌&&◌, ◌==◌, List, [], ◌∷◌, length, Option, Some, None, option_map, nat_le, if◌then◌else◌, refl, ap, sym, ◌∙◌, subst, arith, leb-true, ltb-true}
use Rattle.std.proofs.lemmas.Bool.{and_parts, eqb-true}
use Rattle.std.proofs.lemmas.Option.{none-some, same_Some}
use Rattle.std.specs.List.{AllByRecursion, slice_get}
use Rattle.reg_model.specs.SpanData.{IsSpan}
use Rattle.reg_model.specs.declared.span.Member.{Member}
use Rattle.tree_shape.specs.declared.pair.Pair.{Pair}
use Rattle.tree_shape.specs.NodeData.{NodeData, Body, Pairs, Entries, Link, IsLeaf, entries_of}
use Rattle.word_rule.specs.declared.log.Log.{Log}
use Rattle.word_rule.specs.Places.{TOP}
use Rattle.word_rule.specs.Spelling.{node_word, is_short, pairs_at, is_entry_at, entry_at, entries_at, body_of_kind, SpellsNode}
use Rattle.word_rule.proofs.Spells.{entries_length, reads}
use Rattle.node_store.specs.declared.entries.EntryWords.{EntryWords}
use Rattle.node_store.specs.Entries.{without_entry_at, with_entry_at, with_entries, words_of_entry}
use Rattle.node_store.specs.Holding.{SpellsHeld}
use Rattle.node_store.specs.Writing.{FitsWords, entry_words, wanted_node_word}
use Rattle.node_store.proofs.Outlined.{known}
use Rattle.node_store.proofs.Overwritten.{each_word}
use Rattle.node_store.proofs.Spelled.{wanted_item}

-- what the body of a leaf comes of
abbrev IsLeafBody : Bool → Bool → Option (List Member) → Body → Type 0
IsLeafBody leaf low entries (Pairs xs) = Unit {0}
IsLeafBody leaf low entries (Entries xs) = (leaf ≡ true) × (low ≡ true) × (entries ≡ Some xs)
IsLeafBody leaf low entries (Link next) = Unit {0}

body_leaf : (inner few leaf low free : Bool) (pairs : Option (List Pair)) (entries : Option (List Member)) (link : ℕ) (body : Body)
    → (if inner then (if few then option_map Pairs pairs else None) else (if leaf then (if low then option_map Entries entries else None) else (if free then Some (Link link) else None))) ≡ Some body
    → IsLeafBody leaf low entries body
body_leaf true true leaf low free None entries link body e = absurd (none-some body e)
body_leaf true true leaf low free (Some xs) entries link body e = subst (IsLeafBody leaf low entries) (same_Some _ _ e) tt
body_leaf true false leaf low free pairs entries link body e = absurd (none-some body e)
body_leaf false few true true free pairs None link body e = absurd (none-some body e)
body_leaf false few true true free pairs (Some xs) link body e = subst (IsLeafBody true true (Some xs)) (same_Some _ _ e) (refl, refl, refl)
body_leaf false few true false free pairs entries link body e = absurd (none-some body e)
body_leaf false few false low true pairs entries link body e = subst (IsLeafBody false low entries) (same_Some _ _ e) tt
body_leaf false few false low false pairs entries link body e = absurd (none-some body e)

-- the numbers of a node that words spell are short
pub short_level : (words : List ℕ) (s : NodeData) → SpellsNode words s → is_short (node_word words 2) ≡ true
short_level words s e = go (is_short (node_word words 2)) (option_map (λ body. record { level = node_word words 2; low = node_word words 3; high = node_word words 4; body = body }) (body_of_kind words (node_word words 1) (node_word words 5))) e
  where
    go : (b : Bool) (o : Option NodeData) → ◌≡◌ {A = Option NodeData} (if b then o else None) (Some s) → b ≡ true
    go true o f = refl
    go false o f = absurd (none-some s f)

-- What the words of a leaf say of it.
pub record Leaf (words : List ℕ) (s : NodeData) : Type 0 where
  pub kind : node_word words 1 ≡ 1
  pub level : s.level ≡ node_word words 2
  pub low : s.low ≡ node_word words 3
  pub high : s.high ≡ node_word words 4
  pub short : s.level < 2 ^ 32
  pub entries : entries_at words 6 (node_word words 5) ≡ Some (entries_of s)
  pub count : node_word words 5 ≡ length (entries_of s)
  pub few : length (entries_of s) ≤ 10

pub leaf_of : (words : List ℕ) (s : NodeData) → SpellsNode words s → IsLeaf s → Leaf words s
leaf_of words s spells leaf =
    let told = reads words s spells in
    let body = body_leaf (node_word words 1 == 0) (nat_le (node_word words 5) 15) (node_word words 1 == 1) (nat_le (node_word words 5) 10) ((node_word words 1 == 2) && is_short (node_word words 6)) (pairs_at words 6 (node_word words 5)) (entries_at words 6 (node_word words 5)) (node_word words 6) (Entries (entries_of s)) (told.body ∙ ap (λ (b : Body). Some b) leaf) in
    let count = sym (entries_length words 6 (node_word words 5) (entries_of s) body.2) in
    let most = leb-true (node_word words 5) 10 body.1 in
    let level = told.level in
    let short = ltb-true (node_word words 2) (2 ^ 32) (short_level words s spells) in
    record {
      kind = eqb-true (node_word words 1) 1 body.0;
      level = told.level;
      low = told.low;
      high = told.high;
      short = omega (arith, level, short);
      entries = body.2;
      count = count;
      few = omega (arith, most, count);
    }

pub entries_few : (n : ℕ) (s : NodeData) (v : Log) → SpellsHeld n s v → IsLeaf s → length (entries_of s) ≤ 10
entries_few n s v held leaf = let x = known n s v held in (leaf_of x.lock.words s x.spells leaf).few

-- the first of some entries, and the others
record FirstEntry (words : List ℕ) (at count : ℕ) (xs : List Member) : Type 0 where
  pub rest : List Member
  pub is : entry_at words at ∷ rest ≡ xs
  pub more : entries_at words (at + 3) count ≡ Some rest
  pub some : 1 ≤ node_word words (at + 1)
  pub inside : node_word words at + node_word words (at + 1) ≤ 2 ^ 64 - 1
  pub short : node_word words (at + 2) < 2 ^ 32

first_entry : (words : List ℕ) (at count : ℕ) (xs : List Member) → entries_at words at (suc count) ≡ Some xs → FirstEntry words at count xs
first_entry words at count xs e = go (is_entry_at words at) refl (entries_at words (at + 3) count) refl e
  where
    go : (b : Bool) → is_entry_at words at ≡ b → (o : Option (List Member)) → entries_at words (at + 3) count ≡ o → ◌≡◌ {A = Option (List Member)} (if b then option_map (λ entries. entry_at words at ∷ entries) o else None) (Some xs) → FirstEntry words at count xs
    go false is o more f = absurd (none-some xs f)
    go true is None more f = absurd (none-some xs f)
    go true is (Some ys) more f =
        let last = and_parts _ _ is in
        let first = and_parts _ _ last.0 in
        record {
          rest = ys;
          is = same_Some _ _ f;
          more = more;
          some = leb-true 1 (node_word words (at + 1)) first.0;
          inside = leb-true (node_word words at + node_word words (at + 1)) TOP first.1;
          short = ltb-true (node_word words (at + 2)) (2 ^ 32) last.1;
        }

-- the words of entries are those that stand there
entries_stand : (words : List ℕ) (at count : ℕ) (xs : List Member) → entries_at words at count ≡ Some xs → (j : ℕ) → j < 3 * count → slice_get (entry_words xs) j ≡ Some (node_word words (at + j))
entries_stand words at zero xs e j less = absurd (omega (arith, less))
entries_stand words at (suc count) xs e j less =
    let x = first_entry words at count xs e in
    subst (λ ys. slice_get (entry_words ys) j ≡ Some (node_word words (at + j))) x.is (go x.rest x.some (λ i few. entries_stand words (at + 3) count x.rest x.more i few) j less)
  where
    go : (ys : List Member) → 1 ≤ node_word words (at + 1) → ((i : ℕ) → i < 3 * count → slice_get (entry_words ys) i ≡ Some (node_word words (at + 3 + i))) → (i : ℕ) → i < 3 * suc count → slice_get (entry_words (entry_at words at ∷ ys)) i ≡ Some (node_word words (at + i))
    go ys some rest zero few = let here : at ≡ at + 0 = omega arith in ap (λ k. Some (node_word words k)) here
    go ys some rest (suc zero) few = let size : node_word words at + node_word words (at + 1) - 1 + 1 - node_word words at ≡ node_word words (at + 1) = omega (arith, some) in ap Some size
    go ys some rest (suc (suc zero)) few = refl
    go ys some rest (suc (suc (suc i))) few = let here : at + 3 + i ≡ at + suc (suc (suc i)) = omega arith in rest i (omega (arith, few)) ∙ ap (λ k. Some (node_word words k)) here

-- and they have spans and payloads
abbrev pub FitsEntry : Member → Type 0
FitsEntry m = IsSpan m.span × (m.payload < 2 ^ 32)

entries_fit : (words : List ℕ) (at count : ℕ) (xs : List Member) → entries_at words at count ≡ Some xs → AllByRecursion FitsEntry xs
entries_fit words at zero xs e = subst (AllByRecursion FitsEntry) (same_Some _ _ e) tt
entries_fit words at (suc count) xs e =
    let x = first_entry words at count xs e in
    let some = x.some in
    let inside = x.inside in
    subst (AllByRecursion FitsEntry) x.is ((record { ordered = omega (arith, some); below_top = omega (arith, some, inside) }, x.short), entries_fit words (at + 3) count x.rest x.more)

-- the word of an item of a leaf that is spelled
item_here : (words : List ℕ) (s : NodeData) → Leaf words s → (j : ℕ) → j < 3 * length (entries_of s) → slice_get (entry_words (entries_of s)) j ≡ Some (node_word words (6 + j))
item_here words s x j less = let count = x.count in entries_stand words 6 (node_word words 5) (entries_of s) x.entries j (omega (arith, less, count))

-- one entry more
pub put_length : (place : ℕ) (m : Member) (es : List Member) → place ≤ length es → length (with_entry_at place m es) ≡ length es + 1
put_length zero m es most = omega arith
put_length (suc place) m [] most = absurd (omega (arith, most))
put_length (suc place) m (e ∷ es) most = omega (arith, put_length place m es (omega (arith, most)))

put_before : (place : ℕ) (m : Member) (es : List Member) → place ≤ length es → (j : ℕ) → j < 3 * place → slice_get (entry_words (with_entry_at place m es)) j ≡ slice_get (entry_words es) j
put_before zero m es most j less = absurd (omega (arith, less))
put_before (suc place) m [] most j less = absurd (omega (arith, most))
put_before (suc place) m (e ∷ es) most zero less = refl
put_before (suc place) m (e ∷ es) most (suc zero) less = refl
put_before (suc place) m (e ∷ es) most (suc (suc zero)) less = refl
put_before (suc place) m (e ∷ es) most (suc (suc (suc j))) less = put_before place m es (omega (arith, most)) j (omega (arith, less))

put_behind : (place : ℕ) (m : Member) (es : List Member) → place ≤ length es → (j : ℕ) → 3 * place ≤ j → slice_get (entry_words (with_entry_at place m es)) (suc (suc (suc j))) ≡ slice_get (entry_words es) j
put_behind zero m es most j more = refl
put_behind (suc place) m [] most j more = absurd (omega (arith, most))
put_behind (suc place) m (e ∷ es) most zero more = absurd (omega (arith, more))
put_behind (suc place) m (e ∷ es) most (suc zero) more = absurd (omega (arith, more))
put_behind (suc place) m (e ∷ es) most (suc (suc zero)) more = absurd (omega (arith, more))
put_behind (suc place) m (e ∷ es) most (suc (suc (suc j))) more = put_behind place m es (omega (arith, most)) j (omega (arith, more))

-- the words of an entry stand at a place among those of others
record HasItems (m : Member) (items : List ℕ) (k : ℕ) : Type 0 where
  pub base : slice_get items k ≡ Some m.span.first
  pub size : slice_get items (suc k) ≡ Some (m.span.last + 1 - m.span.first)
  pub payload : slice_get items (suc (suc k)) ≡ Some m.payload

put_here : (place : ℕ) (m : Member) (es : List Member) → place ≤ length es → (k : ℕ) → k ≡ 3 * place → HasItems m (entry_words (with_entry_at place m es)) k
put_here zero m es most zero is = record { base = refl; size = refl; payload = refl }
put_here zero m es most (suc k) is = absurd (omega (arith, is))
put_here (suc place) m [] most k is = absurd (omega (arith, most))
put_here (suc place) m (e ∷ es) most zero is = absurd (omega (arith, is))
put_here (suc place) m (e ∷ es) most (suc zero) is = absurd (omega (arith, is))
put_here (suc place) m (e ∷ es) most (suc (suc zero)) is = absurd (omega (arith, is))
put_here (suc place) m (e ∷ es) most (suc (suc (suc k))) is =
    let x = put_here place m es (omega (arith, most)) k (omega (arith, is)) in record { base = x.base; size = x.size; payload = x.payload }

put_all : (P : Member → Type 0) (place : ℕ) (m : Member) (es : List Member) → place ≤ length es → P m → AllByRecursion P es → AllByRecursion P (with_entry_at place m es)
put_all P zero m es most here all = (here, all)
put_all P (suc place) m [] most here all = absurd (omega (arith, most))
put_all P (suc place) m (e ∷ es) most here all = (all.0, put_all P place m es (omega (arith, most)) here all.1)

-- one entry less
pub cut_length : (place : ℕ) (es : List Member) → place < length es → length (without_entry_at place es) + 1 ≡ length es
cut_length place [] inside = absurd (omega (arith, inside))
cut_length zero (e ∷ es) inside = omega arith
cut_length (suc place) (e ∷ es) inside = omega (arith, cut_length place es (omega (arith, inside)))

cut_before : (place : ℕ) (es : List Member) → place < length es → (j : ℕ) → j < 3 * place → slice_get (entry_words (without_entry_at place es)) j ≡ slice_get (entry_words es) j
cut_before place [] inside j less = absurd (omega (arith, inside))
cut_before zero (e ∷ es) inside j less = absurd (omega (arith, less))
cut_before (suc place) (e ∷ es) inside zero less = refl
cut_before (suc place) (e ∷ es) inside (suc zero) less = refl
cut_before (suc place) (e ∷ es) inside (suc (suc zero)) less = refl
cut_before (suc place) (e ∷ es) inside (suc (suc (suc j))) less = cut_before place es (omega (arith, inside)) j (omega (arith, less))

cut_behind : (place : ℕ) (es : List Member) → place < length es → (j : ℕ) → 3 * place ≤ j → slice_get (entry_words (without_entry_at place es)) j ≡ slice_get (entry_words es) (suc (suc (suc j)))
cut_behind place [] inside j more = absurd (omega (arith, inside))
cut_behind zero (e ∷ es) inside j more = refl
cut_behind (suc place) (e ∷ es) inside zero more = absurd (omega (arith, more))
cut_behind (suc place) (e ∷ es) inside (suc zero) more = absurd (omega (arith, more))
cut_behind (suc place) (e ∷ es) inside (suc (suc zero)) more = absurd (omega (arith, more))
cut_behind (suc place) (e ∷ es) inside (suc (suc (suc j))) more = cut_behind place es (omega (arith, inside)) j (omega (arith, more))

cut_all : (P : Member → Type 0) (place : ℕ) (es : List Member) → place < length es → AllByRecursion P es → AllByRecursion P (without_entry_at place es)
cut_all P place [] inside all = absurd (omega (arith, inside))
cut_all P zero (e ∷ es) inside all = all.1
cut_all P (suc place) (e ∷ es) inside all = (all.0, cut_all P place es (omega (arith, inside)) all.1)

-- the number of a word among those of the items, and back
item_wanted : (es : List Member) (s : NodeData) (at : ℕ) (value : Option ℕ) → 6 ≤ at → slice_get (entry_words es) (at - 6) ≡ value → wanted_node_word (with_entries es s) at ≡ value
item_wanted es s at value few is = wanted_item (with_entries es s) at few ∙ is

-- the words before a place stay as they are, where the leaf's items before it do
words_before : (words : List ℕ) (s : NodeData) → Leaf words s → (es : List Member) (place : ℕ) → place ≤ length (entries_of s) → ((j : ℕ) → j < 3 * place → slice_get (entry_words es) j ≡ slice_get (entry_words (entries_of s)) j)
    → (at : ℕ) → 1 ≤ at → at < 6 + 3 * place → at ≢ 5 → wanted_node_word (with_entries es s) at ≡ Some (node_word words at)
words_before words s x es place most same at least less other =
    each_word (λ k. k < 6 + 3 * place → k ≢ 5 → wanted_node_word (with_entries es s) k ≡ Some (node_word words k))
    (λ _ _. ap Some (sym x.kind)) (λ _ _. ap Some x.level) (λ _ _. ap Some x.low) (λ _ _. ap Some x.high) (λ _ five. absurd (five refl))
    (λ i few _.
    let back : 6 + i - 6 ≡ i = omega arith in
    item_wanted es s (6 + i) (Some (node_word words (6 + i))) (omega arith) (ap (slice_get (entry_words es)) back ∙ (same i (omega (arith, few)) ∙ item_here words s x i (omega (arith, few, most)))))
    at least less other

-- what the leaf with one entry more wants
pub put_moves : (words : List ℕ) (s : NodeData) → Leaf words s → (place : ℕ) (m : Member) → place ≤ length (entries_of s) → (at : ℕ) → 9 + 3 * place ≤ at → at < 9 + 3 * length (entries_of s) → wanted_node_word (with_entries (with_entry_at place m (entries_of s)) s) at ≡ Some (node_word words (at - 3))
put_moves words s x place m most at more less =
    let es = entries_of s in
    let index : at - 6 ≡ suc (suc (suc (at - 9))) = omega (arith, more) in
    let word : 6 + (at - 9) ≡ at - 3 = omega (arith, more) in
    item_wanted (with_entry_at place m es) s at (Some (node_word words (at - 3))) (omega (arith, more))
    (ap (slice_get (entry_words (with_entry_at place m es))) index
    ∙ (put_behind place m es most (at - 9) (omega (arith, more))
    ∙ (item_here words s x (at - 9) (omega (arith, more, less)) ∙ ap (λ k. Some (node_word words k)) word)))

-- what it wants at the place of the new entry
pub record Wants (s : NodeData) (e : EntryWords) : Type 0 where
  pub base : wanted_node_word s e.at ≡ Some e.base
  pub size : wanted_node_word s (e.at + 1) ≡ Some e.size
  pub payload : wanted_node_word s (e.at + 2) ≡ Some e.payload

pub put_wants : (s : NodeData) (place : ℕ) (m : Member) → place ≤ length (entries_of s) → Wants (with_entries (with_entry_at place m (entries_of s)) s) (words_of_entry (6 + 3 * place) m)
put_wants s place m most =
    let es = entries_of s in
    let x = put_here place m es most (3 * place) refl in
    let zeroth : 6 + 3 * place - 6 ≡ 3 * place = omega arith in
    let first : 6 + 3 * place + 1 - 6 ≡ suc (3 * place) = omega arith in
    let second : 6 + 3 * place + 2 - 6 ≡ suc (suc (3 * place)) = omega arith in
    record {
      base = item_wanted (with_entry_at place m es) s (6 + 3 * place) (Some m.span.first) (omega arith) (ap (slice_get (entry_words (with_entry_at place m es))) zeroth ∙ x.base);
      size = item_wanted (with_entry_at place m es) s (6 + 3 * place + 1) (Some (m.span.last + 1 - m.span.first)) (omega arith) (ap (slice_get (entry_words (with_entry_at place m es))) first ∙ x.size);
      payload = item_wanted (with_entry_at place m es) s (6 + 3 * place + 2) (Some m.payload) (omega arith) (ap (slice_get (entry_words (with_entry_at place m es))) second ∙ x.payload);
    }

pub put_stays : (words : List ℕ) (s : NodeData) → Leaf words s → (place : ℕ) (m : Member) → place ≤ length (entries_of s) → (at : ℕ) → 1 ≤ at → at < 6 + 3 * place → at ≢ 5 → wanted_node_word (with_entries (with_entry_at place m (entries_of s)) s) at ≡ Some (node_word words at)
put_stays words s x place m most = words_before words s x (with_entry_at place m (entries_of s)) place most (put_before place m (entries_of s) most)

pub put_fits : (words : List ℕ) (s : NodeData) → Leaf words s → (place : ℕ) (m : Member) → place ≤ length (entries_of s) → length (entries_of s) < 10 → FitsEntry m → FitsWords (with_entries (with_entry_at place m (entries_of s)) s)
put_fits words s x place m most room fits =
    (x.short, (omega (arith, put_length place m (entries_of s) most, room), put_all FitsEntry place m (entries_of s) most fits (entries_fit words 6 (node_word words 5) (entries_of s) x.entries)))

-- what the leaf with one entry less wants
pub cut_moves : (words : List ℕ) (s : NodeData) → Leaf words s → (place : ℕ) → place < length (entries_of s) → (at : ℕ) → 6 + 3 * place ≤ at → at < 3 + 3 * length (entries_of s) → wanted_node_word (with_entries (without_entry_at place (entries_of s)) s) at ≡ Some (node_word words (at + 3))
cut_moves words s x place inside at more less =
    let es = entries_of s in
    let word : 6 + suc (suc (suc (at - 6))) ≡ at + 3 = omega (arith, more) in
    item_wanted (without_entry_at place es) s at (Some (node_word words (at + 3))) (omega (arith, more))
    (cut_behind place es inside (at - 6) (omega (arith, more))
    ∙ (item_here words s x (suc (suc (suc (at - 6)))) (omega (arith, more, less)) ∙ ap (λ k. Some (node_word words k)) word))

pub cut_stays : (words : List ℕ) (s : NodeData) → Leaf words s → (place : ℕ) → place < length (entries_of s) → (at : ℕ) → 1 ≤ at → at < 6 + 3 * place → at ≢ 5 → wanted_node_word (with_entries (without_entry_at place (entries_of s)) s) at ≡ Some (node_word words at)
cut_stays words s x place inside = words_before words s x (without_entry_at place (entries_of s)) place (omega (arith, inside)) (cut_before place (entries_of s) inside)

pub cut_fits : (words : List ℕ) (s : NodeData) → Leaf words s → (place : ℕ) → place < length (entries_of s) → FitsWords (with_entries (without_entry_at place (entries_of s)) s)
cut_fits words s x place inside =
    let few = x.few in
    (x.short, (omega (arith, cut_length place (entries_of s) inside, few), cut_all FitsEntry place (entries_of s) inside (entries_fit words 6 (node_word words 5) (entries_of s) x.entries)))

-- the entry at a place is what its words say
pub entry_stands : (words : List ℕ) (at count : ℕ) (xs : List Member) → entries_at words at count ≡ Some xs → (place : ℕ) → place < count → (k : ℕ) → k ≡ at + 3 * place → (slice_get xs place ≡ Some (entry_at words k)) × (is_entry_at words k ≡ true)
entry_stands words at zero xs e place less k is = absurd (omega (arith, less))
entry_stands words at (suc count) xs e place less k is = go (is_entry_at words at) refl (entries_at words (at + 3) count) refl e (λ ys more i few. entry_stands words (at + 3) count ys more i few)
  where
    there : (ys : List Member) → is_entry_at words at ≡ true → ((i : ℕ) → i < count → (j : ℕ) → j ≡ at + 3 + 3 * i → (slice_get ys i ≡ Some (entry_at words j)) × (is_entry_at words j ≡ true)) → (i : ℕ) → i < suc count → k ≡ at + 3 * i → (slice_get (entry_at words at ∷ ys) i ≡ Some (entry_at words k)) × (is_entry_at words k ≡ true)
    there ys here rest zero few is = let same : at ≡ k = omega (arith, is) in (ap (λ j. Some (entry_at words j)) same, subst (λ j. is_entry_at words j ≡ true) same here)
    there ys here rest (suc i) few is = rest i (omega (arith, few)) k (omega (arith, is))

    go : (b : Bool) → is_entry_at words at ≡ b → (o : Option (List Member)) → entries_at words (at + 3) count ≡ o → ◌≡◌ {A = Option (List Member)} (if b then option_map (λ entries. entry_at words at ∷ entries) o else None) (Some xs)
        → ((ys : List Member) → entries_at words (at + 3) count ≡ Some ys → (i : ℕ) → i < count → (j : ℕ) → j ≡ at + 3 + 3 * i → (slice_get ys i ≡ Some (entry_at words j)) × (is_entry_at words j ≡ true)) → (slice_get xs place ≡ Some (entry_at words k)) × (is_entry_at words k ≡ true)
    go false here o more f rest = absurd (none-some xs f)
    go true here None more f rest = absurd (none-some xs f)
    go true here (Some ys) more f rest = subst (λ zs. (slice_get zs place ≡ Some (entry_at words k)) × (is_entry_at words k ≡ true)) (same_Some _ _ f) (there ys here (λ i few j at_j. rest ys more i few j at_j) place less is)
