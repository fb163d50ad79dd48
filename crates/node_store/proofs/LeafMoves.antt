-- A leaf that is changed in its place: its entries move one after another.
use Rattle.std.proofs.Common.{◌≡◌, ◌≢◌, ℕ, ◌+◌, ◌-◌, ◌*◌, ◌^◌, ◌<◌, ◌≤◌, ◌⊎◌, List, [], ◌++◌, length, Option, Some, None, IfSome, IsSome, IsSomeAnd, IsTrue, refl, ap, sym, ◌∙◌, subst, arith, leb-true, ltb-true}
use Rattle.std.proofs.lemmas.Bool.{and_parts}
use Rattle.std.specs.List.{slice_get}
use Rattle.reg_model.specs.declared.span.Member.{Member}
use Rattle.tree_shape.specs.NodeData.{NodeData, IsLeaf, entries_of}
use Rattle.tree_laws.specs.Numbers.{is_among}
use Rattle.word_rule.specs.CallerData.{CallerData}
use Rattle.word_rule.specs.Held.{held_of}
use Rattle.word_rule.specs.NodeTells.{HolderTells, IsHeldNode}
use Rattle.word_rule.specs.Places.{CONTENT_WORDS, TOP}
use Rattle.word_rule.specs.Spelling.{node_word}
use Rattle.word_rule.specs.Steps.{MayStore}
use Rattle.word_rule.specs.declared.log.Holding.{Holding}
use Rattle.word_rule.specs.declared.log.Log.{Log}
use Rattle.node_store.specs.declared.entries.EntryWords.{EntryWords}
use Rattle.node_store.specs.declared.writing.Store.{Store}
use Rattle.node_store.specs.Entries.{AreOfEntry, HasEntryWords, entry_words_in, leaf_with, leaf_without, member_of_words, store_over, stores_over, with_entry_at, without_entry_at, words_of_entry}
use Rattle.node_store.specs.Holding.{MakesStores, SpellsHeld, after_node_stores}
use Rattle.node_store.specs.Outlines.{OnlyLoads}
use Rattle.node_store.specs.Writing.{after_stores, place_in_turn, stores, stores_upto, wanted_node_word}
use Rattle.node_store.proofs.HeldWrites.{HasHeld, has_all_stored}
use Rattle.node_store.proofs.LeafStores.{count_last, tail_same, three_more}
use Rattle.node_store.proofs.LeafWords.{Leaf, leaf_of, cut_length, cut_moves, cut_stays, entry_stands, put_length, put_moves, put_stays, put_wants}
use Rattle.node_store.proofs.Making.{made_more, only_loaded, only_stored, made_then}
use Rattle.node_store.proofs.Outlined.{Known, known, no_loads}
use Rattle.node_store.proofs.Overwritten.{none_upto}
use Rattle.node_store.proofs.Spelled.{entry_count}
use Rattle.node_store.proofs.Stores.{high_place, yet_old}

-- the words that were loaded are those of the lock
pub loaded_are : (n : ℕ) (s : NodeData) (e : EntryWords) (v : Log) (x : Known n s v) → HasEntryWords n e v → e ≡ entry_words_in x.lock.words e.at
loaded_are n s e v x has = subst (λ o. IsSomeAnd o (λ (h : Holding). e ≡ entry_words_in h.words e.at)) x.found has

words_loaded_are : (n : ℕ) (s : NodeData) (at : ℕ) (e : EntryWords) (v : Log) (x : Known n s v) → HasEntryWords n e v → e.at ≡ at → e ≡ entry_words_in x.lock.words at
words_loaded_are n s at e v x has is = loaded_are n s e v x has ∙ ap (entry_words_in x.lock.words) is

pub are_loaded : (n : ℕ) (s : NodeData) (e : EntryWords) (v : Log) (x : Known n s v) → e ≡ entry_words_in x.lock.words e.at → HasEntryWords n e v
are_loaded n s e v x is = subst (λ o. IsSomeAnd o (λ (h : Holding). e ≡ entry_words_in h.words e.at)) (sym x.found) is

-- they are those of the entry
entry_there : (words : List ℕ) (s : NodeData) → Leaf words s → (place : ℕ) → place < length (entries_of s) → (e : EntryWords) → e ≡ entry_words_in words (6 + 3 * place) → AreOfEntry e × (slice_get (entries_of s) place ≡ Some (member_of_words e))
entry_there words s x place less e is =
    let count = x.count in
    let k = 6 + 3 * place in
    let there = entry_stands words 6 (node_word words 5) (entries_of s) x.entries place (omega (arith, less, count)) k refl in
    let last = and_parts _ _ there.1 in
    let first = and_parts _ _ last.0 in
    subst (λ (z : EntryWords). AreOfEntry z × (slice_get (entries_of s) place ≡ Some (member_of_words z))) (sym is)
    ((leb-true 1 (node_word words (k + 1)) first.0, leb-true (node_word words k + node_word words (k + 1)) TOP first.1, ltb-true (node_word words (k + 2)) (2 ^ 32) last.1), there.0)

-- so the words that were loaded of a held leaf are those of its entry
pub entry_loaded : (n place : ℕ) (s : NodeData) (v : Log) (e : EntryWords) → SpellsHeld n s v → IsLeaf s → place < length (entries_of s) → HasEntryWords n e v → e.at ≡ 6 + 3 * place → AreOfEntry e × (slice_get (entries_of s) place ≡ Some (member_of_words e))
entry_loaded n place s v e held leaf less has at =
    let x = known n s v held in entry_there x.lock.words s (leaf_of x.lock.words s x.spells leaf) place less e (words_loaded_are n s (6 + 3 * place) e v x has at)

-- a node that may be stored in is held, and loads change nothing of it
pub may_held : (n : ℕ) (v : Log) → MayStore n v → IsSome (held_of n v.holdings.held)
may_held n v may = go (held_of n v.holdings.held) may
  where
    go : (o : Option Holding) → IsSomeAnd o (λ h. IsSome h.mark ⊎ IsTrue (is_among v.holdings.out n)) → IsSome o
    go None may = absurd may
    go (Some h) may = refl

pub may_loaded : (n : ℕ) (k k' : CallerData) → OnlyLoads k k' → MayStore n k.log → MayStore n k'.log
may_loaded n k k' only may = subst (λ (z : CallerData). MayStore n z.log) (sym only.1) may

-- a held node has all its words
pub wide_of : (n : ℕ) (s : NodeData) (v : Log) (x : Known n s v) → HolderTells n v → length x.lock.words ≡ CONTENT_WORDS
wide_of n s v x told = (subst (λ o. IfSome o (IsHeldNode v.terms)) x.found told).wide

-- the stores of so many turns were made
abbrev pub MadeUpto : ℕ → NodeData → ℕ → CallerData → CallerData → Type 0
MadeUpto n s turn k k' =
    IsSomeAnd (held_of n k.log.holdings.held) (λ h. MakesStores n (stores_upto s h.words turn) k k')

pub same_table : (n : ℕ) (s : NodeData) (turn : ℕ) (k k' : CallerData) → MadeUpto n s turn k k' → k'.table ≡ k.table
same_table n s turn k k' made = go (held_of n k.log.holdings.held) made
  where
    go : (o : Option Holding) → IsSomeAnd o (λ h. MakesStores n (stores_upto s h.words turn) k k') → k'.table ≡ k.table
    go None made = absurd made
    go (Some h) made = ap (λ (z : CallerData). z.table) made.1

-- What is known of a leaf in which a member is put: the entries behind one that stands so many moves
-- behind the place have moved on, and its words are at hand.
pub record Putting (n place : ℕ) (m : Member) (s : NodeData) (k : CallerData) (old : EntryWords) (k1 : CallerData) : Type 0 where
  pub moves : ℕ
  pub at : old.at ≡ 6 + 3 * (place + moves)
  pub inside : place + moves ≤ length (entries_of s)
  pub words_are : HasEntryWords n old k.log
  pub made : MadeUpto n (leaf_with place m s) (33 - old.at) k k1
  pub may : MayStore n k1.log

-- the same of a leaf out of which one is cut
pub record Cutting (n place : ℕ) (s : NodeData) (k : CallerData) (later : EntryWords) (k1 : CallerData) : Type 0 where
  pub moves : ℕ
  pub at : later.at ≡ 6 + 3 * (place + moves)
  pub inside : place + moves < length (entries_of s)
  pub words_are : HasEntryWords n later k.log
  pub made : MadeUpto n (leaf_without place s) (36 - later.at) k k1
  pub may : MayStore n k1.log

module _ (n : ℕ) (s : NodeData) (k : CallerData) (held : SpellsHeld n s k.log) (is_leaf : IsLeaf s) where
  abbrev x : Known n s k.log
  x = known n s k.log held

  leaf : Leaf x.lock.words s
  leaf = leaf_of x.lock.words s x.spells is_leaf

  abbrev words : List ℕ
  words = x.lock.words

  made_of : (t : NodeData) (turn : ℕ) (k' : CallerData) → MadeUpto n t turn k k' → MakesStores n (stores_upto t words turn) k k'
  made_of t turn k' made = subst (λ o. IsSomeAnd o (λ (h : Holding). MakesStores n (stores_upto t h.words turn) k k')) x.found made

  made_so : (t : NodeData) (turn : ℕ) (k' : CallerData) → MakesStores n (stores_upto t words turn) k k' → MadeUpto n t turn k k'
  made_so t turn k' made = subst (λ o. IsSomeAnd o (λ (h : Holding). MakesStores n (stores_upto t h.words turn) k k')) (sym x.found) made

  -- words whose turn is yet to come are found as they were
  found_old : (t : NodeData) (turn : ℕ) (k' : CallerData) (e : EntryWords) → MadeUpto n t turn k k' → HasEntryWords n e k'.log → 6 ≤ e.at → e.at + 2 + turn ≤ 35 → e ≡ entry_words_in words e.at
  found_old t turn k' e made has low few =
      let m = made_of t turn k' made in
      let before : HasHeld n words k.log = subst (λ o. IsSomeAnd o (λ (h : Holding). h.words ≡ words)) (sym x.found) refl in
      let now : HasHeld n (after_stores (stores_upto t words turn) words) k'.log = subst (λ (z : CallerData). HasHeld n (after_stores (stores_upto t words turn) words) z.log) (sym m.1) (has_all_stored n (stores_upto t words turn) words k.log before) in
      go (held_of n k'.log.holdings.held) now has
    where
      same : (at : ℕ) → 6 ≤ at → at + turn ≤ 35 → node_word (after_stores (stores_upto t words turn) words) at ≡ node_word words at
      same at low few =
          let place : place_in_turn (35 - at) ≡ at = high_place (35 - at) (omega (arith, low)) ∙ omega (arith, few) in
          subst (λ j. node_word (after_stores (stores_upto t words turn) words) j ≡ node_word words j) place (yet_old t words turn (35 - at) (omega (arith, few)) (omega (arith, low)))

      go : (o : Option Holding) → IsSomeAnd o (λ h. h.words ≡ after_stores (stores_upto t words turn) words) → IsSomeAnd o (λ h. e ≡ entry_words_in h.words e.at) → e ≡ entry_words_in words e.at
      go None now has = absurd has
      go (Some h) now has =
          let base = same e.at low (omega (arith, few)) in
          let size = same (e.at + 1) (omega (arith, low)) (omega (arith, few)) in
          let payload = same (e.at + 2) (omega (arith, low)) (omega (arith, few)) in
          has ∙ (ap (λ ws. entry_words_in ws e.at) now ∙ (λ i. record { at = e.at; base = base i; size = size i; payload = payload i }))

  -- an entry's words were stored over those at a place
  stored_here : (t : NodeData) (old e : EntryWords) (k1 k2 k3 : CallerData) → 6 ≤ old.at → old.at ≤ 33 → old ≡ entry_words_in words old.at → wanted_node_word t old.at ≡ Some e.base → wanted_node_word t (old.at + 1) ≡ Some e.size → wanted_node_word t (old.at + 2) ≡ Some e.payload
      → MadeUpto n t (33 - old.at) k k1 → OnlyLoads k1 k2 → k3 ≡ record k2 { log = after_node_stores n (stores_over old e) k2.log } → MadeUpto n t (36 - old.at) k k3
  stored_here t old e k1 k2 k3 low high is base size payload made loads stored =
      let three = three_more t words old.at e low high base size payload ∙ ap (λ o. stores_upto t words (33 - old.at) ++ stores_over o e) (sym is) in
      made_so t (36 - old.at) k3 (subst (λ xs. MakesStores n xs k k3) (sym three) (made_more n (stores_upto t words (33 - old.at)) (stores_over old e) k k1 k2 k3 (made_of t (33 - old.at) k1 made) loads stored))

  -- the rest: nothing down to the kind, and the count
  count_stored : (t : NodeData) (first count value : ℕ) (k2 k3 : CallerData) → 6 ≤ first → first ≤ 36 → ((at : ℕ) → 1 ≤ at → at < first → at ≢ 5 → wanted_node_word t at ≡ Some (node_word words at)) → wanted_node_word t 5 ≡ Some value → count ≡ node_word words 5
      → MadeUpto n t (36 - first) k k2 → k3 ≡ record k2 { log = after_node_stores n (store_over count (record { at = 5; value = value })) k2.log } → MakesStores n (stores t words) k k3
  count_stored t first count value k2 k3 low high same five is made stored =
      let last : Store = record { at = 5; value = value } in
      let all : stores t words ≡ stores_upto t words (36 - first) ++ store_over count last =
      count_last t words value five ∙ (ap (λ xs. xs ++ store_over (node_word words 5) last) (tail_same t words first low high same) ∙ ap (λ c. stores_upto t words (36 - first) ++ store_over c last) (sym is)) in
      subst (λ xs. MakesStores n xs k k3) (sym all) (made_then n (stores_upto t words (36 - first)) (store_over count last) k k2 k3 (made_of t (36 - first) k2 made) (only_stored n (store_over count last) k2 k3 stored))

  started : (t : NodeData) (turn : ℕ) (k1 : CallerData) → stores_upto t words turn ≡ [] → OnlyLoads k k1 → MadeUpto n t turn k k1
  started t turn k1 none loads = made_so t turn k1 (subst (λ xs. MakesStores n xs k k1) (sym none) (only_loaded n k k1 loads))

  -- one entry more
  module _ (place : ℕ) (m : Member) (most : place ≤ length (entries_of s)) where
    abbrev put : NodeData
    put = leaf_with place m s

    pub put_starts : (k1 : CallerData) → length (entries_of s) < 10 → OnlyLoads k k1 → MadeUpto n put (33 - (6 + 3 * length (entries_of s))) k k1
    put_starts k1 room loads =
        started put (33 - (6 + 3 * length (entries_of s))) k1
        (none_upto put words (33 - (6 + 3 * length (entries_of s))) (omega (arith, entry_count (with_entry_at place m (entries_of s)), put_length place m (entries_of s) most, room))) loads

    pub put_on : (old moved : EntryWords) (k1 k2 k3 : CallerData) → length (entries_of s) < 10 → Putting n place m s k old k1 → 6 + 3 * place < old.at → moved.at ≡ old.at - 3 → HasEntryWords n moved k1.log → OnlyLoads k1 k2
        → k3 ≡ record k2 { log = after_node_stores n (stores_over old moved) k2.log } → MayStore n k3.log → Putting n place m s k moved k3
    put_on old moved k1 k2 k3 room w more there has loads stored may =
        let at = w.at in
        let inside = w.inside in
        let was = found_old put (33 - old.at) k1 moved w.made has (omega (arith, at, more, there)) (omega (arith, at, more, there, inside, room)) in
        let first : old.at - 3 ≡ moved.at = omega (arith, there) in
        let second : old.at + 1 - 3 ≡ moved.at + 1 = omega (arith, there, more) in
        let third : old.at + 2 - 3 ≡ moved.at + 2 = omega (arith, there, more) in
        let turn : 36 - old.at ≡ 33 - moved.at = omega (arith, there, more) in
        let base = put_moves words s leaf place m most old.at (omega (arith, at, more)) (omega (arith, at, inside)) ∙ (ap (λ j. Some (node_word words j)) first ∙ ap (λ (z : EntryWords). Some z.base) (sym was)) in
        let size = put_moves words s leaf place m most (old.at + 1) (omega (arith, at, more)) (omega (arith, at, inside)) ∙ (ap (λ j. Some (node_word words j)) second ∙ ap (λ (z : EntryWords). Some z.size) (sym was)) in
        let payload = put_moves words s leaf place m most (old.at + 2) (omega (arith, at, more)) (omega (arith, at, inside)) ∙ (ap (λ j. Some (node_word words j)) third ∙ ap (λ (z : EntryWords). Some z.payload) (sym was)) in
        record {
          moves = w.moves - 1;
          at = omega (arith, at, more, there);
          inside = omega (arith, at, more, inside);
          words_are = are_loaded n s moved k.log x was;
          made = subst (λ j. MadeUpto n put j k k3) turn (stored_here put old moved k1 k2 k3 (omega (arith, at)) (omega (arith, at, inside, room)) (loaded_are n s old k.log x w.words_are) base size payload w.made loads stored);
          may = may;
        }

    pub put_ends : (count : ℕ) (old e : EntryWords) (k1 k2 k3 : CallerData) → length (entries_of s) < 10 → Putting n place m s k old k1 → old.at ≤ 6 + 3 * place → e ≡ words_of_entry (6 + 3 * place) m → k2 ≡ record k1 { log = after_node_stores n (stores_over old e) k1.log } → count ≡ length (entries_of s)
        → k3 ≡ record k2 { log = after_node_stores n (store_over count (record { at = 5; value = count + 1 })) k2.log } → MakesStores n (stores put words) k k3
    put_ends count old e k1 k2 k3 room w least is stored counts last =
        let at = w.at in
        let inside = w.inside in
        let here : 6 + 3 * place ≡ old.at = omega (arith, at, least) in
        let wants = put_wants s place m most in
        let base = subst (λ j. wanted_node_word put j ≡ Some m.span.first) here wants.base ∙ ap (λ (z : EntryWords). Some z.base) (sym is) in
        let size = subst (λ j. wanted_node_word put (j + 1) ≡ Some (m.span.last + 1 - m.span.first)) here wants.size ∙ ap (λ (z : EntryWords). Some z.size) (sym is) in
        let payload = subst (λ j. wanted_node_word put (j + 2) ≡ Some m.payload) here wants.payload ∙ ap (λ (z : EntryWords). Some z.payload) (sym is) in
        let entry = stored_here put old e k1 k1 k2 (omega (arith, at)) (omega (arith, at, inside, room)) (loaded_are n s old k.log x w.words_are) base size payload w.made (no_loads k1) stored in
        let more : length (with_entry_at place m (entries_of s)) ≡ count + 1 = omega (arith, put_length place m (entries_of s) most, counts) in
        let kept = leaf.count in
        count_stored put (6 + 3 * place) count (count + 1) k2 k3 (omega arith) (omega (arith, most, room)) (put_stays words s leaf place m most) (ap (λ c. Some c) more) (omega (arith, kept, counts))
        (subst (λ j. MadeUpto n put (36 - j) k k2) (sym here) entry) last

  -- one entry less
  module _ (place : ℕ) (some : place < length (entries_of s)) where
    abbrev cut : NodeData
    cut = leaf_without place s

    pub cut_starts : (last : ℕ) (k1 : CallerData) → last + 1 ≡ length (entries_of s) → OnlyLoads k k1 → MadeUpto n cut (36 - (6 + 3 * last)) k k1
    cut_starts last k1 is loads =
        let few = leaf.few in
        started cut (36 - (6 + 3 * last)) k1
        (none_upto cut words (36 - (6 + 3 * last)) (omega (arith, entry_count (without_entry_at place (entries_of s)), cut_length place (entries_of s) some, few, is))) loads

    pub cut_on : (later old : EntryWords) (k1 k2 k3 : CallerData) → Cutting n place s k later k1 → 6 + 3 * place < later.at → old.at ≡ later.at - 3 → HasEntryWords n old k1.log → OnlyLoads k1 k2
        → k3 ≡ record k2 { log = after_node_stores n (stores_over old later) k2.log } → MayStore n k3.log → Cutting n place s k old k3
    cut_on later old k1 k2 k3 w more there has loads stored may =
        let at = w.at in
        let inside = w.inside in
        let few = leaf.few in
        let was = found_old cut (36 - later.at) k1 old w.made has (omega (arith, at, more, there)) (omega (arith, at, more, there, inside, few)) in
        let are = loaded_are n s later k.log x w.words_are in
        let first : old.at + 3 ≡ later.at = omega (arith, there, more) in
        let second : old.at + 1 + 3 ≡ later.at + 1 = omega (arith, there, more) in
        let third : old.at + 2 + 3 ≡ later.at + 2 = omega (arith, there, more) in
        let turn : 36 - later.at ≡ 33 - old.at = omega (arith, there, more) in
        let base = cut_moves words s leaf place some old.at (omega (arith, at, more, there)) (omega (arith, at, inside, there, more)) ∙ (ap (λ j. Some (node_word words j)) first ∙ ap (λ (z : EntryWords). Some z.base) (sym are)) in
        let size = cut_moves words s leaf place some (old.at + 1) (omega (arith, at, more, there)) (omega (arith, at, inside, there, more)) ∙ (ap (λ j. Some (node_word words j)) second ∙ ap (λ (z : EntryWords). Some z.size) (sym are)) in
        let payload = cut_moves words s leaf place some (old.at + 2) (omega (arith, at, more, there)) (omega (arith, at, inside, there, more)) ∙ (ap (λ j. Some (node_word words j)) third ∙ ap (λ (z : EntryWords). Some z.payload) (sym are)) in
        record {
          moves = w.moves - 1;
          at = omega (arith, at, more, there);
          inside = omega (arith, at, more, inside);
          words_are = are_loaded n s old k.log x was;
          made = stored_here cut old later k1 k2 k3 (omega (arith, at, more, there)) (omega (arith, at, inside, there, few)) was base size payload (subst (λ j. MadeUpto n cut j k k1) turn w.made) loads stored;
          may = may;
        }

    pub cut_ends : (count : ℕ) (later : EntryWords) (k1 k2 : CallerData) → Cutting n place s k later k1 → later.at ≤ 6 + 3 * place → count ≡ length (entries_of s)
        → k2 ≡ record k1 { log = after_node_stores n (store_over count (record { at = 5; value = count - 1 })) k1.log } → MakesStores n (stores cut words) k k2
    cut_ends count later k1 k2 w least counts last =
        let at = w.at in
        let few = leaf.few in
        let here : 6 + 3 * place ≡ later.at = omega (arith, at, least) in
        let less : length (without_entry_at place (entries_of s)) ≡ count - 1 = omega (arith, cut_length place (entries_of s) some, counts) in
        let kept = leaf.count in
        count_stored cut (6 + 3 * place) count (count - 1) k1 k2 (omega arith) (omega (arith, some, few)) (cut_stays words s leaf place some) (ap (λ c. Some c) less) (omega (arith, kept, counts))
        (subst (λ j. MadeUpto n cut (36 - j) k k1) (sym here) w.made) last
