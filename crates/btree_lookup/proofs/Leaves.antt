-- The entries of the leaf that a lookup visits: what its loads say of them.
use Rattle.std.proofs.Common.{◌≡◌, ℕ, zero, suc, ◌+◌, ◌*◌, ◌-◌, ◌^◌, ◌<◌, ◌≤◌, ◌==◌, ◌⊎◌, ◌&&◌, Bool, true, false, List, ◌∷◌, min, Option, Some, None, option_map, IfSome, inl, inr, refl, ap, sym, ◌∙◌, subst, arith, nat_le, if◌then◌else◌, lt_of_not-le, true≢false}
use Rattle.std.proofs.lemmas.Bool.{and_parts, leb-true, le-leb, ltb-true}
use Rattle.std.proofs.lemmas.Option.{none-some, same_Some}
use native.Mathlib.Decide.{ℕ_discrete, dec_le}
use Rattle.reg_model.specs.SpanData.{contains}
use Rattle.reg_model.specs.Query.{member_at}
use Rattle.reg_model.specs.declared.span.Member.{Member}
use Rattle.segment_array.specs.Ascending.{AscendFrom}
use Rattle.tree_shape.specs.NodeData.{NodeData, Body, Pairs, Entries, Link, IsInFences, entries_in, entries_of}
use Rattle.tree_laws.specs.Lawful.{IsOrderedAs}
use Rattle.tree_shape.specs.declared.pair.Pair.{Pair}
use Rattle.word_rule.specs.declared.log.Terms.{Terms}
use Rattle.word_rule.specs.CallerData.{CallerData}
use Rattle.word_rule.specs.NodeTells.{IsLiveNode}
use Rattle.word_rule.specs.Places.{TOP}
use Rattle.word_rule.specs.Sights.{after_node_load, loaded_word}
use Rattle.word_rule.specs.Observations.{AreOfNode}
use Rattle.word_rule.specs.Spelling.{entries_at, entry_at, is_entry_at, is_short, node_word, pairs_at}
use Rattle.word_rule.proofs.Spells.{reads}
use Rattle.btree_lookup.specs.Visits.{Agrees, AreBegun, BeginLater, IsEntry, Sees, SeesBegun, SeesLater, Way, entry_member}
use Rattle.btree_lookup.specs.declared.entry.Begun.{Begun}
use Rattle.btree_lookup.specs.declared.visit.Visit.{Visit}
use Rattle.btree_lookup.proofs.Sighting.{at_most, one_more}
use Rattle.word_rule.proofs.NodeVersions.{loaded_is}
use Rattle.segment_array.proofs.Places.{none_above, unheld_below}

-- words that spell a leaf have a count that may be, and entries from word 6 on
abbrev IsLeafRead : Bool → Option (List Member) → Body → Type 0
IsLeafRead few entries (Pairs ps) = Unit {0}
IsLeafRead few entries (Entries es) = (few ≡ true) × (entries ≡ Some es)
IsLeafRead few entries (Link next) = Unit {0}

leaf_cases : (inner many leaf few free : Bool) (pairs : Option (List Pair)) (entries : Option (List Member)) (link : ℕ) (body : Body)
    → (if inner then (if many then option_map Pairs pairs else None) else (if leaf then (if few then option_map Entries entries else None) else (if free then Some (Link link) else None))) ≡ Some body
    → IsLeafRead few entries body
leaf_cases true true leaf few free None entries link body e = absurd (none-some body e)
leaf_cases true true leaf few free (Some xs) entries link body e = subst (IsLeafRead few entries) (same_Some _ _ e) tt
leaf_cases true false leaf few free pairs entries link body e = absurd (none-some body e)
leaf_cases false many true true free pairs None link body e = absurd (none-some body e)
leaf_cases false many true true free pairs (Some xs) link body e = subst (IsLeafRead true (Some xs)) (same_Some _ _ e) (refl, refl)
leaf_cases false many true false free pairs entries link body e = absurd (none-some body e)
leaf_cases false many false few true pairs entries link body e = subst (IsLeafRead few entries) (same_Some _ _ e) tt
leaf_cases false many false few false pairs entries link body e = absurd (none-some body e)

-- the first of some entries, and the others
record Unrolled (words : List ℕ) (at more : ℕ) (es : List Member) : Type 0 where
  rest : List Member
  whole : es ≡ entry_at words at ∷ rest
  read : entries_at words (at + 3) more ≡ Some rest
  entry : is_entry_at words at ≡ true

entry_unrolled : (words : List ℕ) (at more : ℕ) (es : List Member) → entries_at words at (suc more) ≡ Some es → Unrolled words at more es
entry_unrolled words at more es e = go (is_entry_at words at) refl (entries_at words (at + 3) more) refl e
  where
    go : (b : Bool) → is_entry_at words at ≡ b → (o : Option (List Member)) → entries_at words (at + 3) more ≡ o → ◌≡◌ {A = Option (List Member)} (if b then option_map (λ entries. entry_at words at ∷ entries) o else None) (Some es) → Unrolled words at more es
    go true t None is f = absurd (none-some es f)
    go true t (Some rest) is f = record { rest = rest; whole = sym (same_Some _ _ f); read = is; entry = t }
    go false t o is f = absurd (none-some es f)

module _ (words : List ℕ) (pc count begun : ℕ) where
  -- where no entry is left, or the next one begins above the address
  none_left : (more low : ℕ) (es : List Member) → begun + more ≡ count → entries_at words (6 + 3 * begun) more ≡ Some es → AscendFrom low es → (count ≡ begun) ⊎ (pc < node_word words (6 + 3 * begun)) → member_at pc es ≡ None
  none_left zero low es e read h past = ap (member_at pc) (sym (same_Some _ _ read))
  none_left (suc more) low es e read h (inl end) = absurd (omega (arith, e, end))
  none_left (suc more) low es e read h (inr above) =
      let u = entry_unrolled words (6 + 3 * begun) more es read in
      let first = subst (AscendFrom low) u.whole h in
      ap (member_at pc) u.whole ∙ none_above pc (node_word words (6 + 3 * begun)) (entry_at words (6 + 3 * begun) ∷ u.rest) (omega arith, first.1, first.2) above

  abbrev Picked : Member → Option Member
  Picked m = if contains m.span pc then Some m else None

  -- the last one that begins at or below the address is the only one that may contain it
  picked : (d i more low : ℕ) (es : List Member) → i + d + 1 ≡ begun → i + more ≡ count → begun ≤ count → entries_at words (6 + 3 * i) more ≡ Some es → AscendFrom low es
      → ((j : ℕ) → 0 < j → j < begun → node_word words (6 + 3 * j) ≤ pc) → (count ≡ begun) ⊎ (pc < node_word words (6 + 3 * begun))
      → (member_at pc es ≡ Picked (entry_at words (6 + 3 * (i + d)))) × (is_entry_at words (6 + 3 * (i + d)) ≡ true)
  picked d i zero low es e whole few read h below past = absurd (omega (arith, e, whole, few))
  picked zero i (suc more) low es e whole few read h below past =
      let u = entry_unrolled words (6 + 3 * i) more es read in
      let first = subst (AscendFrom low) u.whole h in
      let next : 6 + 3 * i + 3 ≡ 6 + 3 * begun = omega (arith, e) in
      let here : 6 + 3 * i ≡ 6 + 3 * (i + 0) = omega arith in
      let none = none_left more (node_word words (6 + 3 * i) + node_word words (6 + 3 * i + 1) - 1 + 1) u.rest (omega (arith, e, whole)) (ap (λ p. entries_at words p more) (sym next) ∙ u.read) first.2 past in (
        ap (member_at pc) u.whole ∙ (ap (λ o. if contains (entry_at words (6 + 3 * i)).span pc then Some (entry_at words (6 + 3 * i)) else o) none ∙ ap (λ p. Picked (entry_at words p)) here),
        ap (is_entry_at words) (sym here) ∙ u.entry,
      )
  picked (suc d) i (suc zero) low es e whole few read h below past = absurd (omega (arith, e, whole, few))
  picked (suc d) i (suc (suc more)) low es e whole few read h below past =
      let u = entry_unrolled words (6 + 3 * i) (suc more) es read in
      let first = subst (AscendFrom low) u.whole h in
      let next : 6 + 3 * i + 3 ≡ 6 + 3 * (i + 1) = omega arith in
      let same : i + 1 + d ≡ i + suc d = omega arith in
      let rest_read : entries_at words (6 + 3 * (i + 1)) (suc more) ≡ Some u.rest = ap (λ p. entries_at words p (suc more)) (sym next) ∙ u.read in
      let v = entry_unrolled words (6 + 3 * (i + 1)) more u.rest rest_read in
      let second = subst (AscendFrom ((entry_at words (6 + 3 * i)).span.last + 1)) v.whole first.2 in
      let begins = below (i + 1) (omega arith) (omega (arith, e)) in
      let over = second.0 in
      let out = unheld_below (entry_at words (6 + 3 * i)) pc (omega (arith, begins, over)) in
      let later = picked d (i + 1) (suc more) ((entry_at words (6 + 3 * i)).span.last + 1) u.rest (omega (arith, e)) (omega (arith, whole)) few rest_read first.2 below past in (
        ap (member_at pc) u.whole ∙ (ap (λ c. if c then Some (entry_at words (6 + 3 * i)) else member_at pc u.rest) out ∙ (later.0 ∙ ap (λ p. Picked (entry_at words (6 + 3 * p))) same)),
        ap (λ p. is_entry_at words (6 + 3 * p)) (sym same) ∙ later.1,
      )

-- what an entry is
entry_parts : (words : List ℕ) (at : ℕ) → is_entry_at words at ≡ true → (1 ≤ node_word words (at + 1)) × (node_word words at + node_word words (at + 1) ≤ TOP) × (node_word words (at + 2) < 2 ^ 32)
entry_parts words at e =
    let a = and_parts (nat_le 1 (node_word words (at + 1)) && nat_le (node_word words at + node_word words (at + 1)) TOP) (is_short (node_word words (at + 2))) e in
    let b = and_parts (nat_le 1 (node_word words (at + 1))) (nat_le (node_word words at + node_word words (at + 1)) TOP) a.0 in
    (leb-true 1 (node_word words (at + 1)) b.0, leb-true (node_word words at + node_word words (at + 1)) TOP b.1, short a.1)
  where
    short : is_short (node_word words (at + 2)) ≡ true → node_word words (at + 2) < 2 ^ 32
    short s = ltb-true (node_word words (at + 2)) (2 ^ 32) s

-- the leaf that has the loaded words
record LeafNode (t : Terms) (pc : ℕ) (words : List ℕ) (shape : NodeData) : Type 0 where
  entries : List Member
  is : entries_of shape ≡ entries
  read : entries_at words 6 (node_word words 5) ≡ Some entries
  ascend : AscendFrom shape.low entries
  few : node_word words 5 ≤ 10
  level : shape.level ≡ 0
  inside : IsInFences pc shape

module _ (t : Terms) (pc : ℕ) (k : CallerData) (visit : Visit) where
  leaf_node : (used : ℕ) (k1 : CallerData) (s : Sees t pc k visit used k1) → visit.level ≡ 0 → (shape : NodeData) (a : Agrees t s.sight shape) → LeafNode t pc a.words shape
  leaf_node used k1 s bottom shape a = go shape.body refl live.ordered
    where
      live : IsLiveNode t s.sight.node shape s.place
      live = subst (λ o. IfSome o (IsLiveNode t s.sight.node shape)) s.placed a.live

      level : shape.level ≡ 0
      level = live.placed.0 ∙ (s.level ∙ bottom)

      go : (b : Body) → shape.body ≡ b → IsOrderedAs shape b → LeafNode t pc a.words shape
      go (Pairs ps) is ordered = absurd (let e = ordered.0 in let l = level in omega (arith, e, l))
      go (Link next) is ordered = absurd ordered
      go (Entries es) is ordered =
          let r = subst (IsLeafRead (nat_le (node_word a.words 5) 10) (entries_at a.words 6 (node_word a.words 5))) is
          (leaf_cases (node_word a.words 1 == 0) (nat_le (node_word a.words 5) 15) (node_word a.words 1 == 1) (nat_le (node_word a.words 5) 10) ((node_word a.words 1 == 2) && is_short (node_word a.words 6)) (pairs_at a.words 6 (node_word a.words 5)) (entries_at a.words 6 (node_word a.words 5)) (node_word a.words 6) shape.body (reads a.words shape a.spells).body) in
          let i = s.inside in
          record {
            entries = es;
            is = ap entries_in is;
            read = r.1;
            ascend = ordered.1.0;
            few = leb-true (node_word a.words 5) 10 r.0;
            level = level;
            inside = ((let low = live.placed.1 in let l = i.0 in omega (arith, low, l)), (let high = live.placed.2 in let l = i.1 in omega (arith, high, l)));
          }

  -- the count was loaded
  pub leaf_count : (k1 k2 : CallerData) (count : ℕ) → Way t pc k visit k1 → k2 ≡ record k1 { log = after_node_load visit.node 5 count k1.log } → SeesLater t pc k visit count 0 0 k2
  leaf_count k1 k2 count w is = record {
    sees = one_more t pc k visit 0 k1 k2 w.sees 5 count (λ e. omega (arith, e)) (omega arith) is;
    told = λ words all. (all.0, (λ i l. absurd (omega (arith, l))), inl refl);
  }

  -- the base of one more entry was loaded
  pub base_looked : (k1 k2 : CallerData) (count turns later next : ℕ) (ahead low : Bool) → SeesLater t pc k visit count turns later k1 → k2 ≡ record k1 { log = after_node_load visit.node (9 + 3 * turns) next k1.log } → turns < 9
      → (ahead ≡ true → later ≡ turns) → (ahead ≡ false → later < turns) → nat_le next pc ≡ low → SeesLater t pc k visit count (turns + 1) (later + (if ahead && low then 1 else 0)) k2
  base_looked k1 k2 count turns later next ahead low w is room all_so fewer same = record {
    sees = at_most t pc k visit (1 + turns + 1) (1 + (turns + 1)) k2 (omega arith) (one_more t pc k visit (1 + turns) k1 k2 w.sees (9 + 3 * turns) next (λ e. omega (arith, e)) (omega (arith, room)) is);
    told = λ words all. by_case words ahead low all.0 all_so fewer same (w.told words all.1);
  }
    where
      by_case : (words : List ℕ) (a l : Bool) → node_word words (9 + 3 * turns) ≡ next → (a ≡ true → later ≡ turns) → (a ≡ false → later < turns) → nat_le next pc ≡ l → BeginLater pc count turns later words → BeginLater pc count (turns + 1) (later + (if a && l then 1 else 0)) words
      by_case words true true at so few low b = (
        b.0,
        (λ i l. by_place i l (ℕ_discrete i later)),
        inl (let e = so refl in omega (arith, e)),
      )
        where
          by_place : (i : ℕ) → i < later + 1 → Dec (i ≡ later) → node_word words (9 + 3 * i) ≤ pc
          by_place i l (yes e) =
              let place : 9 + 3 * i ≡ 9 + 3 * turns = (let s = so refl in omega (arith, e, s)) in
              let is = ap (node_word words) place in let small = leb-true next pc low in omega (arith, is, at, small)
          by_place i l (no ne) = b.1 i (omega (arith, l, ne))
      by_case words true false at so few low b = (
        b.0,
        (λ i l. b.1 i (omega (arith, l))),
        inr (
            let place : 9 + 3 * (later + 0) ≡ 9 + 3 * turns = (let s = so refl in omega (arith, s)) in
            let is = ap (node_word words) place in let large = lt_of_not-le (λ le. true≢false (sym (le-leb next pc le) ∙ low)) in omega (arith, is, at, large)
            ),
      )
      by_case words false low' at so few low b = (b.0, (λ i l. b.1 i (omega (arith, l))), inr (above b.2))
        where
          above : (later ≡ turns) ⊎ (pc < node_word words (9 + 3 * later)) → pc < node_word words (9 + 3 * (later + 0))
          above (inl e) = absurd (let f = few refl in omega (arith, e, f))
          above (inr h) = let same : later ≡ later + 0 = omega arith in subst (λ n. pc < node_word words (9 + 3 * n)) same h

  -- a leaf without an entry
  pub none_there : (k1 : CallerData) (count : ℕ) → SeesLater t pc k visit count 0 0 k1 → min count 10 ≡ 0 → SeesBegun t pc k visit (record { count = 0; base = 0 }) k1
  none_there k1 count w none = record {
    sees = at_most t pc k visit 1 11 k1 (omega arith) w.sees;
    told = λ words all few. let b = w.told words all in let n = b.0 in record {
      few = omega arith;
      below = λ i p l. absurd (omega (arith, l));
      last = λ i e. absurd (omega (arith, e));
      past = inl (omega (arith, none, n));
    };
  }

  -- the base of the last entry that begins at or below the address was loaded
  module _ (k1 k2 : CallerData) (count later place base : ℕ) (w : SeesLater t pc k visit count 9 later k1) (some : 0 < min count 10) (picks : place ≡ min later (min count 10 - 1)) (is : k2 ≡ record k1 { log = after_node_load visit.node (6 + 3 * place) base k1.log }) where
    abbrev with_base : Sees t pc k visit 11 k2
    with_base = one_more t pc k visit 10 k1 k2 w.sees (6 + 3 * place) base (λ e. omega (arith, e)) (omega (arith, some, picks)) is

    before : (words : List ℕ) → BeginLater pc count 9 later words → (i : ℕ) → 0 < i → i ≤ place → node_word words (6 + 3 * i) ≤ pc
    before words b i positive l =
        let low = b.1 (i - 1) (omega (arith, positive, l, picks)) in
        let same : 9 + 3 * (i - 1) ≡ 6 + 3 * i = omega (arith, positive) in subst (λ p. node_word words p ≤ pc) same low

    pub base_low : base ≤ pc → SeesBegun t pc k visit (record { count = place + 1; base = base }) k2
    base_low low = record {
      sees = with_base;
      told = λ words all few. let b = w.told words all.1 in let n = b.0 in record {
        few = omega (arith, n, picks, some);
        below = λ i positive l. before words b i positive (omega (arith, l));
        last = λ i e. let same : i ≡ place = omega (arith, e) in (subst (λ j. node_word words (6 + 3 * j) ≡ base) (sym same) all.0, low);
        past = beyond words few n b.2;
      };
    }
      where
        beyond : (words : List ℕ) → node_word words 5 ≤ 10 → node_word words 5 ≡ count → (later ≡ 9) ⊎ (pc < node_word words (9 + 3 * later)) → (node_word words 5 ≡ place + 1) ⊎ (pc < node_word words (6 + 3 * (place + 1)))
        beyond words few n (inl e) = inl (omega (arith, few, n, e, picks, some))
        beyond words few n (inr h) = by_place (dec_le count (later + 1))
          where
            by_place : Dec (count ≤ later + 1) → (node_word words 5 ≡ place + 1) ⊎ (pc < node_word words (6 + 3 * (place + 1)))
            by_place (yes l) = inl (omega (arith, few, n, l, picks, some))
            by_place (no more) = inr (let same : 9 + 3 * later ≡ 6 + 3 * (place + 1) = omega (arith, few, n, more, picks, some) in subst (λ p. pc < node_word words p) same h)

    -- one that begins above it is the first: a later one was found at or below it before
    pub base_high : pc < base → SeesBegun t pc k visit (record { count = 0; base = 0 }) k2
    base_high high = record {
      sees = with_base;
      told = λ words all few. record {
        few = omega arith;
        below = λ i positive l. absurd (omega (arith, l));
        last = λ i e. absurd (omega (arith, e));
        past = inr (first words all.0 (w.told words all.1) (ℕ_discrete place 0));
      };
    }
      where
        first : (words : List ℕ) → node_word words (6 + 3 * place) ≡ base → BeginLater pc count 9 later words → Dec (place ≡ 0) → pc < node_word words (6 + 3 * 0)
        first words at b (yes e) = let same : 6 + 3 * place ≡ 6 = omega (arith, e) in let is = ap (node_word words) same in omega (arith, is, at, high)
        first words at b (no ne) = absurd (let low = before words b place (omega (arith, ne)) (omega arith) in omega (arith, low, at, high))

  -- what the search says of a leaf that has the words
  module _ (begun : Begun) (k1 : CallerData) (w : SeesBegun t pc k visit begun k1) (bottom : visit.level ≡ 0) (used : ℕ) (k2 : CallerData) (s : Sees t pc k visit used k2)
      (kept : (words : List ℕ) → AreOfNode words s.sight.words → AreOfNode words w.sees.sight.words) (shape : NodeData) (a : Agrees t s.sight shape) where
    leaf : LeafNode t pc a.words shape
    leaf = leaf_node used k2 s bottom shape a

    begins : AreBegun pc begun a.words
    begins = w.told a.words (kept a.words a.loaded_so) leaf.few

    pub none_begun : begun.count ≡ 0 → (member_at pc (entries_of shape) ≡ None) × (shape.level ≡ 0) × IsInFences pc shape
    none_begun e =
        let start : 6 ≡ 6 + 3 * begun.count = omega (arith, e) in (
          ap (member_at pc) leaf.is ∙ none_left a.words pc (node_word a.words 5) begun.count (node_word a.words 5) shape.low leaf.entries (omega (arith, e)) (ap (λ p. entries_at a.words p (node_word a.words 5)) (sym start) ∙ leaf.read) leaf.ascend begins.past,
          leaf.level,
          leaf.inside,
        )

    module _ (some : 0 < begun.count) where
      abbrev place : ℕ
      place = 6 + 3 * (0 + (begun.count - 1))

      found : (member_at pc (entries_of shape) ≡ (if contains (entry_at a.words place).span pc then Some (entry_at a.words place) else None)) × (is_entry_at a.words place ≡ true)
      found =
          let p = picked a.words pc (node_word a.words 5) begun.count (begun.count - 1) 0 (node_word a.words 5) shape.low leaf.entries (omega (arith, some)) (omega arith) begins.few leaf.read leaf.ascend begins.below begins.past in
          (ap (member_at pc) leaf.is ∙ p.0, p.1)

      last : (node_word a.words place ≡ begun.base) × (begun.base ≤ pc)
      last = begins.last (0 + (begun.count - 1)) (omega (arith, some))

      module _ (size : ℕ) (sized : loaded_word (7 + 3 * (begun.count - 1)) s.sight.words ≡ Some size) where
        size_is : node_word a.words (place + 1) ≡ size
        size_is = let at : place + 1 ≡ 7 + 3 * (begun.count - 1) = omega arith in ap (node_word a.words) at ∙ loaded_is a.words s.sight.words (7 + 3 * (begun.count - 1)) size a.loaded_so sized

        pub too_short : size ≤ pc - begun.base → (member_at pc (entries_of shape) ≡ None) × (shape.level ≡ 0) × IsInFences pc shape
        too_short short =
            let parts = entry_parts a.words place found.1 in
            let z = parts.0 in let b = last.0 in let y = size_is in let low = last.1 in
            let out = unheld_below (entry_at a.words place) pc (omega (arith, z, b, y, low, short)) in
            (found.0 ∙ ap (λ c. if c then Some (entry_at a.words place) else None) out, leaf.level, leaf.inside)

        pub long_enough : (payload : ℕ) → loaded_word (8 + 3 * (begun.count - 1)) s.sight.words ≡ Some payload → pc - begun.base < size
            → (member_at pc (entries_of shape) ≡ Some (entry_member record { base = begun.base; size = size; payload = payload })) × IsEntry record { base = begun.base; size = size; payload = payload } × (shape.level ≡ 0) × IsInFences pc shape
        long_enough payload paid long =
            let parts = entry_parts a.words place found.1 in
            let at : place + 2 ≡ 8 + 3 * (begun.count - 1) = omega arith in
            let payload_is : node_word a.words (place + 2) ≡ payload = ap (node_word a.words) at ∙ loaded_is a.words s.sight.words (8 + 3 * (begun.count - 1)) payload a.loaded_so paid in
            let z = parts.0 in let top = parts.1 in let p = parts.2 in let b = last.0 in let y = size_is in let low = last.1 in
            let first : nat_le (node_word a.words place) pc ≡ true = le-leb (node_word a.words place) pc (omega (arith, b, low)) in
            let last : nat_le pc (node_word a.words place + node_word a.words (place + 1) - 1) ≡ true = le-leb pc (node_word a.words place + node_word a.words (place + 1) - 1) (omega (arith, z, b, y, low, long)) in
            let inside : contains (entry_at a.words place).span pc ≡ true = (λ i. first i && last i) in
            let same : entry_at a.words place ≡ entry_member record { base = begun.base; size = size; payload = payload } = (λ i. record { span = record { first = b i; last = b i + y i - 1 }; payload = payload_is i }) in (
              found.0 ∙ (ap (λ c. if c then Some (entry_at a.words place) else None) inside ∙ ap Some same),
              ((omega (arith, z, y)), omega (arith, top, b, y), omega (arith, p, payload_is)),
              leaf.level,
              leaf.inside,
            )
