-- What held live leaves show of the registered members, and the refusals that follow from it.
use Rattle.std.proofs.Common.{◌≡◌, ℕ, zero, suc, ◌+◌, ◌-◌, ◌*◌, ◌≤◌, ◌==◌, ◌⊎◌, ⊎_elim, List, [], ◌∷◌, ◌++◌, length, get_or, max, Contains, sym, refl, ap, ◌∙◌, subst, arith, Bool, true, false, true≢false, IsTrue, Option, Some, None, IsNone, IfSome, is_some}
use Rattle.std.specs.List.{AllByRecursion, find}
use Rattle.std.proofs.lemmas.List.Elements.{All-contains, Contains-get_or, Contains-append_left, Contains-append_right, Contains-append_cases}
use Rattle.std.proofs.lemmas.Option.{none-some, same_Some}
use native.Mathlib.Decide.{dec_le}
use mathlib.Core.Option.{some}
use lib.ListN.{get_elem?}
use Rattle.reg_model.specs.SpanData.{SpanData, Overlaps, contains, is_same_span}
use Rattle.reg_model.specs.State.{AreDisjoint, IsFree, IsLowestOverlap, at_base, at_span}
use Rattle.reg_model.specs.History.{state_after}
use Rattle.reg_model.specs.Query.{member_at}
use Rattle.reg_model.specs.declared.span.Member.{Member}
use Rattle.reg_model.specs.declared.answer.Inserted.TheVariants as inserted
use Rattle.reg_model.specs.declared.answer.Removed.TheVariants as removed
use Rattle.reg_model.specs.declared.answer.Replaced.TheVariants as replaced
use Rattle.reg_model.specs.declared.answer.Update.{Update}
use Rattle.reg_model.specs.declared.answer.Update.TheVariants as update
use Rattle.reg_model.specs.declared.answer.Receipt.{Receipt}
use Rattle.reg_model.specs.declared.answer.Receipt.TheVariants as receipt
use Rattle.reg_model.proofs.Histories.{member_at-contains}
use Rattle.reg_model.proofs.Spans.{contains_from, contains_bounds}
use Rattle.reg_model.proofs.Replacing.{same_span}
use Rattle.segment_array.specs.Ascending.{AscendFrom}
use Rattle.tree_shape.specs.NodeData.{NodeData, Body, Pairs, Entries, Link, IsInFences, entries_in, entries_of}
use Rattle.tree_laws.specs.Trees.{Contents}
use Rattle.tree_laws.specs.Lawful.{IsOrderedAs}
use Rattle.tree_shape.specs.declared.node.NodeBounds.{NodeBounds}
use Rattle.word_rule.specs.Logs.{own_list}
use Rattle.word_rule.specs.declared.log.ReceiptList.{ReceiptList}
use Rattle.word_rule.specs.declared.log.Terms.{Terms}
use Rattle.word_rule.specs.declared.log.Holding.{Holding}
use Rattle.word_rule.specs.declared.log.LoadEvent.{LoadEvent}
use Rattle.word_rule.specs.declared.log.Log.{Log}
use Rattle.word_rule.specs.SharedWords.{NodeWords}
use Rattle.word_rule.specs.Held.{held_of, is_marked, marked_in, settled_in, settled_shape}
use Rattle.word_rule.specs.Callers.{start}
use Rattle.word_rule.specs.Nodes.{Shadow, IsPlaced, HoldsNode, NodesHold}
use Rattle.word_rule.specs.Observations.{AreInside, FoundHighest, HadMembers, IsFullCount, WasFull, last_moment}
use Rattle.word_rule.specs.Steps.{IsRefusalOf}
use Rattle.word_rule.specs.TreeRefusals.{IsInOne, HoldsLeaves, ShowsOverlap, ShowsNone, ShowsNoSpan, ShowsFull, FoundNoneFree, HadNoRoom, entries_in_leaves}
use Rattle.word_rule.proofs.Each.{all_behind, all_map, all_with, held_is}
use Rattle.word_rule.proofs.Listings.{contains_find, find_contains}
use Rattle.word_rule.proofs.Refusals.{HoldsNow, right_now}
use Rattle.word_rule.proofs.Spells.{eqb_true}

-- what is found is there, and contains the address
pub found_there : (pc : ℕ) (members : List Member) (m : Member) → member_at pc members ≡ Some m → Contains members m × (contains m.span pc ≡ true)
found_there pc [] m e = absurd (none-some m e)
found_there pc (x ∷ members) m e = go (contains x.span pc) refl (found_there pc members m)
  where
    go : (b : Bool) → contains x.span pc ≡ b → (member_at pc members ≡ Some m → Contains members m × (contains m.span pc ≡ true)) → Contains (x ∷ members) m × (contains m.span pc ≡ true)
    go true is rest = let same : x ≡ m = same_Some _ _ (rw is at e) in ((0, omega arith, same), subst (λ (z : Member). contains z.span pc ≡ true) same is)
    go false is rest = let r = rest (rw is at e) in ((suc r.0.0, (let l = r.0.1 in omega (arith, l)), r.0.2), r.1)

-- ---- entries of leaves, and members

-- an entry of the leaves is a member
entry_listed : (f : Contents) (members : List Member) (leaves : List ℕ) → AllByRecursion (λ n. AreInside members (f n)) leaves → (x : Member) → Contains (entries_in_leaves f leaves) x → Contains members x
entry_listed f members [] all x h = absurd (let l = h.1 in omega (arith, l))
entry_listed f members (n ∷ leaves) all x h = ⊎_elim
    (λ (e : Contains (entries_of (f n)) x). ((all.0.0 x).0 e).0)
    (λ (e : Contains (entries_in_leaves f leaves) x). entry_listed f members leaves all.1 x e)
    (Contains-append_cases (entries_of (f n)) (entries_in_leaves f leaves) x h)

-- a member that contains an address inside their fences is an entry
listed_entry : (f : Contents) (members : List Member) (leaves : List ℕ) → AllByRecursion (λ n. AreInside members (f n)) leaves → AreDisjoint members → (x : Member) (pc : ℕ) → Contains members x → IsTrue (contains x.span pc) → IsInOne f leaves pc → Contains (entries_in_leaves f leaves) x
listed_entry f members [] all disjoint x pc c is inside = absurd inside
listed_entry f members (n ∷ leaves) all disjoint x pc c is inside = ⊎_elim
    (λ (e : IsInFences pc (f n)). Contains-append_left (entries_of (f n)) (entries_in_leaves f leaves) x (found_there pc (entries_of (f n)) x (all.0.1 pc e ∙ member_at-contains members x pc disjoint c is)).0)
    (λ (e : IsInOne f leaves pc). Contains-append_right (entries_of (f n)) (entries_in_leaves f leaves) x (listed_entry f members leaves all.1 disjoint x pc c is e))
    inside

-- a span that overlaps another contains the greater of both first addresses, and so does the other
meets_at : (a b : SpanData) → Overlaps a b → IsTrue (contains a (max a.first b.first)) × (max a.first b.first ≤ b.last)
meets_at a b over =
    let x = contains_bounds a over.0 over.1.0 in let y = contains_bounds b over.0 over.1.1 in
    let p = x.0 in let q = x.1 in let u = y.0 in let w = y.1 in (contains_from a (max a.first b.first) (omega arith) (omega (arith, p, q, u, w)), omega (arith, p, q, u, w))

module _ (f : Contents) (members : List Member) (leaves : List ℕ) (all : AllByRecursion (λ n. AreInside members (f n)) leaves) (disjoint : AreDisjoint members) where
  -- the least that overlaps among the entries is the least of all, where the leaves contain all up to it
  lowest_listed : (span : SpanData) (other : Member) → ((pc : ℕ) → span.first ≤ pc → pc ≤ max span.first other.span.first → IsInOne f leaves pc) → IsLowestOverlap span (entries_in_leaves f leaves) other → IsLowestOverlap span members other
  lowest_listed span other contain p = record {
    listed = entry_listed f members leaves all other p.listed;
    overlaps = p.overlaps;
    lowest = λ k d l over. least (get_or members k d) (Contains-get_or members k d l) over (dec_le other.span.first (get_or members k d).span.first);
  }
    where
      least : (x : Member) → Contains members x → Overlaps x.span span → Dec (other.span.first ≤ x.span.first) → other.span.first ≤ x.span.first
      least x c over (yes above) = above
      least x c over (no below) =
          let meets = meets_at x.span span over in
          let entry = listed_entry f members leaves all disjoint x (max x.span.first span.first) c meets.0 (contain (max x.span.first span.first) (omega arith) (omega (arith, below))) in
          All-contains (λ z. Overlaps z.span span → other.span.first ≤ z.span.first) (entries_in_leaves f leaves) x p.lowest entry over

  -- none overlaps, where no entry does and the leaves contain the span
  free_listed : (span : SpanData) → ((pc : ℕ) → span.first ≤ pc → pc ≤ span.last → IsInOne f leaves pc) → IsFree span (entries_in_leaves f leaves) → IsFree span members
  free_listed span contain free = λ k d l over.
      let x = get_or members k d in let meets = meets_at x.span span over in
      let entry = listed_entry f members leaves all disjoint x (max x.span.first span.first) (Contains-get_or members k d l) meets.0 (contain (max x.span.first span.first) (omega arith) meets.1) in
      All-contains (λ z. ¬ Overlaps z.span span) (entries_in_leaves f leaves) x free entry over

  -- none passes a test that only members with an address inside the fences pass, where no entry does
  none_listed : (p : Member → Bool) (pc : ℕ) → ((x : Member) → Contains members x → p x ≡ true → IsTrue (contains x.span pc)) → IsInOne f leaves pc → IsNone (find p (entries_in_leaves f leaves)) → IsNone (find p members)
  none_listed p pc has inside none = found (is_some (find p members)) refl
    where
      found : (b : Bool) → is_some (find p members) ≡ b → IsNone (find p members)
      found false e = e
      found true e =
          let d = find_contains p members e in
          let entry = listed_entry f members leaves all disjoint d.0 pc d.1.0 (has d.0 d.1.0 d.1.1) inside in
          absurd (true≢false (sym (contains_find p (entries_in_leaves f leaves) d.0 entry d.1.1) ∙ none))

-- a member contains the address at which it begins
begins_there : (x : Member) (base : ℕ) → x.span.first ≡ base → x.span.first ≤ x.span.last → IsTrue (contains x.span base)
begins_there x base is wide = contains_from x.span base (omega (arith, is)) (omega (arith, is, wide))

-- there is one least
pub one_lowest : (span : SpanData) (members : List Member) (a b : Member) → AreDisjoint members → IsLowestOverlap span members a → IsLowestOverlap span members b → a ≡ b
one_lowest span members a b disjoint p q =
    let low = All-contains (λ z. Overlaps z.span span → a.span.first ≤ z.span.first) members b p.lowest q.listed q.overlaps in
    let high = All-contains (λ z. Overlaps z.span span → b.span.first ≤ z.span.first) members a q.lowest p.listed p.overlaps in
    let x = contains_bounds a.span p.overlaps.0 p.overlaps.1.0 in let y = contains_bounds b.span q.overlaps.0 q.overlaps.1.0 in
    let one = x.0 in let two = x.1 in let three = y.0 in let four = y.1 in
    let in_a : IsTrue (contains a.span a.span.first) = contains_from a.span a.span.first (omega arith) (omega (arith, one, two)) in
    let in_b : IsTrue (contains b.span a.span.first) = contains_from b.span a.span.first high (omega (arith, low, three, four)) in
    same_Some a b (sym (member_at-contains members a a.span.first disjoint p.listed in_a) ∙ member_at-contains members b a.span.first disjoint q.listed in_b)

pub not_free : (span : SpanData) (members : List Member) (a : Member) → IsLowestOverlap span members a → IsFree span members → ⊥
not_free span members a p free = All-contains (λ z. ¬ Overlaps z.span span) members a free p.listed p.overlaps

-- ---- what is so of what is held

pub ordered_in : (low : ℕ) (xs : List Member) (m : Member) → AscendFrom low xs → Contains xs m → m.span.first ≤ m.span.last
ordered_in low [] m h (k, l, e) = absurd (omega (arith, l))
ordered_in low (x ∷ xs) m h (zero, l, e) = subst (λ (z : Member). z.span.first ≤ z.span.last) e h.1
ordered_in low (x ∷ xs) m h (suc k, l, e) = ordered_in (x.span.last + 1) xs m h.2 (k, omega (arith, l), e)

ordered_entry : (s : NodeData) (b : Body) (m : Member) → IsOrderedAs s b → Contains (entries_in b) m → m.span.first ≤ m.span.last
ordered_entry s (Entries xs) m h c = ordered_in s.low xs m h.1.0 c
ordered_entry s (Pairs ps) m h c = absurd (let l = c.1 in omega (arith, l))
ordered_entry s (Link next) m h c = absurd h

module _ (t : Terms) (words : NodeWords) (views : List Log) (history : List Update) (shadow : Shadow) (nodes : NodesHold t words views history shadow) where
  -- the registered members are entries of leaves in order
  pub registered_ordered : (x : Member) → Contains (state_after (start t) history).registered x → x.span.first ≤ x.span.last
  registered_ordered x c =
      let e = (nodes.entries x).1 c in ordered_entry (shadow.settled e.0) (shadow.settled e.0).body x (nodes.lawful.tree.ordered e.0 e.1.0) e.1.1

  -- a held leaf that is marked has settled what is registered inside its fences
  pub held_inside : ((n : ℕ) → IsTrue (shadow.live n) → (shadow.settled n).level ≡ 0 → AreInside (state_after (start t) history).registered (shadow.settled n)) → (id : ℕ) (v : Log) → get_elem? views id ≡ some v
      → (n : ℕ) → IsTrue (marked_in v.holdings.held n) → (settled_in v.holdings.held n).level ≡ 0 → AreInside (state_after (start t) history).registered (settled_in v.holdings.held n)
  held_inside inside id v at n = go (held_of n v.holdings.held) refl
    where
      live : (o : Option NodeBounds) (h : Holding) → IfSome o (λ f. IsTrue (shadow.live h.node) × IsPlaced h.settled f) → IsTrue (is_some o) → IsTrue (shadow.live h.node)
      live None h told there = absurd (true≢false (sym there))
      live (Some f) h told there = told.0

      go : (o : Option Holding) → held_of n v.holdings.held ≡ o → IsTrue (is_marked o) → (settled_shape o).level ≡ 0 → AreInside (state_after (start t) history).registered (settled_shape o)
      go None e marked level = absurd (true≢false (sym marked))
      go (Some h) e marked level =
          let is = (held_is (HoldsNode t words shadow id) n v.holdings.held h (nodes.holdings id v at).each e).0 in
          subst (AreInside (state_after (start t) history).registered) (sym is.settled) (inside h.node (live h.mark h is.marked marked) (sym (ap (λ (s : NodeData). s.level) is.settled) ∙ level))

-- ---- how many members there were

-- the count of a full node among the loads tells of ten members since the last receipt
had_ten : (t : Terms) (history : List Update) (callers base : ℕ) (own : ReceiptList) (loads : List LoadEvent) → AllByRecursion (WasFull t history callers own) loads → HadNoRoom base (length own.list) loads → HadMembers t history own 10
had_ten t history callers base own loads full q =
    let counted = (all_behind (WasFull t history callers own) q.before (q.count ∷ (q.between ++ q.cause ∷ q.behind)) (subst (AllByRecursion (WasFull t history callers own)) q.in_order full)).0 in
    all_with (λ h. IsFullCount q.count h → HadMembers t history own 10) q.count.held q.node (counted.count q.since) q.held q.full

-- the load of 0 from the head tells of as many as the nodes that no caller can have out, twice
had_bound : (t : Terms) (history : List Update) (callers base : ℕ) (own : ReceiptList) (loads : List LoadEvent) → AllByRecursion (WasFull t history callers own) loads → HadNoRoom base (length own.list) loads
    → 2 ≤ t.nodes - 4 * callers → HadMembers t history own (2 * (t.nodes - 4 * callers))
had_bound t history callers base own loads full q two =
    let at_count = all_behind (WasFull t history callers own) q.before (q.count ∷ (q.between ++ q.cause ∷ q.behind)) (subst (AllByRecursion (WasFull t history callers own)) q.in_order full) in
    let told = (all_behind (WasFull t history callers own) q.between (q.cause ∷ q.behind) at_count.1).0 in
    ⊎_elim (λ (none : FoundNoneFree q.node.node q.cause). told.head q.still none.0 none.1 two) (λ (high : FoundHighest q.cause). absurd (told.highest high)) q.shut

-- ---- refusals

-- what is so of the members, of what a log holds and of its loads, where so many callers were made
pub record ShownLeaves (t : Terms) (history : List Update) (callers : ℕ) (v : Log) : Type 0 where
  pub disjoint : AreDisjoint (state_after (start t) history).registered
  pub ordered : (x : Member) → Contains (state_after (start t) history).registered x → x.span.first ≤ x.span.last
  pub inside : (n : ℕ) → IsTrue (marked_in v.holdings.held n) → (settled_in v.holdings.held n).level ≡ 0 → AreInside (state_after (start t) history).registered (settled_in v.holdings.held n)
  pub full : AllByRecursion (WasFull t history callers (own_list v.receipts)) v.trace.loads

-- the receipt of a refusal of a registration, which is the one that the leaves show
pub record IsRegisterRefused (t : Terms) (history : List Update) (callers : ℕ) (v : Log) (stamp : ℕ) (m : Member) (r : Receipt) : Type 0 where
  pub right : IsRefusalOf (update.Register m) (state_after (start v.terms) history) stamp r
  pub holds : HoldsNow t history callers (last_moment v.receipts.since v.receipts.own) r
  pub overlap : (other : Member) → ShowsOverlap m other v → r ≡ receipt.Register m (inserted.Overlap other stamp)
  pub full : ShowsFull m v → r ≡ receipt.Register m (inserted.Full stamp)

module _ (t : Terms) (history : List Update) (callers : ℕ) (v : Log) (stamp : ℕ) (now : stamp ≡ length history) (terms : v.terms ≡ t) (shown : ShownLeaves t history callers v) where
  all_inside : (leaves : List ℕ) (first last : ℕ) → HoldsLeaves v.holdings.held leaves first last → AllByRecursion (λ n. AreInside (state_after (start t) history).registered (settled_in v.holdings.held n)) leaves
  all_inside leaves first last h =
      all_map (λ n. IsTrue (marked_in v.holdings.held n) × ((settled_in v.holdings.held n).level ≡ 0)) (λ n. AreInside (state_after (start t) history).registered (settled_in v.holdings.held n)) (λ n k. shown.inside n k.0 k.1) leaves h.live

  overlap_so : (m other : Member) → ShowsOverlap m other v → IsLowestOverlap m.span (state_after (start t) history).registered other
  overlap_so m other h = lowest_listed (settled_in v.holdings.held) (state_after (start t) history).registered h.leaves (all_inside h.leaves _ _ h.held) shown.disjoint m.span other h.held.contain h.lowest

  free_so : (m : Member) → ShowsFull m v → IsFree m.span (state_after (start t) history).registered
  free_so m h = free_listed (settled_in v.holdings.held) (state_after (start t) history).registered h.leaves (all_inside h.leaves _ _ h.held) shown.disjoint m.span h.held.contain h.free

  none_so : (base : ℕ) → ShowsNone base v → IsNone (at_base base (state_after (start t) history).registered)
  none_so base h = none_listed (settled_in v.holdings.held) (state_after (start t) history).registered h.leaves (all_inside h.leaves _ _ h.held) shown.disjoint (λ x. x.span.first == base) base
      (λ x c is. begins_there x base (eqb_true x.span.first base is) (shown.ordered x c)) (h.held.contain base (omega arith) (omega arith)) h.none

  no_span_so : (m : Member) → ShowsNoSpan m v → IsNone (at_span m.span (state_after (start t) history).registered)
  no_span_so m h = none_listed (settled_in v.holdings.held) (state_after (start t) history).registered h.leaves (all_inside h.leaves _ _ h.held) shown.disjoint (λ x. is_same_span x.span m.span) m.span.first
      (λ x c is. begins_there x m.span.first (ap (λ (s : SpanData). s.first) (same_span x.span m.span is)) (shown.ordered x c)) (h.held.contain m.span.first (omega arith) (omega arith)) h.none

  pub register_refused : (m : Member) → ((other : Member) × ShowsOverlap m other v) ⊎ ShowsFull m v → (r : Receipt) × IsRegisterRefused t history callers v stamp m r
  register_refused m may = ⊎_elim
      (λ (o : (other : Member) × ShowsOverlap m other v).
      let lowest = overlap_so m o.0 o.1 in (
        receipt.Register m (inserted.Overlap o.0 stamp),
        record {
          right = (refl, refl, refl, subst (λ (k : Terms). IsLowestOverlap m.span (state_after (start k) history).registered o.0) (sym terms) lowest);
          holds = subst (λ k. HoldsNow t history callers (last_moment v.receipts.since v.receipts.own) (receipt.Register m (inserted.Overlap o.0 k))) (sym now)
              (record { accepts = refl; now = refl; holds = record { within = omega arith; numbered = tt; right = right_now t history (receipt.Register m (inserted.Overlap o.0 (length history))) lowest; filled = record { ten = tt; most = λ _. tt } } });
          overlap = λ other h. ap (λ z. receipt.Register m (inserted.Overlap z stamp)) (one_lowest m.span (state_after (start t) history).registered o.0 other shown.disjoint lowest (overlap_so m other h));
          full = λ h. absurd (not_free m.span (state_after (start t) history).registered o.0 lowest (free_so m h));
        },
      ))
      (λ (f : ShowsFull m v).
      let free = free_so m f in (
        receipt.Register m (inserted.Full stamp),
        record {
          right = (refl, refl, refl, subst (λ (k : Terms). IsFree m.span (state_after (start k) history).registered) (sym terms) free);
          holds = subst (λ k. HoldsNow t history callers (last_moment v.receipts.since v.receipts.own) (receipt.Register m (inserted.Full k))) (sym now)
              (record {
                accepts = refl;
                now = refl;
                holds = record {
                  within = omega arith;
                  numbered = tt;
                  right = right_now t history (receipt.Register m (inserted.Full (length history))) free;
                  filled = record {
                    ten = (let h = had_ten t history callers m.span.first (own_list v.receipts) v.trace.loads shown.full f.no_room in (h.0, h.1.0, h.1.1, h.1.2));
                    most = λ two. (let h = had_bound t history callers m.span.first (own_list v.receipts) v.trace.loads shown.full f.no_room two in (h.0, h.1.0, h.1.1, h.1.2));
                  };
                };
              });
          overlap = λ other h. absurd (not_free m.span (state_after (start t) history).registered other (overlap_so m other h) free);
          full = λ h. refl;
        },
      ))
      may

  pub deregister_refused : (base : ℕ) → ShowsNone base v → IsRefusalOf (update.Deregister base) (state_after (start v.terms) history) stamp (receipt.Deregister base (removed.NotFound stamp)) × HoldsNow t history callers (last_moment v.receipts.since v.receipts.own) (receipt.Deregister base (removed.NotFound stamp))
  deregister_refused base h =
      let none = none_so base h in (
        (refl, refl, refl, subst (λ (k : Terms). IsNone (at_base base (state_after (start k) history).registered)) (sym terms) none),
        subst (λ k. HoldsNow t history callers (last_moment v.receipts.since v.receipts.own) (receipt.Deregister base (removed.NotFound k))) (sym now)
            (record { accepts = refl; now = refl; holds = record { within = omega arith; numbered = tt; right = right_now t history (receipt.Deregister base (removed.NotFound (length history))) none; filled = record { ten = tt; most = λ _. tt } } }),
      )

  pub replace_refused : (m : Member) → ShowsNoSpan m v → IsRefusalOf (update.Replace m) (state_after (start v.terms) history) stamp (receipt.Replace m (replaced.NotFound stamp)) × HoldsNow t history callers (last_moment v.receipts.since v.receipts.own) (receipt.Replace m (replaced.NotFound stamp))
  replace_refused m h =
      let none = no_span_so m h in (
        (refl, refl, refl, subst (λ (k : Terms). IsNone (at_span m.span (state_after (start k) history).registered)) (sym terms) none),
        subst (λ k. HoldsNow t history callers (last_moment v.receipts.since v.receipts.own) (receipt.Replace m (replaced.NotFound k))) (sym now)
            (record { accepts = refl; now = refl; holds = record { within = omega arith; numbered = tt; right = right_now t history (receipt.Replace m (replaced.NotFound (length history))) none; filled = record { ten = tt; most = λ _. tt } } }),
      )
