-- Loads of words of nodes and copies keep the rule.
use Rattle.std.proofs.Common.{◌≡◌, ℕ, ◌+◌, ◌-◌, ◌*◌, ◌<◌, ◌≤◌, ◌%◌, ◌⊎◌, List, [], ◌∷◌, length, get_or, take_all, sym, refl, ap, ◌∙◌, subst, inl, inr, ⊎_elim, arith, nat_le, nat_lt, Bool, true, false, IsTrue, true≢false, Option, Some, None, IfSome, IsSome, option_map, max, Contains, if◌then◌else◌, ◌↔◌, ◌^◌, lt_of_not-le}
use Rattle.std.proofs.lemmas.Bool.{and_parts}
use mathlib.Core.Option.{none, some}
use native.Mathlib.Decide.{dec_le}
use borrow.Author.Tests.{lt-leb, le-ltb}
use lib.ListN.{get_elem?}
use Rattle.atomic_table.specs.Table.{step, keeps, Allows}
use Rattle.reg_model.specs.History.{state_after, state_at}
use Rattle.reg_model.specs.Receipt.{moment, AllHold}
use Rattle.reg_model.specs.declared.answer.Update.{Update}
use Rattle.reg_model.specs.declared.answer.Receipt.{Receipt}
use Rattle.reg_model.specs.declared.span.Member.{Member}
use Rattle.tree_shape.specs.NodeData.{EntriesWithin, pairs_of, entries_of}
use Rattle.tree_laws.specs.Trees.{Contents, nodes, entries, HasEntry}
use Rattle.tree_laws.specs.Numbers.{times, once}
use Rattle.tree_laws.specs.Lawful.{IsTree, IsLawfulTree}
use Rattle.tree_laws.proofs.Times.{once_most}
use Rattle.word_rule.specs.declared.log.Terms.{Terms}
use Rattle.word_rule.specs.declared.log.Holding.{Holding}
use Rattle.word_rule.specs.declared.log.CopySight.{CopySight}
use Rattle.word_rule.specs.declared.log.Log.{Log}
use Rattle.word_rule.specs.Places.{is_of_copy, copy_place, copy_words}
use Rattle.word_rule.specs.SharedWords.{SharedWords, memory_of, copy_of}
use Rattle.word_rule.specs.Spelling.{node_word}
use Rattle.word_rule.specs.Logs.{is_gone, load_of, own_list}
use Rattle.word_rule.specs.Sights.{with_copy_word, after_copy_load}
use Rattle.word_rule.specs.Callers.{total, start, AtLoader}
use Rattle.word_rule.specs.Steps.{IsHeldWord}
use Rattle.word_rule.specs.declared.log.LoaderHolding.{LoaderHolding}
use Rattle.word_rule.specs.Nodes.{Shadow, HoldsNode, IsPlaced}
use Rattle.word_rule.specs.Copies.{CopySightHolds}
use Rattle.word_rule.specs.Observations.{last_moment, FoundHighest, HadMembers, IsFullCount, WasFull}
use Rattle.word_rule.specs.TableInvariant.{TableInvariant}
use Rattle.word_rule.specs.Plays.{Seated, loads_copy}
use Rattle.word_rule.proofs.Each.{all_map, all_with}
use Rattle.word_rule.proofs.Members.{ascending_fit}
use Rattle.word_rule.proofs.Tallies.{tally_all, tally_ones}
use Rattle.word_rule.proofs.Memories.{load_content_at, load_copy_at}
use Rattle.word_rule.proofs.Spells.{reads_full}
use Rattle.word_rule.proofs.CallersFrame.{idle_stays}
use Rattle.word_rule.proofs.ObservationsFrame.{observations_own, longer_length}
use Rattle.word_rule.proofs.Frames.{Sit, still_after_load}
use Rattle.word_rule.proofs.Quiet.{quiet}

pub leb_true : (a b : ℕ) → nat_le a b ≡ true → a ≤ b
leb_true a b h = go (dec_le a b)
  where
    go : Dec (a ≤ b) → a ≤ b
    go (yes l) = l
    go (no n) = absurd (true≢false (sym h ∙ lt-leb a b (lt_of_not-le n)))

pub ltb_true : (a b : ℕ) → nat_lt a b ≡ true → a < b
ltb_true a b h = go (dec_le b a)
  where
    go : Dec (b ≤ a) → a < b
    go (yes l) = absurd (true≢false (sym h ∙ le-ltb a b l))
    go (no n) = lt_of_not-le n

-- the greatest stamp or number of receipts that hold is at most the length of what was seen
last_within : (t : Terms) (past : List Update) (callers since : ℕ) (rs : List Receipt) → since ≤ length past → AllHold (start t) past t.nodes callers since rs → last_moment since rs ≤ length past
last_within t past callers since [] low h = low
last_within t past callers since (r ∷ rs) low h = let w = h.0.within in last_within t past callers (max since (moment r)) rs (omega (arith, low, w)) h.1

-- a tree with a live node that is full has ten members, and one whose root has level 12 has more nodes than there may be: a law of tree_shape
pub record FullLaw : Type 0 where
  pub full : (f : Contents) (live : ℕ → Bool) (n : ℕ) → IsLawfulTree f live → IsTrue (live n) → (15 ≤ length (pairs_of (f n))) ⊎ (10 ≤ length (entries_of (f n))) → 10 ≤ length (entries f)
  pub height : (f : Contents) (live : ℕ → Bool) → IsLawfulTree f live → (f 0).level ≡ 12 → 16384 < length (nodes f)

-- the entries of a tree ascend, and are those of its live nodes: a law of tree_shape
pub record OrderLaw : Type 0 where
  pub members : (f : Contents) (live : ℕ → Bool) (m : Member) → IsTree f live → Contains (entries f) m ↔ HasEntry f live m
  pub ascending : (f : Contents) (live : ℕ → Bool) → IsTree f live → EntriesWithin 0 (2 ^ 64 - 1) (entries f)

module _ (t : Terms) (slots id : ℕ) (me : Seated) (live : is_gone me.0.role ≡ false) where
  abbrev Holds : Sit → Type 0
  Holds s = TableInvariant t s.words s.views

  -- a word that joins a sight of its own copy
  joins_copy : (s : Sit) (r : Holds s) (at : ℕ) (o : Option CopySight) → IfSome o (CopySightHolds t (get_or s.words 0 0) (copy_of t s.words)) → IfSome (option_map (with_copy_word t at (get_or s.words at 0)) o) (CopySightHolds t (get_or s.words 0 0) (copy_of t s.words))
  joins_copy s r at None h = tt
  joins_copy s r at (Some c) h = go (is_of_copy t (c.guard % 2) at) refl
    where
      go : (b : Bool) → is_of_copy t (c.guard % 2) at ≡ b → CopySightHolds t (get_or s.words 0 0) (copy_of t s.words) (if b then record c { words = record { at = at; value = get_or s.words at 0 } ∷ c.words } else c)
      go true is =
          let parts = and_parts (nat_le (copy_place t (c.guard % 2)) at) (nat_lt at (copy_place t (c.guard % 2) + copy_words t)) is in record {
            earlier = h.earlier;
            own = (is, h.own);
            loaded = λ guard. (load_copy_at t s.words (c.guard % 2) at (omega arith) (leb_true _ _ parts.0) (ltb_true _ _ parts.1), h.loaded guard);
          }
      go false is = h

  -- the copies stand after the nodes, so a load there tells nothing of fullness
  past_nodes : (s : Sit) (r : Holds s) (at : ℕ) → get_elem? s.views id ≡ some me.0 → 4 + 36 * t.nodes ≤ at → WasFull t r.memory.history (total (λ u. u.made) s.views + 1) (own_list me.0.receipts) (load_of me.0 at (get_or s.words at 0))
  past_nodes s r at here far = record {
    count = λ _. all_map (HoldsNode t (memory_of t s.words).nodes r.memory.shadow id) (λ h. IsFullCount (load_of me.0 at (get_or s.words at 0)) h → HadMembers t r.memory.history (own_list me.0.receipts) 10)
        (λ h holds full. absurd (let e = full.0 in let w = holds.within in omega (arith, e, w, far))) me.0.holdings.held (r.memory.nodes.holdings id me.0 here).each;
    head = λ _ is _ _. absurd (omega (arith, is, far));
    highest = λ top. absurd (let e = top.0 in let some_nodes = r.memory.callers.of_history.terms.nodes.0 in omega (arith, e, some_nodes, far));
  }

  -- the holder finds the word of the copy in which it stands
  held_word : (s : Sit) (r : Holds s) (at : ℕ) → get_elem? s.views id ≡ some me.0 → (o : Option LoaderHolding) → AtLoader (memory_of t s.words) r.memory.callers.holder id o → IfSome o (IsHeldWord t at (get_or s.words at 0))
  held_word s r at here None h = tt
  held_word s r at here (Some g) h =
      let published = h.1.published in record {
        active = λ inside. of_copy (g.published % 2) g.active (omega arith) (h.1.active ∙ ap (λ u. copy_of t s.words (u % 2)) (sym published)) inside;
        spare = λ inside. of_copy ((g.published + 1) % 2) g.spare (omega arith) (h.1.spare ∙ ap (λ u. copy_of t s.words ((u + 1) % 2)) (sym published)) inside;
      }
    where
      of_copy : (c : ℕ) (copy : List ℕ) → c < 2 → copy ≡ copy_of t s.words c → IsTrue (is_of_copy t c at) → get_or copy (at - copy_place t c) 0 ≡ get_or s.words at 0
      of_copy c copy two is inside =
          let parts = and_parts (nat_le (copy_place t c) at) (nat_lt at (copy_place t c + copy_words t)) inside in
          ap (λ ws. get_or ws (at - copy_place t c) 0) is ∙ load_copy_at t s.words c at two (leb_true _ _ parts.0) (ltb_true _ _ parts.1)

  pub loads_copy_word : (at : ℕ) → 4 + 36 * t.nodes ≤ at → Allows Holds slots id me at (λ n. n) (loads_copy (step slots at 0 0 none) me)
  loads_copy_word at far s r deep here small =
      let found : ℕ = get_or s.words at 0 in
      let w : Log = after_copy_load at found me.0 in
      let m : SharedWords = memory_of t s.words in
      let callers : ℕ = total (λ u. u.made) s.views + 1 in
      let terms : me.0.terms ≡ t = (r.memory.callers.each id me.0 here).terms live in
      let o = r.memory.observations id me.0 here in
      let copies = subst (λ k. IfSome (option_map (with_copy_word k at found) me.0.sights.copies) (CopySightHolds t m.clock m.copies)) (sym terms) (joins_copy s r at me.0.sights.copies o.copies) in (
        w,
        keeps,
        tt,
        quiet t s.words s.views r id me.0 w here at (record { terms = refl; role = refl; past = refl; receipts = refl; allowance = refl; made = refl; lineage = refl }) refl refl (idle_stays me.0 w refl refl (r.memory.callers.each id me.0 here).idle)
            (r.memory.nodes.holdings id me.0 here) (λ _ h. h) (λ _. refl)
            (observations_own t m r.memory.history callers r.memory.shadow me.0 w (load_of me.0 at found ∷ []) (record { own = refl; turns = omega arith; loads = refl }) o.sights copies (past_nodes s r at here far, tt) ((omega arith, omega arith), tt) o)
            (λ alone. still_after_load s.words me.0 w (load_of me.0 at found) refl refl refl (r.alone id me.0 here alone)),
        (refl, subst (λ k. IfSome me.0.loader (IsHeldWord k at found)) (sym terms) (held_word s r at here me.0.loader (r.memory.callers.at_loader id me.0 here))),
      )

  -- as many members are registered as the tree has entries
  pub had_members : (order : OrderLaw) (s : Sit) (r : Holds s) → get_elem? s.views id ≡ some me.0 → (least : ℕ) → least ≤ length (entries r.memory.shadow.settled) → HadMembers t r.memory.history (own_list me.0.receipts) least
  had_members order s r here least many =
      let log = r.memory.callers.each id me.0 here in
      let seen = longer_length me.0.past r.memory.history log.begins in
      let last = last_within t me.0.past (total (λ u. u.made) s.views + 1) me.0.receipts.since me.0.receipts.own log.receipts.since log.receipts.own.0 in
      let tree = r.memory.nodes.lawful.tree in
      let fit = ascending_fit 0 (2 ^ 64 - 1) (entries r.memory.shadow.settled) (state_after (start t) r.memory.history).registered (order.ascending r.memory.shadow.settled r.memory.shadow.live tree)
      (λ x there. (r.memory.nodes.entries x).0 ((order.members r.memory.shadow.settled r.memory.shadow.live x tree).0 there)) in
      let all : state_at (start t) r.memory.history (length r.memory.history) ≡ state_after (start t) r.memory.history = ap (state_after (start t)) (take_all (length r.memory.history) r.memory.history (omega arith)) in
      (length r.memory.history, (omega (arith, last, seen), omega arith, subst (λ st. least ≤ length st.registered) (sym all) (omega (arith, many, fit))))

  -- the tree has no more nodes than there are
  few_nodes : (s : Sit) (r : Holds s) → length (nodes r.memory.shadow.settled) ≤ t.nodes
  few_nodes s r =
      let all = tally_all (nodes r.memory.shadow.settled) t.nodes (λ k far. let one = each_live k in let past : once (nat_lt k t.nodes) ≡ 0 = ap once (le-ltb k t.nodes far) in omega (arith, one, past)) in
      let few = tally_ones (λ k. times k (nodes r.memory.shadow.settled)) t.nodes (λ k. let one = each_live k in let small = once_most (nat_lt k t.nodes) in omega (arith, one, small)) in omega (arith, all, few)
    where
      each_live : (k : ℕ) → times k (nodes r.memory.shadow.settled) ≤ once (nat_lt k t.nodes)
      each_live k = let reached = r.memory.nodes.lawful.tree.reached k in let all = r.memory.nodes.each_once k in omega (arith, reached, all)

  -- a full node's count, loaded under its lock
  pub full_count : (law : FullLaw) (order : OrderLaw) (s : Sit) (r : Holds s) (n at : ℕ) → get_elem? s.views id ≡ some me.0 → 1 ≤ at → at ≤ 35
      → WasFull t r.memory.history (total (λ u. u.made) s.views + 1) (own_list me.0.receipts) (load_of me.0 (4 + 36 * n + at) (get_or s.words (4 + 36 * n + at) 0))
  full_count law order s r n at here low high = record {
    count = λ _. all_map (HoldsNode t (memory_of t s.words).nodes r.memory.shadow id) (λ h. IsFullCount (load_of me.0 (4 + 36 * n + at) (get_or s.words (4 + 36 * n + at) 0)) h → HadMembers t r.memory.history (own_list me.0.receipts) 10) told me.0.holdings.held (r.memory.nodes.holdings id me.0 here).each;
    head = λ _ is _ _. absurd (omega (arith, is));
    highest = top;
  }
    where
      history : List Update
      history = r.memory.history

      shadow : Shadow
      shadow = r.memory.shadow

      -- what is marked is live
      live_of : (h : Holding) → IsSome h.mark → IfSome h.mark (λ f. IsTrue (r.memory.shadow.live h.node) × IsPlaced h.settled f) → IsTrue (r.memory.shadow.live h.node)
      live_of h some_mark marked = go h.mark some_mark marked
        where
          go : (o : Option _) → IsSome o → IfSome o (λ f. IsTrue (r.memory.shadow.live h.node) × IsPlaced h.settled f) → IsTrue (r.memory.shadow.live h.node)
          go None none_there p = absurd (true≢false (sym none_there))
          go (Some f) there p = p.0

      told : (h : Holding) → HoldsNode t (memory_of t s.words).nodes r.memory.shadow id h → IsFullCount (load_of me.0 (4 + 36 * n + at) (get_or s.words (4 + 36 * n + at) 0)) h → HadMembers t r.memory.history (own_list me.0.receipts) 10
      told h holds full =
          let place = full.0 in
          let five : at ≡ 5 = omega (arith, place, low, high) in
          let node : h.node ≡ n = omega (arith, place, five) in
          let w = holds.within in
          let found : get_or s.words (4 + 36 * n + at) 0 ≡ node_word h.words 5 =
          sym (load_content_at t s.words n at (omega (arith, w, node)) low high) ∙ (ap (λ k. get_or ((memory_of t s.words).nodes.contents n) (k - 1) 0) five ∙ ap (λ ws. node_word ws 5) (ap (memory_of t s.words).nodes.contents (sym node) ∙ sym holds.as_now)) in
          let size = reads_full h.words h.settled (get_or s.words (4 + 36 * n + at) 0) full.2 found full.3 in
          let live = live_of h full.1 holds.marked in
          had_members order s r here 10 (law.full r.memory.shadow.settled r.memory.shadow.live h.node r.memory.nodes.lawful live
          (⊎_elim (λ (e : length (pairs_of h.settled) ≡ 15). inl (let z : length (pairs_of (r.memory.shadow.settled h.node)) ≡ 15 = ap (λ k. length (pairs_of k)) (sym holds.settled) ∙ e in omega (arith, z)))
          (λ (e : length (entries_of h.settled) ≡ 10). inr (let z : length (entries_of (r.memory.shadow.settled h.node)) ≡ 10 = ap (λ k. length (entries_of k)) (sym holds.settled) ∙ e in omega (arith, z))) size))

      -- no root has the highest level: there are too few nodes
      top : FoundHighest (load_of me.0 (4 + 36 * n + at) (get_or s.words (4 + 36 * n + at) 0)) → ⊥
      top (word, found, (root, (held, zero, spells, level))) =
          let holds = all_with (HoldsNode t (memory_of t s.words).nodes r.memory.shadow id) me.0.holdings.held root (r.memory.nodes.holdings id me.0 here).each held in
          let high : (r.memory.shadow.settled 0).level ≡ 12 = ap (λ k. (r.memory.shadow.settled k).level) (sym zero) ∙ (ap (λ z. z.level) (sym holds.settled) ∙ level) in
          let many = law.height r.memory.shadow.settled r.memory.shadow.live r.memory.nodes.lawful high in
          let few = few_nodes s r in let most = r.memory.callers.of_history.terms.nodes.1 in omega (arith, many, few, most)
