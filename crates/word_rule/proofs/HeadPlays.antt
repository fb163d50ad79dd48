-- An exchange at the free head keeps the rule: the first node is taken out, or one that was out is put back.
use Rattle.std.proofs.Common.{◌≡◌, ◌≢◌, ℕ, suc, ◌+◌, ◌*◌, ◌<◌, ◌≤◌, List, [], ◌∷◌, length, get_or, set, MatchBool, length-set, sym, refl, ap, ◌∙◌, subst, arith, ◌==◌, not, nat_lt, Bool, true, false, IsTrue, Option, Some, None, IsSomeAnd, eq-eqb, ne_eqb, if◌then◌else◌, append-nil}
use mathlib.Core.Option.{none, some}
use native.Mathlib.Decide.{ℕ_discrete}
use lib.ListN.{get_elem?}
use Rattle.atomic_table.specs.Table.{step, Act, keeps, stepped, carried_after, Valid, Allows}
use Rattle.tree_shape.specs.NodeData.{NodeData, Link}
use Rattle.tree_laws.specs.Trees.{Contents}
use Rattle.tree_laws.specs.Numbers.{times, once}
use Rattle.tree_laws.specs.Lawful.{IsTree}
use Rattle.tree_laws.proofs.Times.{once_most}
use Rattle.word_rule.specs.declared.log.Role.TheVariants as role
use Rattle.word_rule.specs.declared.log.Terms.{Terms}
use Rattle.word_rule.specs.declared.log.Holding.{Holding}
use Rattle.word_rule.specs.declared.log.Log.{Log}
use Rattle.word_rule.specs.SharedWords.{NodeWords, SharedWords, memory_of}
use Rattle.word_rule.specs.Spelling.{node_word, spelled}
use Rattle.word_rule.specs.Held.{held_of, all_but}
use Rattle.word_rule.specs.Logs.{is_gone, is_nameless, after_write}
use Rattle.word_rule.specs.Steps.{after_head_load, after_pop, after_push, IsFreeTo, MayPop, MayPush}
use Rattle.word_rule.specs.Callers.{total}
use Rattle.word_rule.specs.Nodes.{Shadow, HoldsNode, HoldingsHold, IsChain}
use Rattle.word_rule.specs.TableInvariant.{TableInvariant}
use Rattle.word_rule.specs.Plays.{Seated, FindsHead, pops, pushes}
use prog.Atomic.{either}
use Rattle.word_rule.proofs.Facts.{total_set, part_of_total, after_step}
use Rattle.word_rule.proofs.Each.{all_map}
use Rattle.word_rule.proofs.Memories.{by_same, set_head}
use Rattle.word_rule.proofs.HeadLoads.{EntriesLaw, head_within, looked}
use Rattle.word_rule.proofs.Spells.{reads_link}
use Rattle.word_rule.proofs.Standing.{held_by}
use Rattle.word_rule.proofs.Frames.{Sit}
use Rattle.word_rule.proofs.CallersFrame.{IsLike, busy}
use Rattle.word_rule.proofs.NodesFrame.{holder_stays}
use Rattle.word_rule.proofs.ObservationsFrame.{sight_over}
use Rattle.word_rule.proofs.NodeLoads.{OrderLaw, ltb_true}
use Rattle.word_rule.proofs.Writes.{callers_over_nodes, written}

pub some_and_of : {A : Type 0} (P : A → Type 0) (o : Option A) → IsSomeAnd o P → (a : A) × ((o ≡ Some a) × P a)
some_and_of P None h = absurd h
some_and_of P (Some a) h = (a, (refl, h))

-- the root is live: a law of tree_shape
abbrev pub RootLaw : Type 0
RootLaw = (f : Contents) (live : ℕ → Bool) → IsTree f live → IsTrue (live 0)

-- a list without a number
pub times_all_but : (k n : ℕ) (xs : List ℕ) → times k (all_but n xs) + once (k == n) * times n xs ≡ times k xs
times_all_but k n [] = omega arith
times_all_but k n (x ∷ xs) = go (ℕ_discrete x n) (ℕ_discrete k n) (times_all_but k n xs)
  where
    go : Dec (x ≡ n) → Dec (k ≡ n) → times k (all_but n xs) + once (k == n) * times n xs ≡ times k xs → times k (all_but n (x ∷ xs)) + once (k == n) * (once (n == x) + times n xs) ≡ once (k == x) + times k xs
    go (yes e) (yes f) rest =
        let a : once (k == x) ≡ 1 = rw (eq-eqb k x (f ∙ sym e)) refl in let b : once (n == x) ≡ 1 = rw (eq-eqb n x (sym e)) refl in let c : once (k == n) ≡ 1 = rw (eq-eqb k n f) refl in
        let r : times k (all_but n xs) + 1 * times n xs ≡ times k xs = subst (λ z. times k (all_but n xs) + z * times n xs ≡ times k xs) c rest in
        rw (eq-eqb x n e) (subst (λ z. times k (all_but n xs) + z * (once (n == x) + times n xs) ≡ once (k == x) + times k xs) (sym c) (omega (arith, a, b, r)))
    go (yes e) (no g) rest =
        let a : once (k == x) ≡ 0 = rw (ne_eqb k x (λ z. g (z ∙ e))) refl in let c : once (k == n) ≡ 0 = rw (ne_eqb k n g) refl in
        let r : times k (all_but n xs) + 0 * times n xs ≡ times k xs = subst (λ z. times k (all_but n xs) + z * times n xs ≡ times k xs) c rest in
        rw (eq-eqb x n e) (subst (λ z. times k (all_but n xs) + z * (once (n == x) + times n xs) ≡ once (k == x) + times k xs) (sym c) (omega (arith, a, r)))
    go (no d) (yes f) rest =
        let b : once (n == x) ≡ 0 = rw (ne_eqb n x (λ z. d (sym z))) refl in let c : once (k == n) ≡ 1 = rw (eq-eqb k n f) refl in
        let r : times k (all_but n xs) + 1 * times n xs ≡ times k xs = subst (λ z. times k (all_but n xs) + z * times n xs ≡ times k xs) c rest in
        rw (ne_eqb x n d) (subst (λ z. once (k == x) + times k (all_but n xs) + z * (once (n == x) + times n xs) ≡ once (k == x) + times k xs) (sym c) (omega (arith, b, r)))
    go (no d) (no g) rest =
        let c : once (k == n) ≡ 0 = rw (ne_eqb k n g) refl in
        let r : times k (all_but n xs) + 0 * times n xs ≡ times k xs = subst (λ z. times k (all_but n xs) + z * times n xs ≡ times k xs) c rest in
        rw (ne_eqb x n d) (subst (λ z. once (k == x) + times k (all_but n xs) + z * (once (n == x) + times n xs) ≡ once (k == x) + times k xs) (sym c) (omega (arith, r)))

pub all_but_shorter : (n : ℕ) (xs : List ℕ) → length (all_but n xs) ≤ length xs
all_but_shorter n [] = omega arith
all_but_shorter n (x ∷ xs) = go (not (x == n)) (all_but_shorter n xs)
  where
    go : (b : Bool) → length (all_but n xs) ≤ length xs → length (if b then (x ∷ all_but n xs) else all_but n xs) ≤ suc (length xs)
    go true rest = omega (arith, rest)
    go false rest = omega (arith, rest)

module _ (t : Terms) (slots id : ℕ) (me : Seated) (caller : me.0.role ≡ role.Caller) where
  abbrev Holds : Sit → Type 0
  Holds s = TableInvariant t s.words s.views

  stands : is_nameless me.0.role ≡ false
  stands = ap is_nameless caller

  -- Another head, another free list, and other nodes out.
  module _ (x : ℕ) (free : List ℕ) (out : List ℕ) (s : Sit) (r : Holds s) (at : get_elem? s.views id ≡ some me.0) where
    abbrev pub w : Log
    w = record (after_write me.0) { holdings = record me.0.holdings { out = out } }

    abbrev words' : NodeWords
    words' = record (memory_of t s.words).nodes { head = x }

    abbrev shadow' : Shadow
    shadow' = record r.memory.shadow { free = free }

    -- a lock over the new head and the other list
    same_lock : (j : ℕ) (h : Holding) → HoldsNode t (memory_of t s.words).nodes r.memory.shadow j h → HoldsNode t words' shadow' j h
    same_lock j h k = record { within = k.within; is_holder = k.is_holder; locked = k.locked; as_now = k.as_now; settled = k.settled; stored = k.stored; clean = k.clean; marked = k.marked; unmarked = k.unmarked }

    mine : length out ≤ 4 → HoldingsHold t words' shadow' id w.holdings
    mine few = let h = r.memory.nodes.holdings id me.0 at in record {
      each = all_map (HoldsNode t (memory_of t s.words).nodes r.memory.shadow id) (HoldsNode t words' shadow' id) (same_lock id) me.0.holdings.held h.each;
      once = h.once;
      few_out = few;
    }

    others : (j : ℕ) (u : Log) → j ≢ id → get_elem? s.views j ≡ some u → HoldingsHold t words' shadow' j u.holdings
    others j u far there = let h = r.memory.nodes.holdings j u there in record {
      each = all_map (HoldsNode t (memory_of t s.words).nodes r.memory.shadow j) (HoldsNode t words' shadow' j) (same_lock j) u.holdings.held h.each;
      once = h.once;
      few_out = h.few_out;
    }

    pub stored_head : length out ≤ 4 → IsChain (memory_of t s.words).nodes.contents x free → ((k : ℕ) → once (r.memory.shadow.live k) + times k free + total (λ v. times k v.holdings.out) (set s.views id w) ≡ once (nat_lt k t.nodes))
        → TableInvariant t (set s.words 1 x) (set s.views id w)
    stored_head few chain once_after =
        let m : SharedWords = memory_of t s.words in
        let like : IsLike me.0 w = record { terms = refl; role = refl; past = refl; receipts = refl; allowance = refl; made = refl; lineage = refl } in
        written t s.words s.views r id me.0 w at stands (set s.words 1 x) (record m { nodes = words' }) r.memory.history shadow' (length-set s.words 1 x) (set_head t s.words r.wide x) ([], append-nil r.memory.history)
        (callers_over_nodes t s.words s.views r id me.0 w at stands words' like refl (omega arith) (busy me.0 w caller))
        (record {
          lawful = r.memory.nodes.lawful;
          entries = r.memory.nodes.entries;
          unlocked = r.memory.nodes.unlocked;
          holdings = after_step (λ j z. HoldingsHold t words' shadow' j z.holdings) s.views id w (mine few) others;
          holders = λ k. holder_stays s.views id me.0 w at k (r.memory.shadow.holder k) (λ h. h) (r.memory.nodes.holders k);
          each_once = once_after;
          chain = chain;
        }) r.memory.active refl
        (λ k h. sight_over t (memory_of t s.words).nodes words' r.memory.history r.memory.history r.memory.shadow shadow' k h.later (λ st. record { stands = st; contents = refl; settled = refl; live = refl }) ([], append-nil r.memory.history) h)
        (λ k h. h) (record { own = refl; sights = refl; loads = refl; turn = omega arith })

  -- the words of a held node that spell a free one are the node's
  linked : (n next : ℕ) → IsFreeTo n next me.0 → (s : Sit) (r : Holds s) → get_elem? s.views id ≡ some me.0 → (node_word ((memory_of t s.words).nodes.contents n) 1 ≡ 2) × (node_word ((memory_of t s.words).nodes.contents n) 6 ≡ next)
  linked n next free_to s r at =
      let lock = some_and_of (λ (h : Holding). IsSomeAnd (spelled h.words) (λ c. c.body ≡ Link next)) (held_of n me.0.holdings.held) free_to in
      let shape = some_and_of (λ (c : NodeData). c.body ≡ Link next) (spelled lock.0.words) lock.1.1 in
      let link = reads_link lock.0.words shape.0 next shape.1.0 shape.1.1 in
      let h = held_by t (memory_of t s.words).nodes s.views r.memory.history r.memory.shadow r.memory.nodes id me.0 n lock.0 at lock.1.0 in
      let same : lock.0.words ≡ (memory_of t s.words).nodes.contents n = h.0.as_now ∙ ap (memory_of t s.words).nodes.contents h.1 in
      (ap (λ ws. node_word ws 1) (sym same) ∙ link.0, ap (λ ws. node_word ws 6) (sym same) ∙ link.1)

  -- A node that is out is put back: its words are linked to the head.
  module _ (root : RootLaw) (n first : ℕ) (may : MayPush n first me.0) (s : Sit) (r : Holds s) (at : get_elem? s.views id ≡ some me.0) where
    out_once : times n me.0.holdings.out ≡ 1
    out_once =
        let some_times = ltb_true 0 (times n me.0.holdings.out) may.1 in let below = part_of_total (λ v. times n v.holdings.out) s.views id me.0 at in let all = r.memory.nodes.each_once n in
        let most : once (nat_lt n t.nodes) ≤ 1 = once_most (nat_lt n t.nodes) in omega (arith, some_times, below, all, most)

    not_root : n ≢ 0
    not_root e =
        let below = part_of_total (λ v. times 0 v.holdings.out) s.views id me.0 at in let all = r.memory.nodes.each_once 0 in
        let mine_once : times 0 me.0.holdings.out ≡ 1 = ap (λ k. times k me.0.holdings.out) (sym e) ∙ out_once in
        let live : once (r.memory.shadow.live 0) ≡ 1 = ap once (root r.memory.shadow.settled r.memory.shadow.live r.memory.nodes.lawful.tree) in
        let most : once (nat_lt 0 t.nodes) ≤ 1 = once_most (nat_lt 0 t.nodes) in omega (arith, below, all, mine_once, live, most)

    chain : (memory_of t s.words).nodes.head ≡ first → IsChain (memory_of t s.words).nodes.contents n (n ∷ r.memory.shadow.free)
    chain head =
        let link = linked n first may.0 s r at in
        let next : (memory_of t s.words).nodes.head ≡ node_word ((memory_of t s.words).nodes.contents n) 6 = head ∙ sym link.1 in
        (refl, not_root, link.0, subst (λ k. IsChain (memory_of t s.words).nodes.contents k r.memory.shadow.free) next r.memory.nodes.chain)

    once_after : (k : ℕ) → once (r.memory.shadow.live k) + (once (k == n) + times k r.memory.shadow.free) + total (λ v. times k v.holdings.out) (set s.views id (after_push n me.0)) ≡ once (nat_lt k t.nodes)
    once_after k =
        let a = total_set (λ v. times k v.holdings.out) s.views id me.0 (after_push n me.0) at in let b = times_all_but k n me.0.holdings.out in let all = r.memory.nodes.each_once k in
        let c : times k (all_but n me.0.holdings.out) + once (k == n) ≡ times k me.0.holdings.out = (let d : times k (all_but n me.0.holdings.out) + once (k == n) * 1 ≡ times k me.0.holdings.out = subst (λ z. times k (all_but n me.0.holdings.out) + once (k == n) * z ≡ times k me.0.holdings.out) out_once b in omega (arith, d)) in
        omega (arith, a, c, all)

    pub pushed : (memory_of t s.words).nodes.head ≡ first → TableInvariant t (set s.words 1 n) (set s.views id (after_push n me.0))
    pushed head =
        let few = all_but_shorter n me.0.holdings.out in let was = (r.memory.nodes.holdings id me.0 at).few_out in
        stored_head n (n ∷ r.memory.shadow.free) (all_but n me.0.holdings.out) s r at (omega (arith, few, was)) (chain head) once_after

  -- The first node is taken out: the next head is the one to which its words are linked.
  module _ (n next : ℕ) (may : MayPop n next me.0) (s : Sit) (r : Holds s) (at : get_elem? s.views id ≡ some me.0) (head : (memory_of t s.words).nodes.head ≡ n) where
    list_is : (rest : List ℕ) × ((r.memory.shadow.free ≡ n ∷ rest) × IsChain (memory_of t s.words).nodes.contents next rest)
    list_is = go r.memory.shadow.free r.memory.nodes.chain refl
      where
        go : (free : List ℕ) → IsChain (memory_of t s.words).nodes.contents (memory_of t s.words).nodes.head free → r.memory.shadow.free ≡ free → (rest : List ℕ) × ((r.memory.shadow.free ≡ n ∷ rest) × IsChain (memory_of t s.words).nodes.contents next rest)
        go [] chain is = absurd (may.0 (sym head ∙ chain))
        go (k ∷ free) chain is =
            let same : k ≡ n = sym chain.0 ∙ head in
            let link = linked n next may.1 s r at in
            (free, (is ∙ ap (λ i. i ∷ free) same, subst (λ i. IsChain (memory_of t s.words).nodes.contents i free) (ap (λ i. node_word ((memory_of t s.words).nodes.contents i) 6) same ∙ link.1) chain.3))

    once_taken : (k : ℕ) → once (r.memory.shadow.live k) + times k list_is.0 + total (λ v. times k v.holdings.out) (set s.views id (after_pop n me.0)) ≡ once (nat_lt k t.nodes)
    once_taken k =
        let a = total_set (λ v. times k v.holdings.out) s.views id me.0 (after_pop n me.0) at in
        let all = r.memory.nodes.each_once k in
        let list : times k r.memory.shadow.free ≡ once (k == n) + times k list_is.0 = ap (times k) list_is.1.0 in
        omega (arith, a, all, list)

    pub popped : TableInvariant t (set s.words 1 next) (set s.views id (after_pop n me.0))
    popped = let few = may.2 in stored_head next list_is.0 (n ∷ me.0.holdings.out) s r at (omega (arith, few)) list_is.1.1 once_taken

  -- what a refused exchange finds
  found : EntriesLaw → OrderLaw → (s : Sit) (r : Holds s) → get_elem? s.views id ≡ some me.0 → FindsHead me (get_or s.words 1 0) (after_head_load (get_or s.words 1 0) me.0, me.1)
  found entries order s r at =
      let terms : me.0.terms ≡ t = (r.memory.callers.each id me.0 at).terms (ap is_gone caller) in
      let few = r.memory.callers.of_history.terms.nodes.1 in
      (refl, subst (λ (k : Terms). get_or s.words 1 0 < k.nodes) (sym terms) (head_within t slots id me caller entries order s r at), subst (λ (k : Terms). k.nodes ≤ 16384) (sym terms) few)

  pub pops_head : EntriesLaw → OrderLaw → (n next : ℕ) → MayPop n next me.0 → Allows Holds slots id me 1 (λ k. either (k == n) next k) (pops (step slots 1 n next none) me)
  pops_head entries order n next may s r deep at small =
      let k : ℕ = get_or s.words 1 0 in
      by_same k n (λ b. (w : Log) × (a : Act (Unit {0})) × Valid s.homes me.1 a × Holds (stepped s 1 (either b next k) id me.1 w a) × MatchBool b (◌≡◌ {A = Seated} (w, carried_after me.1 a) (after_pop n me.0, me.1)) (FindsHead me k (w, carried_after me.1 a)))
      (λ is. (after_pop n me.0, keeps, tt, popped n next may s r at is, refl))
      (λ miss. (after_head_load k me.0, keeps, tt, looked t slots id me caller entries order s r at, found entries order s r at))

  pub pushes_head : RootLaw → EntriesLaw → OrderLaw → (n next : ℕ) → MayPush n next me.0 → Allows Holds slots id me 1 (λ k. either (k == next) n k) (pushes (step slots 1 next n none) me)
  pushes_head root entries order n next may s r deep at small =
      let k : ℕ = get_or s.words 1 0 in
      by_same k next (λ b. (w : Log) × (a : Act (Unit {0})) × Valid s.homes me.1 a × Holds (stepped s 1 (either b n k) id me.1 w a) × MatchBool b (◌≡◌ {A = Seated} (w, carried_after me.1 a) (after_push n me.0, me.1)) (FindsHead me k (w, carried_after me.1 a)))
      (λ is. (after_push n me.0, keeps, tt, pushed root n next may s r at is, refl))
      (λ miss. (after_head_load k me.0, keeps, tt, looked t slots id me caller entries order s r at, found entries order s r at))
