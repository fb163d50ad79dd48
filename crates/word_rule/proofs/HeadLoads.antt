-- A load of the free head keeps the rule: where it is 0, all nodes are live but those that callers have out.
use Rattle.std.proofs.Common.{◌≡◌, ℕ, suc, ◌+◌, ◌-◌, ◌*◌, ◌<◌, ◌≤◌, List, [], ◌∷◌, length, get_or, set, sym, refl, ap, ◌∙◌, subst, arith, ◌==◌, nat_lt, Bool, true, false, eq-eqb, lt-ltb}
use mathlib.Core.Option.{none, some}
use native.Mathlib.Decide.{ℕ_discrete}
use lib.ListN.{get_elem?}
use Rattle.atomic_table.specs.Table.{step, keeps, Allows}
use Rattle.tree_laws.specs.Trees.{Contents, nodes, entries}
use Rattle.tree_laws.specs.Numbers.{times, once}
use Rattle.tree_laws.specs.Lawful.{IsLawfulTree}
use Rattle.word_rule.specs.declared.log.Role.TheVariants as role
use Rattle.word_rule.specs.declared.log.Terms.{Terms}
use Rattle.word_rule.specs.declared.log.Log.{Log}
use Rattle.word_rule.specs.SharedWords.{SharedWords, memory_of}
use Rattle.word_rule.specs.Logs.{is_gone, is_nameless, load_of, weight, own_list}
use Rattle.word_rule.specs.Steps.{after_head_load}
use Rattle.word_rule.specs.Callers.{total, IsIdle}
use Rattle.word_rule.specs.Nodes.{IsChain}
use Rattle.word_rule.specs.Observations.{IsFullCount, HadMembers, WasFull}
use Rattle.word_rule.specs.TableInvariant.{TableInvariant}
use Rattle.word_rule.specs.Plays.{Seated, loads_head}
use Rattle.word_rule.proofs.Each.{all_of}
use Rattle.word_rule.proofs.CallersFrame.{busy}
use Rattle.word_rule.proofs.ObservationsFrame.{observations_same}
use Rattle.word_rule.proofs.Frames.{Sit, still_after_load}
use Rattle.word_rule.proofs.Quiet.{quiet}
use Rattle.word_rule.proofs.NodeLoads.{OrderLaw, had_members, ltb_true}
use Rattle.word_rule.proofs.Tallies.{tally, tally_plus, tally_zero, tally_times, tally_covers}

-- a tree of two nodes or more has twice as many entries: a law of tree_shape
abbrev pub EntriesLaw : Type 0
EntriesLaw = (f : Contents) (live : ℕ → Bool) → IsLawfulTree f live → 2 ≤ length (nodes f) → 2 * length (nodes f) ≤ length (entries f)

-- the nodes below n that callers have out
tally_total : (views : List Log) (n : ℕ) → tally (λ k. total (λ v. times k v.holdings.out) views) n ≤ total (λ v. length v.holdings.out) views
tally_total [] n = let e = tally_zero n in omega (arith, e)
tally_total (v ∷ views) n =
    let sum = tally_plus (λ k. times k v.holdings.out) (λ k. total (λ u. times k u.holdings.out) views) n in let mine = tally_times v.holdings.out n in let rest = tally_total views n in omega (arith, sum, mine, rest)

-- each caller has four nodes out at most
total_out : (views : List Log) → ((j : ℕ) (u : Log) → get_elem? views j ≡ some u → (length u.holdings.out ≤ 4) × (weight u.role ≡ 0 → IsIdle u)) → total (λ v. length v.holdings.out) views ≤ 4 * total (λ v. weight v.role) views
total_out [] each = omega arith
total_out (v ∷ views) each = let rest = total_out views (λ j u e. each (suc j) u e) in let one = by_weight (ℕ_discrete (weight v.role) 0) (each 0 v refl) in omega (arith, rest, one)
  where
    by_weight : Dec (weight v.role ≡ 0) → (length v.holdings.out ≤ 4) × (weight v.role ≡ 0 → IsIdle v) → length v.holdings.out ≤ 4 * weight v.role
    by_weight (yes e) h = let nothing : length v.holdings.out ≡ 0 = ap length (h.1 e).out in omega (arith, nothing)
    by_weight (no ne) h = let few = h.0 in omega (arith, ne, few)

module _ (t : Terms) (slots id : ℕ) (me : Seated) (caller : me.0.role ≡ role.Caller) where
  abbrev Holds : Sit → Type 0
  Holds s = TableInvariant t s.words s.views

  stands : is_nameless me.0.role ≡ false
  stands = ap is_nameless caller

  module _ (entries_law : EntriesLaw) (order : OrderLaw) (s : Sit) (r : Holds s) (here : get_elem? s.views id ≡ some me.0) where
    -- where no node is free, the tree has all but those that are out
    grown : get_or s.words 1 0 ≡ 0 → t.nodes ≤ length (nodes r.memory.shadow.settled) + 4 * (total (λ u. u.made) s.views + 1)
    grown empty =
        let live = tally_times (nodes r.memory.shadow.settled) t.nodes in
        let out = tally_total s.views t.nodes in
        let few = total_out s.views (λ j u e. ((r.memory.nodes.holdings j u e).few_out, (r.memory.callers.each j u e).idle)) in
        let weights = r.memory.callers.weights in
        let covers = tally_covers (λ k. times k (nodes r.memory.shadow.settled)) (λ k. total (λ v. times k v.holdings.out) s.views) t.nodes covered in
        omega (arith, live, out, few, weights, covers)
      where
        none_free : (free : List ℕ) → IsChain (memory_of t s.words).nodes.contents (get_or s.words 1 0) free → free ≡ []
        none_free [] chain = refl
        none_free (k ∷ free) chain = absurd (chain.1 (sym chain.0 ∙ empty))

        covered : (k : ℕ) → k < t.nodes → 1 ≤ times k (nodes r.memory.shadow.settled) + total (λ v. times k v.holdings.out) s.views
        covered k less =
            let all = r.memory.nodes.each_once k in
            let free : times k r.memory.shadow.free ≡ 0 = ap (times k) (none_free r.memory.shadow.free r.memory.nodes.chain) in
            let one : once (nat_lt k t.nodes) ≡ 1 = ap once (lt-ltb k t.nodes less) in
            let reached = r.memory.nodes.lawful.tree.reached k in omega (arith, all, free, one, reached)

    head_full : WasFull t r.memory.history (total (λ u. u.made) s.views + 1) (own_list me.0.receipts) (load_of me.0 1 (get_or s.words 1 0))
    head_full = record {
      count = λ _. all_of (λ h. IsFullCount (load_of me.0 1 (get_or s.words 1 0)) h → HadMembers t r.memory.history (own_list me.0.receipts) 10) (λ h full. absurd (let e = full.0 in omega (arith, e))) me.0.holdings.held;
      head = λ _ _ empty two.
          let g = grown empty in
          let twice = entries_law r.memory.shadow.settled r.memory.shadow.live r.memory.nodes.lawful (omega (arith, g, two)) in
          had_members t slots id me (ap is_gone caller) order s r here (2 * (t.nodes - 4 * (total (λ u. u.made) s.views + 1))) (omega (arith, g, twice));
      highest = λ top. absurd (let e = top.0 in omega (arith, e));
    }

    -- the head is a node
    pub head_within : get_or s.words 1 0 < t.nodes
    head_within = go r.memory.shadow.free r.memory.nodes.chain refl
      where
        go : (free : List ℕ) → IsChain (memory_of t s.words).nodes.contents (get_or s.words 1 0) free → r.memory.shadow.free ≡ free → get_or s.words 1 0 < t.nodes
        go [] chain is = let some_nodes = r.memory.callers.of_history.terms.nodes.0 in let zero_head = chain in omega (arith, some_nodes, zero_head)
        go (k ∷ free) chain is = by_test (nat_lt (get_or s.words 1 0) t.nodes) refl
          where
            by_test : (b : Bool) → nat_lt (get_or s.words 1 0) t.nodes ≡ b → get_or s.words 1 0 < t.nodes
            by_test true e = ltb_true (get_or s.words 1 0) t.nodes e
            by_test false e =
                let all = r.memory.nodes.each_once (get_or s.words 1 0) in
                let nothing : once (nat_lt (get_or s.words 1 0) t.nodes) ≡ 0 = ap once e in
                let list : times (get_or s.words 1 0) r.memory.shadow.free ≡ once (get_or s.words 1 0 == k) + times (get_or s.words 1 0) free = ap (times (get_or s.words 1 0)) is in
                let one : once (get_or s.words 1 0 == k) ≡ 1 = rw (eq-eqb (get_or s.words 1 0) k chain.0) refl in absurd (omega (arith, all, nothing, list, one))

  -- the rule after the load
  pub looked : EntriesLaw → OrderLaw → (s : Sit) (r : Holds s) → get_elem? s.views id ≡ some me.0 → TableInvariant t (set s.words 1 (get_or s.words 1 0)) (set s.views id (after_head_load (get_or s.words 1 0) me.0))
  looked entries_law order s r here =
      let found : ℕ = get_or s.words 1 0 in
      let w : Log = after_head_load found me.0 in
      let m : SharedWords = memory_of t s.words in
      let callers : ℕ = total (λ u. u.made) s.views + 1 in
      quiet t s.words s.views r id me.0 w here 1 (record { terms = refl; role = refl; past = refl; receipts = refl; allowance = refl; made = refl; lineage = refl }) refl refl (busy me.0 w caller)
      (r.memory.nodes.holdings id me.0 here) (λ _ k. k) (λ _. refl)
      (observations_same t m r.memory.history callers r.memory.shadow me.0 w (load_of me.0 1 found ∷ []) (record { own = refl; turns = omega arith; loads = refl }) refl (head_full entries_law order s r here, tt) ((omega arith, omega arith), tt) (r.memory.observations id me.0 here))
      (λ alone. still_after_load s.words me.0 w (load_of me.0 1 found) refl refl refl (r.alone id me.0 here alone))

  pub loads_free_head : EntriesLaw → OrderLaw → Allows Holds slots id me 1 (λ k. k) (loads_head t (step slots 1 0 0 none) me)
  loads_free_head entries_law order s r deep here small = (
    after_head_load (get_or s.words 1 0) me.0,
    keeps,
    tt,
    looked entries_law order s r here,
    (refl, (r.memory.callers.each id me.0 here).terms (ap is_gone caller), head_within entries_law order s r here, r.memory.callers.of_history.terms.nodes.1),
  )

  -- the same, told of terms that are known to be these
  pub loads_head_of : EntriesLaw → OrderLaw → (u : Terms) → t ≡ u → Allows Holds slots id me 1 (λ k. k) (loads_head u (step slots 1 0 0 none) me)
  loads_head_of entries_law order u same = subst (λ z. Allows Holds slots id me 1 (λ k. k) (loads_head z (step slots 1 0 0 none) me)) same (loads_free_head entries_law order)
