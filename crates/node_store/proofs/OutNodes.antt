-- What a caller holds and has out between its steps on the free list: each node that is out is held.
use Rattle.std.proofs.Common.{◌≡◌, ◌≢◌, ◌⊎◌, inr, ℕ, ◌-◌, ◌*◌, Bool, true, false, true≢false, not, List, [], ◌∷◌, ◌++◌, ◌==◌, cond, Result, Ok, Err, IfOk, length, Option, Some, None, IsSome, IsSomeAnd, IsTrue, option_map, set, nat_eq, if◌then◌else◌, refl, ap, sym, ◌∙◌, subst}
use Rattle.std.proofs.lemmas.Bool.{eq-eqb}
use native.Mathlib.Decide.{ℕ_discrete}
use Rattle.std.specs.List.{AllByRecursion}
use Rattle.tree_laws.proofs.Times.{all_among}
use Rattle.tree_laws.specs.Numbers.{is_among}
use Rattle.tree_shape.specs.NodeData.{NodeData}
use Rattle.word_rule.specs.CallerData.{CallerData, surplus}
use Rattle.word_rule.specs.Exchange.{exchange, nothing_reached}
use Rattle.word_rule.specs.Held.{all_but, held_of}
use Rattle.word_rule.specs.NodeTells.{HolderTells, OutTells}
use Rattle.word_rule.specs.Sights.{after_node_load}
use Rattle.word_rule.specs.Spelling.{SpellsNode}
use Rattle.word_rule.specs.Steps.{MayStore, after_node_store}
use Rattle.word_rule.specs.declared.log.Holding.{Holding}
use Rattle.word_rule.specs.declared.log.Budget.{Budget}
use Rattle.word_rule.specs.declared.log.Log.{Log}
use Rattle.node_store.specs.declared.writing.Store.{Store}
use Rattle.std.specs.Option.{option_to_list}
use Rattle.word_rule.proofs.Each.{all_map}
use Rattle.word_rule.specs.Steps.{mark_at_lock}
use Rattle.version_locks.specs.declared.locking.Busy.{Busy}
use Rattle.free_list.specs.Free.{EndsRound, HoldsOut, GivesFree, LeavesOthers, headed}
use Rattle.node_store.specs.Holding.{MakesStores, SpellsHeld, StoresHeld, after_node_stores}
use Rattle.version_locks.specs.Locking.{loaded}
use Rattle.node_store.specs.Writing.{stores}
use Rattle.free_list.proofs.Giving.{Apart, HasOut, Stays, apart, apart_settled, out_stored, stays_stored, stored_budget}
use Rattle.free_list.proofs.Giving as giving

-- what a step leaves as it was
pub record Keeps (k k' : CallerData) : Type 0 where
  pub table : k'.table ≡ k.table
  pub credit : surplus k' ≡ surplus k
  pub holds : HoldsOut k'.log

-- a node that is out is held
pub out_held : (n : ℕ) (v : Log) → HoldsOut v → IsTrue (is_among v.holdings.out n) → IsSome (held_of n v.holdings.held)
out_held n v holds out = all_among (λ m. IsSome (held_of m v.holdings.held)) v.holdings.out n holds.out out

-- the other locks after one node was given back
others_held : (n : ℕ) (before after : List Holding) → ((m : ℕ) → m ≢ n → held_of m after ≡ option_map (exchange nothing_reached nothing_reached) (held_of m before))
    → (nodes : List ℕ) → AllByRecursion (λ m. IsSome (held_of m before)) nodes → AllByRecursion (λ m. IsSome (held_of m after)) (all_but n nodes)
others_held n before after others [] all = tt
others_held n before after others (m ∷ nodes) all = go (nat_eq m n) refl (others_held n before after others nodes all.1)
  where
    still : (o : Option Holding) → IsSome o → IsSome (option_map (exchange nothing_reached nothing_reached) o)
    still None is = is
    still (Some h) is = refl

    go : (b : Bool) → nat_eq m n ≡ b → AllByRecursion (λ x. IsSome (held_of x after)) (all_but n nodes) → AllByRecursion (λ x. IsSome (held_of x after)) (if not b then m ∷ all_but n nodes else all_but n nodes)
    go true e rest = rest
    go false e rest =
        let far : m ≢ n = λ same. true≢false (sym (eq-eqb m n same) ∙ e) in
        (subst IsSome (sym (others m far)) (still (held_of m before) all.0), rest)

pub gave : (n : ℕ) (k k' : CallerData) → GivesFree n k k' → LeavesOthers n k.log k'.log → HoldsOut k.log
    → (k'.table ≡ k.table) × HoldsOut k'.log × (k'.log.holdings.out ≡ all_but n k.log.holdings.out)
gave n k k' (freed, ((lost, head, (short, pushed)), is)) others holds = (
  ap (λ (z : CallerData). z.table) is ∙ ap (λ (z : CallerData). z.table) pushed,
  record {
    out = subst (AllByRecursion (λ m. IsSome (held_of m k'.log.holdings.held))) (sym others.out) (others_held n k.log.holdings.held k'.log.holdings.held others.held k.log.holdings.out holds.out);
    settled = others.settled;
  },
  others.out,
)

-- stores in a node that is out
stays_all : (n : ℕ) (made : List Store) (words : List ℕ) (v : Log) → HasOut n words v.holdings → Stays n v (after_node_stores n made v)
unfolding after_node_stores
stays_all n [] words v h = record { out = refl; others = λ m far. refl; apart = λ all. all }
stays_all n (x ∷ made) words v h =
    let one = stays_stored n x.at x.value words v h in
    let more = stays_all n made (set words (x.at - 1) x.value) (after_node_store n x.at x.value v) (out_stored n x.at x.value words v h) in
    record { out = more.out ∙ one.out; others = λ m far. more.others m far ∙ one.others m far; apart = λ all. more.apart (one.apart all) }

stores_budget : (n : ℕ) (made : List Store) (v : Log) → (after_node_stores n made v).budget ≡ v.budget
unfolding after_node_stores
stores_budget n [] v = refl
stores_budget n (x ∷ made) v = stores_budget n made (after_node_store n x.at x.value v) ∙ stored_budget n x.at x.value v

-- a node that is out was written
pub wrote : (n : ℕ) (s : NodeData) (k k' : CallerData) → HoldsOut k.log → IsTrue (is_among k.log.holdings.out n) → HolderTells n k.log → OutTells n k.log → StoresHeld n s k k' → SpellsHeld n s k'.log
    → Keeps k k' × (k'.log.holdings.out ≡ k.log.holdings.out)
wrote n s k k' holds out told unmarked writes spells = go (held_of n k.log.holdings.held) writes
  where
    v : Log
    v = k.log

    first : (words : List ℕ) × (HasOut n words v.holdings × (length words ≡ 35))
    first = giving.first n v (out_held n v holds out) out told unmarked

    still : (o : Option Holding) → IsSomeAnd o (λ h. SpellsNode h.words s) → IsSome o
    still None is = absurd is
    still (Some h) is = refl

    each : (w : Log) → IsSome (held_of n w.holdings.held) → ((m : ℕ) → m ≢ n → held_of m w.holdings.held ≡ held_of m v.holdings.held) → (nodes : List ℕ) → AllByRecursion (λ m. IsSome (held_of m v.holdings.held)) nodes → AllByRecursion (λ m. IsSome (held_of m w.holdings.held)) nodes
    each w own others [] all = tt
    each w own others (m ∷ nodes) all = (one (ℕ_discrete m n), each w own others nodes all.1)
      where
        one : Dec (m ≡ n) → IsSome (held_of m w.holdings.held)
        one (yes e) = subst (λ x. IsSome (held_of x w.holdings.held)) (sym e) own
        one (no ne) = subst IsSome (sym (others m ne)) all.0

    stays : (h : Holding) → Stays n v (after_node_stores n (stores s h.words) v)
    stays h = stays_all n (stores s h.words) first.0 v first.1.0

    go : (o : Option Holding) → IsSomeAnd o (λ h. MakesStores n (stores s h.words) k k') → Keeps k k' × (k'.log.holdings.out ≡ k.log.holdings.out)
    go None is = absurd is
    go (Some h) (more, is) =
        let w = after_node_stores n (stores s h.words) v in
        let leaves = stays h in
        let budget : w.budget ≡ v.budget = stores_budget n (stores s h.words) v in
        let own : IsSome (held_of n w.holdings.held) = subst (λ (z : CallerData). IsSome (held_of n z.log.holdings.held)) is (still (held_of n k'.log.holdings.held) spells) in
        let kept : HoldsOut (loaded more w) = record {
          out = subst (AllByRecursion (λ m. IsSome (held_of m w.holdings.held))) (sym leaves.out) (each w own leaves.others v.holdings.out holds.out);
          settled = apart_settled n w.holdings.held (leaves.apart (apart n v.holdings.held holds.settled (unmarked out).1));
        } in (
          record {
            table = ap (λ (z : CallerData). z.table) is;
            credit = ap surplus is ∙ ap (λ (b : Budget). b.credit - 64 * k.left) budget;
            holds = subst (λ (z : CallerData). HoldsOut z.log) (sym is) kept;
          },
          ap (λ (z : CallerData). z.log.holdings.out) is ∙ leaves.out,
        )

-- a word of it was loaded before
pub wrote_after_load : (n at found : ℕ) (s : NodeData) (k k1 k2 : CallerData) → k1 ≡ record k { log = after_node_load n at found k.log } → HoldsOut k.log → IsTrue (is_among k.log.holdings.out n) → HolderTells n k.log → OutTells n k.log → StoresHeld n s k1 k2 → SpellsHeld n s k2.log → Keeps k k2 × (k2.log.holdings.out ≡ k.log.holdings.out)
wrote_after_load n at found s k k1 k2 loaded holds out told unmarked writes spells =
    let here : CallerData = record k { log = after_node_load n at found k.log } in
    let done = wrote n s here k2 (record { out = holds.out; settled = holds.settled }) out told unmarked (subst (λ z. StoresHeld n s z k2) loaded writes) spells in
    (record { table = done.0.table; credit = done.0.credit; holds = done.0.holds }, done.1)

pub may_write : (n at found : ℕ) (k k1 : CallerData) → k1 ≡ record k { log = after_node_load n at found k.log } → HoldsOut k.log → IsTrue (is_among k.log.holdings.out n) → MayStore n k1.log
may_write n at found k k1 loaded holds out =
    subst (λ (z : CallerData). MayStore n z.log) (sym loaded) (go (held_of n k.log.holdings.held) (out_held n k.log holds out))
  where
    go : (o : Option Holding) → IsSome o → IsSomeAnd o (λ h. IsSome h.mark ⊎ IsTrue (is_among k.log.holdings.out n))
    go None is = absurd (true≢false (sym is))
    go (Some h) is = inr out

-- a lock more holds what was held
one_more_held : (new : Holding) (held : List Holding) (m : ℕ) → IsSome (held_of m held) → IsSome (held_of m (new ∷ held))
one_more_held new held m is = go (new.node == m)
  where
    go : (b : Bool) → IsSome (if b then Some new else held_of m held)
    go true = refl
    go false = is

-- a node was taken, or there was none
pub took : (k k' : CallerData) (r : Result (Option ℕ) Busy) → EndsRound k k' r → HoldsOut k.log → Keeps k k' × IfOk r (λ found. k'.log.holdings.out ≡ option_to_list found ++ k.log.holdings.out)
took k k' (Ok None) (lost, ((more, marks, (none, e)), is)) holds =
    let whole = is ∙ ap (headed 0) e in (subst (Keeps k) (sym whole) (record { table = refl; credit = refl; holds = record { out = holds.out; settled = holds.settled } }), ap (λ (z : CallerData). z.log.holdings.out) whole)
took k k' (Ok (Some n)) (other, (more, marks, version, settled, words, (taken, kind, is))) holds =
    let new : Holding = record { node = n; version = version; settled = settled; words = words; stored = false; mark = mark_at_lock n settled k.log.holdings.held } in
    let own : IsSome (held_of n (new ∷ k.log.holdings.held)) = subst IsSome (sym (ap (λ b. cond b (Some new) (held_of n k.log.holdings.held)) (eq-eqb n n refl))) refl in (
      subst (Keeps k) (sym is) (record {
        table = refl;
        credit = refl;
        holds = record {
          out = (own, all_map (λ m. IsSome (held_of m k.log.holdings.held)) (λ m. IsSome (held_of m (new ∷ k.log.holdings.held))) (one_more_held new k.log.holdings.held) k.log.holdings.out holds.out);
          settled = ((λ _. taken.spells), holds.settled);
        };
      }),
      ap (λ (z : CallerData). z.log.holdings.out) is,
    )
took k k' (Err why) ((more, marks, (none, e)), cause) holds = (subst (Keeps k) (sym e) (record { table = refl; credit = refl; holds = record { out = holds.out; settled = holds.settled } }), tt)
