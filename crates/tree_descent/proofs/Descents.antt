-- The root, from what the calls that take and read it ensure.
use Rattle.std.proofs.Common.{◌≡◌, ℕ, ◌<◌, [], ◌∷◌, sym, refl, ap, ◌∙◌, subst, Some, false, IsTrue, IsSome, IsSomeAnd, ◌++◌, append-nil, Result, Ok, Err, OnOk, IfErr}
use Rattle.std.specs.List.{AllByRecursion}
use Rattle.std.proofs.lemmas.Option.{same_Some}
use Rattle.tree_shape.specs.NodeData.{NodeData}
use Rattle.tree_shape.specs.declared.node.NodeBounds.{NodeBounds}
use Rattle.word_rule.specs.CallerData.{CallerData}
use Rattle.word_rule.specs.declared.log.Holding.{Holding}
use Rattle.word_rule.specs.NodeTells.{IsLiveNode, KnowsTree}
use Rattle.word_rule.specs.Sights.{after_node_load, after_node_version, receipts_after_version, sight_of}
use Rattle.word_rule.specs.Held.{held_of}
use Rattle.word_rule.specs.declared.log.Terms.{Terms}
use Rattle.word_rule.specs.Spelling.{SpellsNode, spelled}
use Rattle.word_rule.proofs.NodeSights.{no_receipt}
use Rattle.node_store.specs.Holding.{SpellsHeld}
use Rattle.version_locks.specs.Locking.{Locks}
use Rattle.tree_descent.specs.Paths.{HoldsNothing, IsSettledLock, StepsOnNodes}
use Rattle.tree_descent.specs.Stands.{HoldsRoot}
use Rattle.tree_descent.proofs.NodeSteps.{steps_so, caller_so}
use Rattle.word_rule.specs.declared.log.LockId.TheVariants as lock
use Rattle.word_rule.specs.declared.log.Ask.TheVariants as ask

-- the root was locked and read, by one that held nothing
pub at_the_root : (t : Terms) (shape : NodeData) (k k1 k2 k3 : CallerData) (found : ℕ) → 0 < t.nodes → k.log.terms ≡ t → HoldsNothing k.log.holdings → Locks (lock.Node 0) k k1 → KnowsTree k1.log.holdings → k2 ≡ record k1 { log = after_node_load 0 2 found k1.log } → SpellsHeld 0 shape k2.log → k3.log.holdings ≡ k2.log.holdings
    → HoldsRoot t (record { node = 0; content = shape; changed = false }) k3.log.holdings
at_the_root t shape k k1 k2 k3 found some_nodes terms nothing locks tree loads spells same = go locks
  where
    go : Locks (lock.Node 0) k k1 → HoldsRoot t (record { node = 0; content = shape; changed = false }) k3.log.holdings
    go (more, marks, nodes, version, settled, words, (tries, taken, is)) =
        let place : NodeBounds = record { level = settled.level; low = settled.low; high = settled.high } in
        let new : Holding = record { node = 0; version = version; settled = settled; words = words; stored = false; mark = Some place } in
        let held : k1.log.holdings.held ≡ new ∷ [] = ap (λ (z : CallerData). z.log.holdings.held) is ∙ ap (λ hs. new ∷ hs) nothing.0 in
        let kept : k2.log.holdings ≡ k1.log.holdings = ap (λ (z : CallerData). z.log.holdings) loads in
        let held2 : k2.log.holdings.held ≡ new ∷ [] = ap (λ hs. hs.held) kept ∙ held in
        let found2 : held_of 0 k2.log.holdings.held ≡ Some new = ap (held_of 0) held2 in
        let told2 = subst (λ o. IsSomeAnd o (λ h. SpellsNode h.words shape)) found2 spells in
        let e : settled ≡ shape = same_Some _ _ (sym taken.spells ∙ told2) in
        let told : IsTrue (tree.live 0) × (tree.contents 0 ≡ settled) = (subst (AllByRecursion (λ (h : Holding). IsSome h.mark → IsTrue (tree.live h.node) × (tree.contents h.node ≡ h.settled))) held tree.marked).0 refl in
        let content : tree.contents 0 ≡ shape = told.1 ∙ e in
        let live : IsLiveNode t 0 settled place = subst (λ z. IsLiveNode z 0 settled place) terms taken.live in record {
          within = some_nodes;
          lock = new;
          held = ap (λ hs. hs.held) same ∙ held2;
          root = refl;
          unchanged = refl;
          here = subst (λ s. IsSettledLock t 0 s false new) e (record { node = refl; settled = refl; spells = taken.spells; stored = refl; marked = refl; live = live });
          low = ap (λ (z : NodeData). z.low) (sym content) ∙ tree.lawful.tree.root_low;
          high = ap (λ (z : NodeData). z.high) (sym content) ∙ tree.lawful.tree.root_high;
          out = ap (λ hs. hs.out) same ∙ (ap (λ hs. hs.out) kept ∙ (ap (λ (z : CallerData). z.log.holdings.out) is ∙ nothing.1));
        }

pub may_read_root : (t : Terms) (k k1 k2 : CallerData) (found : ℕ) → Locks (lock.Node 0) k k1 → k2 ≡ record k1 { log = after_node_load 0 2 found k1.log } → IsSomeAnd (held_of 0 k2.log.holdings.held) (λ h. IsSome (spelled h.words))
may_read_root t k k1 k2 found locks loads = go locks
  where
    go : Locks (lock.Node 0) k k1 → IsSomeAnd (held_of 0 k2.log.holdings.held) (λ h. IsSome (spelled h.words))
    go (more, marks, nodes, version, settled, words, (tries, taken, is)) =
        let held : held_of 0 k2.log.holdings.held ≡ held_of 0 k1.log.holdings.held = ap (λ (z : CallerData). held_of 0 z.log.holdings.held) loads in
        subst (λ o. IsSomeAnd o (λ h. IsSome (spelled h.words))) (sym (held ∙ ap (λ (z : CallerData). held_of 0 z.log.holdings.held) is)) (subst IsSome (sym taken.spells) refl)

pub steps_of_load : (n at found : ℕ) (k k' : CallerData) → k' ≡ record k { log = after_node_load n at found k.log } → StepsOnNodes k k'
steps_of_load n at found k k' is =
    steps_so k is refl (_ ∷ [], refl)

pub steps_of_version : (n found : ℕ) (k k' : CallerData) → k' ≡ record k { log = after_node_version ask.Nothing n found k.log } → StepsOnNodes k k'
steps_of_version n found k k' is =
    let own : k.log.receipts.own ++ receipts_after_version k.log ask.Nothing found (sight_of n k.log.sights.nodes) ≡ k.log.receipts.own = ap (λ rs. k.log.receipts.own ++ rs) (no_receipt k.log found (sight_of n k.log.sights.nodes)) ∙ append-nil k.log.receipts.own in
    subst (StepsOnNodes k) (sym is) (record {
      calls = record { caller = caller_so k refl refl; past = refl; receipts = (λ i. record k.log.receipts { own = own i }) };
      budget = refl;
      loads = (_ ∷ [], refl);
    })

pub on_ok : {A E : Type 0} (P Q : Type 0) (r : Result A E) → (P → Q) → OnOk r P → OnOk r Q
on_ok P Q (Ok a) f p = f p
on_ok P Q (Err e) f p = tt

pub if_err : {A E : Type 0} (P Q : E → Type 0) (r : Result A E) → ((e : E) → P e → Q e) → IfErr r P → IfErr r Q
if_err P Q (Ok a) f p = tt
if_err P Q (Err e) f p = f e p
