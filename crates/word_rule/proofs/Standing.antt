-- Who holds a node, and what a sight that stands tells of it.
use Rattle.std.proofs.Common.{◌≡◌, ◌≢◌, ℕ, ◌+◌, ◌<◌, ◌%◌, List, refl, ap, ◌∙◌, subst, ⊎_elim, arith, Option, Some, None, IfSome, false}
use mathlib.Core.Option.{some}
use lib.ListN.{get_elem?}
use Rattle.reg_model.specs.declared.answer.Update.{Update}
use Rattle.word_rule.specs.declared.log.Terms.{Terms}
use Rattle.word_rule.specs.declared.log.Holding.{Holding}
use Rattle.word_rule.specs.declared.log.NodeSight.{NodeSight}
use Rattle.word_rule.specs.declared.log.Log.{Log}
use Rattle.word_rule.specs.SharedWords.{NodeWords}
use Rattle.word_rule.specs.Spelling.{SpellsNode}
use Rattle.word_rule.specs.Held.{held_of}
use Rattle.word_rule.specs.Callers.{IsLockedAt}
use Rattle.word_rule.specs.Nodes.{Shadow, NodesHold, HoldsNode, HeldBy, IsOpen}
use Rattle.word_rule.specs.Observations.{Stands}
use Rattle.word_rule.proofs.Each.{held_is, some_of}

pub locked_is_odd : (version word : ℕ) → IsLockedAt version word → word % 4 ≢ 0
locked_is_odd version word h e = let z = h.0 in ⊎_elim (λ (is : word ≡ version + 1). omega (arith, z, e, is)) (λ (is : word ≡ version + 3). omega (arith, z, e, is)) h.1

module _ (t : Terms) (words : NodeWords) (views : List Log) (history : List Update) (shadow : Shadow) (r : NodesHold t words views history shadow) where
  -- the holder's log has the lock
  pub holder_has : (n j : ℕ) → shadow.holder n ≡ Some j → (u : Log) × (h : Holding) × ((get_elem? views j ≡ some u) × HoldsNode t words shadow j h × (h.node ≡ n))
  holder_has n j is =
      let b = subst (HeldBy n views) is (r.holders n) in
      let g = some_of (held_of n b.0.holdings.held) b.1.1 in
      let p = held_is (HoldsNode t words shadow j) n b.0.holdings.held g.0 (r.holdings j b.0 b.1.0).each g.1 in
      (b.0, g.0, (b.1.0, p.0, p.1))

  -- a node whose version is even has no holder
  pub even_is_open : (n : ℕ) → words.versions n % 2 ≡ 0 → shadow.holder n ≡ None
  even_is_open n even = go (shadow.holder n) refl
    where
      go : (o : Option ℕ) → shadow.holder n ≡ o → shadow.holder n ≡ None
      go None e = e
      go (Some j) e =
          let h = holder_has n j e in let locked = subst (λ k. IsLockedAt h.1.version (words.versions k)) h.2.2 h.2.1.locked in let z = locked.0 in
          absurd (⊎_elim (λ (is : words.versions n ≡ h.1.version + 1). omega (arith, z, even, is)) (λ (is : words.versions n ≡ h.1.version + 3). omega (arith, z, even, is)) locked.1)

  -- the words of a node whose sight stands spell its settled content
  pub stands_spells : (s : NodeSight) → s.node < t.nodes → s.version % 4 ≡ 0 → Stands words.versions shadow s → SpellsNode (words.contents s.node) (shadow.settled s.node)
  stands_spells s within even stands = go (shadow.holder s.node) refl
    where
      go : (o : Option ℕ) → shadow.holder s.node ≡ o → SpellsNode (words.contents s.node) (shadow.settled s.node)
      go None e = (subst (IsOpen (words.versions s.node) (words.contents s.node) (shadow.settled s.node)) e (r.unlocked s.node within)).1
      go (Some j) e =
          let h = holder_has s.node j e in
          let clean : h.1.stored ≡ false = h.2.1.stored ∙ (ap shadow.stored h.2.2 ∙ ⊎_elim
          (λ (same : words.versions s.node ≡ s.version). absurd (locked_is_odd h.1.version (words.versions s.node) (subst (λ k. IsLockedAt h.1.version (words.versions k)) h.2.2 h.2.1.locked) (ap (λ k. k % 4) same ∙ even)))
          (λ (c : IsLockedAt s.version (words.versions s.node) × (shadow.stored s.node ≡ false)). c.1) stands) in
          let words_are : h.1.words ≡ words.contents s.node = h.2.1.as_now ∙ ap words.contents h.2.2 in
          let settled_is : h.1.settled ≡ shadow.settled s.node = h.2.1.settled ∙ ap shadow.settled h.2.2 in
          subst (SpellsNode (words.contents s.node)) settled_is (subst (λ ws. SpellsNode ws h.1.settled) words_are (h.2.1.clean clean))

  -- a log has a lock only where it is the holder
  pub held_by : (j : ℕ) (u : Log) (n : ℕ) (h : Holding) → get_elem? views j ≡ some u → held_of n u.holdings.held ≡ Some h → HoldsNode t words shadow j h × (h.node ≡ n)
  held_by j u n h at found = held_is (HoldsNode t words shadow j) n u.holdings.held h (r.holdings j u at).each found

  -- the version word of a node that a log has locked
  pub version_locked : (j : ℕ) (u : Log) (n : ℕ) → get_elem? views j ≡ some u → IfSome (held_of n u.holdings.held) (λ h. IsLockedAt h.version (words.versions n))
  version_locked j u n at = go (held_of n u.holdings.held) refl
    where
      go : (o : Option Holding) → held_of n u.holdings.held ≡ o → IfSome o (λ h. IsLockedAt h.version (words.versions n))
      go None e = tt
      go (Some h) e = let mine = held_by j u n h at e in subst (λ k. IsLockedAt h.version (words.versions k)) mine.1 mine.0.locked
