-- A load of a lock's word of which the log says nothing: it tells the holder the version.
use Rattle.std.proofs.Common.{◌≡◌, ℕ, ◌+◌, ◌-◌, ◌*◌, ◌%◌, ◌<◌, set, get_or, sym, refl, subst, ⊎_elim, arith, Option, Some, None, IfSome}
use mathlib.Core.Option.{none}
use Rattle.atomic_table.specs.Table.{step, keeps, Allows}
use Rattle.atomic_table.proofs.Lists.{set_again}
use Rattle.word_rule.specs.declared.log.Holding.{Holding}
use Rattle.word_rule.specs.declared.log.LoaderHolding.{LoaderHolding}
use Rattle.word_rule.specs.declared.log.Terms.{Terms}
use Rattle.word_rule.specs.SharedWords.{memory_of}
use Rattle.word_rule.specs.Held.{held_of}
use Rattle.word_rule.specs.Callers.{AtLoader, IsLockedAt}
use Rattle.word_rule.specs.TableInvariant.{TableInvariant}
use Rattle.word_rule.specs.Plays.{Seated, peeks, peeks_node}
use Rattle.word_rule.proofs.Memories.{set_same, load_version_at}
use Rattle.word_rule.proofs.Standing.{version_locked}
use Rattle.word_rule.proofs.NodeLocks.{one_counter}
use Rattle.word_rule.proofs.Frames.{Sit}

-- the version in the word of a lock that is held
pub version_in : (version word : ℕ) → IsLockedAt version word → version ≡ word - word % 4
version_in version word h = let z = h.0 in ⊎_elim (λ (e : word ≡ version + 1). omega (arith, z, e)) (λ (e : word ≡ version + 3). omega (arith, z, e)) h.1

pub loader_version : (o : Option LoaderHolding) (word : ℕ) → IfSome o (λ h. IsLockedAt h.version word) → IfSome o (λ h. h.version ≡ word - word % 4)
loader_version None word h = tt
loader_version (Some g) word h = version_in g.version word h

pub node_version : (o : Option Holding) (word : ℕ) → IfSome o (λ h. IsLockedAt h.version word) → IfSome o (λ h. h.version ≡ word - word % 4)
node_version None word h = tt
node_version (Some g) word h = version_in g.version word h

module _ (t : Terms) (slots id : ℕ) (me : Seated) where
  abbrev Holds : Sit → Type 0
  Holds s = TableInvariant t s.words s.views

  pub peeks_loader : Allows Holds slots id me 2 (λ n. n) (peeks (step slots 2 0 0 none) me)
  peeks_loader s r deep at small =
      let same_views : set s.views id me.0 ≡ s.views = set_again s.views id me.0 at in
      let same_words : set s.words 2 (get_or s.words 2 0) ≡ s.words = set_same s.words 2 in
      let c = r.memory.callers.counted in (
        me.0,
        keeps,
        tt,
        rw (same_words, same_views) r,
        (refl, locked_word me.0.loader (r.memory.callers.at_loader id me.0 at), omega (arith, c)),
      )
    where
      locked_word : (o : Option LoaderHolding) → AtLoader (memory_of t s.words) r.memory.callers.holder id o → IfSome o (λ h. IsLockedAt h.version (get_or s.words 2 0))
      locked_word None a = tt
      locked_word (Some h) a = a.1.locked

  peeks_at : (n : ℕ) → n < t.nodes → Allows Holds slots id me (4 + 36 * n) (λ n. n) (peeks_node n (step slots (4 + 36 * n) 0 0 none) me)
  peeks_at n inside s r deep at small =
      let same_views : set s.views id me.0 ≡ s.views = set_again s.views id me.0 at in
      let same_words : set s.words (4 + 36 * n) (get_or s.words (4 + 36 * n) 0) ≡ s.words = set_same s.words (4 + 36 * n) in
      let word = load_version_at t s.words n inside in
      let c = r.memory.callers.counted in
      let one = one_counter (memory_of t s.words).nodes.versions n t.nodes inside in (
        me.0,
        keeps,
        tt,
        rw (same_words, same_views) r,
        (
          refl,
          subst (λ w. IfSome (held_of n me.0.holdings.held) (λ h. IsLockedAt h.version w)) word (version_locked t (memory_of t s.words).nodes s.views r.memory.history r.memory.shadow r.memory.nodes id me.0 n at),
          omega (arith, c, one, word),
        ),
      )

  -- the same as the code has it
  pub peeks_of : (n k place : ℕ) → n < t.nodes → k ≡ n → place ≡ 4 + 36 * n → Allows Holds slots id me place (λ n. n) (peeks_node k (step slots place 0 0 none) me)
  peeks_of n k place inside node is =
      subst (λ p. Allows Holds slots id me p (λ n. n) (peeks_node k (step slots p 0 0 none) me)) (sym is)
      (subst (λ j. Allows Holds slots id me (4 + 36 * n) (λ n. n) (peeks_node j (step slots (4 + 36 * n) 0 0 none) me)) (sym node) (peeks_at n inside))
