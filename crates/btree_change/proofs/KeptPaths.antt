-- Nodes that were kept are let go of one by one, and those below them are left.
use Rattle.std.proofs.Common.{List, [], ◌∷◌, ◌++◌, ◌≢◌, ◌≡◌, ℕ, sym, ap, ◌∙◌, subst, cond, not, ne_eqb, refl, ◌<◌, append-nil}
use Rattle.std.specs.List.{AllByRecursion}
use Rattle.word_rule.specs.declared.log.Holding.{Holding}
use Rattle.word_rule.specs.Held.{without_lock, held_of}
use Rattle.word_rule.specs.declared.log.Terms.{Terms}
use Rattle.word_rule.specs.CallerData.{CallerData}
use Rattle.word_rule.specs.Spelling.{SpellsNode}
use Rattle.word_rule.specs.declared.log.Holdings.{Holdings}
use Rattle.tree_descent.specs.Paths.{AreApart}
use Rattle.tree_descent.specs.Releases.{LetsGo, MayGo}
use Rattle.tree_descent.proofs.Storing.{found_at}
use Rattle.fence_move.proofs.FreshSpines.{apart_mid}
use Rattle.fence_move.proofs.LockedSpines.{without_head}
use Rattle.btree_change.specs.declared.path.KeptNode.{KeptNode}
use Rattle.btree_change.specs.Kept.{AreKept, IsKeptLock, HoldsPath}

-- what is left of a list without a lock in its middle
all_less : (P : Holding → Type 0) (below : List Holding) (h : Holding) (above : List Holding) → AllByRecursion P (below ++ h ∷ above) → AllByRecursion P (below ++ above)
all_less P [] h above all = all.1
all_less P (b ∷ below) h above all = (all.0, all_less P below h above all.1)

apart_less : (below : List Holding) (h : Holding) (above : List Holding) → AreApart (below ++ h ∷ above) → AreApart (below ++ above)
apart_less [] h above apart = apart.1
apart_less (b ∷ below) h above apart = (all_less (λ (a : Holding). a.node ≢ b.node) below h above apart.0, apart_less below h above apart.1)

pub without_mid : (n : ℕ) (below : List Holding) (h : Holding) (above : List Holding) → h.node ≡ n → AreApart (below ++ h ∷ above) → without_lock n (below ++ h ∷ above) ≡ below ++ above
without_mid n [] h above is apart = without_head n h above is (subst (λ x. AllByRecursion (λ (a : Holding). a.node ≢ x) above) is apart.0)
without_mid n (b ∷ below) h above is apart =
    let far : b.node ≢ n = λ e. (apart_mid (b ∷ below) h above apart).0.0 (e ∙ sym is) in
    ap (λ x. cond (not x) (b ∷ without_lock n (below ++ h ∷ above)) (without_lock n (below ++ h ∷ above))) (ne_eqb b.node n far) ∙ ap (λ hs. b ∷ hs) (without_mid n below h above is apart.1)

-- the lock of the lowest node that is kept
record LowestKept (t : Terms) (kept : KeptNode) (path : List KeptNode) (locks : List Holding) : Type 0 where
  lock : Holding
  above : List Holding
  is : locks ≡ lock ∷ above
  own : IsKeptLock t kept lock
  others : AreKept t path above

lowest_kept : (t : Terms) (kept : KeptNode) (path : List KeptNode) (locks : List Holding) → AreKept t (kept ∷ path) locks → LowestKept t kept path locks
lowest_kept t kept path [] all = absurd all
lowest_kept t kept path (h ∷ above) all = record { lock = h; above = above; is = refl; own = all.0; others = all.1 }

module _ (t : Terms) (kept : KeptNode) (path : List KeptNode) (below : List Holding) (holdings : Holdings) (h : HoldsPath t (kept ∷ path) below holdings) where
  abbrev first : LowestKept t kept path h.locks
  first = lowest_kept t kept path h.locks h.kept

  held_is : holdings.held ≡ below ++ first.lock ∷ first.above
  held_is = h.held ∙ ap (λ hs. below ++ hs) first.is

  once : AreApart (below ++ first.lock ∷ first.above)
  once = subst AreApart held_is h.apart

  pub kept_within : kept.node < t.nodes
  kept_within = first.own.within

  -- it may be let go of
  pub kept_may : MayGo kept.node kept.changed holdings
  kept_may = record {
    lock = first.lock;
    found = ap (held_of kept.node) held_is ∙ found_at kept.node below first.lock first.above first.own.node (subst (λ n. AllByRecursion (λ (a : Holding). a.node ≢ n) below) first.own.node (apart_mid below first.lock first.above once).0);
    stored = λ e. first.own.stored ∙ e;
    settled = h.settled;
  }

  -- and the others are still held
  pub kept_gone : (k k' : CallerData) → k.log.holdings ≡ holdings → LetsGo kept.node k k' → HoldsPath t path below k'.log.holdings
  kept_gone k k' same goes =
      let left : k'.log.holdings.held ≡ below ++ first.above = goes.held ∙ (ap (λ (hs : Holdings). without_lock kept.node hs.held) same ∙ (ap (without_lock kept.node) held_is ∙ without_mid kept.node below first.lock first.above first.own.node once)) in record {
        locks = first.above;
        held = left;
        kept = first.others;
        settled = subst (AllByRecursion (λ a. SpellsNode a.words a.settled)) (sym left) (all_less (λ a. SpellsNode a.words a.settled) below first.lock first.above (subst (AllByRecursion (λ a. SpellsNode a.words a.settled)) held_is h.settled));
        apart = subst AreApart (sym left) (apart_less below first.lock first.above once);
      }

-- where none is kept, what is below is all
pub none_kept : (t : Terms) (path : List KeptNode) (below : List Holding) (holdings : Holdings) → path ≡ [] → HoldsPath t path below holdings → holdings.held ≡ below
none_kept t path below holdings none h = h.held ∙ go h.locks (subst (λ p. AreKept t p h.locks) none h.kept)
  where
    go : (locks : List Holding) → AreKept t [] locks → below ++ locks ≡ below
    go [] all = append-nil below
    go (a ∷ locks) all = absurd all
