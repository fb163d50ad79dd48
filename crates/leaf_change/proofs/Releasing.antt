-- The lowest of the nodes that are held may go, and what is left then.
use Rattle.std.proofs.Common.{◌≡◌, ℕ, List, ◌∷◌, Bool, false, sym, ap, ◌∙◌, subst, Some, ◌≢◌, drop, not, eq-eqb, cond}
use Rattle.std.specs.List.{AllByRecursion}
use Rattle.word_rule.specs.declared.log.Holding.{Holding}
use Rattle.word_rule.specs.declared.log.Holdings.{Holdings}
use Rattle.word_rule.specs.Held.{held_of, without_lock}
use Rattle.word_rule.specs.CallerData.{CallerData}
use Rattle.tree_descent.specs.Releases.{HaveSettled, MayGo, LetsGo}
use Rattle.tree_descent.specs.Paths.{AreApart}
use Rattle.tree_descent.proofs.Settling.{found_first}
use Rattle.tree_descent.proofs.HeldLists.{without_far}

-- the lowest node that is held: it has settled, and so has all above it
pub record IsLowest (n : ℕ) (changed : Bool) (holdings : Holdings) : Type 0 where
  pub lock : Holding
  pub above : List Holding
  pub held : holdings.held ≡ lock ∷ above
  pub is_node : lock.node ≡ n
  pub stored : changed ≡ false → lock.stored ≡ false
  pub settled : HaveSettled (lock ∷ above)
  pub apart : AreApart (lock ∷ above)

pub lowest_may : (n : ℕ) (changed : Bool) (holdings : Holdings) → IsLowest n changed holdings → MayGo n changed holdings
lowest_may n changed holdings low = record {
  lock = low.lock;
  found = ap (held_of n) low.held ∙ subst (λ x. held_of x (low.lock ∷ low.above) ≡ Some low.lock) low.is_node (found_first low.lock low.above);
  stored = low.stored;
  settled = subst HaveSettled (sym low.held) low.settled;
}

-- without it what was above is left
pub left_above : (n : ℕ) (changed : Bool) (k k' : CallerData) → IsLowest n changed k.log.holdings → LetsGo n k k' → k'.log.holdings.held ≡ drop 1 k.log.holdings.held
left_above n changed k k' low goes =
    let far = subst (λ x. AllByRecursion (λ (h : Holding). h.node ≢ x) low.above) low.is_node low.apart.0 in
    goes.held ∙ (ap (without_lock n) low.held ∙ (ap (λ b. cond (not b) (low.lock ∷ without_lock n low.above) (without_lock n low.above)) (eq-eqb low.lock.node n low.is_node) ∙ (without_far n low.above far ∙ ap (drop 1) (sym low.held))))
