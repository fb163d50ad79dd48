-- A node that alone is held may go, and nothing is left then.
use Rattle.std.proofs.Common.{sym, subst, ℕ, [], ap, ◌∙◌, Bool, ◌≡◌}
use Rattle.word_rule.specs.Spelling.{SpellsNode}
use Rattle.word_rule.specs.declared.log.Holdings.{Holdings}
use Rattle.word_rule.specs.declared.log.Terms.{Terms}
use Rattle.word_rule.specs.Held.{held_of, without_lock}
use Rattle.word_rule.specs.CallerData.{CallerData}
use Rattle.tree_descent.specs.Removing.{HoldsAlone, HoldsLock}
use Rattle.tree_descent.specs.declared.descent.Held.{Held}
use Rattle.tree_descent.specs.Releases.{HaveSettled, MayGo, LetsGo}
use Rattle.tree_descent.proofs.HeldLists.{found_head, without_one}

pub alone_lock : (t : Terms) (at : Held) (holdings : Holdings) → HoldsAlone t at holdings → HoldsLock at.node at.changed holdings
alone_lock t at holdings h = record {
  lock = h.lock;
  held = h.held;
  node = h.here.node;
  spells = subst (SpellsNode h.lock.words) (sym h.here.settled) h.here.spells;
  stored = h.here.stored;
}

pub lock_may : (n : ℕ) (changed : Bool) (holdings : Holdings) → HoldsLock n changed holdings → MayGo n changed holdings
lock_may n changed holdings h = record {
  lock = h.lock;
  found = ap (held_of n) h.held ∙ found_head n h.lock [] h.node;
  stored = λ e. h.stored ∙ e;
  settled = subst HaveSettled (sym h.held) (h.spells, tt);
}

pub lock_gone : (n : ℕ) (changed : Bool) (k k' : CallerData) → HoldsLock n changed k.log.holdings → LetsGo n k k' → k'.log.holdings.held ≡ []
lock_gone n changed k k' h goes = goes.held ∙ (ap (without_lock n) h.held ∙ without_one n h.lock h.node)
