-- The locks of the nodes of a split after they were written, and what they are in a change of the tree.
use Rattle.std.proofs.Common.{◌≡◌, ◌≢◌, ℕ, List, ◌∙◌, None, ap, is_some, sym, subst, Bool, true≢false, IsTrue}
use Rattle.tree_shape.specs.NodeData.{NodeData}
use Rattle.tree_laws.specs.Trees.{Contents}
use Rattle.word_rule.specs.CallerData.{CallerData}
use Rattle.word_rule.specs.declared.log.Holding.{Holding}
use Rattle.word_rule.specs.declared.log.Terms.{Terms}
use Rattle.word_rule.specs.Spelling.{SpellsNode}
use Rattle.node_store.specs.Writing.{kind_of_body}
use Rattle.tree_descent.proofs.Storing.{IsRewritten}
use Rattle.tree_descent.specs.declared.descent.Held.{Held}
use Rattle.tree_descent.specs.Paths.{IsHeldAs}
use Rattle.tree_descent.proofs.Settling.{FitsChange}
use Rattle.node_split.specs.Halves.{IsNewLock, IsWrittenLock}
use Rattle.node_split.specs.Splits.{IsFreeLock}
use Rattle.node_split.proofs.SplitParts.{never_free}

-- a free node that is written
pub new_lock : (n : ℕ) (s : NodeData) (old : Holding) (before above : List Holding) (k k' : CallerData) → IsFreeLock n old → old.mark ≡ None → kind_of_body s.body ≢ 2 → (w : IsRewritten s old before above k k') → IsNewLock n s w.lock
new_lock n s old before above k k' free unmarked kind w = record { node = w.node ∙ free.node; mark = w.mark ∙ unmarked; spells = w.spells; stored = w.stored old.settled free.spells (never_free s old.settled free.next kind free.free) }

-- a live node that is written
pub written_lock : (t : Terms) (at : Held) (s : NodeData) (old : Holding) (before above : List Holding) (k k' : CallerData) → IsHeldAs t at old → at.content ≢ s → (w : IsRewritten s old before above k k') → IsWrittenLock at s w.lock
written_lock t at s old before above k k' held differs w = record { node = w.node ∙ held.node; settled = w.settled ∙ held.settled; marked = ap is_some w.mark ∙ held.marked; spells = w.spells; stored = w.stored at.content held.spells differs }

-- and in a change of contents
pub fits_new : (f : Contents) (live : ℕ → Bool) (group fresh : List ℕ) (g : Contents) (n : ℕ) (s : NodeData) (h : Holding) → IsNewLock n s h → g n ≡ s → FitsChange f live group fresh g h
fits_new f live group fresh g n s h w now = record {
  marked = λ m. absurd (true≢false (sym m ∙ ap is_some w.mark));
  leaves = λ _. w.stored;
  enters = λ _. (subst (SpellsNode h.words) (sym (ap g w.node ∙ now)) w.spells, w.stored);
}

pub fits_written : (f : Contents) (live : ℕ → Bool) (group fresh : List ℕ) (g : Contents) (at : Held) (s : NodeData) (h : Holding) → IsWrittenLock at s h → IsTrue (live at.node) → f at.node ≡ at.content → g at.node ≡ s → FitsChange f live group fresh g h
fits_written f live group fresh g at s h w alive before now = let spells = subst (SpellsNode h.words) (sym (ap g w.node ∙ now)) w.spells in record {
  marked = λ _. (ap live w.node ∙ alive, ap f w.node ∙ (before ∙ sym w.settled), spells);
  leaves = λ _. w.stored;
  enters = λ _. (spells, w.stored);
}
