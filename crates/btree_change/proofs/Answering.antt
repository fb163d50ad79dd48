-- A leaf has room for a span, or an answer is told: what is left when it was let go of.
use Rattle.std.proofs.Common.{◌≡◌, ◌<◌, length, subst, ◌∷◌, ap, ◌∙◌, None, sym, ℕ, ◌+◌, ◌≤◌, [], arith}
use Rattle.reg_model.specs.declared.span.Member.{Member}
use Rattle.reg_model.specs.declared.answer.Inserted.{Inserted}
use Rattle.tree_shape.specs.NodeData.{entries_of}
use Rattle.word_rule.specs.declared.log.Holdings.{Holdings}
use Rattle.word_rule.specs.declared.log.Terms.{Terms}
use Rattle.word_rule.specs.declared.log.Log.{Log}
use Rattle.word_rule.specs.CallerData.{CallerData, surplus}
use Rattle.word_rule.specs.Spelling.{SpellsNode}
use Rattle.tree_descent.specs.declared.descent.Held.{Held}
use Rattle.tree_descent.specs.Stands.{HasSpace, StandsAt}
use Rattle.tree_descent.proofs.Lowering.{settled_live}
use Rattle.tree_descent.proofs.Putting.{leaf_at_zero}
use Rattle.tree_descent.specs.Removing.{HoldsAlone}
use Rattle.tree_descent.specs.Insertion.{RefusesMember, taken_by}
use Rattle.leaf_change.proofs.Answering.{AnswersHere}
use Rattle.leaf_change.specs.Insertion.{EndsInsertion, SpendsCall}
use Rattle.leaf_change.proofs.Spending.{right_before, spends_before, surplus_after}
use Rattle.node_split.specs.declared.split.Room.{Room}
use Rattle.btree_change.specs.Stands.{StandsOnWay, kept_above, kept_node, releases_from}
use Rattle.btree_change.proofs.Spending.{refused_call}
use Rattle.btree_change.specs.declared.stand.Stand.{Stand}
use Rattle.btree_change.specs.Kept.{HoldsPath, LeavesBelow}
use Rattle.btree_change.proofs.Standing.{stand_path}
use Rattle.reg_model.specs.declared.answer.Receipt.TheVariants as receipt

pub leaf_room : (t : Terms) (at : Held) (holdings : Holdings) → StandsAt t at holdings → at.content.level ≡ 0 → HasSpace at.content.body → length (entries_of at.content) < 10
leaf_room t at holdings s level room = subst HasSpace (leaf_at_zero at.content (settled_live t at.node at.content at.changed s.lock s.here).1.1.ordered level) room

-- where the span ends inside its fences, a leaf is held alone
pub holds_leaf : (t : Terms) (m : Member) (at : Held) (way : Room) (v : Log) → StandsOnWay t m (record { at = at; beyond = None; room = way }) v → HoldsAlone t at v.holdings
holds_leaf t m at way v s = record { within = s.at.within; lock = s.at.lock; held = s.at.held ∙ ap (λ hs. s.at.lock ∷ hs) s.reach.1; here = s.at.here; out = s.at.out }

module _ (t : Terms) (m : Member) (at : Held) (k : CallerData) (leaf : HoldsAlone t at k.log.holdings) where
  -- the member was refused
  pub refused_here : (answer : Inserted) (k1 : CallerData) → RefusesMember t m answer k k1 → AnswersHere t m at.node answer at.changed k k1
  refused_here answer k1 r = record {
    right = r.right;
    call = refused_call (receipt.Register m answer) (taken_by answer) k k1 r.none_taken r.call;
    lock = leaf.lock;
    held = ap (λ (hs : Holdings). hs.held) r.call.holdings ∙ leaf.held;
    node = leaf.here.node;
    spells = subst (SpellsNode leaf.lock.words) (sym leaf.here.settled) leaf.here.spells;
    stored = λ e. leaf.here.stored ∙ e;
    out = ap (λ (hs : Holdings). hs.out) r.call.holdings ∙ leaf.out;
  }

-- it was refused, and all that is held was let go of
module _ (t : Terms) (m : Member) (stand : Stand) (k k1 : CallerData) (stands : StandsOnWay t m stand k.log) (answer : Inserted) (refuses : RefusesMember t m answer k k1) where
  pub refused_path : HoldsPath t (kept_node stand.at ∷ kept_above stand.beyond) [] k1.log.holdings
  refused_path = subst (HoldsPath t (kept_node stand.at ∷ kept_above stand.beyond) []) (sym refuses.call.holdings) (stand_path t m stand k.log stands)

  refused_spends : SpendsCall (receipt.Register m answer ∷ []) (taken_by answer) 0 k k1
  refused_spends = refused_call (receipt.Register m answer) (taken_by answer) k k1 refuses.none_taken refuses.call

  pub refused_surplus : (need : ℕ) → need ≤ surplus k → need ≤ surplus k1
  refused_surplus need enough = surplus_after (receipt.Register m answer ∷ []) (taken_by answer) 0 k k1 need refused_spends (omega (arith, enough))

  pub refused_ends : (k2 : CallerData) → LeavesBelow (length (kept_above stand.beyond) + 1) [] k1 k2 → EndsInsertion t m answer (releases_from stand) k k2
  refused_ends k2 left = record {
    right = right_before t m answer k k1 k2 left.steps.calls.past refuses.right;
    call = spends_before 0 (length (kept_above stand.beyond) + 1) (releases_from stand) (receipt.Register m answer ∷ []) (taken_by answer) k k1 k2 (omega arith) refused_spends left.steps;
    nothing = (left.held, left.out ∙ (ap (λ (hs : Holdings). hs.out) refuses.call.holdings ∙ stands.at.out));
  }
