-- What is told of a node that a log holds, and of one that it has out.
use Rattle.std.proofs.Common.{◌≡◌, ℕ, ◌<◌, ◌≤◌, List, length, sym, refl, ap, ◌∙◌, subst, arith, nat_lt, Bool, true, false, IsTrue, true≢false, Option, Some, None, IfSome, IsSome}
use mathlib.Core.Option.{some}
use lib.ListN.{get_elem?}
use Rattle.reg_model.specs.declared.answer.Update.{Update}
use Rattle.std.specs.List.{AllByRecursion}
use Rattle.tree_shape.specs.declared.node.NodeBounds.{NodeBounds}
use Rattle.tree_laws.specs.Numbers.{once, times}
use Rattle.tree_laws.proofs.Times.{once_most}
use Rattle.word_rule.specs.declared.log.Terms.{Terms}
use Rattle.word_rule.specs.declared.log.Holding.{Holding}
use Rattle.word_rule.specs.declared.log.Log.{Log}
use Rattle.word_rule.specs.SharedWords.{NodeWords}
use Rattle.word_rule.specs.Held.{held_of}
use Rattle.word_rule.specs.Nodes.{Shadow, NodesHold, HoldsNode, IsPlaced}
use Rattle.word_rule.specs.NodeTells.{KnowsTree, IsHeldNode, IsLiveNode, OutTells}
use Rattle.word_rule.proofs.Facts.{part_of_total}
use Rattle.word_rule.proofs.Each.{all_map}
use Rattle.word_rule.proofs.Standing.{held_by}
use Rattle.word_rule.proofs.NodeLoads.{ltb_true}
use Rattle.word_rule.proofs.HeadPlays.{RootLaw}
use Rattle.word_rule.proofs.NodeVersions.{ChildrenLaw, is_live_node}

module _ (t : Terms) (words : NodeWords) (views : List Log) (history : List Update) (shadow : Shadow) (r : NodesHold t words views history shadow) (j : ℕ) (u : Log) (at : get_elem? views j ≡ some u) where
  -- a node that is out isn't live
  out_is_dead : (n : ℕ) → 0 < times n u.holdings.out → shadow.live n ≡ false
  out_is_dead n out = go (shadow.live n) refl
    where
      go : (b : Bool) → shadow.live n ≡ b → shadow.live n ≡ false
      go false e = e
      go true e =
          let below = part_of_total (λ v. times n v.holdings.out) views j u at in let all = r.each_once n in let most : once (nat_lt n t.nodes) ≤ 1 = once_most (nat_lt n t.nodes) in
          let one : once (shadow.live n) ≡ 1 = ap once e in absurd (omega (arith, below, all, most, one, out))

  -- so it has no mark, and isn't the root
  pub out_tells : RootLaw → (n : ℕ) → OutTells n u
  out_tells root n out =
      let dead = out_is_dead n (ltb_true 0 (times n u.holdings.out) out) in (
        λ is. true≢false (sym (root shadow.settled shadow.live r.lawful.tree) ∙ (ap shadow.live (sym is) ∙ dead)),
        all_map (HoldsNode t words shadow j) (λ h. h.node ≡ n → h.mark ≡ None) (λ h k e. no_mark h h.mark (ap shadow.live e ∙ dead) k.marked) u.holdings.held (r.holdings j u at).each,
      )
    where
      no_mark : (h : Holding) (o : Option NodeBounds) → shadow.live h.node ≡ false → IfSome o (λ f. IsTrue (shadow.live h.node) × IsPlaced h.settled f) → o ≡ None
      no_mark h None dead told = refl
      no_mark h (Some f) dead told = absurd (true≢false (sym told.0 ∙ dead))

  -- the words and the settled content of a node that is held
  pub holder_tells : ChildrenLaw → ((k : ℕ) → k < t.nodes → length (words.contents k) ≡ 35) → u.terms ≡ t → (n : ℕ) → IfSome (held_of n u.holdings.held) (IsHeldNode u.terms)
  holder_tells law wide terms n = go (held_of n u.holdings.held) refl
    where
      live : (h : Holding) → HoldsNode t words shadow j h → (o : Option NodeBounds) → IfSome o (λ f. IsTrue (shadow.live h.node) × IsPlaced h.settled f) → IfSome o (IsLiveNode u.terms h.node h.settled)
      live h k None told = tt
      live h k (Some f) told =
          subst (λ z. IsLiveNode z h.node h.settled f) (sym terms)
          (subst (λ s. IsLiveNode t h.node s f) (sym k.settled) (is_live_node t words views history shadow r law h.node f told.0 (subst (λ s. IsPlaced s f) k.settled told.1)))

      go : (o : Option Holding) → held_of n u.holdings.held ≡ o → IfSome o (IsHeldNode u.terms)
      go None e = tt
      go (Some h) e = let mine = held_by t words views history shadow r j u n h at e in record {
        wide = ap length mine.0.as_now ∙ wide h.node mine.0.within;
        clean = mine.0.clean;
        live = live h mine.0 h.mark mine.0.marked;
      }

  -- what is marked is live, and is as it settled
  pub marked_live : AllByRecursion (λ h. IsSome h.mark → IsTrue (shadow.live h.node) × (shadow.settled h.node ≡ h.settled)) u.holdings.held
  marked_live = all_map (HoldsNode t words shadow j) (λ h. IsSome h.mark → IsTrue (shadow.live h.node) × (shadow.settled h.node ≡ h.settled)) (λ h k is. (by_mark h h.mark is k.marked, sym k.settled)) u.holdings.held (r.holdings j u at).each
    where
      by_mark : (h : Holding) (o : Option NodeBounds) → IsSome o → IfSome o (λ f. IsTrue (shadow.live h.node) × IsPlaced h.settled f) → IsTrue (shadow.live h.node)
      by_mark h None is told = absurd (true≢false (sym is))
      by_mark h (Some f) is told = told.0

  -- the tree that the invariant has is one that the log knows
  pub knows_tree : KnowsTree u.holdings
  knows_tree = record {
    contents = shadow.settled;
    live = shadow.live;
    lawful = r.lawful;
    marked = marked_live;
    dead = λ n out. out_is_dead n (ltb_true 0 (times n u.holdings.out) out);
  }
