-- A member is cut out of a held leaf in its place, after loads of the leaf's words.
use Rattle.std.proofs.Common.{◌≡◌, ℕ, zero, suc, List, [], ◌∷◌, get_or, Some, ◌-◌, ◌<◌, ◌∙◌, sym, ap, arith, IsSome, subst, ◌⊎◌, inl, IsSomeAnd, IsTrue}
use Rattle.std.proofs.lemmas.Option.{none-some, same_Some}
use Rattle.std.specs.List.{slice_get}
use Rattle.reg_model.specs.declared.span.Member.{Member}
use Rattle.reg_model.specs.History.{without}
use Rattle.reg_model.specs.State.{at_base}
use Rattle.tree_shape.proofs.Orders.{leaf_order}
use Rattle.tree_shape.proofs.Slots.{at_place}
use Rattle.tree_shape.specs.NodeData.{NodeData, Entries, InOrder, IsLeaf, entries_of, place_for}
use Rattle.tree_laws.specs.Numbers.{is_among}
use Rattle.word_rule.specs.CallerData.{CallerData}
use Rattle.word_rule.specs.Held.{held_of}
use Rattle.word_rule.specs.NodeTells.{KnowsTree}
use Rattle.word_rule.specs.Sights.{after_node_load}
use Rattle.word_rule.specs.Steps.{MayStore}
use Rattle.word_rule.specs.declared.log.Holding.{Holding}
use Rattle.word_rule.specs.declared.log.Terms.{Terms}
use Rattle.node_store.specs.Entries.{leaf_without, with_entries, without_entry_at}
use Rattle.node_store.specs.Holding.{SpellsHeld, StoresHeld}
use Rattle.tree_descent.specs.Paths.{StepsOnNodes}
use Rattle.tree_descent.specs.Removing.{HoldsAlone}
use Rattle.tree_descent.specs.declared.descent.Held.{Held}
use Rattle.tree_descent.proofs.Descents.{steps_of_load}
use Rattle.tree_descent.proofs.HeldLists.{found_head}
use Rattle.tree_descent.proofs.Lowering.{settled_live}
use Rattle.tree_descent.proofs.Outlining.{alone_spells}
use Rattle.tree_descent.proofs.Putting.{leaf_at_zero}
use Rattle.tree_descent.proofs.Storing.{IsRewritten, rewritten_so}

-- what stands at a place is there whatever else would be
stands_there : (es : List Member) (k : ℕ) (m : Member) → slice_get es k ≡ Some m → get_or es k m ≡ m
stands_there [] k m is = absurd (none-some m is)
stands_there (e ∷ es) zero m is = same_Some _ _ is
stands_there (e ∷ es) (suc k) m is = stands_there es k m is

-- the entry before the first that begins above its base is the one that begins there
pub cut_there : (base begun : ℕ) (s : NodeData) → IsLeaf s → InOrder s → IsSome (at_base base (entries_of s)) → begun ≡ place_for base (entries_of s) → (0 < begun) × (leaf_without (begun - 1) s ≡ record s { body = Entries (without base (entries_of s)) })
cut_there base begun s leaf order held is =
    let found = at_place base s.low s.high (entries_of s) (leaf_order s leaf order) held in
    let place = found.1.place in
    let here : begun - 1 ≡ found.0 = omega (arith, is, place) in
    (omega (arith, is, place), ap (λ es. with_entries es s) (ap (λ k. without_entry_at k (entries_of s)) here ∙ sym found.1.others))

pub taken_there : (base begun : ℕ) (s : NodeData) (m : Member) → IsLeaf s → InOrder s → IsSome (at_base base (entries_of s)) → begun ≡ place_for base (entries_of s) → slice_get (entries_of s) (begun - 1) ≡ Some m → at_base base (entries_of s) ≡ Some m
taken_there base begun s m leaf order held is stands =
    let found = at_place base s.low s.high (entries_of s) (leaf_order s leaf order) held in
    let place = found.1.place in
    let here : begun - 1 ≡ found.0 = omega (arith, is, place) in
    found.1.there m ∙ ap Some (stands_there (entries_of s) found.0 m (ap (slice_get (entries_of s)) (sym here) ∙ stands))

module _ (t : Terms) (at : Held) (k k1 : CallerData) (found : ℕ) (alone : HoldsAlone t at k.log.holdings) (load : k1 ≡ record k { log = after_node_load at.node 5 found k.log }) where
  same_held : k1.log.holdings ≡ k.log.holdings
  same_held = ap (λ (z : CallerData). z.log.holdings) load

  pub cut_leaf : at.content.level ≡ 0 → IsLeaf at.content
  cut_leaf level = leaf_at_zero at.content (settled_live t at.node at.content at.changed alone.lock alone.here).1.1.ordered level

  pub cut_alone : HoldsAlone t at k1.log.holdings
  cut_alone = subst (HoldsAlone t at) (sym same_held) alone

  pub cut_tree : KnowsTree k.log.holdings → KnowsTree k1.log.holdings
  cut_tree tree = subst KnowsTree (sym same_held) tree

  pub cut_spells : SpellsHeld at.node at.content k1.log
  cut_spells = alone_spells t at k1.log cut_alone

  pub may_cut_there : MayStore at.node k1.log
  may_cut_there = subst (λ o. IsSomeAnd o (λ (h : Holding). IsSome h.mark ⊎ IsTrue (is_among k1.log.holdings.out at.node))) (sym (ap (held_of at.node) cut_alone.held ∙ found_head at.node cut_alone.lock [] cut_alone.here.node)) (inl cut_alone.here.marked)

  pub cut_steps : StepsOnNodes k k1
  cut_steps = steps_of_load at.node 5 found k k1 load

  pub cut_written : (base begun : ℕ) (k2 : CallerData) → leaf_without (begun - 1) at.content ≡ record at.content { body = Entries (without base (entries_of at.content)) } → StoresHeld at.node (leaf_without (begun - 1) at.content) k1 k2 → SpellsHeld at.node (leaf_without (begun - 1) at.content) k2.log
      → IsRewritten (record at.content { body = Entries (without base (entries_of at.content)) }) cut_alone.lock [] [] k1 k2
  cut_written base begun k2 is stores spells =
      rewritten_so (record at.content { body = Entries (without base (entries_of at.content)) }) at.node cut_alone.lock [] [] k1 k2 (λ e. omega (arith, e)) cut_alone.here.node tt tt cut_alone.held
      (subst (λ z. StoresHeld at.node z k1 k2) is stores) (subst (λ z. SpellsHeld at.node z k2.log) is spells)
