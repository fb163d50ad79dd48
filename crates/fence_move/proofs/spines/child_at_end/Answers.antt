use Rattle.std.proofs.Common.{◌≡◌, ℕ, zero, suc, ◌-◌, ◌<◌, List, [], ◌∷◌, length, get_or, refl, sym, ap, arith, ◌∙◌, subst}
use Rattle.tree_shape.specs.NodeData.{pairs_of}
use Rattle.tree_laws.specs.Steps.{last_child}
use Rattle.tree_shape.specs.declared.pair.Pair.{Pair}
use Rattle.fence_move.proofs.spines.child_at_end.Goals as goal

at_end : (start : ℕ) (pairs : List Pair) (k : ℕ) (d : Pair) → length pairs ≡ suc k → (get_or pairs k d).child ≡ last_child start pairs
at_end start [] k d is = absurd (omega (arith, is))
at_end start (p ∷ []) zero d is = refl
at_end start (p ∷ []) (suc k) d is = absurd (omega (arith, is))
at_end start (p ∷ q ∷ pairs) zero d is = absurd (omega (arith, is))
at_end start (p ∷ q ∷ pairs) (suc k) d is = at_end p.child (q ∷ pairs) k d (omega (arith, is))

pub returns : goal.returns
returns c =
    let pairs = c.pairs-pairs.result.now in
    let e : pairs ≡ pairs_of c.args.content.now = c.pairs-pairs.ensures.value in
    let some : 0 < length pairs = subst (λ (ps : List Pair). 0 < length ps) (sym e) c.requires in
    at_end 0 pairs (length pairs - 1) record { child = 0; separator = 0 } (omega (arith, some)) ∙ ap (last_child 0) e
