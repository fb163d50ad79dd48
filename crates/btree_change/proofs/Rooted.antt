-- The way of a removal begins at the root; and what a mended child of it is.
use Rattle.std.proofs.Common.{◌<◌, subst, sym, ◌≤◌, ℕ, ◌^◌, arith, ◌≡◌, ◌*◌, ap}
use Rattle.tree_shape.specs.NodeData.{IsInFences}
use Rattle.word_rule.specs.declared.log.Holdings.{Holdings}
use Rattle.word_rule.specs.declared.log.Terms.{Terms}
use Rattle.word_rule.specs.CallerData.{CallerData, surplus}
use Rattle.word_rule.specs.Places.{CALL_CREDIT}
use Rattle.tree_descent.specs.Stands.{HoldsRoot}
use Rattle.tree_descent.specs.declared.descent.Held.{Held}
use Rattle.tree_descent.specs.Removing.{HoldsAlone}
use Rattle.tree_descent.proofs.Lowering.{settled_live}
use Rattle.tree_descent.specs.Releases.{Spends}

pub root_alone : (t : Terms) (at : Held) (holdings : Holdings) → HoldsRoot t at holdings → HoldsAlone t at holdings
root_alone t at holdings r = record {
  within = subst (λ n. n < t.nodes) (sym r.root) r.within;
  lock = r.lock;
  held = r.held;
  here = r.here;
  out = r.out;
}

pub root_low : (t : Terms) (at : Held) (holdings : Holdings) → HoldsRoot t at holdings → at.content.level ≤ 12
root_low t at holdings r = (settled_live t at.node at.content at.changed r.lock r.here).1.1.height r.root

-- the root has all addresses
pub root_has : (t : Terms) (at : Held) (pc : ℕ) (holdings : Holdings) → HoldsRoot t at holdings → pc < 2 ^ 64 → IsInFences pc at.content
root_has t at pc holdings r most = (let l = r.low in omega (arith, l), let h = r.high in omega (arith, h, most))

-- releases that are left after some were used
pub surplus_left : (n : ℕ) (k k' : CallerData) → Spends n k k' → CALL_CREDIT ≤ surplus k → n ≤ 30 → 2 < surplus k'
surplus_left n k k' s most few = let l : CALL_CREDIT * k'.left ≡ CALL_CREDIT * k.left = ap (λ z. CALL_CREDIT * z) s.calls.caller.left in let c = s.credit in omega (arith, l, c, most, few)
