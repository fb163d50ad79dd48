-- Contents that agree on the live nodes of a lawful tree are lawful too.
use Rattle.std.proofs.Common.{◌≡◌, ℕ, ◌-◌, ◌<◌, List, [], ◌∷◌, Bool, IsTrue, ap, sym}
use Rattle.std.proofs.Common.{◌∙◌, subst, arith}
use Rattle.std.specs.List.{AllByRecursion}
use Rattle.tree_laws.specs.Numbers.{times}
use Rattle.tree_laws.specs.Trees.{Contents, Branch, branches, nodes, nodes_under}
use Rattle.tree_laws.specs.Lawful.{IsTree, IsLawfulTree, IsFilled, IsOrdered, FitsParent}
use Rattle.tree_laws.specs.LocalChange.{AgreeOn}
use Rattle.tree_laws.proofs.Reach.{same_under}
use Rattle.tree_laws.proofs.Living.{root_live, live_children}
use Rattle.tree_laws.proofs.Times.{once_true}

module _ (f g : Contents) (live : ℕ → Bool) (lawful : IsLawfulTree f live)
    (agree : AgreeOn live f g) where
  tree : IsTree f live
  tree = lawful.tree

  reached_live : (x : ℕ) → 0 < times x (nodes f) → IsTrue (live x)
  reached_live x there = once_true (live x) (subst (λ k. 0 < k) (lawful.tree.reached x) there)

  root_same : g 0 ≡ f 0
  root_same = agree 0 (root_live f live lawful.tree)

  same_nodes : nodes g ≡ nodes f
  same_nodes = ap (λ s. nodes_under g s.level 0) root_same
      ∙ same_under f g (f 0).level 0 (λ x there. agree x (reached_live x there))

  fits : (bs : List Branch) → AllByRecursion (λ b. IsTrue (live b.child) × FitsParent f b) bs
      → AllByRecursion (FitsParent g) bs
  fits [] all = tt
  fits (b ∷ bs) all =
      let same = agree b.child all.0.0 in let was = all.0.1 in (
        record {
          level = ap (λ s. s.level) same ∙ was.level;
          low = ap (λ s. s.low) same ∙ was.low;
          high = ap (λ s. s.high) same ∙ was.high;
        },
        fits bs all.1,
      )

  pub agreed : IsLawfulTree g live
  agreed = record {
    tree = record {
      root_low = ap (λ s. s.low) root_same ∙ lawful.tree.root_low;
      root_high = ap (λ s. s.high) root_same ∙ lawful.tree.root_high;
      height = (let same = ap (λ s. s.level) root_same in let h = lawful.tree.height in omega (arith, same, h));
      reached = λ n. ap (times n) same_nodes ∙ lawful.tree.reached n;
      ordered = λ n l. subst IsOrdered (sym (agree n l)) (lawful.tree.ordered n l);
      fitting = λ n l. subst (λ s. AllByRecursion (FitsParent g) (branches (s.level - 1) s)) (sym (agree n l))
          (fits (branches ((f n).level - 1) (f n)) (live_children f live n lawful.tree l));
    };
    filled = λ n l. subst (IsFilled n) (sym (agree n l)) (lawful.filled n l);
  }
