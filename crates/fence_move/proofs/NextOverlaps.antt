-- The lowest member that overlaps, where it stands in the next leaf; and what is known where none does.
use Rattle.std.proofs.Common.{◌≡◌, ℕ, ◌<◌, ◌≤◌, refl, arith, Bool, true, false, ◌&&◌, nat_le, IsTrue, le-leb, ◌≢◌, ◌+◌, ◌%◌, max, List, [], ◌∷◌, ◌++◌, length, sym, ap, ◌∙◌, subst, inl, inr, append-nil}
use Rattle.std.proofs.lemmas.Bool.{leb-true, leb-false}
use Rattle.std.proofs.lemmas.List.Elements.{All-from_recursion, recursion_from_All}
use Rattle.std.specs.List.{AllByRecursion}
use Rattle.reg_model.specs.SpanData.{Overlaps}
use Rattle.reg_model.specs.declared.span.Member.{Member}
use Rattle.reg_model.specs.State.{IsFree, IsLowestOverlap}
use Rattle.tree_shape.specs.declared.node.NodeBounds.{NodeBounds}
use Rattle.tree_laws.specs.Lawful.{IsFilledAs, IsOrderedAs}
use Rattle.tree_shape.specs.NodeData.{NodeData, Body, Pairs, Entries, Link, EntriesWithin, IsInFences, IsLeaf, InOrder, entries_of, entries_in}
use Rattle.tree_laws.specs.Steps.{LiesAbove}
use Rattle.tree_laws.proofs.Halves.{fewest_below}
use Rattle.tree_laws.proofs.Leads.{contains_in, in_contains, entry_inside, entry_ordered}
use Rattle.tree_laws.proofs.Times.{In, in_right}
use Rattle.word_rule.specs.CallerData.{CallerData}
use Rattle.word_rule.specs.Clock.{AfterClock}
use Rattle.word_rule.specs.Held.{is_marked, settled_in, settled_shape}
use Rattle.word_rule.specs.NodeTells.{IsLiveNode}
use Rattle.word_rule.specs.TreeRefusals.{AppendsRefusal, HoldsLeaves, IsInOne, ShowsOverlap, entries_in_leaves}
use Rattle.word_rule.specs.declared.log.Terms.{Terms}
use Rattle.word_rule.proofs.Each.{all_append, all_map}
use Rattle.tree_descent.specs.Insertion.{RefusesMember}
use Rattle.tree_descent.proofs.Descending.{in_order}
use Rattle.tree_descent.proofs.Putting.{leaf_at_zero}
use Rattle.tree_descent.proofs.Refusing.{refused_overlap}
use Rattle.fence_move.specs.Spines.{HoldsLeafPair}
use Rattle.reg_model.specs.declared.answer.Inserted.TheVariants as inserted
use Rattle.reg_model.specs.declared.answer.Update.TheVariants as update
use Rattle.tree_laws.proofs.Leads as leads
use Rattle.word_rule.specs.declared.log.Ask.TheVariants as ask

-- an entry that doesn't overlap, and begins above the first address, begins above the last one
begins_above : (e : Member) (first last : ℕ) → e.span.first ≤ e.span.last → first ≤ e.span.first → ¬ Overlaps e.span record { first = first; last = last } → last < e.span.first
begins_above e first last order above free = go (nat_le e.span.first last) refl
  where
    both : (a b c d : ℕ) → a ≤ b → c ≤ d → IsTrue (nat_le a b && nat_le c d)
    both a b c d h i = rw (le-leb a b h, le-leb c d i) refl

    go : (v : Bool) → nat_le e.span.first last ≡ v → last < e.span.first
    go true is = absurd (free (e.span.first, (both e.span.first e.span.first e.span.first e.span.last (omega arith) order, both first e.span.first e.span.first last above (leb-true e.span.first last is))))
    go false is = leb-false e.span.first last is

module _ (t : Terms) (n : ℕ) (s : NodeData) (r : ℕ) (u : NodeData) (m : Member) (k : CallerData) (pair : HoldsLeafPair n s r u k.log.holdings) (live : (place : NodeBounds) × IsLiveNode t r u place) (here : IsInFences m.span.first s) where
  settled_left : settled_in k.log.holdings.held n ≡ s
  settled_left = ap settled_shape pair.found_left ∙ pair.left_is

  settled_right : settled_in k.log.holdings.held r ≡ u
  settled_right = ap settled_shape pair.found_right ∙ pair.right_is

  within : EntriesWithin u.low u.high (entries_of u)
  within = leads.leaf_at_zero u u.body live.1.ordered pair.right_level

  pub right_leaf : IsLeaf u
  right_leaf = leaf_at_zero u live.1.ordered pair.right_level

  pub right_order : InOrder u
  right_order = in_order r u live.1.ordered live.1.filled

  -- the addresses up to one in the next leaf lie in both
  pub in_one : (last : ℕ) → last ≤ u.high → (pc : ℕ) → m.span.first ≤ pc → pc ≤ last → IsInOne (settled_in k.log.holdings.held) (n ∷ r ∷ []) pc
  in_one last most pc low high = go (nat_le pc s.high) refl
    where
      go : (v : Bool) → nat_le pc s.high ≡ v → IsInOne (settled_in k.log.holdings.held) (n ∷ r ∷ []) pc
      go true is = inl (subst (IsInFences pc) (sym settled_left) ((let a = here.0 in omega (arith, a, low)), leb-true pc s.high is))
      go false is = inr (inl (subst (IsInFences pc) (sym settled_right) ((let a = pair.beside in let b = leb-false pc s.high is in omega (arith, a, b)), omega (arith, most, high))))

  pub both_leaves : (last : ℕ) → last ≤ u.high → HoldsLeaves k.log.holdings.held (n ∷ r ∷ []) m.span.first last
  both_leaves last most = record {
    live = (
      (ap is_marked pair.found_left ∙ pair.left_marked, ap (λ (z : NodeData). z.level) settled_left ∙ pair.left_level),
      ((ap is_marked pair.found_right ∙ pair.right_marked, ap (λ (z : NodeData). z.level) settled_right ∙ pair.right_level), tt),
    );
    contain = in_one last most;
  }

  both_entries : entries_in_leaves (settled_in k.log.holdings.held) (n ∷ r ∷ []) ≡ entries_of s ++ entries_of u
  both_entries = (λ i. entries_of (settled_left i) ++ append-nil (entries_of (settled_right i)) i)

  -- none of either overlaps: what a Full wants
  pub both_free : IsFree m.span (entries_of s) → IsFree m.span (entries_of u) → IsFree m.span (entries_in_leaves (settled_in k.log.holdings.held) (n ∷ r ∷ []))
  both_free left right = subst (IsFree m.span) (sym both_entries)
      (All-from_recursion (λ (x : Member). ¬ Overlaps x.span m.span) (entries_of s ++ entries_of u) (all_append (λ (x : Member). ¬ Overlaps x.span m.span) (entries_of s) (entries_of u)
      (recursion_from_All (λ (x : Member). ¬ Overlaps x.span m.span) (entries_of s) left) (recursion_from_All (λ (x : Member). ¬ Overlaps x.span m.span) (entries_of u) right)))

  above_all : (es : List Member) (low : ℕ) → m.span.first ≤ low → EntriesWithin low u.high es → AllByRecursion (λ (x : Member). ¬ Overlaps x.span m.span) es → AllByRecursion (λ (x : Member). m.span.last < x.span.first) es
  above_all [] low least inside free = tt
  above_all (e ∷ es) low least inside free = (
    begins_above e m.span.first m.span.last inside.0.1 (let a = inside.0.0 in omega (arith, a, least)) free.0,
    above_all es (e.span.last + 1) (let a = inside.0.0 in let b = inside.0.1 in omega (arith, a, b, least)) (inside.0.2, inside.1.1) free.1,
  )

  pub lies_above : r ≢ 0 → IsFree m.span (entries_of u) → LiesAbove m.span.last u.body × (m.span.last < u.high)
  lies_above never free = go u.body live.1.ordered live.1.filled (recursion_from_All (λ (x : Member). ¬ Overlaps x.span m.span) (entries_of u) free)
    where
      least : m.span.first ≤ u.low
      least = (let a = here.1 in let b = pair.beside in omega (arith, a, b))

      below_high : (es : List Member) → 4 ≤ length es → EntriesWithin u.low u.high es → AllByRecursion (λ (x : Member). m.span.last < x.span.first) es → m.span.last < u.high
      below_high [] few inside all = absurd (omega (arith, few))
      below_high (e ∷ es) few inside all = (let a = all.0 in let b = inside.0.1 in let c = inside.1.0 in omega (arith, a, b, c))

      go : (body : Body) → IsOrderedAs u body → IsFilledAs r body → AllByRecursion (λ (x : Member). ¬ Overlaps x.span m.span) (entries_in body) → LiesAbove m.span.last body × (m.span.last < u.high)
      go (Pairs pairs) ordered filled none = absurd (let z = ordered.0 in let y = pair.right_level in omega (arith, z, y))
      go (Entries es) ordered filled none =
          let all = above_all es u.low least ordered.1 none in
          (all, below_high es (let a = filled.0 in let b = (fewest_below r never).0 in omega (arith, a, b)) ordered.1 all)
      go (Link next) ordered filled none = absurd ordered

  module _ (free : IsFree m.span (entries_of s)) (other : Member) (lowest : IsLowestOverlap m.span (entries_of u) other) where
    there : In other (entries_of u)
    there = contains_in (entries_of u) other lowest.listed

    inside : (u.low ≤ other.span.first) × (other.span.last ≤ u.high)
    inside = entry_inside u.low u.high (entries_of u) other within there

    order : other.span.first ≤ other.span.last
    order = entry_ordered u.low u.high (entries_of u) other within there

    lowest_both : IsLowestOverlap m.span (entries_of s ++ entries_of u) other
    lowest_both = record {
      listed = in_contains (entries_of s ++ entries_of u) other (in_right (entries_of s) (entries_of u) other there);
      overlaps = lowest.overlaps;
      lowest = All-from_recursion P (entries_of s ++ entries_of u) (all_append P (entries_of s) (entries_of u)
          (all_map (λ (x : Member). ¬ Overlaps x.span m.span) P (λ x never over. absurd (never over)) (entries_of s) (recursion_from_All (λ (x : Member). ¬ Overlaps x.span m.span) (entries_of s) free))
          (recursion_from_All P (entries_of u) lowest.lowest));
    }
      where
        P : Member → Type 0
        P x = Overlaps x.span m.span → other.span.first ≤ x.span.first

    pub shows_next : ShowsOverlap m other k.log
    shows_next = record {
      leaves = n ∷ r ∷ [];
      held = both_leaves (max m.span.first other.span.first) (let a = here.1 in let b = pair.beside in let c = inside.0 in let d = inside.1 in let e = order in omega (arith, a, b, c, d, e));
      lowest = subst (λ xs. IsLowestOverlap m.span xs other) (sym both_entries) lowest_both;
    }

    pub refused_next_so : (k' : CallerData) (clock : ℕ) → AfterClock t (ask.Refused (update.Register m)) clock k.log k'.log → AppendsRefusal (ask.Refused (update.Register m)) clock k.log k'.log → k' ≡ record k { log = k'.log } → RefusesMember t m (inserted.Overlap other (clock % 4294967296)) k k'
    refused_next_so k' clock = refused_overlap t m k k' clock other shows_next
