-- A local change of other contents that agree on its nodes, and one with more fresh nodes.
use Rattle.std.proofs.Common.{◌≡◌, ℕ, zero, suc, ◌-◌, ◌<◌, ◌≤◌, ◌↔◌, List, [], ◌∷◌, refl, ap, sym}
use Rattle.std.proofs.Common.{◌∙◌, subst, arith, Bool, false, cond, IsTrue, inl, inr}
use mathlib.Core.Path.{fun_ext}
use Rattle.std.specs.List.{AllByRecursion, Contains}
use Rattle.std.proofs.lemmas.Bool.{cases_Bool, or_left, or_right, or_cases, or_parts, or_from}
use Rattle.std.proofs.lemmas.Bool.{lt-ltb, both_ways}
use Rattle.std.specs.Prelude.{Option, Some, None}
use Rattle.reg_model.specs.declared.span.Member.{Member}
use Rattle.reg_model.specs.declared.answer.Update.{Update}
use Rattle.reg_model.specs.declared.answer.Update.TheVariants.{Register, Deregister, Replace}
use Rattle.reg_model.specs.declared.answer.Update.TheVariants.{Load, Unload}
use Rattle.tree_laws.specs.Numbers.{times, is_among}
use Rattle.tree_shape.specs.NodeData.{entries_of}
use Rattle.tree_laws.specs.Trees.{Contents, Branch, branches, within, leaving, HasEntry}
use Rattle.tree_laws.specs.Lawful.{IsTree, IsOrdered, IsFilled, FitsParent}
use Rattle.tree_laws.specs.LocalChange.{IsLocalChange, IsLawfulChange, IsSameChange, EntriesBecome}
use Rattle.tree_laws.specs.LocalChange.{either, reached_nodes}
use Rattle.tree_laws.proofs.Times.{In, all_from, all_times, in_times, times_flat_map_from}
use Rattle.tree_laws.proofs.Times.{flat_map_same}
use Rattle.tree_laws.proofs.Reach.{onward, outward, onward_from, same_cond, within_set, within_top}
use Rattle.tree_laws.proofs.Reach.{same_within}
use Rattle.tree_laws.proofs.Living.{own_branches, own_at, Sound, sound_below, child_level, goes_on}
use Rattle.tree_laws.proofs.Living.{leaves_from, child_live, live_within, sound_at}
use Rattle.tree_laws.proofs.Local.{sound_change}

-- entries of contents that agree on a set
entries_agree : (set : ℕ → Bool) (f g : Contents) (m : Member) →
    ((n : ℕ) → IsTrue (set n) → g n ≡ f n) →
    HasEntry f set m → HasEntry g set m
entries_agree set f g m agree (n, (inside, held)) =
    (n, (inside, subst (λ s. Contains (entries_of s) m) (sym (agree n inside)) held))

-- what becomes of entries, where others are the same before and after
pub become_same : (update : Option Update) (before after before' after' : Member → Type 0) →
    ((m : Member) → before' m ↔ before m) → ((m : Member) → after' m ↔ after m) →
    EntriesBecome update before after → EntriesBecome update before' after'
become_same None before after before' after' b a becomes =
    λ m. (λ h. (b m).1 ((becomes m).0 ((a m).0 h)), λ h. (a m).1 ((becomes m).1 ((b m).0 h)))
become_same (Some (Register added)) before after before' after' b a becomes = (
  λ h. becomes.0 ((b added).0 h),
  λ m. (
    λ h. elim ((becomes.1 m).0 ((a m).0 h)) [ inl old ↦ inl ((b m).1 old) | inr e ↦ inr e ],
    λ h. (a m).1 ((becomes.1 m).1 (elim h [ inl old ↦ inl ((b m).0 old) | inr e ↦ inr e ])),
  ),
)
become_same (Some (Deregister base)) before after before' after' b a becomes = (
  (becomes.0.0, ((b becomes.0.0).1 becomes.0.1.0, becomes.0.1.1)),
  λ m. (
    λ h. (let old = (becomes.1 m).0 ((a m).0 h) in ((b m).1 old.0, old.1)),
    λ h. (a m).1 ((becomes.1 m).1 ((b m).0 h.0, h.1)),
  ),
)
become_same (Some (Replace m)) before after before' after' b a becomes = (
  (becomes.0.0, ((b becomes.0.0).1 becomes.0.1.0, becomes.0.1.1)),
  λ x. (
    λ h. elim ((becomes.1 x).0 ((a x).0 h)) [
      | inl old ↦ inl ((b x).1 old.0, old.1)
      | inr e ↦ inr e
    ],
    λ h. (a x).1 ((becomes.1 x).1 (elim h [
      | inl old ↦ inl ((b x).0 old.0, old.1)
      | inr e ↦ inr e
    ])),
  ),
)
become_same (Some (Load m)) before after before' after' b a becomes = absurd becomes
become_same (Some (Unload base)) before after before' after' b a becomes = absurd becomes

module _ (top : ℕ) (group fresh : ℕ → Bool) (f : Contents) (live : ℕ → Bool) (g : Contents)
    (f' : Contents) (live' : ℕ → Bool) (g' : Contents)
    (change : IsLocalChange f live top group fresh g)
    (same : IsSameChange top group fresh f g f' live' g') where
  abbrev set : ℕ → Bool
  set = either group fresh

  abbrev reached : List ℕ
  reached = reached_nodes top group fresh g

  old_top : f' top ≡ f top
  old_top = same.before top change.top_grouped

  -- what the group reaches before
  old_ways : (within group f' (f' top).level top ≡ within group f (f top).level top)
      × (leaving group f' (f' top).level top ≡ leaving group f (f top).level top)
  old_ways =
      let agree : (x : ℕ) → 0 < times x (within group f (f top).level top) → f' x ≡ f x =
      λ x there. elim (within_set group f x (f top).level top there) [
        | inl e ↦ subst (λ y. f' y ≡ f y) (sym e) old_top
        | inr inside ↦ same.before x inside
      ] in
      let ways = same_within group f f' (f top).level top agree in (
        ap (λ s. within group f' s.level top) old_top ∙ ways.0,
        ap (λ s. leaving group f' s.level top) old_top ∙ ways.1,
      )

  new_agree : (x : ℕ) → 0 < times x reached → g' x ≡ g x
  new_agree x there = same.after x (lt-ltb 0 (times x reached) there)

  new_top : g' top ≡ g top
  new_top = new_agree top (within_top set g (g top).level top)

  -- what is reached after
  pub same_reached : reached_nodes top group fresh g' ≡ reached
  same_reached = ap (λ s. within set g' s.level top) new_top
      ∙ (same_within set g g' (g top).level top new_agree).0

  all_reached : (P : ℕ → Type 0) → ((x : ℕ) → 0 < times x reached → P x) →
      AllByRecursion P (reached_nodes top group fresh g')
  all_reached P each = subst (AllByRecursion P) (sym same_reached)
      (all_from P reached (λ x there. each x (in_times reached x there)))

  -- a branch to a touched node leads to one that is reached
  fits_now : (x : ℕ) → 0 < times x reached → (b : Branch) → In b (own_branches g x) →
      IsTrue (set b.child) → FitsParent g' b
  fits_now x there b own touched =
      let sound = sound_change f live top group fresh g change in
      let fits = sound.fitting x there b own touched in
      elim (goes_on set g (g top).level top sound refl x there b own) [
        | inl on ↦
            let agree = new_agree b.child on.1 in
            record {
              level = ap (λ s. s.level) agree ∙ fits.level;
              low = ap (λ s. s.low) agree ∙ fits.low;
              high = ap (λ s. s.high) agree ∙ fits.high;
            }
        | inr out ↦ absurd (both_ways (set b.child) out.0 touched)
      ]

  pub transfer_change : IsLocalChange f' live' top group fresh g'
  transfer_change = record {
    top_live = same.top_live;
    top_grouped = change.top_grouped;
    grouped = λ n inside. subst (λ l. 0 < times n l) (sym old_ways.0) (change.grouped n inside);
    fresh_free = same.fresh_free;
    others_stay = same.others_stay;
    low = ap (λ s. s.low) new_top ∙ change.low ∙ ap (λ s. s.low) (sym old_top);
    high = ap (λ s. s.high) new_top ∙ change.high ∙ ap (λ s. s.high) (sym old_top);
    level = λ other. ap (λ s. s.level) new_top ∙ change.level other
        ∙ ap (λ s. s.level) (sym old_top);
    height = λ root. subst (λ s. s.level ≤ 12) (sym new_top) (change.height root);
    ordered =
        all_reached (λ n. IsOrdered (g' n)) (λ x there. subst IsOrdered (sym (new_agree x there))
        (all_times (λ n. IsOrdered (g n)) reached x change.ordered there));
    reached_once = λ n. subst (λ l. times n l ≤ 1) (sym same_reached) (change.reached_once n);
    fitting =
        all_reached (λ n. AllByRecursion (λ b. IsTrue (set b.child) → FitsParent g' b)
        (own_branches g' n)) (λ x there.
        subst (λ s. AllByRecursion (λ b. IsTrue (set b.child) → FitsParent g' b)
        (branches (s.level - 1) s)) (sym (new_agree x there))
        (all_from (λ b. IsTrue (set b.child) → FitsParent g' b) (own_branches g x)
        (fits_now x there)));
    exits = ap (λ s. leaving set g' s.level top) new_top
        ∙ (same_within set g g' (g top).level top new_agree).1
        ∙ change.exits ∙ sym old_ways.1;
  }

  pub transfer_filled : AllByRecursion (λ n. IsFilled n (g n)) reached →
      AllByRecursion (λ n. IsFilled n (g' n)) (reached_nodes top group fresh g')
  transfer_filled filled =
      all_reached (λ n. IsFilled n (g' n)) (λ x there. subst (IsFilled x) (sym (new_agree x there))
      (all_times (λ n. IsFilled n (g n)) reached x filled there))

  pub transfer_entries : (update : Option Update) →
      EntriesBecome update (HasEntry f group) (HasEntry g (is_among reached)) →
      EntriesBecome update (HasEntry f' group)
      (HasEntry g' (is_among (reached_nodes top group fresh g')))
  transfer_entries update becomes =
      subst (λ l. EntriesBecome update (HasEntry f' group) (HasEntry g' (is_among l)))
      (sym same_reached)
      (become_same update (HasEntry f group) (HasEntry g (is_among reached)) (HasEntry f' group)
      (HasEntry g' (is_among reached))
      (λ m. (
        entries_agree group f' f m (λ n inside. sym (same.before n inside)),
        entries_agree group f f' m same.before,
      ))
      (λ m. (
        entries_agree (is_among reached) g' g m (λ n there. sym (same.after n there)),
        entries_agree (is_among reached) g g' m same.after,
      ))
      becomes)

pub transfer_lawful : (top : ℕ) (group fresh : ℕ → Bool) (f : Contents) (live : ℕ → Bool)
    (g : Contents) (f' : Contents) (live' : ℕ → Bool) (g' : Contents) (update : Option Update) →
    IsLawfulChange f live top group fresh g update → IsSameChange top group fresh f g f' live' g' →
    IsLawfulChange f' live' top group fresh g' update
transfer_lawful top group fresh f live g f' live' g' update lawful same = record {
  change = transfer_change top group fresh f live g f' live' g' lawful.change same;
  filled = transfer_filled top group fresh f live g f' live' g' lawful.change same lawful.filled;
  entries = transfer_entries top group fresh f live g f' live' g' lawful.change same update
      lawful.entries;
}

-- Two sets that agree on the children of what is reached inside one of them: the ways are the same.
same_sets : (set more : ℕ → Bool) (g : Contents) (level n : ℕ) → Sound set g level n →
    (g n).level ≡ level →
    ((x : ℕ) → 0 < times x (within set g level n) → (b : Branch) → In b (own_branches g x) →
    more b.child ≡ set b.child) →
    (within more g level n ≡ within set g level n) × (leaving more g level n ≡ leaving set g level
    n)
same_sets set more g zero n sound at agree = (refl, refl)
same_sets set more g (suc level) n sound at agree =
    let top : 0 < times n (within set g (suc level) n) = within_top set g (suc level) n in
    let e : (b : Branch) → In b (branches level (g n)) → more b.child ≡ set b.child =
    λ b there. agree n top b (subst (λ bs. In b bs) (sym (own_at g n level at)) there) in
    let below' : (b : Branch) → In b (branches level (g n)) → IsTrue (set b.child) →
    (within more g level b.child ≡ within set g level b.child) × (leaving more g level
    b.child ≡ leaving set g level b.child) =
    λ b there inside. same_sets set more g level b.child
    (sound_below set g level n b sound there inside)
    (child_level set g level n b sound at there inside)
    (λ x at'.
    let brought = onward_from set g x level b inside in
    let whole = times_flat_map_from (onward set g level) (branches level (g n)) b x there in
    agree x (omega arith)) in (
      ap (λ l. n ∷ l) (flat_map_same (onward more g level) (onward set g level)
          (branches level (g n)) (λ b there.
          ap (λ v. cond v (within more g level b.child) []) (e b there)
          ∙ same_cond (set b.child) (within more g level b.child) (within set g level b.child) []
          (λ inside. (below' b there inside).0))),
      flat_map_same (outward more g level) (outward set g level) (branches level (g n)) (λ b there.
          ap (λ v. cond v (leaving more g level b.child) (b ∷ [])) (e b there)
          ∙ same_cond (set b.child) (leaving more g level b.child) (leaving set g level b.child)
          (b ∷ []) (λ inside. (below' b there inside).1)),
    )

module _ (f : Contents) (live : ℕ → Bool) (top : ℕ) (group fresh more : ℕ → Bool) (g : Contents)
    (tree : IsTree f live)
    (change : IsLocalChange f live top group fresh g) (has : (n : ℕ) → IsTrue (fresh n) →
    IsTrue (more n))
    (free : (n : ℕ) → IsTrue (more n) → live n ≡ false) where
  -- a number that is in the larger set alone isn't live, and so no child of what is reached
  no_more : (x : ℕ) → 0 < times x (reached_nodes top group fresh g) → (b : Branch) →
      In b (own_branches g x) →
      either group more b.child ≡ either group fresh b.child
  no_more x there b own =
      elim (goes_on (either group fresh) g (g top).level top
      (sound_change f live top group fresh g change) refl x there b own) [
        | inl on ↦ elim (or_cases (group b.child) (fresh b.child) on.0) [
          | inl inside ↦ or_left (group b.child) (more b.child) inside ∙ sym on.0
          | inr new' ↦ or_right (group b.child) (more b.child) (has b.child new') ∙ sym on.0
        ]
        | inr out ↦
            let left : In b (leaving group f (f top).level top) =
            subst (λ bs. In b bs) change.exits out.1 in
            let from =
            leaves_from group f (f top).level top
            (sound_at f live tree group (f top).level top change.top_live refl) refl b left in
            let parent = live_within f live tree group (f top).level top change.top_live refl
            from.1.0 from.1.1.0 in
            let alive = child_live f live tree from.1.0 parent b from.1.1.1 in
            let parts = or_parts (group b.child) (fresh b.child) out.0 in
            elim (cases_Bool (more b.child)) [
              | inl new' ↦ absurd (both_ways (live b.child) (free b.child new') alive)
              | inr old ↦ or_from (group b.child) (more b.child) parts.0 old ∙ sym out.0
            ]
      ]

  ways : (within (either group more) g (g top).level top ≡ reached_nodes top group fresh g)
      × (leaving (either group more) g (g top).level top ≡ leaving (either group fresh) g
      (g top).level top)
  ways = same_sets (either group fresh) (either group more) g (g top).level top
      (sound_change f live top group fresh g change) refl no_more

  pub wider_reached : reached_nodes top group more g ≡ reached_nodes top group fresh g
  wider_reached = ways.0

  pub wider_change : IsLocalChange f live top group more g
  wider_change = record {
    top_live = change.top_live;
    top_grouped = change.top_grouped;
    grouped = change.grouped;
    fresh_free = free;
    others_stay = λ n outside.
        let parts = or_parts (group n) (more n) outside in
        change.others_stay n (elim (cases_Bool (fresh n)) [
          | inl new' ↦ absurd (both_ways (more n) parts.1 (has n new'))
          | inr old ↦ or_from (group n) (fresh n) parts.0 old
        ]);
    low = change.low;
    high = change.high;
    level = change.level;
    height = change.height;
    ordered = subst (AllByRecursion (λ n. IsOrdered (g n))) (sym ways.0) change.ordered;
    reached_once = λ n. subst (λ l. times n l ≤ 1) (sym ways.0) (change.reached_once n);
    fitting =
        subst (AllByRecursion (λ n. AllByRecursion (λ b. IsTrue (either group more b.child) →
        FitsParent g b) (own_branches g n))) (sym ways.0)
        (all_from (λ n. AllByRecursion (λ b. IsTrue (either group more b.child) → FitsParent g b)
        (own_branches g n)) (reached_nodes top group fresh g) (λ x there.
        let at = in_times (reached_nodes top group fresh g) x there in
        let sound = sound_change f live top group fresh g change in
        all_from (λ b. IsTrue (either group more b.child) → FitsParent g b) (own_branches g x)
        (λ b own touched. sound.fitting x at b own (sym (no_more x at b own) ∙ touched))));
    exits = ways.1 ∙ change.exits;
  }

pub wider_lawful : (f : Contents) (live : ℕ → Bool) (top : ℕ) (group fresh more : ℕ → Bool)
    (g : Contents) (update : Option Update) → IsTree f live →
    IsLawfulChange f live top group fresh g update →
    ((n : ℕ) → IsTrue (fresh n) → IsTrue (more n)) →
    ((n : ℕ) → IsTrue (more n) → live n ≡ false) →
    IsLawfulChange f live top group more g update
wider_lawful f live top group fresh more g update tree lawful has free =
    let same = wider_reached f live top group fresh more g tree lawful.change has free in
    record {
      change = wider_change f live top group fresh more g tree lawful.change has free;
      filled = subst (AllByRecursion (λ n. IsFilled n (g n))) (sym same) lawful.filled;
      entries = subst (λ l. EntriesBecome update (HasEntry f group) (HasEntry g (is_among l)))
          (sym same) lawful.entries;
    }

-- the same tests, point by point
pub same_tests : (f : Contents) (live : ℕ → Bool) (top : ℕ) (group fresh group' fresh' : ℕ → Bool)
    (g : Contents) (update : Option Update) →
    ((n : ℕ) → group n ≡ group' n) → ((n : ℕ) → fresh n ≡ fresh' n) →
    IsLawfulChange f live top group fresh g update →
    IsLawfulChange f live top group' fresh' g update
same_tests f live top group fresh group' fresh' g update e e' lawful =
    subst (λ a. IsLawfulChange f live top a fresh' g update) (fun_ext e)
    (subst (λ a. IsLawfulChange f live top group a g update) (fun_ext e') lawful)
