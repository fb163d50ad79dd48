-- What a lawful change makes of the entries of the whole tree.
use Rattle.std.proofs.Common.{◌≡◌, ℕ, ◌⊎◌, ◌↔◌, refl, ap, sym, ◌∙◌, subst, Bool, false, IsTrue}
use Rattle.std.proofs.Common.{inl, inr}
use Rattle.std.specs.Prelude.{Option, Some, None}
use Rattle.std.specs.List.{Contains}
use Rattle.std.proofs.lemmas.Bool.{cases_Bool, cond-true, cond-false, or_left, or_from, ltb-true}
use Rattle.std.proofs.lemmas.Bool.{both_ways}
use Rattle.reg_model.specs.SpanData.{SpanData}
use Rattle.reg_model.specs.declared.span.Member.{Member}
use Rattle.reg_model.specs.declared.answer.Update.{Update}
use Rattle.reg_model.specs.declared.answer.Update.TheVariants.{Register, Deregister, Replace}
use Rattle.reg_model.specs.declared.answer.Update.TheVariants.{Load, Unload}
use Rattle.tree_laws.specs.Numbers.{times, is_among}
use Rattle.tree_shape.specs.NodeData.{entries_of}
use Rattle.tree_laws.specs.Trees.{Contents, HasEntry}
use Rattle.tree_laws.specs.Lawful.{IsTree}
use Rattle.tree_laws.specs.LocalChange.{IsLocalChange, EntriesBecome, either, live_after}
use Rattle.tree_laws.specs.LocalChange.{reached_nodes}
use Rattle.tree_laws.proofs.Reach.{within_set}
use Rattle.tree_laws.proofs.Living.{live_within}
use Rattle.tree_laws.proofs.Leads.{contains_in, one_leaf}
use Rattle.tree_laws.proofs.Local.{tree_after, entries_after}
use Rattle.tree_laws.proofs.Wholes.{one_at}

module _ (f : Contents) (live : ℕ → Bool) (top : ℕ) (group fresh : ℕ → Bool) (g : Contents)
    (tree : IsTree f live)
    (change : IsLocalChange f live top group fresh g) where
  abbrev after : ℕ → Bool
  after = live_after live top group fresh g

  abbrev reached : ℕ → Bool
  reached = is_among (reached_nodes top group fresh g)

  parts : (m : Member) → HasEntry g after m ↔
      ((HasEntry f live m × ¬ HasEntry f group m) ⊎ HasEntry g reached m)
  parts = entries_after f live top group fresh g tree change

  group_live : (x : ℕ) → IsTrue (group x) → IsTrue (live x)
  group_live x inside = live_within f live tree group (f top).level top change.top_live refl x
      (change.grouped x inside)

  of_group : (m : Member) → HasEntry f group m → HasEntry f live m
  of_group m (x, (inside, held)) = (x, (group_live x inside, held))

  group_or_not : (m : Member) → HasEntry f live m → HasEntry f group m ⊎ (¬ HasEntry f group m)
  group_or_not m (x, (alive, held)) = elim (cases_Bool (group x)) [
    | inl inside ↦ inl (x, (inside, held))
    | inr outside ↦ inr (λ other.
        let same = one_leaf f live tree x other.0 alive (group_live other.0 other.1.0) m
        (contains_in (entries_of (f x)) m held) (contains_in (entries_of (f other.0)) m other.1.1)
        in
        both_ways (group x) outside (subst (λ y. IsTrue (group y)) (sym same) other.1.0))
  ]

  -- an entry that comes isn't one that stays
  none_stays : (m : Member) → HasEntry g reached m → HasEntry f live m → (¬ HasEntry f group m) → ⊥
  none_stays m new' (x, (alive, held)) none =
      let outside : group x ≡ false = elim (cases_Bool (group x)) [
        | inl inside ↦ absurd (none (x, (inside, held)))
        | inr outside ↦ outside
      ] in
      let not_fresh : fresh x ≡ false = elim (cases_Bool (fresh x)) [
        | inl is_fresh ↦ absurd (both_ways (live x) (change.fresh_free x is_fresh) alive)
        | inr old ↦ old
      ] in
      let untouched = or_from (group x) (fresh x) outside not_fresh in
      let alive' : IsTrue (after x) = cond-false (either group fresh x) (reached x) (live x)
      untouched ∙ alive in
      let held' : Contains (entries_of (g x)) m =
      subst (λ s. Contains (entries_of s) m) (sym (change.others_stay x untouched)) held in
      let now = (parts m).1 (inr new') in
      let same = one_leaf g after (tree_after f live top group fresh g tree change) x new'.0 alive'
      (new_live new'.0 new'.1.0) m
      (contains_in (entries_of (g x)) m held') (contains_in (entries_of (g new'.0)) m new'.1.1) in
      both_ways (either group fresh x) untouched
      (subst (λ y. IsTrue (either group fresh y)) (sym same) (touched new'.0 new'.1.0))
    where
      touched : (y : ℕ) → IsTrue (reached y) → IsTrue (either group fresh y)
      touched y there =
          elim (within_set (either group fresh) g y (g top).level top
          (ltb-true 0 (times y (reached_nodes top group fresh g)) there)) [
            | inl e ↦ subst (λ z. IsTrue (either group fresh z)) (sym e)
                (or_left (group top) (fresh top) change.top_grouped)
            | inr inside ↦ inside
          ]

      new_live : (y : ℕ) → IsTrue (reached y) → IsTrue (after y)
      new_live y there = cond-true (either group fresh y) (reached y) (live y) (touched y there)
          ∙ there

  pub tree_becomes : (update : Option Update) →
      EntriesBecome update (HasEntry f group) (HasEntry g reached) →
      EntriesBecome update (HasEntry f live) (HasEntry g after)
  tree_becomes None becomes = λ m. (
    λ h. elim ((parts m).0 h) [ inl kept ↦ kept.0 | inr new' ↦ of_group m ((becomes m).0 new') ],
    λ h. elim (group_or_not m h) [
      | inl inside ↦ (parts m).1 (inr ((becomes m).1 inside))
      | inr none
          ↦ (parts m).1 (inl (h, none))
    ],
  )
  tree_becomes (Some (Register added)) becomes = (
    λ h. elim (group_or_not added h) [
      | inl inside ↦ becomes.0 inside
      | inr none ↦ none_stays added ((becomes.1 added).1 (inr refl)) h none
    ],
    λ m. (
      λ h. elim ((parts m).0 h) [
        | inl kept ↦ inl kept.0
        | inr new' ↦ elim ((becomes.1 m).0 new') [ inl old ↦ inl (of_group m old) | inr e ↦ inr e ]
      ],
      λ h. elim h [
        | inl old ↦ elim (group_or_not m old) [
          | inl inside ↦ (parts m).1 (inr ((becomes.1 m).1 (inl inside)))
          | inr none ↦ (parts m).1 (inl (old, none))
        ]
        | inr e ↦ (parts m).1 (inr ((becomes.1 m).1 (inr e)))
      ],
    ),
  )
  tree_becomes (Some (Deregister base)) becomes =
      let taken = becomes.0 in (
        (taken.0, (of_group taken.0 taken.1.0, taken.1.1)),
        λ m. (
          λ h. elim ((parts m).0 h) [
            | inl kept ↦ (
              kept.0,
              λ e. kept.1 (subst (HasEntry f group)
                  (sym (one_at f live tree m taken.0 kept.0 (of_group taken.0 taken.1.0) (e
                  ∙ sym taken.1.1))) taken.1.0),
            )
            | inr new' ↦ let old = (becomes.1 m).0 new' in (of_group m old.0, old.1)
          ],
          λ h. elim (group_or_not m h.0) [
            | inl inside ↦ (parts m).1 (inr ((becomes.1 m).1 (inside, h.1)))
            | inr none ↦ (parts m).1 (inl (h.0, none))
          ],
        ),
      )
  tree_becomes (Some (Replace m)) becomes =
      let taken = becomes.0 in (
        (taken.0, (of_group taken.0 taken.1.0, taken.1.1)),
        λ x. (
          λ h. elim ((parts x).0 h) [
            | inl kept ↦ inl (
              kept.0,
              λ e. kept.1 (subst (HasEntry f group)
                  (sym (one_at f live tree x taken.0 kept.0 (of_group taken.0 taken.1.0)
                  (ap (λ (s : SpanData). s.first) (e ∙ sym taken.1.1)))) taken.1.0),
            )
            | inr new' ↦ elim ((becomes.1 x).0 new') [
              | inl old ↦ inl (of_group x old.0, old.1)
              | inr e ↦ inr e
            ]
          ],
          λ h. elim h [
            | inl old ↦ elim (group_or_not x old.0) [
              | inl inside ↦ (parts x).1 (inr ((becomes.1 x).1 (inl (inside, old.1))))
              | inr none ↦ (parts x).1 (inl (old.0, none))
            ]
            | inr e ↦ (parts x).1 (inr ((becomes.1 x).1 (inr e)))
          ],
        ),
      )
  tree_becomes (Some (Load m)) becomes = absurd becomes
  tree_becomes (Some (Unload base)) becomes = absurd becomes
