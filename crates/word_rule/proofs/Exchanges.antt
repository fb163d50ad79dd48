-- What the test of an exchange tells.
use Rattle.std.proofs.Common.{◌≡◌, ℕ, ◌≤◌, List, [], ◌∷◌, length, map, sym, refl, ap, ◌∙◌, subst, Bool, true, false, cond, not, ◌&&◌, ◌||◌, IsTrue, is_some, IsSome, Option, None, Some, inl, inr}
use Rattle.std.specs.Bool.{Decides}
use Rattle.std.specs.List.{AllByRecursion, filter}
use Rattle.std.proofs.lemmas.Bool.{cond-false, le-leb, leb-true}
use Rattle.std.proofs.lemmas.Bool.Decides.{Decides-and, Decides-like}
use Rattle.reg_model.specs.declared.answer.Update.{Update}
use Rattle.tree_shape.specs.NodeData.{NodeData}
use Rattle.tree_laws.specs.Numbers.{is_among}
use Rattle.tree_laws.specs.Trees.{Contents}
use Rattle.tree_laws.specs.LocalChange.{IsLawfulChange, either}
use Rattle.tree_laws.specs.Decisions.{is_lawful_change}
use Rattle.tree_laws.proofs.Times.{In, all_at, all_from, in_times}
use Rattle.tree_laws.proofs.Halves.{among}
use Rattle.tree_laws.proofs.Deciding.{implies_decides, all_decides, listed_decides, same_shape_decides}
use Rattle.word_rule.specs.declared.log.Log.{Log}
use Rattle.word_rule.specs.declared.log.Holding.{Holding}
use Rattle.word_rule.specs.Spelling.{spelled, SpellsNode}
use Rattle.word_rule.specs.Held.{settled_in, now_in, marked_in}
use Rattle.word_rule.specs.Exchange.{is_fresh, exchanged_in, is_reached, node_of, out_after, are_spelled, is_updated, is_changed, changed_of, group_of, top_of, each_with, is_lawful, IsLawfulExchange}

-- the law of tree_shape on the test of a lawful change
abbrev pub DecidedLaw : Type 0
DecidedLaw = (f : Contents) (live : ℕ → Bool) (top : ℕ) (group : List ℕ) (fresh : ℕ → Bool) (fresh_nodes : List ℕ) (g : Contents) (update : Option Update)
    → ((n : ℕ) → either (is_among group) fresh n ≡ false → g n ≡ f n) → ((n : ℕ) → IsTrue (fresh n) → IsTrue (is_among fresh_nodes n))
    → Decides (is_lawful_change f live top group fresh fresh_nodes g update) (IsLawfulChange f live top (is_among group) fresh g update)

some_decides : {X : Type 0} (o : Option X) → Decides (is_some o) (IsSome o)
some_decides o = (λ e. e, λ e. e)

pub spelled_decides : (o : Option NodeData) (s : NodeData) → Decides (are_spelled o s) (o ≡ Some s)
spelled_decides None s = (λ e. absurd (cc (e)), λ e. absurd (cc (e)))
spelled_decides (Some t) s = (λ e. ap Some ((same_shape_decides t s).0 e), λ e. (same_shape_decides t s).1 (cc (e)))

with_decides : (some more : Holding → Bool) (P : Holding → Type 0) → ((h : Holding) → Decides (more h) (P h)) → (held : List Holding) →
    Decides (each_with some more held) (AllByRecursion (λ h. IsTrue (some h) → P h) held)
with_decides some more P each held = all_decides (λ h. not (some h) || more h) (λ h. IsTrue (some h) → P h)
    (λ h. implies_decides (some h) (more h) (P h) (each h)) held

-- a test for two and its parts, where the second is that another test fails
both_parts : (a b : Bool) → IsTrue (a && b) → IsTrue a × IsTrue b
both_parts true b e = (refl, e)
both_parts false b e = absurd (cc (e))

both_from : (a b : Bool) → IsTrue a → IsTrue b → IsTrue (a && b)
both_from true b e h = h
both_from false b e h = absurd (cc (e))

not_parts : (b : Bool) → IsTrue (not b) → b ≡ false
not_parts true e = absurd (cc (e))
not_parts false e = refl

not_from : (b : Bool) → b ≡ false → IsTrue (not b)
not_from true e = absurd (cc (e))
not_from false e = refl

-- a held live node that isn't in the group spells its settled content
pub filtered : (test : Holding → Bool) (held : List Holding) (h : Holding) → In h held → test h ≡ true → In h (filter test held)
filtered test [] h there passes = absurd there
filtered test (x ∷ held) h there passes = elim there [
  | inl e ↦ subst (λ l. In h l) (sym (ap (λ v. cond v (x ∷ filter test held) (filter test held)) (ap test e ∙ passes))) (inl e)
  | inr later ↦ elim (test x) as (λ v. In h (cond v (x ∷ filter test held) (filter test held))) [
    | true ↦ inr (filtered test held h later passes)
    | false ↦ filtered test held h later passes
  ]
]

pub mapped : (held : List Holding) (h : Holding) → In h held → In h.node (map node_of held)
mapped [] h there = absurd there
mapped (x ∷ held) h there = elim there [ inl e ↦ inl (ap node_of e) | inr later ↦ inr (mapped held h later) ]

covered : (v : Log) (update : Option Update) (h : Holding) → In h v.holdings.held → IsSome h.mark → is_among (group_of v update) h.node ≡ false → SpellsNode h.words h.settled
covered v update h there marked outside = by_test (are_spelled (spelled h.words) h.settled) refl
  where
    by_test : (b : Bool) → are_spelled (spelled h.words) h.settled ≡ b → SpellsNode h.words h.settled
    by_test true is = (spelled_decides (spelled h.words) h.settled).0 is
    by_test false is =
        let changed : is_changed update h ≡ true = both_from (is_some h.mark) (not (are_spelled (spelled h.words) h.settled) || is_updated update h)
        ((some_decides h.mark).1 marked) (ap (λ b. not b || is_updated update h) is) in
        let inside = among (group_of v update) h.node (in_times (group_of v update) h.node (mapped (changed_of v update) h (filtered (is_changed update) v.holdings.held h there changed))) in
        absurd (cc (inside, outside))

module _ (law : DecidedLaw) (v : Log) (update : Option Update) where
  abbrev held : List Holding
  held = v.holdings.held

  abbrev top : ℕ
  top = top_of v update

  abbrev nodes : List ℕ
  nodes = group_of v update

  abbrev group : ℕ → Bool
  group = is_among nodes

  abbrev fresh : ℕ → Bool
  fresh = is_fresh held v.holdings.out

  abbrev reached : ℕ → Bool
  reached = is_reached v top group

  change_decides : Decides (is_lawful_change (settled_in held) (marked_in held) top nodes fresh v.holdings.out (exchanged_in v group) update)
      (IsLawfulChange (settled_in held) (marked_in held) top group fresh (exchanged_in v group) update)
  change_decides = law (settled_in held) (marked_in held) top nodes fresh v.holdings.out (exchanged_in v group) update
      (λ n outside. cond-false (either group fresh n) (now_in held n) (settled_in held n) outside)
      (λ n new'. (both_parts (is_some _) (is_among v.holdings.out n) new').1)

  abbrev Parts : Type 0
  Parts = AllByRecursion (λ h. IsTrue (group h.node || reached h.node) → IsSome (spelled h.words)) held
      × (((n : ℕ) → IsTrue (group n) → IsTrue (marked_in held n))
      × (IsLawfulChange (settled_in held) (marked_in held) top group fresh (exchanged_in v group) update
      × (AllByRecursion (λ h. IsTrue (group h.node && not (reached h.node)) → IsTrue h.stored) held
      × (AllByRecursion (λ h. IsTrue (fresh h.node && reached h.node) → IsTrue h.stored) held
      × (length (out_after v top group) ≤ 4)))))

  to : Parts → IsLawfulExchange v update top group
  to p = record {
    spell = p.0;
    grouped = p.1.0;
    covers = all_from (λ h. IsSome h.mark → group h.node ≡ false → SpellsNode h.words h.settled) held (covered v update);
    change = p.1.1.0;
    leaves = all_from (λ h. IsTrue (group h.node) → reached h.node ≡ false → h.stored ≡ true) held (λ h there inside outside.
        all_at (λ h. IsTrue (group h.node && not (reached h.node)) → IsTrue h.stored) held h p.1.1.1.0 there
        (both_from (group h.node) (not (reached h.node)) inside (not_from (reached h.node) outside)));
    enters = all_from (λ h. IsTrue (fresh h.node) → IsTrue (reached h.node) → h.stored ≡ true) held (λ h there new' on.
        all_at (λ h. IsTrue (fresh h.node && reached h.node) → IsTrue h.stored) held h p.1.1.1.1.0 there
        (both_from (fresh h.node) (reached h.node) new' on));
    room = p.1.1.1.1.1;
  }

  from : IsLawfulExchange v update top group → Parts
  from e = (
    e.spell,
    (
      e.grouped,
      (
        e.change,
        (
          all_from (λ h. IsTrue (group h.node && not (reached h.node)) → IsTrue h.stored) held (λ h there both.
              let parts = both_parts (group h.node) (not (reached h.node)) both in
              all_at (λ h. IsTrue (group h.node) → reached h.node ≡ false → h.stored ≡ true) held h e.leaves there parts.0 (not_parts (reached h.node) parts.1)),
          (
            all_from (λ h. IsTrue (fresh h.node && reached h.node) → IsTrue h.stored) held (λ h there both.
                let parts = both_parts (fresh h.node) (reached h.node) both in
                all_at (λ h. IsTrue (fresh h.node) → IsTrue (reached h.node) → h.stored ≡ true) held h e.enters there parts.0 parts.1),
            e.room,
          ),
        ),
      ),
    ),
  )

  -- The test is true exactly where the premises of an exchange hold, of this top and this group.
  pub exchange_decides : Decides (is_lawful v update) (IsLawfulExchange v update (top_of v update) (is_among (group_of v update)))
  exchange_decides = Decides-like (is_lawful v update) to from
      (Decides-and _ _ (with_decides (λ h. group h.node || reached h.node) (λ h. is_some (spelled h.words)) (λ h. IsSome (spelled h.words)) (λ h. some_decides (spelled h.words)) held)
      (Decides-and _ _ (listed_decides (marked_in held) (λ n. IsTrue (marked_in held n)) (λ n. (λ e. e, λ e. e)) nodes)
      (Decides-and _ _ change_decides
      (Decides-and _ _ (with_decides (λ h. group h.node && not (reached h.node)) (λ h. h.stored) (λ h. IsTrue h.stored) (λ h. (λ e. e, λ e. e)) held)
      (Decides-and _ _ (with_decides (λ h. fresh h.node && reached h.node) (λ h. h.stored) (λ h. IsTrue h.stored) (λ h. (λ e. e, λ e. e)) held)
      (leb-true (length (out_after v top group)) 4, le-leb (length (out_after v top group)) 4))))))
