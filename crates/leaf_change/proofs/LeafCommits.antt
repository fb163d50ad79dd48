-- The commit of an update that changes one held leaf is lawful, where all else that is held stays.
use Rattle.std.proofs.Common.{◌≡◌, ℕ, Bool, Option, refl, true, false, ◌||◌, [], ◌∷◌, eq-eqb, ◌≢◌, ne_eqb, List, map, ap, ◌∙◌, cond, ◌≤◌, length, sym, subst, arith, ◌&&◌, not, IsTrue, true≢false, Some, None, IsSome, is_some, if◌then◌else◌}
use Rattle.std.specs.Bool.{Decides}
use Rattle.std.specs.List.{AllByRecursion, filter}
use Rattle.std.proofs.Math.Bool.{and-false}
use Rattle.reg_model.specs.declared.answer.Update.{Update}
use Rattle.tree_laws.specs.Numbers.{is_among}
use Rattle.tree_laws.specs.Trees.{Contents, within}
use Rattle.tree_laws.specs.LocalChange.{IsLawfulChange, IsSameChange, either, reached_nodes}
use Rattle.tree_laws.specs.Decisions.{is_entries}
use Rattle.tree_shape.specs.NodeData.{NodeData, frame_of}
use Rattle.tree_laws.proofs.Halves.{only}
use Rattle.word_rule.specs.declared.log.Log.{Log}
use Rattle.word_rule.specs.Exchange.{IsLawfulExchange, group_of, is_lawful, top_of, node_of, address_of, after_exchange, are_spelled, changed_of, exchange, exchanged_in, highest_of, is_changed, is_fresh, is_leaf_at, is_reached, out_after, reached_in, settle, settle_free}
use Rattle.word_rule.specs.declared.log.Holding.{Holding}
use Rattle.word_rule.specs.Spelling.{SpellsNode, spelled}
use Rattle.word_rule.specs.declared.log.Holdings.{Holdings}
use Rattle.word_rule.specs.Held.{held_of, settled_in, now_of, marked_in}
use Rattle.word_rule.proofs.Exchanges.{spelled_decides}
use Rattle.word_rule.proofs.Each.{all_map}
use Rattle.tree_descent.proofs.LeafCommits.{all_stay, all_nothing}

-- The laws that it rests on.
pub record LeafLaws : Type 0 where
  pub decided : (v : Log) (update : Option Update) → Decides (is_lawful v update) (IsLawfulExchange v update (top_of v update) (is_among (group_of v update)))
  pub transfer : (top : ℕ) (group fresh : ℕ → Bool) (f : Contents) (live : ℕ → Bool) (g f' : Contents) (live' : ℕ → Bool) (g' : Contents) (update : Option Update) → IsLawfulChange f live top group fresh g update → IsSameChange top group fresh f g f' live' g' → IsLawfulChange f' live' top group fresh g' update
  pub tests : (f : Contents) (live : ℕ → Bool) (top : ℕ) (group fresh group' fresh' : ℕ → Bool) (g : Contents) (update : Option Update) → ((n : ℕ) → group n ≡ group' n) → ((n : ℕ) → fresh n ≡ fresh' n) → IsLawfulChange f live top group fresh g update → IsLawfulChange f live top group' fresh' g update

or_true : (b : Bool) → (b || true) ≡ true
or_true true = refl
or_true false = refl

alone_here : (n k : ℕ) → k ≡ n → is_among (n ∷ []) k ≡ true
alone_here n k e = rw (eq-eqb k n e) refl

alone_else : (n k : ℕ) → k ≢ n → is_among (n ∷ []) k ≡ false
alone_else n k far = rw (ne_eqb k n far) refl

-- a lock that an update leaves as it is: its words spell its settled content, which is no leaf
pub record StaysAs (n : ℕ) (g : Holding) : Type 0 where
  pub far : g.node ≢ n
  pub spells : SpellsNode g.words g.settled
  pub inner : is_entries g.settled.body ≡ false

none_out : (test : ℕ → Bool) (P : Holding → Type 0) → ((g : Holding) → P g → test g.node ≡ false) → (rest : List Holding) → AllByRecursion P rest → filter test (map node_of rest) ≡ []
none_out test P each [] all = refl
none_out test P each (g ∷ rest) all = ap (λ b. cond b (g.node ∷ filter test (map node_of rest)) (filter test (map node_of rest))) (each g all.0) ∙ none_out test P each rest all.1

module _ (laws : LeafLaws) (v : Log) (u : Update) (h : Holding) (rest : List Holding) (now : NodeData) (marked : is_some h.mark ≡ true) (spells : spelled h.words ≡ Some now) (all : AllByRecursion (StaysAs h.node) rest)
    (is_leaf : is_leaf_at (address_of u) (Some now) ≡ true) (level : now.level ≡ 0)
    (f : Contents) (live : ℕ → Bool) (g : Contents) (here : f h.node ≡ h.settled) (there : g h.node ≡ now) (change : IsLawfulChange f live h.node (is_among (h.node ∷ [])) (is_among []) g (Some u)) where
  abbrev pub holding : Holdings
  holding = record { held = h ∷ rest; out = [] }

  abbrev pub w : Log
  w = record v { holdings = record { held = h ∷ rest; out = [] } }

  abbrev group : ℕ → Bool
  group = is_among (h.node ∷ [])

  abbrev fresh : ℕ → Bool
  fresh = is_fresh (h ∷ rest) []

  no_fresh : (k : ℕ) → fresh k ≡ false
  no_fresh k = and-false (is_some (held_of k (h ∷ rest)))

  -- the leaf alone was changed
  changed_here : is_changed (Some u) h ≡ true
  changed_here = rw (marked, spells, is_leaf) (or_true (not (are_spelled (Some now) h.settled)))

  unchanged : (a : Holding) → StaysAs h.node a → is_changed (Some u) a ≡ false
  unchanged a s = ap (λ b. is_some a.mark && b) (parts (are_spelled (spelled a.words) a.settled) (is_leaf_at (address_of u) (spelled a.words)) same_as other) ∙ and-false (is_some a.mark)
    where
      parts : (x y : Bool) → x ≡ true → y ≡ false → (not x || y) ≡ false
      parts true y e f = f
      parts false y e f = absurd (true≢false (sym e))

      same_as : are_spelled (spelled a.words) a.settled ≡ true
      same_as = (spelled_decides (spelled a.words) a.settled).1 s.spells

      other : is_leaf_at (address_of u) (spelled a.words) ≡ false
      other = rw s.spells (rw s.inner refl)

  only_changed : changed_of w (Some u) ≡ h ∷ []
  only_changed = rw changed_here (ap (λ hs. h ∷ hs) (all_nothing (is_changed (Some u)) (StaysAs h.node) unchanged rest all))

  exchanged_here : exchanged_in w group h.node ≡ now
  exchanged_here = rw (alone_here h.node h.node refl) (rw (eq-eqb h.node h.node refl, spells) refl)

  settled_here : settled_in (h ∷ rest) h.node ≡ h.settled
  settled_here = rw (eq-eqb h.node h.node refl) refl

  marked_here : marked_in (h ∷ rest) h.node ≡ true
  marked_here = rw (eq-eqb h.node h.node refl) marked

  in_group : (k : ℕ) → IsTrue (group k) → k ≡ h.node
  in_group k e = only h.node k e

  -- what the leaf reaches is itself
  reaches_itself : (contents : Contents) → (contents h.node).level ≡ 0 → reached_nodes h.node group fresh contents ≡ h.node ∷ []
  reaches_itself contents zero_level = ap (λ k. within (either group fresh) contents k h.node) zero_level

  same : IsSameChange h.node group fresh f g (settled_in (h ∷ rest)) (marked_in (h ∷ rest)) (exchanged_in w group)
  same = record {
    before = λ k e. ap (settled_in (h ∷ rest)) (in_group k e) ∙ (settled_here ∙ (sym here ∙ ap f (sym (in_group k e))));
    after = λ k e. let is = in_group k (subst (λ xs. is_among xs k ≡ true) (reaches_itself g (ap (λ s. s.level) there ∙ level)) e) in ap (exchanged_in w group) is ∙ (exchanged_here ∙ (sym there ∙ ap g (sym is)));
    others_stay = λ k e. rw e refl;
    top_live = marked_here;
    fresh_free = λ k e. absurd (true≢false (sym e ∙ no_fresh k));
  }

  changes : IsLawfulChange (settled_in (h ∷ rest)) (marked_in (h ∷ rest)) h.node group fresh (exchanged_in w group) (Some u)
  changes = laws.transfer h.node group fresh f live g (settled_in (h ∷ rest)) (marked_in (h ∷ rest)) (exchanged_in w group) (Some u)
      (laws.tests f live h.node group (is_among []) group fresh g (Some u) (λ k. refl) (λ k. sym (no_fresh k)) change) same

  reaches_alone : reached_in w h.node group ≡ h.node ∷ []
  reaches_alone = reaches_itself (exchanged_in w group) (ap (λ s. s.level) exchanged_here ∙ level)

  reached_here : is_reached w h.node group h.node ≡ true
  reached_here = ap (λ xs. is_among xs h.node) reaches_alone ∙ alone_here h.node h.node refl

  reached_else : (k : ℕ) → k ≢ h.node → is_reached w h.node group k ≡ false
  reached_else k far = ap (λ xs. is_among xs k) reaches_alone ∙ alone_else h.node k far

  nothing_out : out_after w h.node group ≡ []
  nothing_out =
      ap (λ b. cond b (h.node ∷ filter (λ k. group k && not (is_reached w h.node group k)) (map node_of rest)) (filter (λ k. group k && not (is_reached w h.node group k)) (map node_of rest))) (ap (λ b. group h.node && not b) reached_here ∙ and-false (group h.node))
      ∙ none_out (λ k. group k && not (is_reached w h.node group k)) (StaysAs h.node) (λ a s. ap (λ b. b && not (is_reached w h.node group a.node)) (alone_else h.node a.node s.far)) rest all

  some_spelled : (o : Option NodeData) (s : NodeData) → o ≡ Some s → IsSome o
  some_spelled o s e = subst IsSome (sym e) refl

  exchanges : IsLawfulExchange w (Some u) h.node group
  exchanges = record {
    spell = ((λ _. some_spelled (spelled h.words) now spells), all_map (StaysAs h.node) (λ a. IsTrue (group a.node || is_reached w h.node group a.node) → IsSome (spelled a.words)) (λ a s _. some_spelled (spelled a.words) a.settled s.spells) rest all);
    grouped = λ k e. ap (marked_in (h ∷ rest)) (in_group k e) ∙ marked_here;
    covers = ((λ _ outside. absurd (true≢false (sym (alone_here h.node h.node refl) ∙ outside))), all_map (StaysAs h.node) (λ a. IsSome a.mark → group a.node ≡ false → SpellsNode a.words a.settled) (λ a s _ _. s.spells) rest all);
    change = changes;
    leaves = ((λ _ gone. absurd (true≢false (sym reached_here ∙ gone))), all_map (StaysAs h.node) (λ a. IsTrue (group a.node) → is_reached w h.node group a.node ≡ false → a.stored ≡ true) (λ a s inside _. absurd (s.far (in_group a.node inside))) rest all);
    enters = ((λ new' _. absurd (true≢false (sym new' ∙ no_fresh h.node))), all_map (StaysAs h.node) (λ a. IsTrue (fresh a.node) → IsTrue (is_reached w h.node group a.node) → a.stored ≡ true) (λ a s new' _. absurd (true≢false (sym new' ∙ no_fresh a.node))) rest all);
    room = subst (λ (xs : List ℕ). length xs ≤ 4) (sym nothing_out) (omega arith);
  }

  pub lawful_commit : is_lawful w (Some u) ≡ true
  lawful_commit = (laws.decided w (Some u)).1 (subst (λ hs. IsLawfulExchange w (Some u) (highest_of hs) (is_among (map node_of hs))) (sym only_changed) exchanges)

  -- the leaf's lock afterwards
  abbrev pub settled_lock : Holding
  settled_lock = record h { settled = now; mark = Some (frame_of now) }

  lock_after : exchange group (is_reached w h.node group) h ≡ record h { settled = now; mark = Some (frame_of now) }
  lock_after =
      let content = ap (λ b. if b then now_of h (spelled h.words) else (if is_some h.mark then h.settled else now_of h (spelled h.words))) (alone_here h.node h.node refl) ∙ ap (now_of h) spells in
      let mark = ap (λ b. if b then Some (frame_of (now_of h (spelled h.words))) else (if group h.node then None else h.mark)) reached_here ∙ ap (λ o. Some (frame_of (now_of h o))) spells in
      (λ i. record h { settled = content i; mark = mark i })

  stays_after : (a : Holding) → StaysAs h.node a → exchange group (is_reached w h.node group) a ≡ a
  stays_after a s =
      let content = ap (λ b. if b then now_of a (spelled a.words) else (if is_some a.mark then a.settled else now_of a (spelled a.words))) (alone_else h.node a.node s.far) ∙ go (is_some a.mark) in
      let mark = ap (λ b. if b then Some (frame_of (now_of a (spelled a.words))) else (if group a.node then None else a.mark)) (reached_else a.node s.far) ∙ ap (λ b. if b then None else a.mark) (alone_else h.node a.node s.far) in
      (λ i. record a { settled = content i; mark = mark i })
    where
      go : (b : Bool) → (if b then a.settled else now_of a (spelled a.words)) ≡ a.settled
      go true = refl
      go false = ap (now_of a) s.spells

  pub settled_after : settle (Some u) w ≡ record v { holdings = record { held = record h { settled = now; mark = Some (frame_of now) } ∷ rest; out = [] } }
  settled_after =
      ap (λ b. if b then after_exchange w (top_of w (Some u)) (is_among (group_of w (Some u))) else settle_free w) lawful_commit
      ∙ (ap (λ hs. after_exchange w (highest_of hs) (is_among (map node_of hs))) only_changed
      ∙ (λ i. record v { holdings = record { held = lock_after i ∷ all_stay (exchange group (is_reached w h.node group)) (StaysAs h.node) stays_after rest all i; out = nothing_out i } }))
