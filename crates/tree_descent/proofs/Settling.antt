-- What held nodes settle to at a release, where they change the tree lawfully: for any exchange.
use Rattle.std.proofs.Common.{◌≡◌, ℕ, Bool, false, IsTrue, Option, List, true, IsSome, ◌++◌, map, not, ◌&&◌, ◌≢◌, ◌<◌, ◌≤◌, length, None, sym, refl, ap, ◌∙◌, subst, ◌||◌, true≢false, Some, IsSomeAnd, is_some, inl, inr, ◌⊎◌, if◌then◌else◌, [], ◌∷◌, eq-eqb, cond}
use Rattle.std.specs.Bool.{Decides}
use Rattle.std.specs.List.{filter, AllByRecursion}
use Rattle.std.proofs.lemmas.Bool.{ltb-true, cases_Bool, and_parts, or_cases}
use Rattle.std.proofs.lemmas.Option.{same_Some}
use Rattle.reg_model.specs.declared.answer.Update.{Update}
use Rattle.tree_laws.specs.Numbers.{is_among, times}
use Rattle.tree_laws.specs.Trees.{Contents}
use Rattle.tree_laws.specs.Lawful.{IsTree, IsLawfulTree}
use Rattle.tree_laws.specs.LocalChange.{reached_nodes, IsLawfulChange, IsLocalChange, IsSameChange, IsChangeOf, either}
use Rattle.tree_shape.specs.NodeData.{NodeData, frame_of}
use Rattle.tree_laws.proofs.Halves.{among}
use Rattle.tree_laws.proofs.Reach.{within_set}
use Rattle.tree_laws.proofs.Times.{In, all_among, all_at, all_from, in_times}
use Rattle.word_rule.specs.declared.log.Log.{Log}
use Rattle.word_rule.specs.Exchange.{IsLawfulExchange, group_of, is_lawful, top_of, node_of, Differs, after_exchange, are_spelled, changed_of, exchange, exchanged_in, is_changed, is_fresh, is_reached, out_after, reached_in, settle, settle_free}
use Rattle.word_rule.specs.declared.log.Holding.{Holding}
use Rattle.word_rule.specs.Spelling.{SpellsNode, spelled}
use Rattle.word_rule.specs.declared.log.Holdings.{Holdings}
use Rattle.word_rule.specs.Held.{held_of, marked_in, now_in, now_of, now_shape, settled_in, settled_shape, without_lock, is_marked}
use Rattle.word_rule.specs.Logs.{after_spending, after_write}
use Rattle.word_rule.specs.Steps.{MayRelease, after_node_release, after_node_release_same}
use Rattle.word_rule.proofs.Each.{some_of}
use Rattle.word_rule.proofs.Exchanges.{filtered, mapped, spelled_decides}
use Rattle.tree_descent.proofs.HeldLists.{HeldOnce, IsBelow, filter_same, found_is, highest_of_is, in_filter, in_list, in_nodes, marked_is, once_found, same_test, filter_none}

-- The laws that it rests on: `exchange_decided`, and `transfer` and `widen` of tree_shape.
pub record SettlingLaws : Type 0 where
  pub decided : (v : Log) (update : Option Update) → Decides (is_lawful v update) (IsLawfulExchange v update (top_of v update) (is_among (group_of v update)))
  pub transfer : (top : ℕ) (group fresh : ℕ → Bool) (f : Contents) (live : ℕ → Bool) (g f' : Contents) (live' : ℕ → Bool) (g' : Contents) (update : Option Update) → IsLawfulChange f live top group fresh g update → IsSameChange top group fresh f g f' live' g' → IsLawfulChange f' live' top group fresh g' update
  pub reached : (top : ℕ) (group fresh : ℕ → Bool) (f : Contents) (live : ℕ → Bool) (g f' : Contents) (live' : ℕ → Bool) (g' : Contents) → IsLocalChange f live top group fresh g → IsSameChange top group fresh f g f' live' g' → reached_nodes top group fresh g' ≡ reached_nodes top group fresh g
  pub widen : (f : Contents) (live : ℕ → Bool) (top : ℕ) (group fresh more : ℕ → Bool) (g : Contents) (update : Option Update) → IsTree f live → IsLawfulChange f live top group fresh g update → ((n : ℕ) → IsTrue (fresh n) → IsTrue (more n)) → ((n : ℕ) → IsTrue (more n) → live n ≡ false) → IsLawfulChange f live top group more g update
  pub wider : (f : Contents) (live : ℕ → Bool) (top : ℕ) (group fresh more : ℕ → Bool) (g : Contents) → IsTree f live → IsLocalChange f live top group fresh g → ((n : ℕ) → IsTrue (fresh n) → IsTrue (more n)) → ((n : ℕ) → IsTrue (more n) → live n ≡ false) → reached_nodes top group more g ≡ reached_nodes top group fresh g

-- What a held node is in a change of a tree from f to g: a marked one is live, and its words spell
-- what it becomes; so do those of a fresh one. A word was stored in each of the group and in each
-- fresh one.
pub record FitsChange (f : Contents) (live : ℕ → Bool) (group fresh : List ℕ) (g : Contents) (h : Holding) : Type 0 where
  pub marked : IsSome h.mark → IsTrue (live h.node) × (f h.node ≡ h.settled) × SpellsNode h.words (g h.node)
  pub leaves : IsTrue (is_among group h.node) → h.stored ≡ true
  pub enters : IsTrue (is_among fresh h.node) → SpellsNode h.words (g h.node) × (h.stored ≡ true)

-- the nodes that are out afterwards
abbrev pub left_out : List ℕ → List ℕ → Holdings → List ℕ
left_out group reached holdings = filter (λ n. not (is_among reached n)) holdings.out ++ filter (λ n. is_among group n && not (is_among reached n)) (map node_of holdings.held)

-- What is held changes a lawful tree f lawfully: the group of held live nodes and the fresh ones
-- become as in g. Each of the group differs there, and all but the top lie below it.
pub record IsHeldChange (holdings : Holdings) (f : Contents) (live : ℕ → Bool) (top : ℕ) (group fresh : List ℕ) (g : Contents) (reached : List ℕ) : Type 0 where
  pub lawful : IsLawfulTree f live
  pub dead : (n : ℕ) → IsTrue (is_among holdings.out n) → live n ≡ false
  pub change : IsChangeOf f live top group fresh g None reached
  pub each : AllByRecursion (FitsChange f live group fresh g) holdings.held
  pub once : HeldOnce holdings.held
  pub group_held : AllByRecursion (λ n. IsTrue (marked_in holdings.held n)) group
  pub fresh_held : AllByRecursion (λ n. IsSome (held_of n holdings.held) × IsTrue (is_among holdings.out n)) fresh
  pub differ : AllByRecursion (λ n. g n ≢ f n) group
  pub lower : AllByRecursion (λ n. n ≢ top → (f n).level < (f top).level) group
  pub room : length (left_out group reached holdings) ≤ 4

module _ (laws : SettlingLaws) (v : Log) (f : Contents) (live : ℕ → Bool) (top : ℕ) (group fresh : List ℕ) (g : Contents) (reached : List ℕ) (c : IsHeldChange v.holdings f live top group fresh g reached) where
  abbrev held : List Holding
  held = v.holdings.held

  abbrev more : ℕ → Bool
  more = is_fresh held v.holdings.out

  outside_fresh : (n : ℕ) → IsTrue (live n) → is_among fresh n ≡ false
  outside_fresh n alive = go (cases_Bool (is_among fresh n))
    where
      go : (is_among fresh n ≡ true) ⊎ (is_among fresh n ≡ false) → is_among fresh n ≡ false
      go (inr e) = e
      go (inl e) = absurd (true≢false (sym alive ∙ c.dead n (all_among (λ m. IsSome (held_of m held) × IsTrue (is_among v.holdings.out m)) fresh n c.fresh_held e).1))

  fit : (h : Holding) → In h held → FitsChange f live group fresh g h
  fit h there = all_at (FitsChange f live group fresh g) held h c.each there

  -- a marked lock outside the group spells its settled content
  same_words : (h : Holding) → In h held → IsSome h.mark → is_among group h.node ≡ false → SpellsNode h.words h.settled
  same_words h there marked outside =
      let m = (fit h there).marked marked in
      let stays : g h.node ≡ f h.node = c.change.lawful.change.others_stay h.node (rw (outside, outside_fresh h.node m.0) refl) in
      m.2 ∙ ap Some (stays ∙ m.1)

  is_changed_if : (h : Holding) → IsSome h.mark → are_spelled (spelled h.words) h.settled ≡ false → is_changed None h ≡ true
  is_changed_if h marked other = rw (marked, other) refl

  changed_marked : (h : Holding) → is_changed None h ≡ true → IsSome h.mark
  changed_marked h e = (and_parts (is_some h.mark) (not (are_spelled (spelled h.words) h.settled) || false) e).0

  changed_other : (h : Holding) → is_changed None h ≡ true → SpellsNode h.words h.settled → ⊥
  changed_other h e same =
      let b = (and_parts (is_some h.mark) (not (are_spelled (spelled h.words) h.settled) || false) e).1 in
      true≢false (sym b ∙ ap (λ z. not z || false) ((spelled_decides (spelled h.words) h.settled).1 same))

  -- what was changed is the group
  in_group : (h : Holding) → In h held → is_changed None h ≡ true → is_among group h.node ≡ true
  in_group h there changed = go (cases_Bool (is_among group h.node))
    where
      go : (is_among group h.node ≡ true) ⊎ (is_among group h.node ≡ false) → is_among group h.node ≡ true
      go (inl e) = e
      go (inr e) = absurd (changed_other h changed (same_words h there (changed_marked h changed) e))

  -- the lock of a node of the group
  of_group : (n : ℕ) → is_among group n ≡ true → (h : Holding) × ((held_of n held ≡ Some h) × (IsSome h.mark × (In h held × (h.node ≡ n))))
  of_group n inside =
      let m = marked_is n held (all_among (λ k. IsTrue (marked_in held k)) group n c.group_held inside) in
      let p = found_is n held m.0 m.1.0 in (m.0, (m.1.0, (m.1.1, p)))

  group_changed : (h : Holding) → In h held → IsSome h.mark → is_among group h.node ≡ true → is_changed None h ≡ true
  group_changed h there marked inside = go (cases_Bool (are_spelled (spelled h.words) h.settled))
    where
      go : (are_spelled (spelled h.words) h.settled ≡ true) ⊎ (are_spelled (spelled h.words) h.settled ≡ false) → is_changed None h ≡ true
      go (inr e) = is_changed_if h marked e
      go (inl e) =
          let m = (fit h there).marked marked in
          let same : g h.node ≡ h.settled = same_Some _ _ (sym m.2 ∙ (spelled_decides (spelled h.words) h.settled).0 e) in
          absurd (all_among (λ n. g n ≢ f n) group h.node c.differ inside (same ∙ sym m.1))

  abbrev changed : List Holding
  changed = changed_of v None

  same_group : (n : ℕ) → is_among (group_of v None) n ≡ is_among group n
  same_group n = same_test (is_among (group_of v None) n) (is_among group n) to from
    where
      to : is_among (group_of v None) n ≡ true → is_among group n ≡ true
      to e =
          let a = in_nodes changed n (in_list (map node_of changed) n e) in
          let b = in_filter (is_changed None) held a.0 a.1.0 in
          ap (is_among group) (sym a.1.1) ∙ in_group a.0 b.0 b.1

      from : is_among group n ≡ true → is_among (group_of v None) n ≡ true
      from e =
          let a = of_group n e in
          let inside : is_among group a.0.node ≡ true = ap (is_among group) a.1.1.1.1 ∙ e in
          let b = filtered (is_changed None) held a.0 a.1.1.1.0 (group_changed a.0 a.1.1.1.0 a.1.1.0 inside) in
          ap (is_among (group_of v None)) (sym a.1.1.1.1) ∙ among (map node_of changed) a.0.node (in_times (map node_of changed) a.0.node (mapped changed a.0 b))

  below : (h : Holding) → In h held → is_changed None h ≡ true → IsBelow top (f top).level h
  below h there changed' =
      let m = (fit h there).marked (changed_marked h changed') in
      let inside = in_group h there changed' in record {
        at = λ e. ap (λ (s : NodeData). s.level) (sym m.1) ∙ ap (λ n. (f n).level) e;
        else_ = λ far. subst (λ (s : NodeData). s.level < (f top).level) m.1 (all_among (λ n. n ≢ top → (f n).level < (f top).level) group h.node c.lower inside far);
      }

  top_is : top_of v None ≡ top
  top_is =
      let a = of_group top c.change.lawful.change.top_grouped in
      let inside : is_among group a.0.node ≡ true = ap (is_among group) a.1.1.1.1 ∙ c.change.lawful.change.top_grouped in
      highest_of_is top (f top).level changed
      (all_from (IsBelow top (f top).level) changed (λ h there. let b = in_filter (is_changed None) held h there in below h b.0 b.1))
      (a.0, (filtered (is_changed None) held a.0 a.1.1.1.0 (group_changed a.0 a.1.1.1.0 a.1.1.0 inside), a.1.1.1.1))

  -- the fresh nodes are all held ones that are out
  more_fresh : (n : ℕ) → IsTrue (is_among fresh n) → IsTrue (more n)
  more_fresh n e = let a = all_among (λ m. IsSome (held_of m held) × IsTrue (is_among v.holdings.out m)) fresh n c.fresh_held e in rw (a.0, a.1) refl

  more_dead : (n : ℕ) → IsTrue (more n) → live n ≡ false
  more_dead n e = c.dead n (and_parts (is_some (held_of n held)) (is_among v.holdings.out n) e).1

  group_live : (n : ℕ) → is_among group n ≡ true → IsTrue (live n)
  group_live n e = let a = of_group n e in subst (λ k. IsTrue (live k)) a.1.1.1.1 ((fit a.0 a.1.1.1.0).marked a.1.1.0).0

  -- what the top reaches is of the group or fresh
  reached_inside : (n : ℕ) → is_among reached n ≡ true → (is_among group n ≡ true) ⊎ (is_among fresh n ≡ true)
  reached_inside n e = go (within_set (either (is_among group) (is_among fresh)) g n (g top).level top (subst (λ xs. 0 < times n xs) (sym c.change.reaches) (ltb-true 0 (times n reached) e)))
    where
      go : (n ≡ top) ⊎ IsTrue (either (is_among group) (is_among fresh) n) → (is_among group n ≡ true) ⊎ (is_among fresh n ≡ true)
      go (inl e) = inl (ap (is_among group) e ∙ c.change.lawful.change.top_grouped)
      go (inr e) = or_cases (is_among group n) (is_among fresh n) e

  wide : IsLawfulChange f live top (is_among group) more g None
  wide = laws.widen f live top (is_among group) (is_among fresh) more g None c.lawful.tree c.change.lawful more_fresh more_dead

  wide_reached : reached_nodes top (is_among group) more g ≡ reached
  wide_reached = laws.wider f live top (is_among group) (is_among fresh) more g c.lawful.tree c.change.lawful.change more_fresh more_dead ∙ c.change.reaches

  abbrev after : Contents
  after = exchanged_in v (is_among group)

  after_inside : (n : ℕ) → is_among reached n ≡ true → after n ≡ g n
  after_inside n e = go (reached_inside n e)
    where
      go : (is_among group n ≡ true) ⊎ (is_among fresh n ≡ true) → after n ≡ g n
      go (inl inside) =
          let a = of_group n inside in
          let spells = ((fit a.0 a.1.1.1.0).marked a.1.1.0).2 in
          ap (λ b. if b || more n then now_in held n else settled_in held n) inside ∙ (ap now_shape a.1.0 ∙ (ap (now_of a.0) spells ∙ ap g a.1.1.1.1))
      go (inr new') =
          let h = some_of (held_of n held) (all_among (λ m. IsSome (held_of m held) × IsTrue (is_among v.holdings.out m)) fresh n c.fresh_held new').0 in
          let p = found_is n held h.0 h.1 in
          let spells = ((fit h.0 p.0).enters (ap (is_among fresh) p.1 ∙ new')).0 in
          let inside : either (is_among group) more n ≡ true = or_right (is_among group n) (more n) (more_fresh n new') in
          ap (λ b. if b then now_in held n else settled_in held n) inside ∙ (ap now_shape h.1 ∙ (ap (now_of h.0) spells ∙ ap g p.1))
        where
          or_right : (a b : Bool) → b ≡ true → (a || b) ≡ true
          or_right true b e = refl
          or_right false b e = e

  settled_group_node : (n : ℕ) → is_among group n ≡ true → settled_in held n ≡ f n
  settled_group_node n inside =
      let a = of_group n inside in
      ap settled_shape a.1.0 ∙ (sym ((fit a.0 a.1.1.1.0).marked a.1.1.0).1 ∙ ap f a.1.1.1.1)

  unmarked_more : (n : ℕ) → IsTrue (more n) → marked_in held n ≡ false
  unmarked_more n e = go (cases_Bool (marked_in held n))
    where
      go : (marked_in held n ≡ true) ⊎ (marked_in held n ≡ false) → marked_in held n ≡ false
      go (inr e) = e
      go (inl m) =
          let h = marked_is n held m in let p = found_is n held h.0 h.1.0 in
          absurd (true≢false (sym ((fit h.0 p.0).marked h.1.1).0 ∙ (ap live p.1 ∙ more_dead n e)))

  same_change : IsSameChange top (is_among group) more f g (settled_in held) (marked_in held) after
  same_change = record {
    before = settled_group_node;
    after = λ n e. after_inside n (subst (λ xs. is_among xs n ≡ true) wide_reached e);
    others_stay = λ n e. ap (λ b. if b then now_in held n else settled_in held n) e;
    top_live = all_among (λ k. IsTrue (marked_in held k)) group top c.group_held c.change.lawful.change.top_grouped;
    fresh_free = unmarked_more;
  }

  changes : IsLawfulChange (settled_in held) (marked_in held) top (is_among group) more after None
  changes = laws.transfer top (is_among group) more f live g (settled_in held) (marked_in held) after None wide same_change

  reached_is : reached_in v top (is_among group) ≡ reached
  reached_is = laws.reached top (is_among group) more f live g (settled_in held) (marked_in held) after wide.change same_change ∙ wide_reached

  -- the nodes that are out afterwards
  out_is : out_after v top (is_among group) ≡ left_out group reached v.holdings
  out_is = (λ i. filter_same (λ n. not (more n && is_reached v top (is_among group) n)) (λ n. not (is_among reached n)) v.holdings.out each_out i
      ++ filter (λ n. is_among group n && not (is_among (reached_is i) n)) (map node_of held))
    where
      each_out : (n : ℕ) → In n v.holdings.out → not (more n && is_reached v top (is_among group) n) ≡ not (is_among reached n)
      each_out n there = ap (λ xs. not (more n && is_among xs n)) reached_is ∙ go (cases_Bool (is_among reached n))
        where
          out_there : is_among v.holdings.out n ≡ true
          out_there = among v.holdings.out n (in_times v.holdings.out n there)

          go : (is_among reached n ≡ true) ⊎ (is_among reached n ≡ false) → not (more n && is_among reached n) ≡ not (is_among reached n)
          go (inr off) = rw off (ap not (and_none (more n)))
            where
              and_none : (b : Bool) → (b && false) ≡ false
              and_none true = refl
              and_none false = refl
          go (inl on) = ap (λ b. not (b && is_among reached n)) (fresh_one (reached_inside n on))
            where
              fresh_one : (is_among group n ≡ true) ⊎ (is_among fresh n ≡ true) → more n ≡ true
              fresh_one (inl inside) = absurd (true≢false (sym (group_live n inside) ∙ c.dead n out_there))
              fresh_one (inr new') = more_fresh n new'

  spelled_in : (h : Holding) → In h held → IsTrue (is_among group h.node || is_reached v top (is_among group) h.node) → IsSome (spelled h.words)
  spelled_in h there e = go (or_cases (is_among group h.node) (is_among reached h.node) (subst (λ xs. IsTrue (is_among group h.node || is_among xs h.node)) reached_is e))
    where
      some_spelled : (s : NodeData) → SpellsNode h.words s → IsSome (spelled h.words)
      some_spelled s is = subst IsSome (sym is) refl

      of_node : is_among group h.node ≡ true → IsSome (spelled h.words)
      of_node inside =
          let a = of_group h.node inside in
          let same : a.0 ≡ h = same_Some _ _ (sym a.1.0 ∙ once_found held h c.once there) in
          some_spelled (g h.node) ((fit h there).marked (subst (λ (z : Holding). IsSome z.mark) same a.1.1.0)).2

      go : (is_among group h.node ≡ true) ⊎ (is_among reached h.node ≡ true) → IsSome (spelled h.words)
      go (inl inside) = of_node inside
      go (inr on) = by (reached_inside h.node on)
        where
          by : (is_among group h.node ≡ true) ⊎ (is_among fresh h.node ≡ true) → IsSome (spelled h.words)
          by (inl inside) = of_node inside
          by (inr new') = some_spelled (g h.node) ((fit h there).enters new').0

  entering : (h : Holding) → In h held → IsTrue (more h.node) → IsTrue (is_reached v top (is_among group) h.node) → h.stored ≡ true
  entering h there new' on = go (reached_inside h.node (subst (λ xs. is_among xs h.node ≡ true) reached_is on))
    where
      go : (is_among group h.node ≡ true) ⊎ (is_among fresh h.node ≡ true) → h.stored ≡ true
      go (inl inside) = (fit h there).leaves inside
      go (inr e) = ((fit h there).enters e).1

  exchanges : IsLawfulExchange v None top (is_among group)
  exchanges = record {
    spell = all_from (λ h. IsTrue (is_among group h.node || is_reached v top (is_among group) h.node) → IsSome (spelled h.words)) held spelled_in;
    grouped = λ n e. all_among (λ k. IsTrue (marked_in held k)) group n c.group_held e;
    covers = all_from (λ h. IsSome h.mark → is_among group h.node ≡ false → SpellsNode h.words h.settled) held same_words;
    change = changes;
    leaves = all_from (λ h. IsTrue (is_among group h.node) → is_reached v top (is_among group) h.node ≡ false → h.stored ≡ true) held (λ h there inside gone. (fit h there).leaves inside);
    enters = all_from (λ h. IsTrue (more h.node) → IsTrue (is_reached v top (is_among group) h.node) → h.stored ≡ true) held entering;
    room = subst (λ (xs : List ℕ). length xs ≤ 4) (sym out_is) c.room;
  }

  group_is : is_among (group_of v None) ≡ is_among group
  group_is = (λ i n. same_group n i)

  pub lawful_release : is_lawful v None ≡ true
  lawful_release = (laws.decided v None).1 (subst (λ n. IsLawfulExchange v None n (is_among (group_of v None))) (sym top_is) (subst (IsLawfulExchange v None top) (sym group_is) exchanges))

  -- each held node after it settled: `settled_group` and the others below say which
  pub settled_after : settle None v ≡ record v { holdings = record v.holdings { held = map (exchange (is_among group) (is_among reached)) v.holdings.held; out = left_out group reached v.holdings } }
  settled_after =
      ap (λ b. if b then after_exchange v (top_of v None) (is_among (group_of v None)) else settle_free v) lawful_release
      ∙ ((λ i. after_exchange v (top_is i) (group_is i))
      ∙ (λ i. record v { holdings = record v.holdings { held = map (exchange (is_among group) (is_among (reached_is i))) held; out = out_is i } }))

  -- any held node that spells something may be let go of
  pub may_release : (n : ℕ) (h : Holding) → held_of n v.holdings.held ≡ Some h → IsSome (spelled h.words) → MayRelease n v
  may_release n h found some_content = subst (λ o. IsSomeAnd o (λ a. IsSome (spelled a.words) × (IsSome a.mark → Differs a → IsTrue (is_lawful v None)))) (sym found) (some_content, (λ marked differs. lawful_release))

  pub released : (n : ℕ) → after_node_release n v ≡ record (after_write v) {
    holdings = record {
      held = without_lock n (map (exchange (is_among group) (is_among reached)) v.holdings.held);
      out = left_out group reached v.holdings;
    };
    budget = after_spending v.budget;
  }
  released n = ap (λ (u : Log). record (after_node_release_same n u) { budget = after_spending u.budget }) settled_after

-- what each held node settles to, by what it is in the change
pub settled_group : (group reached : List ℕ) (h : Holding) (s : NodeData) → IsTrue (is_among group h.node) → IsTrue (is_among reached h.node) → SpellsNode h.words s → exchange (is_among group) (is_among reached) h ≡ record h { settled = s; mark = Some (frame_of s) }
settled_group group reached h s inside on spells =
    let content = ap (λ b. if b then now_of h (spelled h.words) else (if is_some h.mark then h.settled else now_of h (spelled h.words))) inside ∙ ap (now_of h) spells in
    let mark = ap (λ b. if b then Some (frame_of (now_of h (spelled h.words))) else (if is_among group h.node then None else h.mark)) on ∙ ap (λ o. Some (frame_of (now_of h o))) spells in
    (λ i. record h { settled = content i; mark = mark i })

pub settled_gone : (group reached : List ℕ) (h : Holding) (s : NodeData) → IsTrue (is_among group h.node) → is_among reached h.node ≡ false → SpellsNode h.words s → exchange (is_among group) (is_among reached) h ≡ record h { settled = s; mark = None }
settled_gone group reached h s inside off spells =
    let content = ap (λ b. if b then now_of h (spelled h.words) else (if is_some h.mark then h.settled else now_of h (spelled h.words))) inside ∙ ap (now_of h) spells in
    let mark = ap (λ b. if b then Some (frame_of (now_of h (spelled h.words))) else (if is_among group h.node then None else h.mark)) off ∙ ap (λ b. if b then None else h.mark) inside in
    (λ i. record h { settled = content i; mark = mark i })

pub settled_still : (group reached : List ℕ) (h : Holding) → IsSome h.mark → is_among group h.node ≡ false → is_among reached h.node ≡ false → exchange (is_among group) (is_among reached) h ≡ h
settled_still group reached h marked outside off =
    let content = ap (λ b. if b then now_of h (spelled h.words) else (if is_some h.mark then h.settled else now_of h (spelled h.words))) outside ∙ ap (λ b. if b then h.settled else now_of h (spelled h.words)) marked in
    let mark = ap (λ b. if b then Some (frame_of (now_of h (spelled h.words))) else (if is_among group h.node then None else h.mark)) off ∙ ap (λ b. if b then None else h.mark) outside in
    (λ i. record h { settled = content i; mark = mark i })

-- where each node of the group stays in the tree, and each that is out enters it, none is out afterwards
pub none_out : (group reached : List ℕ) (holdings : Holdings) → AllByRecursion (λ n. IsTrue (is_among reached n)) group → AllByRecursion (λ n. IsTrue (is_among reached n)) holdings.out → left_out group reached holdings ≡ []
none_out group reached holdings kept entered = (λ i. filter_none (λ n. not (is_among reached n)) holdings.out gone_out i ++ filter_none (λ n. is_among group n && not (is_among reached n)) (map node_of holdings.held) (λ n there. gone_group n (cases_Bool (is_among group n))) i)
  where
    gone_out : (n : ℕ) → In n holdings.out → not (is_among reached n) ≡ false
    gone_out n there = ap not (all_at (λ k. IsTrue (is_among reached k)) holdings.out n entered there)

    gone_group : (n : ℕ) → (is_among group n ≡ true) ⊎ (is_among group n ≡ false) → (is_among group n && not (is_among reached n)) ≡ false
    gone_group n (inl e) = ap (λ b. b && not (is_among reached n)) e ∙ ap not (all_among (λ k. IsTrue (is_among reached k)) group n kept e)
    gone_group n (inr e) = ap (λ b. b && not (is_among reached n)) e

-- the lock that is found of a node
pub found_first : (h : Holding) (held : List Holding) → held_of h.node (h ∷ held) ≡ Some h
found_first h held = ap (λ b. cond b (Some h) (held_of h.node held)) (eq-eqb h.node h.node refl)

pub marked_at : (n : ℕ) (h : Holding) (held : List Holding) → held_of n held ≡ Some h → IsSome h.mark → IsTrue (marked_in held n)
marked_at n h held found marked = ap is_marked found ∙ marked
