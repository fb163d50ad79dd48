-- A commit keeps the rule: the history has an update of the tree more, and what its caller changed settles.
use Rattle.std.proofs.Common.{◌≡◌, ◌≢◌, ℕ, ◌+◌, ◌/◌, ◌%◌, ◌^◌, ◌<◌, ◌≤◌, ◌↔◌, List, [], ◌∷◌, ◌++◌, length, get_or, set, length-set, sym, refl, ap, ◌∙◌, subst, arith, Bool, false, Option, Some, None, Contains, if◌then◌else◌, ◌==◌, IsSome, IsTrue, eq-eqb}
use Rattle.std.specs.List.{AllByRecursion}
use Rattle.std.proofs.lemmas.List.Sums.{sum_by_push}
use mathlib.Core.Option.{none, some}
use mathlib.Core.List.{IsPrefix}
use lib.ListN.{get_elem?}
use Rattle.atomic_table.specs.Table.{step, keeps, Allows}
use Rattle.atomic_table.proofs.Lists.{set_here}
use Rattle.reg_model.specs.SpanData.{Overlaps}
use Rattle.reg_model.specs.State.{State, at_base}
use Rattle.reg_model.specs.History.{Fits, after, state_after}
use Rattle.reg_model.specs.declared.span.Member.{Member}
use Rattle.reg_model.specs.declared.answer.Update.{Update}
use Rattle.reg_model.specs.declared.answer.Receipt.{Receipt}
use Rattle.reg_model.proofs.Histories.{state_after-append}
use Rattle.tree_laws.specs.Numbers.{once, is_among}
use Rattle.tree_shape.specs.NodeData.{entries_of}
use Rattle.tree_laws.specs.Trees.{Contents, HasEntry, entries}
use Rattle.tree_laws.specs.Lawful.{IsLawfulTree}
use Rattle.tree_laws.specs.LocalChange.{EntriesBecome}
use Rattle.word_rule.specs.declared.log.Role.TheVariants as role
use Rattle.word_rule.specs.declared.log.Terms.{Terms}
use Rattle.word_rule.specs.declared.log.Holdings.{Holdings}
use Rattle.word_rule.specs.declared.log.LoaderHolding.{LoaderHolding}
use Rattle.word_rule.specs.declared.log.Log.{Log}
use Rattle.word_rule.specs.Places.{upper}
use Rattle.word_rule.specs.SharedWords.{SharedWords, memory_of}
use Rattle.word_rule.specs.Logs.{is_gone, is_nameless}
use Rattle.word_rule.specs.Exchange.{ChangeLaws, IsLawfulExchange, after_exchange, group_of, settle_free, top_of}
use Rattle.word_rule.specs.Steps.{IsDone, after_update}
use Rattle.word_rule.specs.Commits.{AfterCommit, MayCommit, after_commit, CommitTells}
use Rattle.word_rule.specs.Callers.{IsMemberOf, total, CallersHold, AtLoader, LoaderLock, is_of_loader, start}
use Rattle.word_rule.specs.Nodes.{Shadow, NodesHold}
use Rattle.word_rule.specs.Copies.{ListsAll, ActiveCopy, IsBehind}
use Rattle.word_rule.specs.Observations.{ObservationsHold}
use Rattle.word_rule.specs.TableInvariant.{TableInvariant}
use Rattle.word_rule.specs.Plays.{Seated, commits}
use Rattle.word_rule.proofs.Facts.{total_same, after_step, set_twice, within}
use Rattle.word_rule.proofs.Memories.{set_clock}
use Rattle.word_rule.proofs.CallersFrame.{lock_stays, none_before}
use Rattle.word_rule.proofs.NodesFrame.{nodes_same}
use Rattle.word_rule.proofs.NodeLoads.{OrderLaw}
use Rattle.word_rule.proofs.ObservationsFrame.{observations_over}
use Rattle.word_rule.proofs.Frames.{Sit, table_step, still_after_turn}
use Rattle.word_rule.proofs.Accepting.{Accepts, answered, callers_after, few_publications, few_updates, observations_received}
use Rattle.word_rule.proofs.Each.{all_map}
use Rattle.word_rule.proofs.Spells.{eqb_true}
use Rattle.word_rule.proofs.Holders.{marked_live}
use Rattle.word_rule.proofs.Listings.{registered_members}
use Rattle.word_rule.proofs.TreeUpdates.{ascending_apart, ascending_same, finds_only, tree_fits}
use Rattle.word_rule.proofs.Exchanges.{DecidedLaw, exchange_decides}
use Rattle.word_rule.proofs.Exchanging.{settled', live', entries_after, lawful_after}
use Rattle.word_rule.proofs.Settling.{OnSettling, nodes, sights}
use Rattle.word_rule.proofs.Settles.{exchanged}

module _ (t : Terms) (slots id : ℕ) (me : Seated) (caller : me.0.role ≡ role.Caller) (laws : ChangeLaws) (order : OrderLaw) (decided : DecidedLaw) where
  abbrev Rule : Sit → Type 0
  Rule s = TableInvariant t s.words s.views

  stands : is_nameless me.0.role ≡ false
  stands = ap is_nameless caller

  module _ (u : Update) (may : MayCommit t u me.0) (s : Sit) (r : Rule s) (at : get_elem? s.views id ≡ some me.0) where
    abbrev m : SharedWords
    m = memory_of t s.words

    abbrev longer : List Update
    longer = r.memory.history ++ u ∷ []

    abbrev before : State
    before = state_after (start t) r.memory.history

    abbrev m' : SharedWords
    m' = record (memory_of t s.words) { clock = get_or s.words 0 0 + 1 }

    abbrev top : ℕ
    top = top_of me.0 (Some u)

    abbrev group : ℕ → Bool
    group = is_among (group_of me.0 (Some u))

    ex : IsLawfulExchange me.0 (Some u) top group
    ex = (exchange_decides decided me.0 (Some u)).0 may.lawful

    -- the tree afterwards
    abbrev now : Contents
    now = settled' laws t (memory_of t s.words).nodes s.views r.memory.history r.memory.shadow r.memory.nodes id me.0 at (Some u) top group ex

    abbrev alive : ℕ → Bool
    alive = live' laws t (memory_of t s.words).nodes s.views r.memory.history r.memory.shadow r.memory.nodes id me.0 at (Some u) top group ex

    abbrev shadow' : Shadow
    shadow' = record r.memory.shadow { settled = now; live = alive }

    abbrev holdings : Holdings
    holdings = (after_exchange me.0 top group).holdings

    become : EntriesBecome (Some u) (HasEntry r.memory.shadow.settled r.memory.shadow.live) (HasEntry now alive)
    become = entries_after laws t (memory_of t s.words).nodes s.views r.memory.history r.memory.shadow r.memory.nodes id me.0 at (Some u) top group ex

    lawful : IsLawfulTree now alive
    lawful = lawful_after laws t (memory_of t s.words).nodes s.views r.memory.history r.memory.shadow r.memory.nodes id me.0 at (Some u) top group ex

    apart : (x y : Member) → HasEntry now alive x → HasEntry now alive y → x ≢ y → ¬ Overlaps x.span y.span
    apart x y a b = ascending_apart 0 (entries now) (order.ascending now alive lawful.tree).0 x y ((order.members now alive x lawful.tree).1 a) ((order.members now alive y lawful.tree).1 b)

    fit : Fits u (state_after (start t) r.memory.history) × ((x : Member) → HasEntry now alive x ↔ Contains (after u (state_after (start t) r.memory.history)).registered x) × (is_of_loader u ≡ false) × ((after u (state_after (start t) r.memory.history)).loaded ≡ (state_after (start t) r.memory.history).loaded)
    fit = tree_fits (state_after (start t) r.memory.history) u (HasEntry r.memory.shadow.settled r.memory.shadow.live) (HasEntry now alive) r.memory.nodes.entries become apart

    pub answer_of : (x : Receipt) × Accepts u (state_after (start t) r.memory.history) (length r.memory.history) x
    answer_of = answered (state_after (start t) r.memory.history) u (length r.memory.history) fit.0

    abbrev w : Log
    w = record (after_update u r.memory.history answer_of.0 me.0) { holdings = holdings; loader = me.0.loader }

    later : state_after (start t) (r.memory.history ++ u ∷ []) ≡ after u (state_after (start t) r.memory.history)
    later = state_after-append (start t) r.memory.history (u ∷ [])

    grows : IsPrefix r.memory.history (r.memory.history ++ u ∷ [])
    grows = (u ∷ [], refl)

    -- no more updates than 2^26, so the lower half of the clock doesn't run over
    small : length r.memory.history < 67108864
    small = few_updates t (memory_of t s.words) s.views r.memory.history r.memory.callers id me.0 caller at u may.due may.member fit.0 answer_of.0 answer_of.1

    high : get_or s.words 0 0 / 4294967296 ≤ length r.memory.history
    high = few_publications t (memory_of t s.words) s.views r.memory.history r.memory.callers id me.0 caller at u may.due may.member fit.0 answer_of.0 answer_of.1

    same_upper : (get_or s.words 0 0 + 1) / 4294967296 ≡ get_or s.words 0 0 / 4294967296
    same_upper = let a = r.memory.callers.of_history.updates in let b = small in omega (arith, a, b)

    pub no_overflow : (get_or s.words 0 0 + 1) % 2 ^ 64 ≡ get_or s.words 0 0 + 1
    no_overflow = let a = high in let b = small in omega (arith, a, b)

    settling : OnSettling t id me.0 caller s.words s.views r at now alive holdings longer
    settling = exchanged t id me.0 caller s.words s.views r at laws (Some u) top group ex longer (λ x. subst (λ st. HasEntry now alive x ↔ Contains st.registered x) (sym later) (fit.1 x))

    changed : NodesHold t (memory_of t s.words).nodes (set s.views id w) longer shadow'
    changed =
        let v : Log = record me.0 { holdings = holdings } in
        subst (λ vs. NodesHold t (memory_of t s.words).nodes vs longer shadow') (set_twice s.views id v w)
        (nodes_same (set s.views id v) id v w (set_here s.views id v (within s.views id me.0 at)) t (memory_of t s.words).nodes longer shadow' refl (nodes t id me.0 caller s.words s.views r at now alive holdings longer settling))

    -- the loader's lock and its copies are as they were
    kept_lock : (j : ℕ) (o : Option LoaderHolding) → AtLoader (memory_of t s.words) r.memory.callers.holder j o → AtLoader m' r.memory.callers.holder j o
    kept_lock j None h = tt
    kept_lock j (Some g) h = (
      h.0,
      record {
        locked = h.1.locked;
        published = h.1.published ∙ sym same_upper;
        active = h.1.active ∙ ap (λ k. (memory_of t s.words).copies (k % 2)) (sym same_upper);
        spare = h.1.spare ∙ ap (λ k. (memory_of t s.words).copies ((k + 1) % 2)) (sym same_upper);
      },
    )

    callers : CallersHold t m' (set s.views id w) longer
    callers = callers_after t (memory_of t s.words) s.views r.memory.history r.memory.callers id me.0 caller at u may.due may.member fit.0 answer_of.0 answer_of.1 holdings me.0.loader (get_or s.words 0 0 + 1)
        (let a = r.memory.callers.of_history.updates in let b = small in omega (arith, a, b))
        (let a = same_upper in let p = r.memory.callers.of_history.published in let q = sum_by_push (λ x. once (is_of_loader x)) r.memory.history u in let b : once (is_of_loader u) ≡ 0 = ap once fit.2 in omega (arith, a, p, q, b))
        (lock_stays s.views (memory_of t s.words).loader (memory_of t s.words).loader id me.0 w r.memory.callers.holder at refl (λ e. subst (LoaderLock (memory_of t s.words).loader s.views) e r.memory.callers.loader) r.memory.callers.loader)
        (after_step (λ j z. AtLoader m' r.memory.callers.holder j z.loader) s.views id w (kept_lock id me.0.loader (r.memory.callers.at_loader id me.0 at)) (λ j z _ there. kept_lock j z.loader (r.memory.callers.at_loader j z there)))
        (λ clean. subst (λ k. IsBehind t ((memory_of t s.words).copies (k % 2)) ((memory_of t s.words).copies ((k + 1) % 2))) (sym same_upper) (r.memory.callers.spare_copy (none_before s.views id me.0 w at (λ h. h) clean)))

    active : ActiveCopy t (get_or s.words 0 0 + 1) (memory_of t s.words).copies longer
    active = subst (λ k. ListsAll ((memory_of t s.words).copies (k % 2)) (state_after (start t) longer).loaded) (sym same_upper)
        (subst (ListsAll ((memory_of t s.words).copies (upper (get_or s.words 0 0) % 2))) (sym (ap (λ st. st.loaded) later ∙ fit.3)) r.memory.active)

    over : (v : Log) → ObservationsHold t (memory_of t s.words) r.memory.history (total (λ z. z.made) s.views + 1) r.memory.shadow v → ObservationsHold t m' longer (total (λ z. z.made) s.views + 1) shadow' v
    over = observations_over t (memory_of t s.words) m' r.memory.history longer (total (λ z. z.made) s.views + 1) (total (λ z. z.made) s.views + 1) r.memory.shadow shadow'
        (sights t id me.0 caller s.words s.views r at now alive holdings longer settling grows)
        (λ g p. let e = p.earlier in let up = same_upper in record { earlier = omega (arith, e, up); own = p.own; loaded = λ guard. p.loaded (guard ∙ same_upper) }) grows (omega arith)

    made_same : total (λ z. z.made) (set s.views id w) ≡ total (λ z. z.made) s.views
    made_same = total_same (λ z. z.made) s.views id me.0 w at refl

    pub committed_table : TableInvariant t (set s.words 0 (get_or s.words 0 0 + 1)) (set s.views id w)
    committed_table = table_step t s.words s.views r id me.0 w at stands (set s.words 0 (get_or s.words 0 0 + 1)) m' (length-set s.words 0 (get_or s.words 0 0 + 1)) (set_clock t s.words r.wide (get_or s.words 0 0 + 1)) (record {
      history = longer;
      callers = callers;
      shadow = shadow';
      nodes = changed;
      active = active;
      observations = subst (λ c. (j : ℕ) (v : Log) → get_elem? (set s.views id w) j ≡ some v → ObservationsHold t m' longer (c + 1) shadow' v) (sym made_same)
          (after_step (λ _ v. ObservationsHold t m' longer (total (λ z. z.made) s.views + 1) shadow' v) s.views id w
          (observations_received t m' longer (total (λ z. z.made) s.views + 1) shadow' me.0 w (answer_of.0 ∷ []) (omega arith) refl refl refl (omega arith) (over me.0 (r.memory.observations id me.0 at)))
          (λ j v _ there. over v (r.memory.observations j v there)));
    }) (λ _. still_after_turn (set s.words 0 (get_or s.words 0 0 + 1)) me.0 w (omega arith) refl (r.memory.observations id me.0 at).earlier)

    -- an entry of the tree is the member registered at its base
    registered_at : (x : Member) → HasEntry r.memory.shadow.settled r.memory.shadow.live x → at_base x.span.first before.registered ≡ Some x
    registered_at x has =
        let tree = r.memory.nodes.lawful.tree in
        let listed : (y : Member) → Contains before.registered y → Contains (entries r.memory.shadow.settled) y = λ y c. (order.members r.memory.shadow.settled r.memory.shadow.live y tree).1 ((r.memory.nodes.entries y).1 c) in
        let there = (r.memory.nodes.entries x).0 has in
        finds_only (λ y. y.span.first == x.span.first) before.registered x there (eq-eqb x.span.first x.span.first refl)
        (λ y c is. ascending_same 0 (entries r.memory.shadow.settled) (order.ascending r.memory.shadow.settled r.memory.shadow.live tree).0 y x (listed y c) (listed x there) (eqb_true y.span.first x.span.first is))

    entries_told : AllByRecursion (λ h. IsSome h.mark → (x : Member) → Contains (entries_of h.settled) x → at_base x.span.first before.registered ≡ Some x) me.0.holdings.held
    entries_told =
        all_map (λ h. IsSome h.mark → IsTrue (r.memory.shadow.live h.node) × (r.memory.shadow.settled h.node ≡ h.settled)) (λ h. IsSome h.mark → (x : Member) → Contains (entries_of h.settled) x → at_base x.span.first before.registered ≡ Some x)
        (λ h k marked x there. registered_at x (h.node, ((k marked).0, subst (λ z. Contains (entries_of z) x) (sym (k marked).1) there))) me.0.holdings.held
        (marked_live t (memory_of t s.words).nodes s.views r.memory.history r.memory.shadow r.memory.nodes id me.0 at)

    -- what settles is the exchange, since it is lawful
    settled_so : w ≡ after_commit u r.memory.history answer_of.0 me.0
    settled_so = ap (λ b. after_update u r.memory.history answer_of.0 (if b then after_exchange me.0 top group else settle_free me.0)) (sym may.lawful)

    terms : me.0.terms ≡ t
    terms = (r.memory.callers.each id me.0 at).terms (ap is_gone caller)

    tells : CommitTells (get_or s.words 0 0) me.0 r.memory.history
    tells = record {
      begins = (r.memory.callers.each id me.0 at).begins;
      number = r.memory.callers.of_history.updates;
      room = small;
      members = subst (λ k. AllByRecursion (IsMemberOf k) (state_after (start k) r.memory.history).registered) (sym terms) (registered_members t (start t) r.memory.history r.memory.callers.of_history.members tt);
      entries = subst (λ k. AllByRecursion (λ h. IsSome h.mark → (x : Member) → Contains (entries_of h.settled) x → at_base x.span.first (state_after (start k) r.memory.history).registered ≡ Some x) me.0.holdings.held) (sym terms) entries_told;
    }

    pub after_it : AfterCommit u (get_or s.words 0 0) me.0 w
    after_it = (r.memory.history, answer_of.0, (tells, subst (λ k. IsDone u (length r.memory.history + 1) (state_after (start k) r.memory.history) answer_of.0) (sym terms) answer_of.1.is_done, settled_so))

  -- the clock gets one update more in its lower half
  pub commits_update : (u : Update) → MayCommit t u me.0 → Allows Rule slots id me 0 (λ n. (n + 1) % 2 ^ 64) (commits u (step slots 0 1 0 none) me)
  commits_update u may s r deep at _ = (
    w u may s r at,
    keeps,
    tt,
    subst (λ x. TableInvariant t (set s.words 0 x) (set s.views id (w u may s r at))) (sym (no_overflow u may s r at)) (committed_table u may s r at),
    (after_it u may s r at, refl),
  )

  -- the same of the update that the code has
  pub commits_of : (u v : Update) → u ≡ v → MayCommit t v me.0 → Allows Rule slots id me 0 (λ n. (n + 1) % 2 ^ 64) (commits u (step slots 0 1 0 none) me)
  commits_of u v same may = commits_update u (subst (λ z. MayCommit t z me.0) (sym same) may)
