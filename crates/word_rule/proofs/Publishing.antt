-- A publication keeps the rule: the history has an update of the loader more, and the copies change their parts.
use Rattle.std.proofs.Common.{◌≡◌, ℕ, ◌+◌, ◌/◌, ◌%◌, ◌^◌, ◌<◌, ◌≤◌, ◌↔◌, List, [], ◌∷◌, ◌++◌, length, get_or, set, length-set, sym, refl, ap, ◌∙◌, subst, inl, inr, ⊎_elim, arith, ◌==◌, not, true, false, true≢false, Some, option_map, IfSome, IsSomeAnd, Contains, eq-eqb, ne_eqb}
use Rattle.std.proofs.lemmas.Option.{same_Some}
use Rattle.std.proofs.lemmas.List.Sums.{sum_by_push}
use Rattle.std.proofs.lemmas.List.Elements.{Contains-append_left, Contains-append_right, Contains-append_cases, Contains-push, Contains-push_cases}
use mathlib.Core.Option.{none, some}
use mathlib.Core.List.{IsPrefix}
use lib.ListN.{get_elem?}
use Rattle.atomic_table.specs.Table.{step, keeps, Allows}
use Rattle.atomic_table.proofs.Lists.{set_here}
use Rattle.reg_model.specs.State.{State}
use Rattle.reg_model.specs.History.{Fits, after, state_after}
use Rattle.reg_model.specs.declared.span.Member.{Member}
use Rattle.reg_model.specs.declared.answer.Update.{Update}
use Rattle.reg_model.specs.declared.answer.Update.TheVariants as update
use Rattle.reg_model.specs.declared.answer.Receipt.{Receipt}
use Rattle.reg_model.proofs.Histories.{state_after-append}
use Rattle.tree_laws.specs.Numbers.{once}
use Rattle.tree_laws.specs.Trees.{HasEntry}
use Rattle.word_rule.specs.declared.log.Role.TheVariants as role
use Rattle.word_rule.specs.declared.log.Terms.{Terms}
use Rattle.word_rule.specs.declared.log.LoaderHolding.{LoaderHolding}
use Rattle.word_rule.specs.declared.log.Log.{Log}
use Rattle.word_rule.specs.Places.{upper}
use Rattle.word_rule.specs.SharedWords.{SharedWords, memory_of}
use Rattle.word_rule.specs.Logs.{is_gone, is_nameless}
use Rattle.word_rule.specs.Steps.{IsDone, exchange_copies, after_publish, AfterPublish, MayPublish}
use Rattle.word_rule.specs.Callers.{total, CallersHold, HoldsLoader, AtLoader, LoaderLock, is_of_loader, start}
use Rattle.word_rule.specs.Nodes.{NodesHold}
use Rattle.word_rule.specs.Copies.{ListsAll, ListsMembers, ActiveCopy, Publishes}
use Rattle.word_rule.specs.Observations.{ObservationsHold}
use Rattle.word_rule.specs.TableInvariant.{TableInvariant}
use Rattle.word_rule.specs.Plays.{Seated, publishes}
use Rattle.word_rule.proofs.Facts.{total_same, after_step, within}
use Rattle.word_rule.proofs.Each.{some_with}
use Rattle.word_rule.proofs.Memories.{set_clock}
use Rattle.word_rule.proofs.NodesFrame.{nodes_same}
use Rattle.word_rule.proofs.ObservationsFrame.{observations_over, sight_over}
use Rattle.word_rule.proofs.Frames.{Sit, table_step, still_after_turn}
use Rattle.word_rule.proofs.Listings.{lists_same, contains_filter, filter_contains, find_contains, contains_find, state_fixed, loaded_spans, loaded_disjoint, disjoint_fit, free_of, listed_few}
use Rattle.word_rule.proofs.Accepting.{Accepts, answered, callers_after, few_publications, few_updates, observations_received}
use Rattle.word_rule.proofs.CopyStores.{other_loader, loader_held}

-- what lists say of a publication, the state says: what is listed before are the loaded members
fits : (t : Terms) (s : State) (u : Update) (before new : List Member) → s.fixed ≡ t.fixed → s.loads ≡ t.loads → ((x : Member) → Contains before x ↔ Contains s.loaded x) → length s.loaded ≤ length before → Publishes t u before new
    → Fits u s × ((x : Member) → Contains new x ↔ Contains (after u s).loaded x) × (is_of_loader u ≡ true) × ((after u s).registered ≡ s.registered)
fits t s (update.Load m) before new fixed loads same few p = (
  (
    free_of m (t.fixed ++ before) (s.fixed ++ s.loaded) (λ x c. ⊎_elim (λ (e : Contains s.fixed x). Contains-append_left t.fixed before x (subst (λ xs. Contains xs x) fixed e)) (λ (e : Contains s.loaded x). Contains-append_right t.fixed before x ((same x).1 e)) (Contains-append_cases s.fixed s.loaded x c)) p.0,
    (let l = p.1 in omega (arith, l, few, loads)),
  ),
  λ x. (
    (λ c. ⊎_elim (λ (e : Contains before x). Contains-append_left s.loaded (m ∷ []) x ((same x).0 e)) (λ (e : m ≡ x). subst (Contains (s.loaded ++ m ∷ [])) e (Contains-push s.loaded m)) ((p.2 x).0 c)),
    (λ c. (p.2 x).1 (⊎_elim (λ (e : Contains s.loaded x). inl ((same x).1 e)) (λ (e : m ≡ x). inr e) (Contains-push_cases s.loaded m x c))),
  ),
  refl,
  refl,
)
fits t s (update.Unload base) before new fixed loads same few p =
    let found = find_contains (λ (m : Member). m.span.first == base) before p.0 in (
      contains_find (λ (m : Member). m.span.first == base) s.loaded found.0 ((same found.0).0 found.1.0) found.1.1,
      λ x. (
        (λ c. let d = (p.1 x).0 c in filter_contains (λ (m : Member). not (m.span.first == base)) s.loaded x ((same x).0 d.0) (ap not (ne_eqb x.span.first base d.1))),
        (λ c. let d = contains_filter (λ (m : Member). not (m.span.first == base)) s.loaded x c in (p.1 x).1 ((same x).1 d.0, (λ e. true≢false (sym d.1 ∙ ap not (eq-eqb x.span.first base e))))),
      ),
      refl,
      refl,
    )
fits t s (update.Register m) before new fixed loads same few p = absurd p
fits t s (update.Deregister base) before new fixed loads same few p = absurd p
fits t s (update.Replace m) before new fixed loads same few p = absurd p

module _ (t : Terms) (slots id : ℕ) (me : Seated) (caller : me.0.role ≡ role.Caller) where
  abbrev Rule : Sit → Type 0
  Rule s = TableInvariant t s.words s.views

  stands : is_nameless me.0.role ≡ false
  stands = ap is_nameless caller

  module _ (u : Update) (h : LoaderHolding) (is : me.0.loader ≡ Some h) (may : MayPublish t me.0.budget.allowance u h) (s : Sit) (r : Rule s) (at : get_elem? s.views id ≡ some me.0) where
    abbrev m : SharedWords
    m = memory_of t s.words

    abbrev history : List Update
    history = r.memory.history

    abbrev now : State
    now = state_after (start t) r.memory.history

    abbrev longer : List Update
    longer = r.memory.history ++ u ∷ []

    abbrev clock' : ℕ
    clock' = get_or s.words 0 0 + 4294967297

    abbrev m' : SharedWords
    m' = record (memory_of t s.words) { clock = get_or s.words 0 0 + 4294967297 }

    c : CallersHold t (memory_of t s.words) s.views r.memory.history
    c = r.memory.callers

    mine : (r.memory.callers.holder ≡ Some id) × HoldsLoader (memory_of t s.words) h
    mine = loader_held (memory_of t s.words) r.memory.callers.holder id me.0.loader h is (r.memory.callers.at_loader id me.0 at)

    -- what the active copy lists
    before_is : may.before ≡ r.memory.active.members
    before_is = lists_same ((memory_of t s.words).copies (upper (get_or s.words 0 0) % 2)) may.before r.memory.active.members (subst (λ ws. ListsMembers ws may.before) mine.1.active may.active) r.memory.active.lists

    same : (x : Member) → Contains may.before x ↔ Contains (state_after (start t) r.memory.history).loaded x
    same x = subst (λ xs. Contains xs x ↔ Contains (state_after (start t) r.memory.history).loaded x) (sym before_is) (r.memory.active.same x)

    few : length (state_after (start t) r.memory.history).loaded ≤ length may.before
    few = disjoint_fit (state_after (start t) r.memory.history).loaded may.before (loaded_disjoint t r.memory.history r.memory.callers.of_history.terms r.memory.callers.of_history.lawful)
        (loaded_spans t (start t) r.memory.history r.memory.callers.of_history.members (λ x d. absurd (let l = d.1 in omega (arith, l)))) (λ x d. (same x).1 d)

    pub step_fits : Fits u (state_after (start t) r.memory.history) × ((x : Member) → Contains may.after x ↔ Contains (after u (state_after (start t) r.memory.history)).loaded x) × (is_of_loader u ≡ true) × ((after u (state_after (start t) r.memory.history)).registered ≡ (state_after (start t) r.memory.history).registered)
    step_fits = fits t (state_after (start t) r.memory.history) u may.before may.after (state_fixed (start t) r.memory.history).0 (state_fixed (start t) r.memory.history).1 same few may.publishes

    pub answer_of : (x : Receipt) × Accepts u (state_after (start t) r.memory.history) (length r.memory.history) x
    answer_of = answered (state_after (start t) r.memory.history) u (length r.memory.history) step_fits.0

    told : Accepts u (state_after (start t) r.memory.history) (length r.memory.history) answer_of.0
    told = answer_of.1

    abbrev w : Log
    w = after_publish u r.memory.history answer_of.0 me.0

    later : state_after (start t) (r.memory.history ++ u ∷ []) ≡ after u (state_after (start t) r.memory.history)
    later = state_after-append (start t) r.memory.history (u ∷ [])

    grows : IsPrefix r.memory.history (r.memory.history ++ u ∷ [])
    grows = (u ∷ [], refl)

    -- no more updates than 2^26, so neither half of the clock runs over
    small : length r.memory.history < 67108864
    small = few_updates t (memory_of t s.words) s.views r.memory.history r.memory.callers id me.0 caller at u may.due may.member step_fits.0 answer_of.0 answer_of.1

    high : get_or s.words 0 0 / 4294967296 ≤ length r.memory.history
    high = few_publications t (memory_of t s.words) s.views r.memory.history r.memory.callers id me.0 caller at u may.due may.member step_fits.0 answer_of.0 answer_of.1

    higher : (get_or s.words 0 0 + 4294967297) / 4294967296 ≡ get_or s.words 0 0 / 4294967296 + 1
    higher = let a = r.memory.callers.of_history.updates in let b = small in omega (arith, a, b)

    pub no_overflow : (get_or s.words 0 0 + 4294967297) % 2 ^ 64 ≡ get_or s.words 0 0 + 4294967297
    no_overflow = let a = high in let b = small in omega (arith, a, b)

    made_same : total (λ v. v.made) (set s.views id w) ≡ total (λ v. v.made) s.views
    made_same = total_same (λ v. v.made) s.views id me.0 w at refl

    loader_now : w.loader ≡ Some (exchange_copies h)
    loader_now = ap (option_map exchange_copies) is

    at_lock : (j : ℕ) (v : Log) → get_elem? (set s.views id w) j ≡ some v → AtLoader m' r.memory.callers.holder j v.loader
    at_lock = after_step (λ j v. AtLoader m' r.memory.callers.holder j v.loader) s.views id w
        (subst (AtLoader m' r.memory.callers.holder id) (sym loader_now) (
          mine.0,
          (let up = higher in record {
            locked = mine.1.locked;
            published = (let p = mine.1.published in omega (arith, p, up));
            active = mine.1.spare ∙ ap (memory_of t s.words).copies (omega (arith, up));
            spare = mine.1.active ∙ ap (memory_of t s.words).copies (omega (arith, up));
          }),
        ))
        (λ j v far there. other_loader (memory_of t s.words) m' r.memory.callers.holder j v.loader (λ e. far (same_Some _ _ (sym e ∙ mine.0))) (r.memory.callers.at_loader j v there))

    callers : CallersHold t m' (set s.views id w) (r.memory.history ++ u ∷ [])
    callers = callers_after t (memory_of t s.words) s.views r.memory.history r.memory.callers id me.0 caller at u may.due may.member step_fits.0 answer_of.0 answer_of.1 me.0.holdings w.loader (get_or s.words 0 0 + 4294967297)
        (let a = r.memory.callers.of_history.updates in let b = small in omega (arith, a, b))
        (let a = higher in let p = r.memory.callers.of_history.published in let q = sum_by_push (λ x. once (is_of_loader x)) r.memory.history u in let b : once (is_of_loader u) ≡ 1 = ap once step_fits.2 in omega (arith, a, p, q, b))
        (subst (LoaderLock (memory_of t s.words).loader (set s.views id w)) (sym mine.0) (w, exchange_copies h, (set_here s.views id w (within s.views id me.0 at), loader_now)))
        at_lock
        (λ _. let up = higher in record {
          before = may.before;
          after = may.after;
          lists_before = subst (λ ws. ListsMembers ws may.before) (mine.1.active ∙ ap (memory_of t s.words).copies (omega (arith, up))) may.active;
          lists_after = subst (λ ws. ListsMembers ws may.after) (mine.1.spare ∙ ap (memory_of t s.words).copies (omega (arith, up))) may.spare;
          few = subst (λ xs. length xs ≤ t.loads) (sym before_is) (listed_few t r.memory.history r.memory.callers.of_history.terms r.memory.callers.of_history.members r.memory.callers.of_history.lawful r.memory.active);
          change = inr (u, may.publishes);
        })

    nodes : NodesHold t (memory_of t s.words).nodes (set s.views id w) (r.memory.history ++ u ∷ []) r.memory.shadow
    nodes =
        let n = nodes_same s.views id me.0 w at t (memory_of t s.words).nodes r.memory.history r.memory.shadow refl r.memory.nodes in
        let kept : (state_after (start t) (r.memory.history ++ u ∷ [])).registered ≡ (state_after (start t) r.memory.history).registered = ap (λ st. st.registered) later ∙ step_fits.3 in record {
          lawful = n.lawful;
          entries = λ x. subst (λ xs. HasEntry r.memory.shadow.settled r.memory.shadow.live x ↔ Contains xs x) (sym kept) (n.entries x);
          unlocked = n.unlocked;
          holdings = n.holdings;
          holders = n.holders;
          each_once = n.each_once;
          chain = n.chain;
        }

    active : ActiveCopy t (get_or s.words 0 0 + 4294967297) (memory_of t s.words).copies (r.memory.history ++ u ∷ [])
    active = let up = higher in record {
      members = may.after;
      lists = subst (λ ws. ListsMembers ws may.after) (mine.1.spare ∙ ap (memory_of t s.words).copies (omega (arith, up))) may.spare;
      same = λ x. subst (λ st. Contains may.after x ↔ Contains st.loaded x) (sym later) (step_fits.1 x);
    }

    over : (v : Log) → ObservationsHold t (memory_of t s.words) r.memory.history (total (λ z. z.made) s.views + 1) r.memory.shadow v → ObservationsHold t m' (r.memory.history ++ u ∷ []) (total (λ z. z.made) s.views + 1) r.memory.shadow v
    over = observations_over t (memory_of t s.words) m' r.memory.history (r.memory.history ++ u ∷ []) (total (λ z. z.made) s.views + 1) (total (λ z. z.made) s.views + 1) r.memory.shadow r.memory.shadow
        (λ k p. sight_over t (memory_of t s.words).nodes (memory_of t s.words).nodes r.memory.history (r.memory.history ++ u ∷ []) r.memory.shadow r.memory.shadow k p.later (λ st. record { stands = st; contents = refl; settled = refl; live = refl }) grows p)
        (λ g p. let e = p.earlier in let up = higher in record { earlier = omega (arith, e, up); own = p.own; loaded = λ guard. absurd (omega (arith, e, up, guard)) }) grows (omega arith)

    pub published_table : TableInvariant t (set s.words 0 (get_or s.words 0 0 + 4294967297)) (set s.views id w)
    published_table = table_step t s.words s.views r id me.0 w at stands (set s.words 0 (get_or s.words 0 0 + 4294967297)) m' (length-set s.words 0 (get_or s.words 0 0 + 4294967297)) (set_clock t s.words r.wide (get_or s.words 0 0 + 4294967297)) (record {
      history = r.memory.history ++ u ∷ [];
      callers = callers;
      shadow = r.memory.shadow;
      nodes = nodes;
      active = active;
      observations = subst (λ c. (j : ℕ) (v : Log) → get_elem? (set s.views id w) j ≡ some v → ObservationsHold t m' (r.memory.history ++ u ∷ []) (c + 1) r.memory.shadow v) (sym made_same)
          (after_step (λ _ v. ObservationsHold t m' (r.memory.history ++ u ∷ []) (total (λ z. z.made) s.views + 1) r.memory.shadow v) s.views id w
          (observations_received t m' (r.memory.history ++ u ∷ []) (total (λ z. z.made) s.views + 1) r.memory.shadow me.0 w (answer_of.0 ∷ []) (omega arith) refl refl refl (omega arith) (over me.0 (r.memory.observations id me.0 at)))
          (λ j v _ there. over v (r.memory.observations j v there)));
    }) (λ _. still_after_turn (set s.words 0 (get_or s.words 0 0 + 4294967297)) me.0 w (omega arith) refl (r.memory.observations id me.0 at).earlier)

    pub after_it : AfterPublish u (get_or s.words 0 0) me.0 w
    after_it = let terms : me.0.terms ≡ t = (r.memory.callers.each id me.0 at).terms (ap is_gone caller) in (
      r.memory.history,
      answer_of.0,
      (
        record {
          begins = (r.memory.callers.each id me.0 at).begins;
          number = r.memory.callers.of_history.updates;
          room = small;
          active = subst (λ o. IfSome o (λ g. ListsAll g.active (state_after (start me.0.terms) r.memory.history).loaded)) (sym is)
              (subst (λ k. ListsAll h.active (state_after (start k) r.memory.history).loaded) (sym terms) (subst (λ ws. ListsAll ws (state_after (start t) r.memory.history).loaded) (sym mine.1.active) r.memory.active));
        },
        subst (λ k. IsDone u (length r.memory.history + 1) (state_after (start k) r.memory.history) answer_of.0) (sym terms) told.is_done,
        refl,
      ),
    )

  -- the clock gets one update more in its lower half, and one of the loader in its upper half
  pub publishes_copy : (u : Update) (h : LoaderHolding) → me.0.loader ≡ Some h → MayPublish t me.0.budget.allowance u h → Allows Rule slots id me 0 (λ n. (n + 4294967297) % 2 ^ 64) (publishes u (step slots 0 4294967297 0 none) me)
  publishes_copy u h is may s r deep at _ = (
    after_publish u r.memory.history (answer_of u h is may s r at).0 me.0,
    keeps,
    tt,
    subst (λ x. TableInvariant t (set s.words 0 x) (set s.views id (after_publish u r.memory.history (answer_of u h is may s r at).0 me.0))) (sym (no_overflow u h is may s r at)) (published_table u h is may s r at),
    (after_it u h is may s r at, refl),
  )

  -- the same of the lock that the log has
  pub publishes_held : (u v : Update) → u ≡ v → IsSomeAnd me.0.loader (MayPublish t me.0.budget.allowance v) → Allows Rule slots id me 0 (λ n. (n + 4294967297) % 2 ^ 64) (publishes u (step slots 0 4294967297 0 none) me)
  publishes_held u v same may =
      let h = some_with me.0.loader (MayPublish t me.0.budget.allowance v) may in
      publishes_copy u h.0 h.1.0 (subst (λ z. MayPublish t me.0.budget.allowance z h.0) (sym same) h.1.1)
