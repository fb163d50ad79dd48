-- An update is accepted: the history has it at its end, its caller has the receipt, and the callers' part of the rule is kept.
use Rattle.std.proofs.Common.{◌≡◌, ℕ, ◌+◌, ◌<◌, ◌≤◌, List, [], ◌∷◌, ◌++◌, length, length-append, set, sym, refl, ap, ◌∙◌, subst, arith, Option, Some, None, IsSomeAnd, false, IfSome, append-nil, append_assoc, true≢false, ◌%◌}
use Rattle.std.proofs.lemmas.List.Sums.{count_by-le-length}
use Rattle.std.specs.List.{AllByRecursion}
use mathlib.Core.Option.{some}
use mathlib.Core.List.{IsPrefix}
use lib.ListN.{get_elem?}
use Rattle.reg_model.specs.State.{State, at_base, at_span}
use Rattle.reg_model.specs.History.{Fits, after, state_after}
use Rattle.reg_model.specs.PlainRegistryData.{Step}
use Rattle.reg_model.specs.Receipt.{moment, accepted, made, Holds, WasFilled}
use Rattle.reg_model.specs.declared.answer.Update.{Update}
use Rattle.reg_model.specs.declared.answer.Update.TheVariants as update
use Rattle.reg_model.specs.declared.answer.Inserted.TheVariants as inserted
use Rattle.reg_model.specs.declared.answer.Loading.TheVariants as loading
use Rattle.reg_model.specs.declared.answer.Removed.TheVariants as removed
use Rattle.reg_model.specs.declared.answer.Replaced.TheVariants as replaced
use Rattle.reg_model.specs.declared.answer.Receipt.TheVariants as receipt
use Rattle.std.proofs.lemmas.Option.{none-some, same_Some}
use Rattle.reg_model.specs.declared.answer.Receipt.{Receipt}
use Rattle.reg_model.proofs.Histories.{IsHistory-append}
use Rattle.reg_model.proofs.Receipts.{step_holds}
use Rattle.word_rule.specs.declared.log.Role.TheVariants as role
use Rattle.word_rule.specs.declared.log.Terms.{Terms}
use Rattle.word_rule.specs.declared.log.Holdings.{Holdings}
use Rattle.word_rule.specs.declared.log.LoaderHolding.{LoaderHolding}
use Rattle.word_rule.specs.declared.log.Log.{Log}
use Rattle.word_rule.specs.Places.{lower, spare, upper}
use Rattle.word_rule.specs.SharedWords.{SharedWords}
use Rattle.word_rule.specs.Logs.{is_gone, is_nameless, weight, turns, own_list}
use Rattle.word_rule.specs.Steps.{IsDone, after_update}
use Rattle.word_rule.specs.Callers.{total, CallersHold, LogHolds, ReceiptsHold, AtLoader, LoaderLock, NoneStored, IsOfTerms, dones_in, is_of_loader, number_of, publications, start}
use Rattle.word_rule.specs.Nodes.{Shadow}
use Rattle.word_rule.specs.Copies.{CopySightHolds, IsBehind}
use Rattle.word_rule.specs.Observations.{SightHolds, WasFull, ObservationsHold, last_moment}
use Rattle.word_rule.proofs.Facts.{total_set, total_same, part_of_total, after_step}
use Rattle.word_rule.proofs.Each.{all_both, all_map, all_append, some_of}
use Rattle.word_rule.proofs.CallersFrame.{lineages_over, busy}
use Rattle.word_rule.proofs.Receiving.{all_hold_snoc, in_order_next, done_snoc, number_snoc}
use Rattle.word_rule.proofs.Joins.{prefix_both, record_later, records_later}

-- An update that fits, as the one after so many, has its receipt.
pub record Accepts (u : Update) (s : State) (n : ℕ) (r : Receipt) : Type 0 where
  pub is_done : IsDone u (n + 1) s r
  pub accepts : accepted r ≡ Some u
  pub number : moment r ≡ n + 1
  pub makes : made r ≡ u ∷ []
  pub one_step : Step (record { state = s; updates = n }) r (record { state = after u s; updates = n + 1 })
  pub no_full : (st : State) (history : List Update) (nodes callers since : ℕ) → WasFilled st history nodes callers since r

some_and : {A : Type 0} (P : A → Type 0) (o : Option A) (a : A) → o ≡ Some a → P a → IsSomeAnd o P
some_and P None a e p = absurd (none-some a e)
some_and P (Some b) a e p = subst P (sym (same_Some _ _ e)) p

pub answered : (s : State) (u : Update) (n : ℕ) → Fits u s → (r : Receipt) × Accepts u s n r
answered s (update.Register m) n fit = (
  receipt.Register m (inserted.Done (n + 1)),
  record { is_done = refl; accepts = refl; number = refl; makes = refl; one_step = record { right = tt; changes = (fit, refl, refl) }; no_full = λ st history nodes callers since. record { ten = tt; most = λ _. tt } },
)
answered s (update.Load m) n fit = (
  receipt.Load m (loading.Done (n + 1)),
  record { is_done = refl; accepts = refl; number = refl; makes = refl; one_step = record { right = tt; changes = (fit, refl, refl) }; no_full = λ st history nodes callers since. record { ten = tt; most = λ _. tt } },
)
answered s (update.Deregister base) n fit = let m = some_of (at_base base s.registered) fit in (
  receipt.Deregister base (removed.Done (n + 1) m.0),
  record { is_done = some_and _ (at_base base s.registered) m.0 m.1 refl; accepts = refl; number = refl; makes = refl; one_step = record { right = m.1; changes = (fit, refl, refl) }; no_full = λ st history nodes callers since. record { ten = tt; most = λ _. tt } },
)
answered s (update.Replace m) n fit = let old = some_of (at_span m.span s.registered) fit in (
  receipt.Replace m (replaced.Done (n + 1) old.0.payload),
  record { is_done = some_and _ (at_span m.span s.registered) old.0 old.1 refl; accepts = refl; number = refl; makes = refl; one_step = record { right = some_and _ (at_span m.span s.registered) old.0 old.1 refl; changes = (fit, refl, refl) }; no_full = λ st history nodes callers since. record { ten = tt; most = λ _. tt } },
)
answered s (update.Unload base) n fit = let m = some_of (at_base base s.loaded) fit in (
  receipt.Unload base (removed.Done (n + 1) m.0),
  record { is_done = some_and _ (at_base base s.loaded) m.0 m.1 refl; accepts = refl; number = refl; makes = refl; one_step = record { right = m.1; changes = (fit, refl, refl) }; no_full = λ st history nodes callers since. record { ten = tt; most = λ _. tt } },
)

-- what a log has observed stays where it gets receipts: they end what its loads told of fullness
pub observations_received : (t : Terms) (m : SharedWords) (history : List Update) (callers : ℕ) (shadow : Shadow) (v w : Log) (more : List Receipt) → 0 < length more → w.receipts.own ≡ v.receipts.own ++ more → w.sights ≡ v.sights → w.trace.loads ≡ v.trace.loads → turns v.trace ≤ turns w.trace
    → ObservationsHold t m history callers shadow v → ObservationsHold t m history callers shadow w
observations_received t m history callers shadow v w more some_more own sights loads turn r =
    let len : length w.receipts.own ≡ length v.receipts.own + length more = ap length own ∙ length-append v.receipts.own more in record {
      sights = subst (λ k. AllByRecursion (SightHolds t m.nodes history shadow) k.nodes) (sym sights) r.sights;
      copies = subst (λ k. IfSome k.copies (CopySightHolds t m.clock m.copies)) (sym sights) r.copies;
      full = subst (AllByRecursion (WasFull t history callers (own_list w.receipts))) (sym loads)
          (all_both (λ l. (l.turns ≤ turns v.trace) × (l.receipts ≤ length v.receipts.own)) (WasFull t history callers (own_list v.receipts)) (WasFull t history callers (own_list w.receipts))
          (λ l e f. record { count = λ same. absurd (let a = e.1 in omega (arith, a, same, len, some_more)); head = λ same _ _ _. absurd (let a = e.1 in omega (arith, a, same, len, some_more)); highest = f.highest }) v.trace.loads r.earlier r.full);
      earlier = subst (AllByRecursion (λ l. (l.turns ≤ turns w.trace) × (l.receipts ≤ length w.receipts.own))) (sym loads)
          (all_map (λ l. (l.turns ≤ turns v.trace) × (l.receipts ≤ length v.receipts.own)) (λ l. (l.turns ≤ turns w.trace) × (l.receipts ≤ length w.receipts.own)) (λ l e. let a = e.0 in let b = e.1 in (omega (arith, a, turn), omega (arith, b, len))) v.trace.loads r.earlier);
    }

prefix_all : (a b c : List Update) → IsPrefix a b → IsPrefix a (b ++ c)
prefix_all a b c p = (p.0 ++ c, sym (append_assoc a p.0 c) ∙ ap (λ z. z ++ c) p.1)

module _ (t : Terms) (m : SharedWords) (views : List Log) (history : List Update) (c : CallersHold t m views history) (id : ℕ) (v : Log) (caller : v.role ≡ role.Caller) (at : get_elem? views id ≡ some v)
    (u : Update) (due : 0 < v.budget.allowance) (member : IsOfTerms t u) (fit : Fits u (state_after (start t) history)) (answer : Receipt) (told : Accepts u (state_after (start t) history) (length history) answer) where
  stands : is_nameless v.role ≡ false
  stands = ap is_nameless caller

  len : length (history ++ u ∷ []) ≡ length history + 1
  len = length-append history (u ∷ [])

  -- no more updates than 2^26
  pub few_updates : length history < 67108864
  few_updates = let o = c.room in let d = due in let q = part_of_total (λ w. w.budget.allowance) views id v at in omega (arith, o, d, q)

  -- nor more publications of the loader
  pub few_publications : upper m.clock ≤ length history
  few_publications = let p = c.of_history.published in let q = count_by-le-length is_of_loader history in omega (arith, p, q)

  prefix : IsPrefix v.past (history ++ u ∷ [])
  prefix = prefix_all v.past history (u ∷ []) (c.each id v at).begins

  seen : length v.past ≤ length history
  seen = let b = (c.each id v at).begins in let sum : length v.past + length b.0 ≡ length history = sym (length-append v.past b.0) ∙ ap length b.1 in omega (arith, sum)

  holds_answer : (callers since : ℕ) → Holds (start t) (history ++ u ∷ []) t.nodes callers since answer
  holds_answer callers since = subst (λ k. Holds (start t) (history ++ k) t.nodes callers since answer) told.makes
      (step_holds (start t) history (record { state = state_after (start t) history; updates = length history }) (record { state = after u (state_after (start t) history); updates = length history + 1 }) t.nodes callers since answer
      (record { lawful = c.of_history.lawful; state = refl; updates = refl }) told.one_step (told.no_full (start t) (history ++ made answer) t.nodes callers since)).1

  -- its log afterwards, with these nodes and with this part in the loader's lock
  module _ (holdings : Holdings) (loader : Option LoaderHolding) where
    abbrev w : Log
    w = record (after_update u history answer v) { holdings = holdings; loader = loader }

    receipts : (callers : ℕ) → total (λ z. z.made) views + 1 ≤ callers → ReceiptsHold t (history ++ u ∷ []) callers w.receipts
    receipts callers grown =
        let log = c.each id v at in
        let own = record_later t v.past (history ++ u ∷ []) _ callers prefix grown (own_list v.receipts) log.receipts.own in
        let number = told.number in let before = seen in let low = log.receipts.since in record {
          since = (let l = len in omega (arith, low, before, l));
          own = (
            all_hold_snoc t (history ++ u ∷ []) callers v.receipts.since v.receipts.own answer own.0 (holds_answer callers (last_moment v.receipts.since v.receipts.own)),
            in_order_next t v.past _ v.receipts.since v.receipts.own answer u low log.receipts.own.0 log.receipts.own.1 told.accepts (omega (arith, number, before)),
          );
          joined = records_later t v.past (history ++ u ∷ []) _ callers prefix grown v.receipts.joined log.receipts.joined;
          heard = prefix_both v.receipts.heard v.past (history ++ u ∷ []) log.receipts.heard prefix;
        }

    made_same : total (λ z. z.made) (set views id w) ≡ total (λ z. z.made) views
    made_same = total_same (λ z. z.made) views id v w at refl

    each : (callers : ℕ) → callers ≡ total (λ z. z.made) views + 1 → (j : ℕ) (z : Log) → get_elem? (set views id w) j ≡ some z → LogHolds t (history ++ u ∷ []) callers z
    each callers is_c = after_step (λ _ z. LogHolds t (history ++ u ∷ []) callers z) views id w
        (let log = c.each id v at in record {
          terms = λ _. log.terms (ap is_gone caller);
          begins = ([], append-nil (history ++ u ∷ []));
          receipts = receipts callers (omega (arith, is_c));
          idle = busy v w caller;
        })
        (λ j z _ there. let log = subst (λ k. LogHolds t history k z) (sym is_c) (c.each j z there) in record {
          terms = log.terms;
          begins = prefix_all z.past history (u ∷ []) log.begins;
          receipts = log.receipts;
          idle = log.idle;
        })

    numbers : (n : ℕ) → total (dones_in n) (set views id w) ≡ number_of (length (history ++ u ∷ [])) n
    numbers n =
        let a = total_set (dones_in n) views id v w at in let d = done_snoc n (length history + 1) v.receipts.own answer u told.accepts told.number in
        let o = c.numbers n in let q = number_snoc (length history) n in
        let sum : total (dones_in n) (set views id w) ≡ number_of (length history + 1) n = omega (arith, a, d, o, q) in sum ∙ ap (λ k. number_of k n) (sym len)

    -- what is owed of the clock and of the loader's lock
    pub callers_after : (clock : ℕ) → lower clock ≡ length history + 1 → upper clock ≡ publications (history ++ u ∷ []) → LoaderLock m.loader (set views id w) c.holder
        → ((j : ℕ) (z : Log) → get_elem? (set views id w) j ≡ some z → AtLoader (record m { clock = clock }) c.holder j z.loader)
        → (NoneStored (set views id w) → IsBehind t (m.copies (upper clock % 2)) (m.copies (spare clock))) → CallersHold t (record m { clock = clock }) (set views id w) (history ++ u ∷ [])
    callers_after clock updates published lock at_lock spare_copy = record {
      holder = c.holder;
      of_history = record {
        lawful = IsHistory-append (start t) history (u ∷ []) c.of_history.lawful (fit, tt);
        updates = updates ∙ sym len;
        published = published;
        terms = c.of_history.terms;
        members = all_append (IsOfTerms t) history (u ∷ []) c.of_history.members (member, tt);
      };
      room = (let a = total_set (λ z. z.budget.allowance) views id v w at in let o = c.room in let d = due in let l = len in omega (arith, a, o, d, l));
      numbers = numbers;
      each = each (total (λ z. z.made) (set views id w) + 1) (ap (λ k. k + 1) made_same);
      weights = (let a = total_same (λ z. weight z.role) views id v w at refl in let b = made_same in let o = c.weights in omega (arith, a, b, o));
      loader = lock;
      at_loader = at_lock;
      spare_copy = spare_copy;
      counted = (let a = total_same (λ z. z.budget.credit) views id v w at refl in let o = c.counted in omega (arith, a, o));
      lineages = lineages_over views c.lineages id v w at refl refl (λ gone. absurd (true≢false (sym gone ∙ stands)));
    }
