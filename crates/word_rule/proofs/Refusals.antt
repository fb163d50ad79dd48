-- Answers that accept nothing: of queries, and refusals by what a copy lists.
use Rattle.std.proofs.Common.{◌≡◌, ℕ, ◌≤◌, ◌↔◌, ⊎_elim, List, [], ◌∷◌, ◌++◌, length, get_or, take_all, Contains, sym, refl, ap, ◌∙◌, subst, arith, ◌==◌, true, false, true≢false, Bool, Option, Some, None, IsNone, is_some}
use Rattle.std.specs.List.{AllByRecursion}
use Rattle.std.proofs.lemmas.List.Elements.{All-contains, Contains-get_or, Contains-append_left, Contains-append_right, Contains-append_cases}
use mathlib.Core.List.{IsPrefix}
use Rattle.reg_model.specs.SpanData.{Overlaps}
use Rattle.reg_model.specs.State.{State, IsFree, IsLowestOverlap, at_base, objects}
use Rattle.reg_model.specs.History.{IsHistory, state_after, state_at}
use Rattle.reg_model.specs.Query.{query}
use Rattle.reg_model.specs.Receipt.{Holds, accepted, moment, IsRight}
use Rattle.reg_model.specs.declared.span.Member.{Member}
use Rattle.reg_model.specs.declared.answer.Half.{Half}
use Rattle.reg_model.specs.declared.answer.Loading.TheVariants as loading
use Rattle.reg_model.specs.declared.answer.Removed.TheVariants as removed
use Rattle.reg_model.specs.declared.answer.Update.{Update}
use Rattle.reg_model.specs.declared.answer.Update.TheVariants as update
use Rattle.reg_model.specs.declared.answer.Receipt.{Receipt}
use Rattle.reg_model.specs.declared.answer.Receipt.TheVariants.{Query}
use Rattle.reg_model.specs.declared.answer.Receipt.TheVariants as receipt
use Rattle.segment_array.specs.Ascending.{AscendFrom}
use Rattle.word_rule.specs.declared.log.ReceiptList.{ReceiptList}
use Rattle.word_rule.specs.declared.log.Terms.{Terms}
use Rattle.word_rule.specs.Sights.{found_at}
use Rattle.word_rule.specs.Steps.{IsRefusalOf, Refuses}
use Rattle.word_rule.specs.Callers.{AreTerms, IsOfTerms, IsRecord, start}
use Rattle.word_rule.specs.Observations.{last_moment}
use Rattle.word_rule.proofs.Joins.{record_later}
use Rattle.word_rule.proofs.Listings.{ascending_disjoint, contains_find, disjoint_fit, find_contains, free_of, loaded_disjoint, loaded_spans, state_fixed}
use Rattle.word_rule.proofs.Receiving.{all_hold_snoc, in_order_later}

-- a query's receipt in a history
abbrev pub query_at : Terms → List Update → Half → ℕ → ℕ → Receipt
query_at t history which pc k = Query which pc (found_at (query which pc (state_at (start t) history k)) k)

query_holds : (t : Terms) (history : List Update) (which : Half) (pc k callers since : ℕ) → k ≤ length history → Holds (start t) history t.nodes callers since (query_at t history which pc k)
query_holds t history which pc k callers since inside = go (query which pc (state_at (start t) history k)) refl
  where
    go : (o : Option Member) → query which pc (state_at (start t) history k) ≡ o → Holds (start t) history t.nodes callers since (Query which pc (found_at o k))
    go None e = record { within = inside; numbered = tt; right = e; filled = record { ten = tt; most = λ _. tt } }
    go (Some m) e = record { within = inside; numbered = tt; right = e; filled = record { ten = tt; most = λ _. tt } }

-- An answer that accepts nothing, and is right at the end of a history, after receipts up to
-- `since`, where so many callers were made.
pub record HoldsNow (t : Terms) (history : List Update) (callers since : ℕ) (r : Receipt) : Type 0 where
  pub accepts : accepted r ≡ None
  pub now : moment r ≡ length history
  pub holds : Holds (start t) history t.nodes callers since r

query_moment : (o : Option Member) (which : Half) (pc k : ℕ) → moment (Query which pc (found_at o k)) ≡ k
query_moment None which pc k = refl
query_moment (Some m) which pc k = refl

pub query_answers : (t : Terms) (history : List Update) (which : Half) (pc callers since : ℕ) → HoldsNow t history callers since (query_at t history which pc (length history))
query_answers t history which pc callers since = record {
  accepts = refl;
  now = query_moment (query which pc (state_at (start t) history (length history))) which pc (length history);
  holds = query_holds t history which pc (length history) callers since (omega arith);
}

-- a log's own receipts, with such a receipt more
pub answer_record : (t : Terms) (past history : List Update) (callers : ℕ) (rs : ReceiptList) (r : Receipt) → HoldsNow t history callers (last_moment rs.since rs.list) r → IsPrefix past history → rs.since ≤ length history → IsRecord t past callers rs → IsRecord t history callers (record rs { list = rs.list ++ r ∷ [] })
answer_record t past history callers rs r a longer since h =
    let later = record_later t past history callers callers longer (omega arith) rs h in (
      all_hold_snoc t history callers rs.since rs.list r later.0 a.holds,
      in_order_later t history callers rs.since rs.list r since later.0 later.1 a.accepts a.now,
    )

-- an answer that is right of the state at the end
pub right_now : (t : Terms) (history : List Update) (r : Receipt) → IsRight (state_after (start t) history) r → IsRight (state_at (start t) history (length history)) r
right_now t history r h = subst (λ s. IsRight s r) (sym (ap (state_after (start t)) (take_all (length history) history (omega arith)))) h

-- a refusal by what is listed of the loaded members
pub refusal : (t : Terms) (history : List Update) (callers since : ℕ) → AreTerms t → IsHistory (start t) history → AllByRecursion (IsOfTerms t) history → (members : List Member) → AscendFrom 0 members → ((x : Member) → Contains members x ↔ Contains (state_after (start t) history).loaded x)
    → (u : Update) → Refuses t u members → (r : Receipt) × (IsRefusalOf u (state_after (start t) history) (length history) r × HoldsNow t history callers since r)
refusal t history callers since terms lawful updates members ascending same = go
  where
    now : State
    now = state_after (start t) history

    fixed : (state_after (start t) history).fixed ≡ t.fixed
    fixed = (state_fixed (start t) history).0

    there : (x : Member) → Contains (t.fixed ++ members) x → Contains (objects (state_after (start t) history)) x
    there x c = ⊎_elim (λ (e : Contains t.fixed x). Contains-append_left (state_after (start t) history).fixed (state_after (start t) history).loaded x (subst (λ xs. Contains xs x) (sym fixed) e))
        (λ (e : Contains members x). Contains-append_right (state_after (start t) history).fixed (state_after (start t) history).loaded x ((same x).0 e)) (Contains-append_cases t.fixed members x c)

    back : (x : Member) → Contains (objects (state_after (start t) history)) x → Contains (t.fixed ++ members) x
    back x c = ⊎_elim (λ (e : Contains (state_after (start t) history).fixed x). Contains-append_left t.fixed members x (subst (λ xs. Contains xs x) fixed e))
        (λ (e : Contains (state_after (start t) history).loaded x). Contains-append_right t.fixed members x ((same x).1 e)) (Contains-append_cases (state_after (start t) history).fixed (state_after (start t) history).loaded x c)

    as_many : length (state_after (start t) history).loaded ≡ length members
    as_many =
        let a = disjoint_fit (state_after (start t) history).loaded members (loaded_disjoint t history terms lawful) (loaded_spans t (start t) history updates (λ x d. absurd (omega (arith, d.1)))) (λ x c. (same x).1 c) in
        let b = disjoint_fit members (state_after (start t) history).loaded (ascending_disjoint 0 members ascending) (λ x c. loaded_spans t (start t) history updates (λ z d. absurd (omega (arith, d.1))) x ((same x).0 c)) (λ x c. (same x).0 c) in omega (arith, a, b)

    none_at : (base : ℕ) → IsNone (at_base base members) → IsNone (at_base base (state_after (start t) history).loaded)
    none_at base none = found (is_some (at_base base (state_after (start t) history).loaded)) refl
      where
        found : (b : Bool) → is_some (at_base base (state_after (start t) history).loaded) ≡ b → IsNone (at_base base (state_after (start t) history).loaded)
        found false e = e
        found true e = let d = find_contains (λ (m : Member). m.span.first == base) (state_after (start t) history).loaded e in absurd (true≢false (sym (contains_find (λ (m : Member). m.span.first == base) members d.0 ((same d.0).1 d.1.0) d.1.1) ∙ none))

    go : (u : Update) → Refuses t u members → (r : Receipt) × (IsRefusalOf u (state_after (start t) history) (length history) r × HoldsNow t history callers since r)
    go (update.Load m) h = ⊎_elim
        (λ (o : (other : Member) × IsLowestOverlap m.span (t.fixed ++ members) other).
        let lowest : IsLowestOverlap m.span (objects (state_after (start t) history)) o.0 = record {
          listed = there o.0 o.1.listed;
          overlaps = o.1.overlaps;
          lowest = λ k d l. All-contains (λ z. Overlaps z.span m.span → o.0.span.first ≤ z.span.first) (t.fixed ++ members) (get_or (objects (state_after (start t) history)) k d) o.1.lowest (back (get_or (objects (state_after (start t) history)) k d) (Contains-get_or (objects (state_after (start t) history)) k d l));
        } in
        (receipt.Load m (loading.Overlap o.0 (length history)), ((refl, refl, refl, lowest), record { accepts = refl; now = refl; holds = record { within = omega arith; numbered = tt; right = right_now t history (receipt.Load m (loading.Overlap o.0 (length history))) lowest; filled = record { ten = tt; most = λ _. tt } } })))
        (λ (f : IsFree m.span (t.fixed ++ members) × (length members ≡ t.loads)).
        let full : IsFree m.span (objects (state_after (start t) history)) × (length (state_after (start t) history).loaded ≡ (state_after (start t) history).loads) = (free_of m (t.fixed ++ members) (objects (state_after (start t) history)) back f.0, as_many ∙ (f.1 ∙ sym (state_fixed (start t) history).1)) in
        (receipt.Load m (loading.LoadFull (length history)), ((refl, refl, refl, full), record { accepts = refl; now = refl; holds = record { within = omega arith; numbered = tt; right = right_now t history (receipt.Load m (loading.LoadFull (length history))) full; filled = record { ten = tt; most = λ _. tt } } })))
        h
    go (update.Unload base) h =
        let none = none_at base h in
        (receipt.Unload base (removed.NotFound (length history)), ((refl, refl, refl, none), record { accepts = refl; now = refl; holds = record { within = omega arith; numbered = tt; right = right_now t history (receipt.Unload base (removed.NotFound (length history))) none; filled = record { ten = tt; most = λ _. tt } } }))
    go (update.Register m) h = absurd h
    go (update.Deregister base) h = absurd h
    go (update.Replace m) h = absurd h
