-- Fewer nodes than a script may have, where its tree is never full.
use Rattle.std.proofs.Common.{◌≡◌, inl, inr, ℕ, ◌+◌, ◌*◌, ◌-◌, ◌<◌, ◌≤◌, List, [], ◌∷◌, ◌++◌, length, map, take, refl, ap, subst, arith, length-append, max, is_some, ◌==◌, not, if◌then◌else◌}
use Rattle.std.specs.List.{AllZip, flat_map, sum_by, count_by}
use Rattle.std.proofs.lemmas.List.{length-map, length-take}
use Rattle.std.proofs.lemmas.List.Elements.{All-weaker}
use Rattle.std.proofs.lemmas.List.Sums.{count_by-le-length, length-filter, sum_by-cons, sum_by-le-sum_by}
use Rattle.reg_model.specs.SpanData.{SpanData, is_same_span}
use Rattle.reg_model.specs.State.{State}
use Rattle.reg_model.specs.History.{after, state_after, state_at}
use Rattle.reg_model.specs.Chain.{made_count}
use Rattle.reg_model.specs.Receipt.{AllHold, AreInOrder, HadRegistered, WasFilled, accepted, moment}
use Rattle.reg_model.specs.declared.span.Member.{Member}
use Rattle.reg_model.specs.declared.answer.Inserted.TheVariants as inserted
use Rattle.reg_model.specs.declared.answer.Loading.TheVariants as loading
use Rattle.reg_model.specs.declared.answer.Removed.TheVariants as removed
use Rattle.reg_model.specs.declared.answer.Replaced.TheVariants as replaced
use Rattle.reg_model.specs.declared.answer.Receipt.{Receipt}
use Rattle.reg_model.specs.declared.answer.Receipt.TheVariants as receipt
use Rattle.reg_model.specs.declared.answer.Update.{Update}
use Rattle.reg_model.specs.declared.answer.Update.TheVariants.{Register, Deregister, Replace, Load, Unload}
use Rattle.registry_core.specs.Calls.{is_of_update}
use Rattle.registry_core.proofs.Counting.{count_both}
use Rattle.script_text.specs.ScriptData.{ScriptData}
use Rattle.script_text.specs.JournalData.{JournalData}
use Rattle.script_text.specs.Lawful.{AnswersEvent, RoundsHold, done_after, in_one, receipts_of, start_of, thread_receipts}
use Rattle.script_text.specs.declared.script.Event.{Event}
use Rattle.script_text.specs.declared.journal.Answer.{Answer}
use Rattle.run_engine.specs.Nodes.{AreEnough, callers_asked, members_asked, updates_asked}
use Rattle.run_engine.specs.Played.{updates_in, updates_of}
use Rattle.run_engine.proofs.Lists.{AllZip-length}
use Rattle.run_engine.proofs.Sharing.{event_updates}

-- ---- no more members are registered than updates were made

once_more : (u : Update) (s : State) → length (after u s).registered ≤ length s.registered + 1
once_more (Register m) s = (let n = length-append s.registered (m ∷ []) in omega (arith, n))
once_more (Deregister base) s =
    let keeps = λ (m : Member). not (m.span.first == base) in
    let n = length-filter keeps s.registered in
    let few = count_by-le-length keeps s.registered in
    omega (arith, n, few)
once_more (Replace m) s = (let n = length-map s.registered (λ (x : Member). if is_same_span x.span m.span then m else x) in omega (arith, n))
once_more (Load m) s = omega arith
once_more (Unload base) s = omega arith

registered_most : (history : List Update) (s : State) → length (state_after s history).registered ≤ length s.registered + length history
registered_most [] s = omega arith
registered_most (u ∷ history) s = (let here = once_more u s in let rest = registered_most history (after u s) in omega (arith, here, rest))

most_at : (start : State) (history : List Update) (j : ℕ) → length start.registered ≡ 0 → length (state_at start history j).registered ≤ length history
most_at start history j none =
    let most = registered_most (take j history) start in
    let front = length-take j history in
    omega (arith, most, front, none)

module _ (start : State) (history : List Update) (members : ℕ) (few_members : (j : ℕ) → length (state_at start history j).registered ≤ members) where
  -- more than that were never registered, so any number may be said of them
  never : (least other since : ℕ) (r : Receipt) → members < least → HadRegistered least start history since r → HadRegistered other start history since r
  never least other since (receipt.Register m (inserted.Full stamp)) above (j, _, _, many) =
      let few = few_members j in
      absurd (omega (arith, above, many, few))
  never least other since (receipt.Register m (inserted.Done number)) above had = tt
  never least other since (receipt.Register m (inserted.Overlap found stamp)) above had = tt
  never least other since (receipt.Register m inserted.Spent) above had = tt
  never least other since (receipt.Deregister base answer) above had = tt
  never least other since (receipt.Replace m answer) above had = tt
  never least other since (receipt.Load m answer) above had = tt
  never least other since (receipt.Unload base answer) above had = tt
  never least other since (receipt.Query half pc found) above had = tt

  -- of so few nodes, with so many callers at the most, what a Full says is never so
  module _ (nodes others most : ℕ) (enough : members + 2 < 2 * (nodes - 4 * most)) where
    filled_of_others : (callers since : ℕ) (r : Receipt) → callers ≤ most → WasFilled start history nodes callers since r → WasFilled start history others callers since r
    filled_of_others callers since r few filled = record {
      ten = filled.ten;
      most = λ _. never (2 * (nodes - 4 * callers)) (2 * (others - 4 * callers)) since r (omega (arith, enough, few)) (filled.most (omega (arith, enough, few)));
    }

    all_of_others : (callers since : ℕ) (receipts : List Receipt) → callers ≤ most → AllHold start history nodes callers since receipts → AllHold start history others callers since receipts
    all_of_others callers since [] few holds = tt
    all_of_others callers since (r ∷ receipts) few holds = (
      record {
        within = holds.0.within;
        numbered = holds.0.numbered;
        right = holds.0.right;
        filled = filled_of_others callers since r few holds.0.filled;
      },
      all_of_others callers (max since (moment r)) receipts few holds.1,
    )

    rounds_of_others : (callers done : ℕ) (rounds : List (List (List Receipt))) → callers + sum_by (λ round. length round) rounds ≤ most → RoundsHold start history nodes callers done rounds → RoundsHold start history others callers done rounds
    rounds_of_others callers done [] few holds = tt
    rounds_of_others callers done (round ∷ rounds) few holds =
        let sum = sum_by-cons (λ (round : List (List Receipt)). length round) round rounds in
        let Record : ℕ → List Receipt → Type 0 = λ n receipts. AllHold start history n (callers + length round) done receipts × AreInOrder done receipts in (
          All-weaker (Record nodes) (Record others) (λ receipts held. (all_of_others (callers + length round) done receipts (omega (arith, few, sum)) held.0, held.1)) round holds.0,
          rounds_of_others (callers + length round) (done_after done round) rounds (omega (arith, few, sum)) holds.1,
        )

-- ---- no more updates are made than events ask for

once_made : (r : Receipt) → (if is_some (accepted r) then 1 else 0) ≤ (if is_of_update r then 1 else 0)
once_made (receipt.Register m (inserted.Done number)) = omega arith
once_made (receipt.Register m (inserted.Overlap other stamp)) = omega arith
once_made (receipt.Register m (inserted.Full stamp)) = omega arith
once_made (receipt.Register m inserted.Spent) = omega arith
once_made (receipt.Deregister base (removed.Done number m)) = omega arith
once_made (receipt.Deregister base (removed.NotFound stamp)) = omega arith
once_made (receipt.Deregister base removed.Spent) = omega arith
once_made (receipt.Replace m (replaced.Done number payload)) = omega arith
once_made (receipt.Replace m (replaced.NotFound stamp)) = omega arith
once_made (receipt.Replace m replaced.Spent) = omega arith
once_made (receipt.Load m (loading.Done number)) = omega arith
once_made (receipt.Load m (loading.Overlap other stamp)) = omega arith
once_made (receipt.Load m (loading.LoadFull stamp)) = omega arith
once_made (receipt.Load m loading.Spent) = omega arith
once_made (receipt.Unload base (removed.Done number m)) = omega arith
once_made (receipt.Unload base (removed.NotFound stamp)) = omega arith
once_made (receipt.Unload base removed.Spent) = omega arith
once_made (receipt.Query half pc found) = omega arith

made_of_updates : (receipts : List Receipt) → made_count receipts ≤ count_by is_of_update receipts
made_of_updates receipts = sum_by-le-sum_by (λ r. if is_some (accepted r) then 1 else 0) (λ r. if is_of_update r then 1 else 0) receipts once_made

-- what lists of receipts made, each no more than what stands beside it
made_beside : {A B : Type 0} (R : A → B → Type 0) (asked : A → ℕ) (told : B → List Receipt) → ((a : A) (b : B) → R a b → made_count (told b) ≤ asked a) → (xs : List A) (ys : List B) → AllZip R xs ys → made_count (flat_map told ys) ≤ sum_by asked xs
made_beside R asked told each [] [] all = omega arith
made_beside R asked told each (a ∷ xs) (b ∷ ys) all =
    let here = each a b all.0 in
    let rest = made_beside R asked told each xs ys all.1 in
    let both = count_both (λ r. is_some (accepted r)) (told b) (flat_map told ys) in
    let sum = sum_by-cons asked a xs in
    omega (arith, here, rest, both, sum)
made_beside R asked told each [] (b ∷ ys) all = absurd all
made_beside R asked told each (a ∷ xs) [] all = absurd all

pub joined_map : {A B : Type 0} (f : A → B) (told : B → List Receipt) (xs : List A) → flat_map told (map f xs) ≡ flat_map (λ a. told (f a)) xs
joined_map f told [] = refl
joined_map f told (a ∷ xs) = ap (λ rest. told (f a) ++ rest) (joined_map f told xs)

module _ (images : List SpanData) where
  abbrev pub of_thread : List Answer → List Receipt
  of_thread answers = flat_map (receipts_of images) answers

  abbrev pub of_round : List (List Answer) → List Receipt
  of_round round = flat_map (λ receipts. receipts) (map of_thread round)

  thread_made : (events : List Event) (answers : List Answer) → AllZip AnswersEvent events answers → made_count (of_thread answers) ≤ updates_in events
  thread_made = made_beside AnswersEvent updates_of (receipts_of images) (λ happens answer is. (let few = event_updates images happens answer is in let made = made_of_updates (receipts_of images answer) in omega (arith, few, made)))

  round_made : (threads : List (List Event)) (round : List (List Answer)) → AllZip (AllZip AnswersEvent) threads round → made_count (of_round round) ≤ sum_by updates_in threads
  round_made threads round all = rw (joined_map of_thread (λ receipts. receipts) round) (made_beside (AllZip AnswersEvent) updates_in of_thread thread_made threads round all)

  rounds_made : (rounds : List (List (List Event))) (answers : List (List (List Answer))) → AllZip (AllZip (AllZip AnswersEvent)) rounds answers → made_count (in_one (map (λ round. map of_thread round) answers)) ≤ updates_asked rounds
  rounds_made rounds answers all = rw (joined_map (λ (round : List (List Answer)). map of_thread round) (λ (round : List (List Receipt)). flat_map (λ receipts. receipts) round) answers) (made_beside (AllZip (AllZip AnswersEvent)) (λ threads. sum_by updates_in threads) of_round round_made rounds answers all)

  -- each round has a list for each of its threads
  threads_told : (rounds : List (List (List Event))) (answers : List (List (List Answer))) → AllZip (AllZip (AllZip AnswersEvent)) rounds answers → sum_by (λ round. length round) (map (λ round. map of_thread round) answers) ≡ sum_by (λ threads. length threads) rounds
  threads_told [] [] all = refl
  threads_told (threads ∷ rounds) (round ∷ answers) all =
      let here = AllZip-length (AllZip AnswersEvent) threads round all.0 in
      let told = length-map round of_thread in
      let rest = threads_told rounds answers all.1 in
      let sum = sum_by-cons (λ (round : List (List Receipt)). length round) (map of_thread round) (map (λ round. map of_thread round) answers) in
      let asked = sum_by-cons (λ (threads : List (List Event)). length threads) threads rounds in
      omega (arith, here, told, rest, sum, asked)
  threads_told [] (round ∷ answers) all = absurd all
  threads_told (threads ∷ rounds) [] all = absurd all

-- What holds of a registry with enough nodes holds of one with all that the script may have, where no more members are
-- ever registered than there are images.
pub enough_hold : (script : ScriptData) (journal : JournalData) (nodes : ℕ) (history : List Update) → AreEnough script nodes → AllZip (AllZip (AllZip AnswersEvent)) script.rounds journal.rounds → ((j : ℕ) → length (state_at (start_of script) history j).registered ≤ length script.images) → length history ≡ made_count (in_one (thread_receipts script.images journal)) → RoundsHold (start_of script) history nodes 1 0 (thread_receipts script.images journal) → RoundsHold (start_of script) history script.nodes 1 0 (thread_receipts script.images journal)
enough_hold script journal nodes history (inl same) answered images count holds = subst (λ n. RoundsHold (start_of script) history n 1 0 (thread_receipts script.images journal)) same holds
enough_hold script journal nodes history (inr enough) answered images count holds =
    let made = rounds_made script.images script.rounds journal.rounds answered in
    let told = threads_told script.images script.rounds journal.rounds answered in
    let few : (j : ℕ) → length (state_at (start_of script) history j).registered ≤ members_asked script.rounds (length script.images) = λ j. (let most = most_at (start_of script) history j refl in let image = images j in omega (arith, most, image, count, made)) in
    rounds_of_others (start_of script) history (members_asked script.rounds (length script.images)) few nodes script.nodes (callers_asked script.rounds) enough 1 0 (thread_receipts script.images journal) (omega (arith, told)) holds
