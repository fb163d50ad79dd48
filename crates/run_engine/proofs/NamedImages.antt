-- What a journal's answers register are its script's images.
use Rattle.std.proofs.Common.{◌≡◌, ℕ, ◌<◌, ◌≤◌, zero, suc, List, [], ◌∷◌, length, map, Option, Some, None, Bool, true, false, cond, refl, sym, subst}
use Rattle.std.specs.List.{All, AllByRecursion, AllZip, find, flat_map}
use Rattle.std.specs.Option.{IfSome, option_and_then, option_to_list}
use Rattle.std.proofs.lemmas.List.Elements.{All-head, All-tail}
use Rattle.reg_model.specs.SpanData.{SpanData}
use Rattle.reg_model.specs.History.{IsHistory, state_at}
use Rattle.reg_model.specs.Numbers.{has_number, history_of}
use Rattle.reg_model.specs.Receipt.{accepted, receipts_of_place}
use Rattle.reg_model.specs.declared.answer.Found.{Found}
use Rattle.reg_model.specs.declared.answer.Inserted.TheVariants as inserted
use Rattle.reg_model.specs.declared.answer.Loading.TheVariants as loading
use Rattle.reg_model.specs.declared.answer.Place.{Place}
use Rattle.reg_model.specs.declared.answer.Receipt.{Receipt}
use Rattle.reg_model.specs.declared.answer.Receipt.TheVariants as receipt
use Rattle.reg_model.specs.declared.answer.Removed.TheVariants as removed
use Rattle.reg_model.specs.declared.answer.Replaced.TheVariants as replaced
use Rattle.reg_model.specs.declared.answer.Update.{Update}
use Rattle.unwind_step.specs.declared.backtrace.FrameLine.{FrameLine}
use Rattle.word_rule.proofs.Each.{all_append}
use Rattle.script_text.specs.ScriptData.{IsEvent, IsRound, IsRunnable, IsThread, ScriptData, counts_of}
use Rattle.script_text.specs.JournalData.{JournalData}
use Rattle.script_text.specs.Lawful.{AnswersEvent, image_member, in_one, receipts_of, receipts_of_trace, start_of, thread_receipts}
use Rattle.script_text.specs.declared.script.Event.{Event}
use Rattle.script_text.specs.declared.script.Event.TheVariants as event
use Rattle.script_text.specs.declared.journal.Answer.{Answer}
use Rattle.script_text.specs.declared.journal.Answer.TheVariants.{Register, Deregister, Replace, Load, Unload, Find, Unwind}
use Rattle.run_engine.proofs.EnoughNodes.{joined_map, of_round, of_thread}
use Rattle.run_engine.proofs.FewMembers.{IsOfImage, Names, members_few}

module _ (script : ScriptData) where
  abbrev images : List SpanData
  images = script.images

  -- it accepted nothing but an update that names an image
  abbrev Accepts : Receipt → Type 0
  Accepts r = IfSome (accepted r) (Names images)

  -- ---- the history that is read off such receipts

  listed : (u : Option Update) → IfSome u (Names images) → AllByRecursion (Names images) (option_to_list u)
  listed None names = tt
  listed (Some u) names = (names, tt)

  found_names : (test : Receipt → Bool) (receipts : List Receipt) → AllByRecursion Accepts receipts → IfSome (option_and_then accepted (find test receipts)) (Names images)
  found_names test [] accept = tt
  found_names test (r ∷ receipts) accept =
      let later = found_names test receipts accept.1 in
      elim (test r) as (λ b. IfSome (option_and_then accepted (cond b (Some r) (find test receipts))) (Names images)) [ true ↦ accept.0 | false ↦ later ]

  history_names : (receipts : List Receipt) (n : ℕ) → AllByRecursion Accepts receipts → AllByRecursion (Names images) (history_of receipts n)
  history_names receipts zero accept = tt
  history_names receipts (suc n) accept =
      all_append (Names images) (history_of receipts n) _ (history_names receipts n accept) (listed _ (found_names (has_number (suc n)) receipts accept))

  -- ---- what is asked of receipts

  abbrev NamesAsked : Receipt → Type 0
  NamesAsked (receipt.Register m answer) = IsOfImage images m
  NamesAsked (receipt.Replace m answer) = IsOfImage images m
  NamesAsked _ = Unit {0}

  asked_accepts : (r : Receipt) → NamesAsked r → Accepts r
  asked_accepts (receipt.Register m (inserted.Done number)) names = names
  asked_accepts (receipt.Deregister base (removed.Done number m)) names = tt
  asked_accepts (receipt.Replace m (replaced.Done number payload)) names = names
  asked_accepts (receipt.Load m (loading.Done number)) names = tt
  asked_accepts (receipt.Unload base (removed.Done number m)) names = tt
  asked_accepts _ names = tt

  place_accepts : (pc : ℕ) (place : Place) → AllByRecursion Accepts (receipts_of_place pc place)
  place_accepts pc place = by place.loaded refl
    where
      by : (o : Option Found) → place.loaded ≡ o → AllByRecursion Accepts (receipts_of_place pc place)
      by None none = rw none (tt, tt)
      by (Some found) some = rw some (tt, (tt, tt))

  trace_accepts : (lines : List FrameLine) → AllByRecursion Accepts (receipts_of_trace lines)
  trace_accepts [] = tt
  trace_accepts (line ∷ lines) =
      all_append Accepts (receipts_of_place line.look line.place) (receipts_of_trace lines) (place_accepts line.look line.place) (trace_accepts lines)

  -- an event names an image that there is, and its answer the same
  same_image : (asked image : ℕ) → image < length images → asked ≡ image → IsOfImage images (image_member images asked)
  same_image asked image named is = (asked, subst (λ i. i < length images) (sym is) named, refl)

  event_accepts : (happens : Event) (answer : Answer) → IsEvent (counts_of script) happens → AnswersEvent happens answer → AllByRecursion Accepts (receipts_of images answer)
  event_accepts (event.Register image) (Register asked answer) named is =
      (asked_accepts (receipt.Register (image_member images asked) answer) (same_image asked image named is), tt)
  event_accepts (event.Deregister base) (Deregister asked answer) named is = (asked_accepts (receipt.Deregister asked answer) tt, tt)
  event_accepts (event.Replace image) (Replace asked answer) named is =
      (asked_accepts (receipt.Replace (image_member images asked) answer) (same_image asked image named.0 is), tt)
  event_accepts (event.Load image) (Load asked answer) named is =
      (asked_accepts (receipt.Load (image_member images asked) answer) tt, tt)
  event_accepts (event.Unload base) (Unload asked answer) named is = (asked_accepts (receipt.Unload asked answer) tt, tt)
  event_accepts (event.Find pc) (Find asked place) named is = place_accepts asked place
  event_accepts (event.Unwind number) (Unwind asked trace) named is = trace_accepts trace.frames
  event_accepts _ _ named is = absurd is

  -- ---- of all threads and rounds

  accepts_beside : {A B : Type 0} (P : A → Type 0) (R : A → B → Type 0) (told : B → List Receipt) → ((a : A) (b : B) → P a → R a b → AllByRecursion Accepts (told b)) → (xs : List A) (ys : List B) → All P xs → AllZip R xs ys → AllByRecursion Accepts (flat_map told ys)
  accepts_beside P R told each [] [] are all = tt
  accepts_beside P R told each (a ∷ xs) (b ∷ ys) are all =
      all_append Accepts (told b) (flat_map told ys) (each a b (All-head P a xs are) all.0) (accepts_beside P R told each xs ys (All-tail P a xs are) all.1)
  accepts_beside P R told each [] (b ∷ ys) are all = absurd all
  accepts_beside P R told each (a ∷ xs) [] are all = absurd all

  thread_accepts : (events : List Event) (answers : List Answer) → IsThread (counts_of script) events → AllZip AnswersEvent events answers → AllByRecursion Accepts (of_thread images answers)
  thread_accepts events answers is = accepts_beside (IsEvent (counts_of script)) AnswersEvent (receipts_of images) event_accepts events answers is.1

  round_accepts : (threads : List (List Event)) (round : List (List Answer)) → IsRound (counts_of script) threads → AllZip (AllZip AnswersEvent) threads round → AllByRecursion Accepts (of_round images round)
  round_accepts threads round is all =
      rw (joined_map (of_thread images) (λ receipts. receipts) round) (accepts_beside (IsThread (counts_of script)) (AllZip AnswersEvent) (of_thread images) thread_accepts threads round is.1 all)

  journal_accepts : (answers : List (List (List Answer))) → All (IsRound (counts_of script)) script.rounds → AllZip (AllZip (AllZip AnswersEvent)) script.rounds answers → AllByRecursion Accepts (in_one (map (λ round. map (of_thread images) round) answers))
  journal_accepts answers are all =
      rw (joined_map (λ (round : List (List Answer)). map (of_thread images) round) (λ (round : List (List Receipt)). flat_map (λ receipts. receipts) round) answers) (accepts_beside (IsRound (counts_of script)) (AllZip (AllZip AnswersEvent)) (of_round images) round_accepts script.rounds answers are all)

  -- so in the history that is read off a journal no more are registered than there are images
  pub images_few : (journal : JournalData) (history : List Update) (j : ℕ) → IsRunnable script → AllZip (AllZip (AllZip AnswersEvent)) script.rounds journal.rounds → IsHistory (start_of script) history → history_of (in_one (thread_receipts images journal)) (length history) ≡ history → length (state_at (start_of script) history j).registered ≤ length images
  images_few journal history j runnable answered is told =
      let receipts = in_one (thread_receipts images journal) in
      let names = subst (AllByRecursion (Names images)) told (history_names receipts (length history) (journal_accepts journal.rounds runnable.rounds.1 answered)) in
      members_few images runnable.images.1 (start_of script) history j refl names is
