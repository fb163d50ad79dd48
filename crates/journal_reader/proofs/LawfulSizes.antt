-- The numbers of a lawful journal have the sizes that those of a program have. Each stamp and number
-- is at most how many updates were accepted, so at most how many events a script may have; and what
-- backtraces show has 64 bits.
use Rattle.std.proofs.Common.{◌≡◌, ℕ, zero, suc, ◌+◌, ◌*◌, ◌^◌, ◌<◌, ◌≤◌, List, [], ◌∷◌, ◌++◌, length, map, Bool, true, false, cond, leb, Option, Some, None, All, inl, inr, refl, sym, ◌∙◌, ap, subst, arith}
use Rattle.std.specs.List.{AllByRecursion, AllZip, flat_map, count_by}
use Rattle.std.specs.Option.{is_some}
use Rattle.std.proofs.lemmas.Bool.{cases_lt, eqb-true, and_parts, and_from, le-leb}
use Rattle.std.proofs.lemmas.List.{get_or_past}
use Rattle.std.proofs.lemmas.List.Elements.{recursion_from_All}
use Rattle.std.proofs.lemmas.List.Sums.{sum_by-append, sum_by-cons, count_by-le-length}
use Rattle.std.proofs.lemmas.Option.{get_or_from_slice_get, slice_get_within}
use Rattle.std.proofs.lemmas.Slice.Zip.{AllZip-long}
use Rattle.frame_parse.specs.Sections.{SectionData}
use Rattle.reg_model.specs.SpanData.{SpanData}
use Rattle.reg_model.specs.Numbers.{has_number, AreNumbered}
use Rattle.reg_model.specs.Receipt.{moment, accepted, receipts_of_place}
use Rattle.reg_model.specs.declared.answer.Found.{Found}
use Rattle.reg_model.specs.declared.answer.Found.TheVariants.{Hit, Miss}
use Rattle.reg_model.specs.declared.answer.Half.{Half}
use Rattle.reg_model.specs.declared.answer.Half.TheVariants.{Registered, Loaded}
use Rattle.reg_model.specs.declared.answer.Inserted.TheVariants as inserted
use Rattle.reg_model.specs.declared.answer.Loading.TheVariants as loading
use Rattle.reg_model.specs.declared.answer.Receipt.{Receipt}
use Rattle.reg_model.specs.declared.answer.Receipt.TheVariants as receipt
use Rattle.reg_model.specs.declared.answer.Removed.TheVariants as removed
use Rattle.reg_model.specs.declared.answer.Replaced.TheVariants as replaced
use Rattle.trace_check.specs.Words.{AreWords, IsWordLine, IsWordEnd, HasWords}
use Rattle.trace_check.proofs.Words.{trace_words}
use Rattle.unwind_step.specs.declared.backtrace.End.{End}
use Rattle.unwind_step.specs.declared.backtrace.End.TheVariants as ends
use Rattle.unwind_step.specs.declared.backtrace.FrameLine.{FrameLine}
use Rattle.script_text.specs.JournalData.{JournalData}
use Rattle.script_text.specs.Lawful.{image_member, AnswersEvent, AreInRounds, IsLawfulJournal, IsUnfolded, done_after, in_one, receipts_of, receipts_of_trace, thread_receipts}
use Rattle.script_text.specs.ScriptData.{Counts, IsRound, IsRunnable, IsSectionOf, IsSnapshot, IsThread, ScriptData, SnapshotData, counts_of}
use Rattle.script_text.specs.declared.journal.Answer.{Answer}
use Rattle.script_text.specs.declared.journal.Answer.TheVariants.{Register, Deregister, Replace, Load, Unload, Find, Unwind}
use Rattle.script_text.specs.declared.script.Event.{Event}
use Rattle.script_text.specs.Text.{journal_text}
use Rattle.journal_reader.specs.FormFlaw.{TellsJournal}
use Rattle.journal_reader.proofs.Sizes.{IsSized, IsSizedAnswer, IsSizedFound, IsSizedFrame, IsSizedPlace}
use Rattle.journal_reader.specs.Told.{IsToldEnd}
use Rattle.journal_reader.proofs.LawfulTold.{each_receipt_joined, each_receipt_parts, lawful_told}

-- ---- how many updates are accepted

abbrev pub count : List Receipt → ℕ
count receipts = count_by (λ r. is_some (accepted r)) receipts

abbrev pub one : Receipt → ℕ
one r = cond (is_some (accepted r)) 1 0

pub count_append : (xs ys : List Receipt) → count (xs ++ ys) ≡ count xs + count ys
count_append xs ys = sum_by-append one xs ys

pub of_place : (pc : ℕ) (registered : Found) (loaded : Option Found) → count (receipts_of_place pc (record { registered = registered; loaded = loaded })) ≡ 0
of_place pc registered None = refl
of_place pc registered (Some found) = refl

pub of_frames : (frames : List FrameLine) → count (receipts_of_trace frames) ≡ 0
of_frames [] = refl
of_frames (line ∷ frames) =
    let rest = of_frames frames in
    let here = of_place line.look line.place.registered line.place.loaded in
    count_append (receipts_of_place line.look line.place) (receipts_of_trace frames) ∙ omega arith

single : (r : Receipt) → count (r ∷ []) ≤ 1
single r = count_by-le-length (λ r. is_some (accepted r)) (r ∷ [])

module _ (images : List SpanData) where
  one_at_most : (answer : Answer) → count (receipts_of images answer) ≤ 1
  one_at_most (Register image answer) = single (receipt.Register (image_member images image) answer)
  one_at_most (Deregister base answer) = single (receipt.Deregister base answer)
  one_at_most (Replace image answer) = single (receipt.Replace (image_member images image) answer)
  one_at_most (Load image answer) = single (receipt.Load (image_member images image) answer)
  one_at_most (Unload base answer) = single (receipt.Unload base answer)
  one_at_most (Find pc place) = let none = of_place pc place.registered place.loaded in omega (arith, none)
  one_at_most (Unwind snapshot trace) = let none = of_frames trace.frames in omega (arith, none)

  abbrev of_thread : List Answer → List Receipt
  of_thread answers = flat_map (receipts_of images) answers

  abbrev of_round : List (List Answer) → List (List Receipt)
  of_round round = map of_thread round

  abbrev joined : List (List Receipt) → List Receipt
  joined round = flat_map (λ receipts. receipts) round

  thread_count : (answers : List Answer) → count (of_thread answers) ≤ length answers
  thread_count [] = omega arith
  thread_count (answer ∷ answers) =
      let here = one_at_most answer in
      let rest = thread_count answers in
      let sum = count_append (receipts_of images answer) (of_thread answers) in
      omega (arith, here, rest, sum)

  module _ (counts : Counts) where
    round_count : (threads : List (List Event)) (answers : List (List Answer)) → AllByRecursion (IsThread counts) threads → AllZip (AllZip AnswersEvent) threads answers → count (joined (of_round answers)) ≤ length threads * 4096
    round_count [] [] limits is = omega arith
    round_count [] (answer ∷ answers) limits is = absurd is
    round_count (events ∷ threads) [] limits is = absurd is
    round_count (events ∷ threads) (answer ∷ answers) limits is =
        let few = limits.0.0 in
        let long = AllZip-long AnswersEvent events answer is.0 in
        let here = thread_count answer in
        let rest = round_count threads answers limits.1 is.1 in
        let sum = count_append (of_thread answer) (joined (of_round answers)) in
        omega (arith, few, long, here, rest, sum)

    rounds_count : (rounds : List (List (List Event))) (answers : List (List (List Answer))) → AllByRecursion (IsRound counts) rounds → AllZip (AllZip (AllZip AnswersEvent)) rounds answers → count (in_one (map of_round answers)) ≤ length rounds * 65536
    rounds_count [] [] limits is = omega arith
    rounds_count [] (answer ∷ answers) limits is = absurd is
    rounds_count (threads ∷ rounds) [] limits is = absurd is
    rounds_count (threads ∷ rounds) (answer ∷ answers) limits is =
        let few = limits.0.0 in
        let here = round_count threads answer (recursion_from_All (IsThread counts) threads limits.0.1) is.0 in
        let rest = rounds_count rounds answers limits.1 is.1 in
        let sum = count_append (joined (of_round answer)) (in_one (map of_round answers)) in
        omega (arith, few, here, rest, sum)

-- ---- stamps and numbers

abbrev IsSmall : Receipt → Type 0
IsSmall r = moment r < 2 ^ 32

few_each : (limit : ℕ) (done : ℕ) (receipts : List Receipt) → limit < 2 ^ 32 → AllByRecursion (λ r. (done ≤ moment r) × (moment r ≤ limit)) receipts → AllByRecursion IsSmall receipts
few_each limit done [] less within = tt
few_each limit done (r ∷ receipts) less within = (let most = within.0.1 in omega (arith, less, most), few_each limit done receipts less within.1)

in_rounds : (done : ℕ) (rounds : List (List (List Receipt))) → AreInRounds done rounds → done + count (in_one rounds) < 2 ^ 32 → AllByRecursion IsSmall (in_one rounds)
in_rounds done [] are less = tt
in_rounds done (round ∷ rounds) are less =
    let flat = flat_map (λ receipts. receipts) round in
    let after = done_after done round in
    let sum = count_append flat (in_one rounds) in
    each_receipt_joined IsSmall flat (in_one rounds)
    (few_each after done flat (omega (arith, less, sum)) (recursion_from_All (λ r. (done ≤ moment r) × (moment r ≤ after)) flat are.0))
    (in_rounds after rounds are.1 (omega (arith, less, sum)))

-- a number that stands on one of small receipts
stands_small : (n : ℕ) (receipts : List Receipt) → AllByRecursion IsSmall receipts → count_by (has_number n) receipts ≡ 1 → n < 2 ^ 32
stands_small n [] small is = absurd (omega (arith, is))
stands_small n (r ∷ receipts) small is =
    let mark : Bool → ℕ = λ b. cond b 1 0 in
    let sum = sum_by-cons (λ (x : Receipt). mark (has_number n x)) r receipts in
    elim (has_number n r) as (λ b. has_number n r ≡ b → n < 2 ^ 32) [
      | true ↦ (λ has. subst (λ k. k < 2 ^ 32) (eqb-true (moment r) n (and_parts (is_some (accepted r)) _ has).1) small.0)
      | false ↦ (λ no.
          let here : mark (has_number n r) ≡ 0 = ap mark no in
          stands_small n receipts small.1 (omega (arith, here, sum, is)))
    ] refl

numbers_small : (n : ℕ) (receipts : List Receipt) → AllByRecursion IsSmall receipts → AreNumbered n receipts → n < 2 ^ 32
numbers_small zero receipts small numbered = omega arith
numbers_small (suc n) receipts small numbered =
    let inside = and_from (leb 1 (suc n)) (leb (suc n) (suc n)) (le-leb 1 (suc n) (omega arith)) (le-leb (suc n) (suc n) (omega arith)) in
    stands_small (suc n) receipts small (numbered (suc n) ∙ let mark : Bool → ℕ = λ b. cond b 1 0 in ap mark inside)

-- ---- answers

found_sized : (half : Half) (pc : ℕ) (found : Found) → IsSmall (receipt.Query half pc found) → IsSizedFound found
found_sized half pc (Hit m stamp) small = small
found_sized half pc (Miss stamp) small = small

place_sized : (pc : ℕ) (registered : Found) (loaded : Option Found) → AllByRecursion IsSmall (receipts_of_place pc (record { registered = registered; loaded = loaded })) → IsSizedPlace (record { registered = registered; loaded = loaded })
place_sized pc registered None small = record { registered = found_sized Registered pc registered small.0; loaded = tt }
place_sized pc registered (Some found) small = record { registered = found_sized Registered pc registered small.0; loaded = found_sized Loaded pc found small.1.0 }

frames_sized : (frames : List FrameLine) → AllByRecursion IsWordLine frames → AllByRecursion IsSmall (receipts_of_trace frames) → AllByRecursion IsSizedFrame frames
frames_sized [] words small = tt
frames_sized (line ∷ frames) words small =
    let parts = each_receipt_parts IsSmall (receipts_of_place line.look line.place) (receipts_of_trace frames) small in
    let here = words.0 in (
      record { pc = here.pc; sp = here.sp; look = here.look; place = place_sized line.look line.place.registered line.place.loaded parts.0 },
      frames_sized frames words.1 parts.1,
    )

end_sized : (end : End) → IsWordEnd end → IsToldEnd end
end_sized ends.NoObject word = tt
end_sized ends.NoFde word = tt
end_sized ends.NoRow word = tt
end_sized ends.Undefined word = tt
end_sized (ends.NoBytes address) word = word
end_sized ends.Long word = tt

-- the numbers of the trace, where it is a backtrace
abbrev AnswerHasWords : Answer → Type 0
AnswerHasWords (Unwind number trace) = HasWords trace
AnswerHasWords _ = Unit {0}

module _ (images : List SpanData) where
  answer_sized : (answer : Answer) → AllByRecursion IsSmall (receipts_of images answer) → AnswerHasWords answer → IsSizedAnswer answer
  answer_sized (Register image inserted.Spent) small words = tt
  answer_sized (Register image _) small words = small.0
  answer_sized (Deregister base removed.Spent) small words = tt
  answer_sized (Deregister base _) small words = small.0
  answer_sized (Replace image replaced.Spent) small words = tt
  answer_sized (Replace image _) small words = small.0
  answer_sized (Load image loading.Spent) small words = tt
  answer_sized (Load image _) small words = small.0
  answer_sized (Unload base removed.Spent) small words = tt
  answer_sized (Unload base _) small words = small.0
  answer_sized (Find pc place) small words = place_sized pc place.registered place.loaded small
  answer_sized (Unwind number trace) small words = (frames_sized trace.frames (recursion_from_All IsWordLine trace.frames words.frames) small, end_sized trace.end words.end)

  thread_sized : (answers : List Answer) → AllByRecursion IsSmall (of_thread images answers) → All AnswerHasWords answers → AllByRecursion IsSizedAnswer answers
  thread_sized answers small words = by_recursion answers small (recursion_from_All AnswerHasWords answers words)
    where
      by_recursion : (answers : List Answer) → AllByRecursion IsSmall (of_thread images answers) → AllByRecursion AnswerHasWords answers → AllByRecursion IsSizedAnswer answers
      by_recursion [] small words = tt
      by_recursion (answer ∷ answers) small words =
          let parts = each_receipt_parts IsSmall (receipts_of images answer) (of_thread images answers) small in
          (answer_sized answer parts.0 words.0, by_recursion answers parts.1 words.1)

  round_sized : (round : List (List Answer)) → AllByRecursion IsSmall (joined images (of_round images round)) → AllByRecursion (All AnswerHasWords) round → AllByRecursion (AllByRecursion IsSizedAnswer) round
  round_sized [] small words = tt
  round_sized (answers ∷ round) small words =
      let parts = each_receipt_parts IsSmall (of_thread images answers) (joined images (of_round images round)) small in
      (thread_sized answers parts.0 words.0, round_sized round parts.1 words.1)

  rounds_sized : (rounds : List (List (List Answer))) → AllByRecursion IsSmall (in_one (map (of_round images) rounds)) → AllByRecursion (All (All AnswerHasWords)) rounds → AllByRecursion (AllByRecursion (AllByRecursion IsSizedAnswer)) rounds
  rounds_sized [] small words = tt
  rounds_sized (round ∷ rounds) small words =
      let parts = each_receipt_parts IsSmall (joined images (of_round images round)) (in_one (map (of_round images) rounds)) small in
      (round_sized round parts.0 (recursion_from_All (All AnswerHasWords) round words.0), rounds_sized rounds parts.1 words.1)

-- ---- backtraces

columns_fit : (columns : List ℕ) → All (λ n. n < 2 ^ 64) columns → AreWords columns
columns_fit columns all i = elim (cases_lt i (length columns)) [
  | inl within ↦ all i 0 within
  | inr past ↦ subst (λ n. n < 2 ^ 64) (sym (get_or_past columns i 0 past)) (omega arith)
]

module _ (sections : List SectionData) (snapshots : List SnapshotData) (spelled : All IsSectionOf sections) (recorded : All IsSnapshot snapshots) where
  unfolded_words : (answer : Answer) → IsUnfolded sections snapshots answer → AnswerHasWords answer
  unfolded_words (Unwind number trace) (snapshot, at, unfolds) =
      let here : IsSnapshot snapshot = subst IsSnapshot (get_or_from_slice_get snapshots number snapshot snapshot at) (recorded number snapshot (slice_get_within snapshots number snapshot at)) in
      trace_words sections (λ i s within. (spelled i s within).bytes) snapshot.memory snapshot.regs here.bytes (columns_fit snapshot.regs.columns here.columns) trace unfolds
  unfolded_words _ is = tt

pub lawful_sized : (script : ScriptData) (journal : JournalData) → IsRunnable script → IsLawfulJournal script journal → IsSized journal
lawful_sized script journal run lawful =
    let images = script.images in
    let few = run.rounds.0 in
    let limits = recursion_from_All (IsRound (counts_of script)) script.rounds run.rounds.1 in
    let most = rounds_count images (counts_of script) script.rounds journal.rounds limits lawful.answered in
    let receipts = in_one (thread_receipts images journal) in
    let small : AllByRecursion IsSmall receipts = in_rounds 0 (thread_receipts images journal) lawful.rounds (omega (arith, few, most)) in
    let words : All (All (All AnswerHasWords)) journal.rounds = (λ i d within j e inside k f here.
    unfolded_words script.sections script.snapshots run.sections.1 run.snapshots.1 _ (lawful.unfolded i d within j e inside k f here)) in
    record {
      answers = rounds_sized images journal.rounds small (recursion_from_All (All (All AnswerHasWords)) journal.rounds words);
      updates = numbers_small journal.updates receipts small lawful.numbered;
    }

pub lawful_is_told : (script : ScriptData) (journal : JournalData) → IsRunnable script → IsLawfulJournal script journal → TellsJournal script (journal_text journal) journal
lawful_is_told script journal run lawful = lawful_told script journal run lawful (lawful_sized script journal run lawful)
