-- A lawful journal is told by its text.
use Rattle.std.proofs.Common.{ℕ, ◌+◌, ◌<◌, zero, suc, eqb, List, [], ◌∷◌, ◌++◌, length, map, Option, Some, None, IfSome, refl, sym, subst, eq-eqb, max, arith}
use Rattle.std.specs.List.{AllByRecursion, AllZip, flat_map}
use Rattle.std.proofs.lemmas.Bool.{cond-true}
use Rattle.std.proofs.lemmas.List.Elements.{recursion_from_All}
use Rattle.reg_model.specs.SpanData.{SpanData, IsSpan}
use Rattle.reg_model.specs.State.{State}
use Rattle.reg_model.specs.Receipt.{moment, AllHold, AreInOrder, IsPlace, receipts_of_place}
use Rattle.reg_model.specs.Numbers.{history_of}
use Rattle.reg_model.specs.declared.span.Member.{Member}
use Rattle.reg_model.specs.declared.answer.Update.{Update}
use Rattle.reg_model.specs.declared.answer.Found.{Found}
use Rattle.reg_model.specs.declared.answer.Found.TheVariants.{Hit, Miss}
use Rattle.reg_model.specs.declared.answer.Half.{Half}
use Rattle.reg_model.specs.declared.answer.Half.TheVariants.{Registered, Loaded}
use Rattle.reg_model.specs.declared.answer.Inserted.{Inserted}
use Rattle.reg_model.specs.declared.answer.Inserted.TheVariants as inserted
use Rattle.reg_model.specs.declared.answer.Loading.{Loading}
use Rattle.reg_model.specs.declared.answer.Loading.TheVariants as loading
use Rattle.reg_model.specs.declared.answer.Removed.{Removed}
use Rattle.reg_model.specs.declared.answer.Removed.TheVariants as removed
use Rattle.reg_model.specs.declared.answer.Replaced.{Replaced}
use Rattle.reg_model.specs.declared.answer.Replaced.TheVariants as replaced
use Rattle.reg_model.specs.declared.answer.Receipt.{Receipt}
use Rattle.reg_model.specs.declared.answer.Receipt.TheVariants as receipt
use Rattle.unwind_step.specs.declared.backtrace.FrameLine.{FrameLine}
use Rattle.script_text.specs.ScriptData.{ScriptData, IsEvent, IsThread, IsRound, IsRunnable, span_of, counts_of}
use Rattle.script_text.specs.JournalData.{JournalData}
use Rattle.script_text.specs.Lawful.{image_member, AnswersEvent, receipts_of, receipts_of_trace, thread_receipts, in_one, done_after, RoundsHold, start_of, IsLawfulJournal}
use Rattle.script_text.specs.Text.{journal_text}
use Rattle.script_text.specs.declared.script.Event.{Event}
use Rattle.script_text.specs.declared.script.Event.TheVariants as event
use Rattle.script_text.specs.declared.journal.Answer.{Answer}
use Rattle.script_text.specs.declared.journal.Answer.TheVariants.{Register, Deregister, Replace, Load, Unload, Find, Unwind}
use Rattle.journal_reader.specs.Told.{IsImage, IsToldOverlap, IsToldFound, IsToldPlace, IsToldInserted, IsToldLoading, IsToldRemoved, IsToldReplaced, IsToldFrame, IsToldAnswer}
use Rattle.journal_reader.proofs.Sizes.{IsSizedFound, IsSizedInserted, IsSizedLoading, IsSizedRemoved, IsSizedReplaced, IsSizedFrame, IsSizedAnswer, IsSized}
use Rattle.journal_reader.specs.FormFlaw.{TellsJournal}
use Rattle.journal_reader.proofs.LawfulMembers.{AreMembers, IsFrom, IsReceiptFrom, NamesSuch, history_from, names_such}

pub each_receipt_joined : (Q : Receipt → Type 0) (xs ys : List Receipt) → AllByRecursion Q xs → AllByRecursion Q ys → AllByRecursion Q (xs ++ ys)
each_receipt_joined Q [] ys p q = q
each_receipt_joined Q (x ∷ xs) ys p q = (p.0, each_receipt_joined Q xs ys p.1 q)

pub each_receipt_parts : (Q : Receipt → Type 0) (xs ys : List Receipt) → AllByRecursion Q (xs ++ ys) → AllByRecursion Q xs × AllByRecursion Q ys
each_receipt_parts Q [] ys p = (tt, p)
each_receipt_parts Q (x ∷ xs) ys p = let rest = each_receipt_parts Q xs ys p.1 in ((p.0, rest.0), rest.1)

module _ (images : List SpanData) (spans : AllByRecursion IsSpan images) where
  abbrev Image : Member → Type 0
  Image m = IsImage images m

  image_is : (image : ℕ) → image < length images → Image (image_member images image)
  image_is image lt = record { named = lt; is = refl }

  span_at : (all : List SpanData) (image : ℕ) → AllByRecursion IsSpan all → image < length all → IsSpan (span_of all image)
  span_at [] image p lt = absurd (omega arith)
  span_at (span ∷ all) zero p lt = p.0
  span_at (span ∷ all) (suc image) p lt = span_at all image p.1 (omega arith)

  told_overlap : (m : Member) → Image m → IsToldOverlap images m
  told_overlap m is =
      let n = m.payload in
      let span = span_at images n spans is.named in
      let ordered = span.ordered in
      let below = span.below_top in
      let made : IsToldOverlap images (image_member images n) = record {
        named = is.named;
        base = omega arith;
        is = sym (cond-true (eqb (span_of images n).first (span_of images n).first) (image_member images n) (record { span = record { first = (span_of images n).first; last = (span_of images n).first }; payload = n }) (eq-eqb _ _ refl));
      } in
      subst (IsToldOverlap images) (sym is.is) made

  -- ---- what each receipt brings

  place_from_none : (pc : ℕ) (registered : Found) (loaded : Option Found) → AllByRecursion (IsReceiptFrom Image) (receipts_of_place pc (record { registered = registered; loaded = loaded }))
  place_from_none pc registered None = (tt, tt)
  place_from_none pc registered (Some found) = (tt, (tt, tt))

  trace_from_none : (frames : List FrameLine) → AllByRecursion (IsReceiptFrom Image) (receipts_of_trace frames)
  trace_from_none [] = tt
  trace_from_none (line ∷ frames) = each_receipt_joined (IsReceiptFrom Image) (receipts_of_place line.look line.place) (receipts_of_trace frames) (place_from_none line.look line.place.registered line.place.loaded) (trace_from_none frames)

  inserted_from : (image : ℕ) (answer : Inserted) → image < length images → IsReceiptFrom Image (receipt.Register (image_member images image) answer)
  inserted_from image (inserted.Done number) lt = image_is image lt
  inserted_from image _ lt = tt

  loading_from : (image : ℕ) (answer : Loading) → image < length images → IsReceiptFrom Image (receipt.Load (image_member images image) answer)
  loading_from image (loading.Done number) lt = image_is image lt
  loading_from image _ lt = tt

  replaced_from : (image : ℕ) (answer : Replaced) → image < length images → IsReceiptFrom Image (receipt.Replace (image_member images image) answer)
  replaced_from image (replaced.Done number payload) lt = image_is image lt
  replaced_from image _ lt = tt

  -- a removal brings nothing
  removed_from : (base : ℕ) (answer : Removed) → IsReceiptFrom Image (receipt.Deregister base answer) × IsReceiptFrom Image (receipt.Unload base answer)
  removed_from base (removed.Done number m) = (tt, tt)
  removed_from base _ = (tt, tt)

  answer_from : (version snapshots : ℕ) (asked : Event) (answer : Answer) → IsEvent (record { version = version; images = length images; snapshots = snapshots }) asked → AnswersEvent asked answer → AllByRecursion (IsReceiptFrom Image) (receipts_of images answer)
  answer_from version snapshots (event.Register image) (Register number answer) named is = (inserted_from number answer (subst (λ (n : ℕ). n < length images) (sym is) named), tt)
  answer_from version snapshots (event.Deregister base) (Deregister number answer) named is = ((removed_from number answer).0, tt)
  answer_from version snapshots (event.Replace image) (Replace number answer) named is = (replaced_from number answer (subst (λ (n : ℕ). n < length images) (sym is) named.0), tt)
  answer_from version snapshots (event.Load image) (Load number answer) named is = (loading_from number answer (subst (λ (n : ℕ). n < length images) (sym is) named), tt)
  answer_from version snapshots (event.Unload base) (Unload number answer) named is = ((removed_from number answer).1, tt)
  answer_from version snapshots (event.Find pc) (Find number place) named is = place_from_none number place.registered place.loaded
  answer_from version snapshots (event.Unwind snapshot) (Unwind number trace) named is = trace_from_none trace.frames
  answer_from version snapshots asked answer named is = absurd is

  -- ---- what each answer names

  found_told : (half : Half) (pc : ℕ) (found : Found) → NamesSuch Image (receipt.Query half pc found) → IsSizedFound found → IsToldFound images found
  found_told half pc (Hit m stamp) such sized = (such, sized)
  found_told half pc (Miss stamp) such sized = sized

  place_told : (pc : ℕ) (registered : Found) (loaded : Option Found) → IsPlace (record { registered = registered; loaded = loaded }) → AllByRecursion (NamesSuch Image) (receipts_of_place pc (record { registered = registered; loaded = loaded })) → IsSizedFound registered → IfSome loaded IsSizedFound
      → IsToldPlace images (record { registered = registered; loaded = loaded })
  place_told pc registered None whole such first second = record { whole = whole; registered = found_told Registered pc registered such.0 first; loaded = tt }
  place_told pc registered (Some found) whole such first second = record { whole = whole; registered = found_told Registered pc registered such.0 first; loaded = found_told Loaded pc found such.1.0 second }

  inserted_told : (m : Member) (answer : Inserted) → NamesSuch Image (receipt.Register m answer) → IsSizedInserted answer → IsToldInserted images answer
  inserted_told m (inserted.Overlap other stamp) such sized = (told_overlap other such, sized)
  inserted_told m inserted.Spent such sized = such
  inserted_told m _ such sized = sized

  loading_told : (m : Member) (answer : Loading) → NamesSuch Image (receipt.Load m answer) → IsSizedLoading answer → IsToldLoading images answer
  loading_told m (loading.Overlap other stamp) such sized = (told_overlap other such, sized)
  loading_told m loading.Spent such sized = such
  loading_told m _ such sized = sized

  deregistered_told : (base : ℕ) (answer : Removed) → NamesSuch Image (receipt.Deregister base answer) → IsSizedRemoved answer → IsToldRemoved images answer
  deregistered_told base (removed.Done number m) such sized = (sized, such)
  deregistered_told base (removed.NotFound stamp) such sized = sized
  deregistered_told base removed.Spent such sized = such

  replaced_told : (m : Member) (answer : Replaced) → NamesSuch Image (receipt.Replace m answer) → IsSizedReplaced answer → IsToldReplaced images answer
  replaced_told m (replaced.Done number payload) (old, image, same) sized = (sized, subst (λ n. n < length images) same image.named)
  replaced_told m (replaced.NotFound stamp) such sized = sized
  replaced_told m replaced.Spent such sized = such

  unloaded_told : (base : ℕ) (answer : Removed) → NamesSuch Image (receipt.Unload base answer) → IsSizedRemoved answer → IsToldRemoved images answer
  unloaded_told base (removed.Done number m) such sized = (sized, such)
  unloaded_told base (removed.NotFound stamp) such sized = sized
  unloaded_told base removed.Spent such sized = such

  frames_told : (frames : List FrameLine) → AllByRecursion (λ line. IsPlace line.place) frames → AllByRecursion (NamesSuch Image) (receipts_of_trace frames) → AllByRecursion IsSizedFrame frames → AllByRecursion (IsToldFrame images) frames
  frames_told [] whole such sized = tt
  frames_told (line ∷ frames) whole such sized =
      let parts = each_receipt_parts (NamesSuch Image) (receipts_of_place line.look line.place) (receipts_of_trace frames) such in
      let size = sized.0 in (
        record { pc = size.pc; sp = size.sp; look = size.look; place = place_told line.look line.place.registered line.place.loaded whole.0 parts.0 size.place.registered size.place.loaded },
        frames_told frames whole.1 parts.1 sized.1,
      )

  answer_told : (asked : Event) (answer : Answer) → AnswersEvent asked answer → AllByRecursion (NamesSuch Image) (receipts_of images answer) → IsSizedAnswer answer → IsToldAnswer images asked answer
  answer_told (event.Register image) (Register number answer) is such sized = (is, inserted_told (image_member images number) answer such.0 sized)
  answer_told (event.Deregister base) (Deregister number answer) is such sized = (is, deregistered_told number answer such.0 sized)
  answer_told (event.Replace image) (Replace number answer) is such sized = (is, replaced_told (image_member images number) answer such.0 sized)
  answer_told (event.Load image) (Load number answer) is such sized = (is, loading_told (image_member images number) answer such.0 sized)
  answer_told (event.Unload base) (Unload number answer) is such sized = (is, unloaded_told number answer such.0 sized)
  answer_told (event.Find pc) (Find number place) is such sized = (is.0, place_told number place.registered place.loaded is.1 such sized.registered sized.loaded)
  answer_told (event.Unwind snapshot) (Unwind number trace) is such sized =
      (is.0, record { frames = frames_told trace.frames (recursion_from_All (λ line. IsPlace line.place) trace.frames is.1) such sized.0; end = sized.1 })
  answer_told asked answer is such sized = absurd is

  -- ---- lists of answers

  abbrev of_round : List (List Answer) → List (List Receipt)
  of_round answers = map (λ answers. flat_map (receipts_of images) answers) answers

  thread_from : (version snapshots : ℕ) (events : List Event) (answers : List Answer) → AllByRecursion (IsEvent (record { version = version; images = length images; snapshots = snapshots })) events → AllZip AnswersEvent events answers
      → AllByRecursion (IsReceiptFrom Image) (flat_map (receipts_of images) answers)
  thread_from version snapshots [] [] named is = tt
  thread_from version snapshots [] (answer ∷ answers) named is = absurd is
  thread_from version snapshots (asked ∷ events) [] named is = absurd is
  thread_from version snapshots (asked ∷ events) (answer ∷ answers) named is = each_receipt_joined (IsReceiptFrom Image) (receipts_of images answer) (flat_map (receipts_of images) answers) (answer_from version snapshots asked answer named.0 is.0) (thread_from version snapshots events answers named.1 is.1)

  round_from : (version snapshots : ℕ) (threads : List (List Event)) (answers : List (List Answer)) → AllByRecursion (IsThread (record { version = version; images = length images; snapshots = snapshots })) threads → AllZip (AllZip AnswersEvent) threads answers
      → AllByRecursion (IsReceiptFrom Image) (flat_map (λ receipts. receipts) (map (λ answers. flat_map (receipts_of images) answers) answers))
  round_from version snapshots [] [] named is = tt
  round_from version snapshots [] (answer ∷ answers) named is = absurd is
  round_from version snapshots (events ∷ threads) [] named is = absurd is
  round_from version snapshots (events ∷ threads) (answer ∷ answers) named is =
      each_receipt_joined (IsReceiptFrom Image) (flat_map (receipts_of images) answer) (flat_map (λ receipts. receipts) (of_round answers)) (thread_from version snapshots events answer (recursion_from_All (IsEvent (record { version = version; images = length images; snapshots = snapshots })) events named.0.1) is.0) (round_from version snapshots threads answers named.1 is.1)

  rounds_from : (version snapshots : ℕ) (rounds : List (List (List Event))) (answers : List (List (List Answer))) → AllByRecursion (IsRound (record { version = version; images = length images; snapshots = snapshots })) rounds → AllZip (AllZip (AllZip AnswersEvent)) rounds answers
      → AllByRecursion (IsReceiptFrom Image) (in_one (map (λ round. map (λ answers. flat_map (receipts_of images) answers) round) answers))
  rounds_from version snapshots [] [] named is = tt
  rounds_from version snapshots [] (answer ∷ answers) named is = absurd is
  rounds_from version snapshots (threads ∷ rounds) [] named is = absurd is
  rounds_from version snapshots (threads ∷ rounds) (answer ∷ answers) named is =
      each_receipt_joined (IsReceiptFrom Image) (flat_map (λ receipts. receipts) (of_round answer)) (in_one (map of_round answers)) (round_from version snapshots threads answer (recursion_from_All (IsThread (record { version = version; images = length images; snapshots = snapshots })) threads named.0.1) is.0) (rounds_from version snapshots rounds answers named.1 is.1)

  thread_told : (events : List Event) (answers : List Answer) → AllZip AnswersEvent events answers → AllByRecursion (NamesSuch Image) (flat_map (receipts_of images) answers) → AllByRecursion IsSizedAnswer answers → AllZip (IsToldAnswer images) events answers
  thread_told [] [] is such sized = tt
  thread_told [] (answer ∷ answers) is such sized = absurd is
  thread_told (asked ∷ events) [] is such sized = absurd is
  thread_told (asked ∷ events) (answer ∷ answers) is such sized =
      let parts = each_receipt_parts (NamesSuch Image) (receipts_of images answer) (flat_map (receipts_of images) answers) such in
      (answer_told asked answer is.0 parts.0 sized.0, thread_told events answers is.1 parts.1 sized.1)

  module _ (start : State) (history : List Update) (nodes : ℕ) (from : AllByRecursion (IsFrom Image) history) (are : AreMembers Image start) where
    all_such : (callers since : ℕ) (receipts : List Receipt) → AllHold start history nodes callers since receipts → AllByRecursion (NamesSuch Image) receipts
    all_such callers since [] holds = tt
    all_such callers since (r ∷ receipts) holds = (names_such Image start history nodes callers since from are r holds.0, all_such callers (max since (moment r)) receipts holds.1)

    round_told : (callers done : ℕ) (threads : List (List Event)) (answers : List (List Answer)) → AllZip (AllZip AnswersEvent) threads answers
        → AllByRecursion (AllHold start history nodes callers done) (map (λ answers. flat_map (receipts_of images) answers) answers) → AllByRecursion (AllByRecursion IsSizedAnswer) answers → AllZip (AllZip (IsToldAnswer images)) threads answers
    round_told callers done [] [] is holds sized = tt
    round_told callers done [] (answer ∷ answers) is holds sized = absurd is
    round_told callers done (events ∷ threads) [] is holds sized = absurd is
    round_told callers done (events ∷ threads) (answer ∷ answers) is holds sized =
        (thread_told events answer is.0 (all_such callers done (flat_map (receipts_of images) answer) holds.0) sized.0, round_told callers done threads answers is.1 holds.1 sized.1)

    firsts : (Q R : List Receipt → Type 0) (xs : List (List Receipt)) → AllByRecursion (λ receipts. Q receipts × R receipts) xs → AllByRecursion Q xs
    firsts Q R [] p = tt
    firsts Q R (x ∷ xs) p = (p.0.0, firsts Q R xs p.1)

    rounds_told : (callers done : ℕ) (rounds : List (List (List Event))) (answers : List (List (List Answer))) → AllZip (AllZip (AllZip AnswersEvent)) rounds answers
        → RoundsHold start history nodes callers done (map (λ round. map (λ answers. flat_map (receipts_of images) answers) round) answers) → AllByRecursion (AllByRecursion (AllByRecursion IsSizedAnswer)) answers → AllZip (AllZip (AllZip (IsToldAnswer images))) rounds answers
    rounds_told callers done [] [] is holds sized = tt
    rounds_told callers done [] (answer ∷ answers) is holds sized = absurd is
    rounds_told callers done (threads ∷ rounds) [] is holds sized = absurd is
    rounds_told callers done (threads ∷ rounds) (answer ∷ answers) is holds sized =
        (round_told (callers + length (of_round answer)) done threads answer is.0 (firsts (AllHold start history nodes (callers + length (of_round answer)) done) (AreInOrder done) (of_round answer) (recursion_from_All (λ receipts. AllHold start history nodes (callers + length (of_round answer)) done receipts × AreInOrder done receipts) (of_round answer) holds.0)) sized.0, rounds_told (callers + length (of_round answer)) (done_after done (of_round answer)) rounds answers is.1 holds.1 sized.1)

fixed_from : (images : List SpanData) (fixed : List ℕ) → AllByRecursion (λ image. image < length images) fixed → AllByRecursion (IsImage images) (map (image_member images) fixed)
fixed_from images [] named = tt
fixed_from images (image ∷ fixed) named = (record { named = named.0; is = refl }, fixed_from images fixed named.1)

pub lawful_told : (script : ScriptData) (journal : JournalData) → IsRunnable script → IsLawfulJournal script journal → IsSized journal → TellsJournal script (journal_text journal) journal
lawful_told script journal run lawful sized =
    let images = script.images in
    let spans = recursion_from_All IsSpan images run.images.1 in
    let named = recursion_from_All (λ image. image < length images) script.fixed run.fixed.named in
    let are : AreMembers (IsImage images) (start_of script) = record { registered = tt; loaded = tt; fixed = fixed_from images script.fixed named } in
    let events = recursion_from_All (IsRound (counts_of script)) script.rounds run.rounds.1 in
    let brought = rounds_from images spans script.version (length script.snapshots) script.rounds journal.rounds events lawful.answered in
    let receipts = in_one (thread_receipts images journal) in
    let from = history_from (IsImage images) receipts journal.updates brought in
    record {
      told = record {
        answered = rounds_told images spans (start_of script) (history_of receipts journal.updates) script.nodes from are 1 0 script.rounds journal.rounds lawful.answered lawful.receipts sized.answers;
        updates = sized.updates;
      };
      spelled = refl;
    }
