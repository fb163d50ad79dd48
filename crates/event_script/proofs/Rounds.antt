-- Rounds, threads and events: each line of a script that can be run is good after those before it.
use Rattle.std.proofs.Common.{◌≡◌, ℕ, ◌+◌, ◌<◌, ◌≤◌, true, cond, ◌&&◌, ltb, List, [], ◌∷◌, ◌++◌, length, map, Result, Ok, Err, refl, sym, ap, subst, ◌∙◌, append_assoc, append-nil, lt-ltb, le-leb, arith, length-append}
use Rattle.std.specs.List.{AllByRecursion}
use Rattle.std.proofs.lemmas.Bool.{and_from, cond-true}
use Rattle.std.proofs.lemmas.List.Elements.{recursion_from_All}
use Rattle.reg_model.specs.SpanData.{SpanData}
use Rattle.frame_parse.specs.Sections.{SectionData}
use Rattle.script_text.specs.ScriptData.{SnapshotData, Counts, IsEvent, IsThread, IsRound}
use Rattle.script_text.specs.Statements.{kind_of_statement, HasForm}
use Rattle.script_text.specs.Spelling.{thread_statements, round_statements}
use Rattle.event_script.specs.Draft.{DraftData, no_snapshot, may_come, threads_so_far, rounds_so_far, after_round, with_statement}
use Rattle.event_script.specs.Reading.{is_named, has_room, added}
use Rattle.script_text.specs.declared.script.Event.{Event}
use Rattle.script_text.specs.declared.script.Event.TheVariants as event
use Rattle.script_text.specs.declared.reason.Reason.{Reason}
use Rattle.script_text.specs.declared.reason.Reason.TheVariants as reason
use Rattle.event_script.specs.declared.reader.kinds.Stage.{Stage}
use Rattle.event_script.specs.declared.reader.kinds.Stage.TheVariants as stage
use Rattle.script_text.specs.declared.kind.Kind.TheVariants as kind
use Rattle.script_text.specs.declared.statement.Statement.{Statement}
use Rattle.script_text.specs.declared.statement.Statement.TheVariants as statement
use Rattle.event_script.specs.declared.reader.totals.Totals.{Totals}
use Rattle.event_script.proofs.EventTotals.{totals_of, totals_round, totals_thread, totals_event}
use Rattle.event_script.proofs.Standing.{CanStand, event_room}
use Rattle.event_script.proofs.Added.{Adds, CanAdd, adds_then}

abbrev good : DraftData → Result DraftData Reason
good known = Ok known

module _ (version nodes loads : ℕ) (images : List SpanData) (sections : List SectionData) (few : length images ≤ 4096) (fixed : List ℕ) (snapshots : List SnapshotData) (few_stacks : length snapshots ≤ 4096) where
  abbrev pub counts : Counts
  counts = record { version = version; images = length images; snapshots = length snapshots }

  -- where rounds stand, and what their events come to
  abbrev pub after_all : Stage → List (List (List Event)) → List (List Event) → List Event → Totals → DraftData
  after_all stage rounds threads events totals = record {
    stage = stage;
    script = record { version = version; nodes = nodes; loads = loads; images = images; sections = sections; fixed = fixed; snapshots = snapshots; rounds = rounds };
    snapshot = no_snapshot;
    threads = threads;
    events = events;
    totals = totals;
  }

  abbrev in_round : List (List (List Event)) → DraftData
  in_round rounds = after_all stage.Round rounds [] [] (totals_of (rounds ++ [] ∷ []))

  abbrev in_thread : List (List (List Event)) → List (List Event) → List Event → DraftData
  in_thread rounds threads events = after_all stage.Thread rounds threads events (totals_of (rounds ++ (threads ++ events ∷ []) ∷ []))

  abbrev pub ended : List (List (List Event)) → DraftData
  ended rounds = after_all stage.Ended rounds [] [] (totals_of rounds)

  -- these rounds have begun, and another may begin, or the script end
  pub record IsOpen (rounds : List (List (List Event))) (known : DraftData) : Type 0 where
    pub may_begin : may_come known.script.version known.stage kind.Round ≡ true
    pub may_end : may_come known.script.version known.stage kind.End ≡ true
    pub after : (next : Stage) → after_round known next ≡ after_all next rounds [] [] (totals_of rounds)

  -- and these threads of a round after them
  record IsOpenRound (rounds : List (List (List Event))) (threads : List (List Event)) (known : DraftData) : Type 0 where
    may_begin : may_come known.script.version known.stage kind.Thread ≡ true
    so_far : threads_so_far known ≡ threads
    after : with_statement known statement.Thread ≡ after_all stage.Thread rounds threads [] (totals_of (rounds ++ threads ∷ []))
    opened : IsOpen (rounds ++ threads ∷ []) known

  round_open : (rounds : List (List (List Event))) → IsOpenRound rounds [] (in_round rounds)
  round_open rounds = record { may_begin = refl; so_far = refl; after = refl; opened = record { may_begin = refl; may_end = refl; after = λ next. refl } }

  thread_open : (rounds : List (List (List Event))) (threads : List (List Event)) (events : List Event) → IsOpenRound rounds (threads ++ events ∷ []) (in_thread rounds threads events)
  thread_open rounds threads events = record { may_begin = refl; so_far = refl; after = refl; opened = record { may_begin = refl; may_end = refl; after = λ next. refl } }

  -- ---- events

  event_form : (e : Event) → IsEvent counts e → HasForm (statement.Event e)
  event_form (event.Register image) is = omega arith
  event_form (event.Deregister base) is = is
  event_form (event.Replace image) is = (let there = is.0 in omega arith)
  event_form (event.Load image) is = omega arith
  event_form (event.Unload base) is = is
  event_form (event.Find pc) is = is
  event_form (event.Unwind stack) is = omega arith

  event_named : (e : Event) → IsEvent counts e → is_named counts e ≡ true
  event_named (event.Register image) is = lt-ltb _ _ is
  event_named (event.Deregister base) is = refl
  event_named (event.Replace image) is = lt-ltb _ _ is.0
  event_named (event.Load image) is = lt-ltb _ _ is
  event_named (event.Unload base) is = refl
  event_named (event.Find pc) is = refl
  event_named (event.Unwind stack) is = lt-ltb _ _ is

  event_may : (e : Event) → IsEvent counts e → may_come version stage.Thread (kind_of_statement (statement.Event e)) ≡ true
  event_may (event.Register image) is = refl
  event_may (event.Deregister base) is = refl
  event_may (event.Replace image) is = le-leb 2 version is.1
  event_may (event.Load image) is = refl
  event_may (event.Unload base) is = refl
  event_may (event.Find pc) is = refl
  event_may (event.Unwind stack) is = refl

  module _ (rounds : List (List (List Event))) (threads : List (List Event)) (others : List (List Event)) (later : List (List (List Event))) where
    -- all rounds of the script, where these events stand in one of its threads
    abbrev with_events : List Event → List (List (List Event))
    with_events events = rounds ++ (threads ++ events ∷ others) ∷ later

    event_can : (front : List Event) (e : Event) (events : List Event) → CanStand (with_events (front ++ e ∷ events)) → length front < 4096 → IsEvent counts e → CanAdd (in_thread rounds threads front) (statement.Event e)
    unfolding added
    event_can front e events can room is =
        let known = in_thread rounds threads front in
        let next = with_statement known (statement.Event e) in
        let test = ltb (length front) 4096 && has_room known.totals e in
        record {
          may = event_may e is;
          form = event_form e is;
          is = cond-true test (cond (is_named counts e) (good next) (Err reason.Name)) (Err reason.Limit) (and_from _ _ (lt-ltb _ _ room) (event_room rounds threads front e events others later can))
              ∙ cond-true (is_named counts e) (good next) (Err reason.Name) (event_named e is);
        }

    adds_events : (front events : List Event) → CanStand (with_events (front ++ events)) → length front + length events ≤ 4096 → AllByRecursion (IsEvent counts) events → Adds (in_thread rounds threads front) (map statement.Event events) (in_thread rounds threads (front ++ events))
    adds_events front [] can room are = ap (in_thread rounds threads) (sym (append-nil front))
    adds_events front (e ∷ events) can room are =
        let regrouped = append_assoc front (e ∷ []) events in
        let rest = adds_events (front ++ e ∷ []) events (subst (λ (x : List Event). CanStand (with_events x)) (sym regrouped) can) (omega (arith, length-append front (e ∷ []))) are.1 in
        let begun = subst (λ (x : List Event). Adds (in_thread rounds threads (front ++ e ∷ [])) (map statement.Event events) (in_thread rounds threads x)) regrouped rest in (
          event_can front e events can (omega arith) are.0,
          subst (λ (t : Totals). Adds (after_all stage.Thread rounds threads (front ++ e ∷ []) t) (map statement.Event events) (in_thread rounds threads (front ++ e ∷ events))) (totals_event rounds threads front e) begun,
        )

  -- ---- threads

  -- a round with these threads is open
  record Threaded (known : DraftData) (statements : List Statement) (rounds : List (List (List Event))) (threads : List (List Event)) : Type 0 where
    last : DraftData
    opened : IsOpen (rounds ++ threads ∷ []) last
    adds : Adds known statements last

  module _ (rounds : List (List (List Event))) (later : List (List (List Event))) where
    thread_can : (known : DraftData) (threads : List (List Event)) → IsOpenRound rounds threads known → length threads < 16 → CanAdd known statement.Thread
    unfolding added
    thread_can known threads is room =
        let few : ltb (length (threads_so_far known)) 16 ≡ true = lt-ltb _ _ (omega (arith, ap length is.so_far)) in
        record {
          may = is.may_begin;
          form = tt;
          is = cond-true (ltb (length (threads_so_far known)) 16) (good (with_statement known statement.Thread)) (Err reason.Limit) few;
        }

    adds_threads : (known : DraftData) (front threads : List (List Event)) → IsOpenRound rounds front known → CanStand (rounds ++ (front ++ threads) ∷ later) → length front + length threads ≤ 16 → AllByRecursion (IsThread counts) threads → Threaded known (thread_statements threads) rounds (front ++ threads)
    adds_threads known front [] is can room are = record { last = known; opened = subst (λ (x : List (List Event)). IsOpen (rounds ++ x ∷ []) known) (sym (append-nil front)) is.opened; adds = refl }
    adds_threads known front (events ∷ threads) is can room are =
        let regrouped = append_assoc front (events ∷ []) threads in
        let each = recursion_from_All (IsEvent counts) events are.0.1 in
        let few = are.0.0 in
        let begun : with_statement known statement.Thread ≡ in_thread rounds front [] = is.after ∙ ap (after_all stage.Thread rounds front []) (sym (totals_thread rounds front)) in
        let happen = subst (λ (d : DraftData). Adds d (map statement.Event events) (in_thread rounds front events)) (sym begun) (adds_events rounds front threads later [] events can (omega arith) each) in
        let rest = adds_threads (in_thread rounds front events) (front ++ events ∷ []) threads (thread_open rounds front events) (subst (λ (x : List (List Event)). CanStand (rounds ++ x ∷ later)) (sym regrouped) can) (omega (arith, length-append front (events ∷ []))) are.1 in
        record {
          last = rest.last;
          opened = subst (λ (x : List (List Event)). IsOpen (rounds ++ x ∷ []) rest.last) regrouped rest.opened;
          adds = adds_then known (in_thread rounds front events) rest.last (statement.Thread ∷ map statement.Event events) (thread_statements threads) (thread_can known front is (omega arith), happen) rest.adds;
        }

  -- ---- the rounds, and the last line

  round_can : (known : DraftData) (rounds : List (List (List Event))) → IsOpen rounds known → length rounds < 64 → CanAdd known statement.Round
  unfolding added
  round_can known rounds is room =
      let after = is.after stage.Round in
      let few : ltb (length (rounds_so_far known)) 64 ≡ true = lt-ltb _ _ (omega (arith, ap (λ (d : DraftData). length d.script.rounds) after)) in
      record {
        may = is.may_begin;
        form = tt;
        is = cond-true (ltb (length (rounds_so_far known)) 64) (good (with_statement known statement.Round)) (Err reason.Limit) few;
      }

  end_can : (known : DraftData) (rounds : List (List (List Event))) → IsOpen rounds known → CanAdd known statement.End
  unfolding added
  end_can known rounds is = record { may = is.may_end; form = tt; is = refl }

  pub adds_rounds : (known : DraftData) (front rounds : List (List (List Event))) → IsOpen front known → CanStand (front ++ rounds) → length front + length rounds ≤ 64 → AllByRecursion (IsRound counts) rounds → Adds known (round_statements rounds ++ statement.End ∷ []) (ended (front ++ rounds))
  adds_rounds known front [] is can room are = (end_can known front is, is.after stage.Ended ∙ ap ended (sym (append-nil front)))
  adds_rounds known front (threads ∷ rounds) is can room are =
      let regrouped = append_assoc front (threads ∷ []) rounds in
      let each = recursion_from_All (IsThread counts) threads are.0.1 in
      let few = are.0.0 in
      let begun : with_statement known statement.Round ≡ in_round front = is.after stage.Round ∙ ap (after_all stage.Round front [] []) (sym (totals_round front)) in
      let run = adds_threads front rounds (in_round front) [] threads (round_open front) can (omega arith) each in
      let first = subst (λ (d : DraftData). Adds d (thread_statements threads) run.last) (sym begun) run.adds in
      let rest = adds_rounds run.last (front ++ threads ∷ []) rounds run.opened (subst CanStand (sym regrouped) can) (omega (arith, length-append front (threads ∷ []))) are.1 in
      let lines = adds_then known run.last (ended ((front ++ threads ∷ []) ++ rounds)) (statement.Round ∷ thread_statements threads) (round_statements rounds ++ statement.End ∷ []) (round_can known front is (omega arith), first) rest in
      let last = subst (λ (x : List (List (List Event))). Adds known ((statement.Round ∷ thread_statements threads) ++ (round_statements rounds ++ statement.End ∷ [])) (ended x)) regrouped lines in
      subst (λ (x : List Statement). Adds known x (ended (front ++ threads ∷ rounds))) (sym (append_assoc (statement.Round ∷ thread_statements threads) (round_statements rounds) (statement.End ∷ []))) last
