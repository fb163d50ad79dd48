-- Whole journals: from what was read of a text's lines to the journal that it tells, or to its first bad line.
use Rattle.std.proofs.Common.{◌≡◌, ℕ, ◌+◌, ◌^◌, ◌<◌, List, [], ◌∷◌, ◌++◌, length, Some, None, refl, sym, ap, ap₂, subst, ◌∙◌, append_assoc, arith}
use Rattle.std.specs.List.{AllZip}
use Rattle.reg_model.specs.SpanData.{SpanData}
use Rattle.script_text.specs.Fields.{pieces}
use Rattle.script_text.specs.ScriptData.{ScriptData}
use Rattle.script_text.specs.JournalData.{JournalData}
use Rattle.script_text.specs.declared.script.Event.{Event}
use Rattle.script_text.specs.declared.journal.Answer.{Answer}
use Rattle.journal_reader.specs.Told.{IsToldAnswer, IsToldJournal}
use Rattle.journal_reader.specs.JournalLines.{event_lines, thread_lines, round_lines, numbered_lines, updates_line, journal_lines}
use Rattle.journal_reader.specs.ReadLines.{IsStuck}
use Rattle.journal_reader.specs.FormFlaw.{TellsJournal}
use Rattle.journal_reader.specs.Reading.{told_updates}
use Rattle.journal_reader.proofs.LinesOfEvents.{updates_again}
use Rattle.journal_reader.proofs.Events.{some_answer, unique_answer}
use Rattle.journal_reader.proofs.Sequences.{stuck_here, stuck_first, stuck_second, some_all, unique_all, stuck_at}
use Rattle.journal_reader.proofs.TextLines.{journal_pieces}

abbrev pub Answers : Type 0
Answers = List Answer

module _ (images : List SpanData) (few : length images < 2 ^ 32) where
  abbrev pub ToldThread : List Event → List Answer → Type 0
  ToldThread events answers = AllZip (IsToldAnswer images) events answers

  abbrev pub ToldRound : List (List Event) → List (List Answer) → Type 0
  ToldRound threads answers = AllZip ToldThread threads answers

  abbrev pub ToldRounds : List (List (List Event)) → List (List (List Answer)) → Type 0
  ToldRounds rounds answers = AllZip ToldRound rounds answers

  pub thread_unique : (round : ℕ) (events : List Event) (thread : ℕ) (a b : List Answer) (xs ys : List (List ℕ)) → ToldThread events a → ToldThread events b → thread_lines round thread a ++ xs ≡ thread_lines round thread b ++ ys → (a ≡ b) × (xs ≡ ys)
  thread_unique round events thread a b xs ys p q e = unique_all (IsToldAnswer images) (event_lines round thread) (λ asked n. unique_answer images few round thread n asked) (some_answer images few) events 1 a b xs ys p q e

  pub some_thread : (events : List Event) → (answers : List Answer) × ToldThread events answers
  some_thread events = some_all (IsToldAnswer images) (event_lines 0 0) (λ asked n. unique_answer images few 0 0 n asked) (some_answer images few) events

  pub round_unique : (threads : List (List Event)) (round : ℕ) (a b : List (List Answer)) (xs ys : List (List ℕ)) → ToldRound threads a → ToldRound threads b → round_lines round a ++ xs ≡ round_lines round b ++ ys → (a ≡ b) × (xs ≡ ys)
  round_unique threads round a b xs ys p q e = unique_all ToldThread (thread_lines round) (thread_unique round) some_thread threads 1 a b xs ys p q e

  pub some_round : (threads : List (List Event)) → (answers : List (List Answer)) × ToldRound threads answers
  some_round threads = some_all ToldThread (thread_lines 0) (thread_unique 0) some_thread threads

  pub rounds_unique : (rounds : List (List (List Event))) (a b : List (List (List Answer))) (xs ys : List (List ℕ)) → ToldRounds rounds a → ToldRounds rounds b → numbered_lines round_lines 1 a ++ xs ≡ numbered_lines round_lines 1 b ++ ys → (a ≡ b) × (xs ≡ ys)
  rounds_unique rounds a b xs ys p q e = unique_all ToldRound round_lines round_unique some_round rounds 1 a b xs ys p q e

  pub some_rounds : (rounds : List (List (List Event))) → (answers : List (List (List Answer))) × ToldRounds rounds answers
  some_rounds rounds = some_all ToldRound round_lines round_unique some_round rounds

  -- an item of a list is stuck, and so is the list
  pub thread_stuck : (round thread : ℕ) (front : List Event) (asked : Event) (back : List Event) (place : ℕ) (answers : List Answer) (all left : List (List ℕ)) → ToldThread front answers → place ≡ 1 + length front
      → IsStuck (IsToldAnswer images asked) (event_lines round thread place) all left → IsStuck (ToldThread (front ++ asked ∷ back)) (thread_lines round thread) (thread_lines round thread answers ++ all) left
  thread_stuck round thread front asked back place answers all left p at stuck =
      stuck_at (IsToldAnswer images) (event_lines round thread) (λ asked n. unique_answer images few round thread n asked) (some_answer images few) front asked back 1 place answers all left p at stuck

  pub round_stuck : (round : ℕ) (front : List (List Event)) (events : List Event) (back : List (List Event)) (thread : ℕ) (answers : List (List Answer)) (all left : List (List ℕ)) → ToldRound front answers → thread ≡ 1 + length front
      → IsStuck (ToldThread events) (thread_lines round thread) all left → IsStuck (ToldRound (front ++ events ∷ back)) (round_lines round) (round_lines round answers ++ all) left
  round_stuck round front events back thread answers all left p at stuck =
      stuck_at ToldThread (thread_lines round) (thread_unique round) some_thread front events back 1 thread answers all left p at stuck

  pub rounds_stuck : (front : List (List (List Event))) (threads : List (List Event)) (back : List (List (List Event))) (round : ℕ) (answers : List (List (List Answer))) (all left : List (List ℕ)) → ToldRounds front answers → round ≡ 1 + length front
      → IsStuck (ToldRound threads) (round_lines round) all left → IsStuck (ToldRounds (front ++ threads ∷ back)) (numbered_lines round_lines 1) (numbered_lines round_lines 1 answers ++ all) left
  rounds_stuck front threads back round answers all left p at stuck =
      stuck_at ToldRound round_lines round_unique some_round front threads back 1 round answers all left p at stuck

-- ---- the rounds and the last line

abbrev IsUpdates : ℕ → Type 0
IsUpdates updates = updates < 2 ^ 32

abbrev last_lines : ℕ → List (List ℕ)
last_lines updates = updates_line updates ∷ []

pub updates_ends : (all : List (List ℕ)) (line : List ℕ) → all ≡ line ∷ [] → IsStuck IsUpdates last_lines all all
updates_ends all line is = subst (λ (x : List (List ℕ)). IsStuck IsUpdates last_lines x x) (sym is) (stuck_here IsUpdates last_lines 0 (omega arith) (line ∷ []) (λ updates others told same. absurd cc))

pub updates_unread : (all : List (List ℕ)) (line next : List ℕ) (others : List (List ℕ)) → all ≡ line ∷ next ∷ others → told_updates line ≡ None → IsStuck IsUpdates last_lines all all
updates_unread all line next others cut unread = subst (λ (x : List (List ℕ)). IsStuck IsUpdates last_lines x x) (sym cut) (stuck_here IsUpdates last_lines 0 (omega arith) (line ∷ next ∷ others) (λ rest updates follows told same.
    let read = updates_again updates told in
    let line_is : line ≡ updates_line updates = cc in
    let between = ap told_updates line_is in
    let bad : None ≡ Some updates = sym unread ∙ between ∙ read in absurd cc))

module _ (script : ScriptData) (few : length script.images < 2 ^ 32) where
  pub rounds_left : (all left : List (List ℕ)) → IsStuck (ToldRounds script.images few script.rounds) (numbered_lines round_lines 1) all left → IsStuck (IsToldJournal script) journal_lines all left
  rounds_left all left stuck =
      stuck_first (ToldRounds script.images few script.rounds) (numbered_lines round_lines 1) IsUpdates last_lines (IsToldJournal script) journal_lines
      (λ rounds updates. record { rounds = rounds; updates = updates }) (λ rounds updates p q. record { answered = p; updates = q }) (λ rounds updates. refl)
      (λ journal told. (journal.rounds, journal.updates, told.answered, told.updates, refl)) (rounds_unique script.images few script.rounds)
      0 (omega arith) all left stuck

  pub updates_stuck : (all left : List (List ℕ)) (rounds : List (List (List Answer))) → ToldRounds script.images few script.rounds rounds → IsStuck IsUpdates last_lines all left → IsStuck (IsToldJournal script) journal_lines (numbered_lines round_lines 1 rounds ++ all) left
  updates_stuck all left rounds told stuck =
      stuck_second (ToldRounds script.images few script.rounds) (numbered_lines round_lines 1) IsUpdates last_lines (IsToldJournal script) journal_lines
      (λ rounds updates. record { rounds = rounds; updates = updates }) (λ rounds updates p q. record { answered = p; updates = q }) (λ rounds updates. refl)
      (λ journal told. (journal.rounds, journal.updates, told.answered, told.updates, refl)) (rounds_unique script.images few script.rounds)
      rounds told all left stuck

  -- the rounds were read, and the last line is stuck
  pub last_stuck : (all mid left : List (List ℕ)) (rounds : List (List (List Answer))) → ToldRounds script.images few script.rounds rounds → all ≡ numbered_lines round_lines 1 rounds ++ mid → IsStuck IsUpdates last_lines mid left → IsStuck (IsToldJournal script) journal_lines all left
  last_stuck all mid left rounds told cut stuck = subst (λ (x : List (List ℕ)). IsStuck (IsToldJournal script) journal_lines x left) (sym cut) (updates_stuck mid left rounds told stuck)

  -- all lines were read
  pub journal_read : (all mid left : List (List ℕ)) (rounds : List (List (List Answer))) (updates : ℕ) → ToldRounds script.images few script.rounds rounds → all ≡ numbered_lines round_lines 1 rounds ++ mid → updates < 2 ^ 32 → mid ≡ updates_line updates ∷ left
      → IsToldJournal script (record { rounds = rounds; updates = updates }) × (all ≡ journal_lines (record { rounds = rounds; updates = updates }) ++ left)
  journal_read all mid left rounds updates told cut low last = (
    record { answered = told; updates = low },
    cut ∙ ap (λ (x : List (List ℕ)). numbered_lines round_lines 1 rounds ++ x) last ∙ sym (append_assoc (numbered_lines round_lines 1 rounds) (updates_line updates ∷ []) left),
  )

  pub journal_unique : (a b : JournalData) (xs ys : List (List ℕ)) → IsToldJournal script a → IsToldJournal script b → journal_lines a ++ xs ≡ journal_lines b ++ ys → (a ≡ b) × (xs ≡ ys)
  journal_unique a b xs ys p q e =
      let left = append_assoc (numbered_lines round_lines 1 a.rounds) (last_lines a.updates) xs in
      let right = append_assoc (numbered_lines round_lines 1 b.rounds) (last_lines b.updates) ys in
      let r = rounds_unique script.images few script.rounds a.rounds b.rounds (updates_line a.updates ∷ xs) (updates_line b.updates ∷ ys) p.answered q.answered (sym left ∙ e ∙ right) in
      let lines : updates_line a.updates ≡ updates_line b.updates = cc in
      let first = updates_again a.updates p.updates in
      let second = updates_again b.updates q.updates in
      let between = ap told_updates lines in
      let is : Some a.updates ≡ Some b.updates = sym first ∙ between ∙ second in
      let same : a.updates ≡ b.updates = cc in
      let rest : xs ≡ ys = cc in
      (ap₂ (λ (rounds : List (List (List Answer))) (updates : ℕ). record { rounds = rounds; updates = updates }) r.0 same, rest)

  -- ---- told texts

  -- two told journals with the same text are one
  pub told_once : (text : List ℕ) (a b : JournalData) → TellsJournal script text a → TellsJournal script text b → a ≡ b
  told_once text a b p q =
      let same = ap (pieces 10) (p.spelled ∙ sym q.spelled) in
      (journal_unique a b ([] ∷ []) ([] ∷ []) p.told q.told (sym (journal_pieces a) ∙ same ∙ journal_pieces b)).0
