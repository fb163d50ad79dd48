-- Answers are gone through, one after another, and one backtrace leaves the rules first.
use Rattle.std.proofs.Common.{◌≡◌, ◌≢◌, ℕ, ◌+◌, ◌<◌, ◌≤◌, List, [], ◌∷◌, ◌++◌, length, get_or, drop, map, Option, Some, None, MatchOption, Result, Ok, Err, IfOk, OnErr, All, inl, inr, refl, sym, ◌∙◌, ap, subst, arith}
use Rattle.std.specs.List.{flat_map, slice_get}
use Rattle.std.specs.Result.{IsErrAnd}
use Rattle.std.proofs.lemmas.List.{drop_more, drop_all}
use Rattle.std.proofs.lemmas.Option.{slice_get_read}
use Rattle.std.proofs.lemmas.List.Sums.{sum_by-append, sum_by-cons}
use Rattle.std.proofs.lemmas.List.Elements.{All-append, All-cons, All-head, All-tail, All-nil}
use Rattle.script_text.specs.ScriptData.{ScriptData, SnapshotData}
use Rattle.script_text.specs.Lawful.{IsUnfolded}
use Rattle.script_text.specs.Text.{answer_lines}
use Rattle.script_text.specs.declared.journal.Answer.{Answer}
use Rattle.script_text.specs.declared.journal.Answer.TheVariants.{Register, Deregister, Replace, Load, Unload, Find, Unwind}
use Rattle.unwind_step.specs.Backtrace.{TraceData, Unfolds}
use Rattle.trace_check.specs.Departures.{IsDeparture}
use Rattle.trace_check.proofs.Departing.{departs_once}
use Rattle.receipt_check.proofs.Halves.{All-front, All-back}
use Rattle.journal_check.specs.TextFlaws.{DepartsOn, DepartsFirst, answers_of, flattened}
use Rattle.journal_check.specs.Passing.{IsPassed, text_lines}
use Rattle.journal_check.specs.declared.traces.Stopped.{Stopped}
use Rattle.journal_check.specs.declared.traces.Stopped.TheVariants.{Departs, NoMemory}

module _ (script : ScriptData) where
  abbrev IsRight : Answer → Type 0
  IsRight = IsUnfolded script.sections script.snapshots

  lines_more : (x : Answer) (xs : List Answer) → text_lines (x ∷ xs) ≡ length (answer_lines x) + text_lines xs
  lines_more x xs = sum_by-cons (λ (a : Answer). length (answer_lines a)) x xs

  departs_later : (xs ys : List Answer) (first mid line : ℕ) → All IsRight xs → mid ≡ first + text_lines xs → DepartsFirst script ys mid line → DepartsFirst script (xs ++ ys) first line
  departs_later [] ys first mid line all is departs = (let same : mid ≡ first = is ∙ omega arith in subst (λ n. DepartsFirst script ys n line) same departs)
  departs_later (x ∷ xs) ys first mid line all is departs =
      let more = lines_more x xs in
      inr (All-head IsRight x xs all, departs_later xs ys (first + length (answer_lines x)) mid line (All-tail IsRight x xs all) (omega arith) departs)

  departs_early : (xs ys : List Answer) (first line : ℕ) → DepartsFirst script xs first line → DepartsFirst script (xs ++ ys) first line
  departs_early [] ys first line departs = absurd departs
  departs_early (x ∷ xs) ys first line (inl here) = inl here
  departs_early (x ∷ xs) ys first line (inr (right, later)) = inr (right, departs_early xs ys (first + length (answer_lines x)) line later)

  -- further answers are gone through
  pub passed_on : (xs ys : List Answer) (first mid : ℕ) (r : Result ℕ Stopped) → IsPassed script xs first (Ok mid) → IsPassed script ys mid r → IsPassed script (xs ++ ys) first r
  passed_on xs ys first mid (Ok next) (all, is) (rest, then) =
      (All-append IsRight xs ys all rest, (let both = sum_by-append (λ (a : Answer). length (answer_lines a)) xs ys in omega arith))
  passed_on xs ys first mid (Err (Departs line)) (all, is) departs = departs_later xs ys first mid line all is departs
  passed_on xs ys first mid (Err NoMemory) passed none = tt

  -- what stopped among the first stopped
  pub passed_stop : (xs ys : List Answer) (first : ℕ) (e : Stopped) → IsPassed script xs first (Err e) → IsPassed script (xs ++ ys) first (Err e)
  passed_stop xs ys first (Departs line) departs = departs_early xs ys first line departs
  passed_stop xs ys first NoMemory none = tt

  -- `?` hands on why it stopped
  pub stop_handed : (xs : List Answer) (first : ℕ) (e : Stopped) (r : Result ℕ Stopped) → IsErrAnd r (λ x. x ≡ e) → IsPassed script xs first (Err e) → IsPassed script xs first r
  stop_handed xs first e (Err x) is stopped = subst (λ x. IsPassed script xs first (Err x)) (sym is) stopped
  stop_handed xs first e (Ok next) is stopped = absurd is

  -- none are left
  pub passed_none : (next : ℕ) → IsPassed script [] next (Ok next)
  passed_none next = (All-nil IsRight, omega arith)

  -- ---- a loop over answers

  module _ (answers : List Answer) (i : ℕ) (answer : Answer) (within : i < length answers) (is : answer ≡ get_or answers i answer) where
    answer_left : drop i answers ≡ answer ∷ drop (i + 1) answers
    answer_left = drop_more answers i answer within ∙ ap (λ x. x ∷ drop (i + 1) answers) (sym is)

    pub answer_on : (next mid : ℕ) (r : Result ℕ Stopped) → IsPassed script (answer ∷ []) next (Ok mid) → IsPassed script (drop (i + 1) answers) mid r → IsPassed script (drop i answers) next r
    answer_on next mid r here rest = subst (λ xs. IsPassed script xs next r) (sym answer_left) (passed_on (answer ∷ []) (drop (i + 1) answers) next mid r here rest)

    pub answer_stop : (next : ℕ) (e : Stopped) → IsPassed script (answer ∷ []) next (Err e) → IsPassed script (drop i answers) next (Err e)
    answer_stop next e here = subst (λ xs. IsPassed script xs next (Err e)) (sym answer_left) (passed_stop (answer ∷ []) (drop (i + 1) answers) next e here)

  pub answers_end : (answers : List Answer) (i next : ℕ) → length answers ≤ i → IsPassed script (drop i answers) next (Ok next)
  answers_end answers i next past = subst (λ xs. IsPassed script xs next (Ok next)) (sym (drop_all i answers past)) (passed_none next)

  -- ---- a loop over what has answers

  module _ {X Y : Type 0} (all_of : Y → List Answer) (items : X → Y) (xs : List X) where
    abbrev left_from : ℕ → List Answer
    left_from i = flat_map all_of (map items (drop i xs))

    module _ (i : ℕ) (x : X) (within : i < length xs) (is : x ≡ get_or xs i x) where
      part_left : left_from i ≡ all_of (items x) ++ left_from (i + 1)
      part_left = ap (λ (ys : List X). flat_map all_of (map items ys)) (drop_more xs i x within ∙ ap (λ y. y ∷ drop (i + 1) xs) (sym is))

      pub part_on : (next mid : ℕ) (r : Result ℕ Stopped) → IsPassed script (all_of (items x)) next (Ok mid) → IsPassed script (left_from (i + 1)) mid r → IsPassed script (left_from i) next r
      part_on next mid r here rest = subst (λ ys. IsPassed script ys next r) (sym part_left) (passed_on (all_of (items x)) (left_from (i + 1)) next mid r here rest)

      pub part_stop : (next : ℕ) (e : Stopped) → IsPassed script (all_of (items x)) next (Err e) → IsPassed script (left_from i) next (Err e)
      part_stop next e here = subst (λ ys. IsPassed script ys next (Err e)) (sym part_left) (passed_stop (all_of (items x)) (left_from (i + 1)) next e here)

    pub parts_end : (i next : ℕ) → length xs ≤ i → IsPassed script (left_from i) next (Ok next)
    parts_end i next past = subst (λ (ys : List X). IsPassed script (flat_map all_of (map items ys)) next (Ok next)) (sym (drop_all i xs past)) (passed_none next)

  -- ---- one answer

  pub one_passed : (answer : Answer) (first count : ℕ) (r : Result ℕ Stopped) → IsRight answer → count ≡ length (answer_lines answer) → IfOk r (λ next. next ≡ first + count) → OnErr r (r ≡ Err NoMemory) → IsPassed script (answer ∷ []) first r
  one_passed answer first count (Ok next) right is then other =
      let more = lines_more answer [] in
      (All-cons IsRight answer [] right (All-nil IsRight), omega arith)
  one_passed answer first count (Err (Departs line)) right is then other = absurd cc
  one_passed answer first count (Err NoMemory) right is then other = tt

  -- nothing but a backtrace has to unfold
  pub no_trace : (answer : Answer) → ((number : ℕ) (trace : TraceData) → answer ≢ Unwind number trace) → IsRight answer
  no_trace (Unwind number trace) other = absurd (other number trace refl)
  no_trace _ other = tt

  -- the snapshot of a backtrace is there
  module _ (answer : Answer) (number : ℕ) (trace : TraceData) (recorded : SnapshotData) (asked : answer ≡ Unwind number trace) (within : number < length script.snapshots) (is : recorded ≡ get_or script.snapshots number recorded) where
    recorded_at : slice_get script.snapshots number ≡ Some recorded
    recorded_at = slice_get_read script.snapshots (length script.snapshots) number recorded refl within is

    pub unfolds_here : Unfolds script.sections recorded.memory recorded.regs trace → IsRight answer
    unfolds_here unfolds = subst IsRight (sym asked) (recorded, recorded_at, unfolds)

    pub departs_here : (first line k : ℕ) → IsDeparture script.sections recorded.memory recorded.regs trace k → line ≡ first + 1 + k → DepartsOn script answer first line
    departs_here first line k departs at =
        subst (λ a. DepartsOn script a first line) (sym asked)
        (subst (λ (o : Option SnapshotData). MatchOption o (line ≡ first) (λ s. (k : ℕ) × IsDeparture script.sections s.memory s.regs trace k × (line ≡ first + 1 + k))) (sym recorded_at) (k, departs, at))

  -- ---- one backtrace leaves the rules first

  at_snapshot : (o : Option SnapshotData) (s : SnapshotData) (P : Type 0) (Q : SnapshotData → Type 0) → o ≡ Some s → MatchOption o P Q → Q s
  at_snapshot (Some other) s P Q is holds = (let same : other ≡ s = cc in subst Q same holds)
  at_snapshot None s P Q is holds = absurd cc

  right_stays : (answer : Answer) (first line : ℕ) → IsRight answer → DepartsOn script answer first line → ⊥
  right_stays (Unwind number trace) first line (snapshot, is, unfolds) departs =
      let at = at_snapshot (slice_get script.snapshots number) snapshot _ (λ s. (k : ℕ) × IsDeparture script.sections s.memory s.regs trace k × (line ≡ first + 1 + k)) is departs in
      (departs_once script.sections snapshot.memory snapshot.regs trace).none unfolds at.0 at.1
  right_stays (Register image answer) first line right departs = departs
  right_stays (Deregister base answer) first line right departs = departs
  right_stays (Replace image answer) first line right departs = departs
  right_stays (Load image answer) first line right departs = departs
  right_stays (Unload base answer) first line right departs = departs
  right_stays (Find pc place) first line right departs = departs

  departs_at_one : (o : Option SnapshotData) (trace : TraceData) (first line other : ℕ) → MatchOption o (line ≡ first) (λ s. (k : ℕ) × IsDeparture script.sections s.memory s.regs trace k × (line ≡ first + 1 + k)) → MatchOption o (other ≡ first) (λ s. (k : ℕ) × IsDeparture script.sections s.memory s.regs trace k × (other ≡ first + 1 + k)) → line ≡ other
  departs_at_one None trace first line other one two = one ∙ sym two
  departs_at_one (Some s) trace first line other one two =
      let same = (departs_once script.sections s.memory s.regs trace).once one.0 two.0 one.1 two.1 in
      let left = one.2 in
      let right = two.2 in
      omega arith

  departs_same : (answer : Answer) (first line other : ℕ) → DepartsOn script answer first line → DepartsOn script answer first other → line ≡ other
  departs_same (Unwind number trace) first line other one two = departs_at_one (slice_get script.snapshots number) trace first line other one two
  departs_same (Register image answer) first line other one two = absurd one
  departs_same (Deregister base answer) first line other one two = absurd one
  departs_same (Replace image answer) first line other one two = absurd one
  departs_same (Load image answer) first line other one two = absurd one
  departs_same (Unload base answer) first line other one two = absurd one
  departs_same (Find pc place) first line other one two = absurd one

  pub first_once : (answers : List Answer) (first line other : ℕ) → DepartsFirst script answers first line → DepartsFirst script answers first other → line ≡ other
  first_once [] first line other one two = absurd one
  first_once (x ∷ xs) first line other (inl one) (inl two) = departs_same x first line other one two
  first_once (x ∷ xs) first line other (inl one) (inr (right, two)) = absurd (right_stays x first line right one)
  first_once (x ∷ xs) first line other (inr (right, one)) (inl two) = absurd (right_stays x first other right two)
  first_once (x ∷ xs) first line other (inr (right, one)) (inr (also, two)) = first_once xs (first + length (answer_lines x)) line other one two

  pub none_departs : (answers : List Answer) (first line : ℕ) → All IsRight answers → DepartsFirst script answers first line → ⊥
  none_departs [] first line all departs = departs
  none_departs (x ∷ xs) first line all (inl here) = right_stays x first line (All-head IsRight x xs all) here
  none_departs (x ∷ xs) first line all (inr (right, later)) = none_departs xs (first + length (answer_lines x)) line (All-tail IsRight x xs all) later

-- ---- all in the order of the text, and by round and thread

module _ {X : Type 0} (P : X → Type 0) where
  pub all_joined : (lists : List (List X)) → All (All P) lists → All P (flattened lists)
  all_joined [] all = All-nil P
  all_joined (xs ∷ lists) all = All-append P xs (flattened lists) (All-head (All P) xs lists all) (all_joined lists (All-tail (All P) xs lists all))

  pub all_parted : (lists : List (List X)) → All P (flattened lists) → All (All P) lists
  all_parted [] all = All-nil (All P)
  all_parted (xs ∷ lists) all = All-cons (All P) xs lists (All-front P xs (flattened lists) all) (all_parted lists (All-back P xs (flattened lists) all))

module _ (P : Answer → Type 0) where
  pub all_answers : (rounds : List (List (List Answer))) → All (All (All P)) rounds → All P (answers_of rounds)
  all_answers [] all = All-nil P
  all_answers (round ∷ rounds) all = All-append P (flattened round) (answers_of rounds) (all_joined P round (All-head (All (All P)) round rounds all)) (all_answers rounds (All-tail (All (All P)) round rounds all))

  pub all_by_round : (rounds : List (List (List Answer))) → All P (answers_of rounds) → All (All (All P)) rounds
  all_by_round [] all = All-nil (All (All P))
  all_by_round (round ∷ rounds) all = All-cons (All (All P)) round rounds (all_parted P round (All-front P (flattened round) (answers_of rounds) all)) (all_by_round rounds (All-back P (flattened round) (answers_of rounds) all))
