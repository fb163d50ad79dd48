-- Bytes that come in pieces: the good lines so far, and the line that goes on.
use Rattle.std.proofs.Common.{◌≡◌, ℕ, zero, suc, ◌+◌, ◌<◌, ◌≤◌, ◌≢◌, List, [], ◌∷◌, ◌++◌, length, get_or, take, drop, Result, Ok, Err, refl, sym, ap, ap₂, subst, ◌∙◌, append_assoc, append-nil, length-append, take-append-drop, take_all, arith}
use Rattle.std.specs.List.{AllByRecursion}
use Rattle.std.proofs.lemmas.List.{drop_more}
use Rattle.event_script.specs.declared.reader.fault.ScriptFault.{ScriptFault}
use Rattle.event_script.specs.declared.reader.fault.ScriptFault.TheVariants.{Bad, NoMemory}
use Rattle.event_script.specs.Fault.{FailsAt, IsOfScript}
use Rattle.script_text.specs.Fields.{pieces}
use Rattle.event_script.specs.Draft.{DraftData, nothing_known, with_statement}
use Rattle.event_script.specs.Refusal.{MakeKnown}
use Rattle.script_text.specs.Fields.{lines_text}
use Rattle.event_script.specs.Reading.{◌>=>◌, BadLine, at_line, after_line, after_lines, at_end, outcome}
use Rattle.event_script.specs.Taken.{LinesData, AreLinesOf, HasTaken}
use Rattle.script_text.proofs.Joined.{join, join_pieces, Without, pieces_first, pieces_only, without_append}
use Rattle.event_script.proofs.SoFar.{Sound, statements_so_far}
use Rattle.event_script.proofs.LinesRead.{numbered_ok, at_first}
use Rattle.event_script.proofs.LineCounts.{few_lines, one_more_line}
use Rattle.event_script.proofs.Lines.{line_first}
use Rattle.event_script.proofs.FirstBad.{tells, good_line, reads_good, reads_lines}
use Rattle.event_script.proofs.Begins.{pieces_without, front_without, lines_cut}

-- ---- bytes and their lines

-- each line but the last one with its line feed
joined : (before : List (List ℕ)) (kept : List ℕ) → join 10 (before ++ kept ∷ []) ≡ lines_text before ++ kept
joined [] kept = refl
joined (line ∷ []) kept = sym (ap (λ (x : List ℕ). x ++ kept) (append-nil (line ++ 10 ∷ [])) ∙ append_assoc line (10 ∷ []) kept)
joined (line ∷ next ∷ before) kept =
    ap (λ (x : List ℕ). line ++ 10 ∷ x) (joined (next ∷ before) kept)
    ∙ sym (append_assoc (line ++ 10 ∷ []) (lines_text (next ∷ before)) kept ∙ append_assoc line (10 ∷ []) (lines_text (next ∷ before) ++ kept))

-- bytes that go on: their last line does
more_pieces : (bytes : List ℕ) (before : List (List ℕ)) (kept more : List ℕ) → pieces 10 bytes ≡ before ++ kept ∷ [] → (pieces 10 (bytes ++ more) ≡ before ++ pieces 10 (kept ++ more)) × Without 10 kept
more_pieces bytes before kept more cut =
    let without = front_without before kept [] (subst (AllByRecursion (Without 10)) cut (pieces_without 10 bytes)) in
    let is : bytes ≡ lines_text before ++ kept = sym (join_pieces 10 bytes) ∙ ap (join 10) cut ∙ joined before kept in
    (ap (λ (xs : List ℕ). pieces 10 (xs ++ more)) is ∙ ap (pieces 10) (append_assoc (lines_text before) kept more) ∙ lines_cut before (kept ++ more) without.0, without.1)

-- no line feed stands before the first one
without_take : (end : ℕ) (rest : List ℕ) → end ≤ length rest → ((k : ℕ) → k < end → get_or rest k 0 ≢ 10) → Without 10 (take end rest)
without_take zero rest within before = tt
without_take (suc end) [] within before = absurd (omega arith)
without_take (suc end) (b ∷ rest) within before = (before 0 (omega arith), without_take end rest (omega arith) (λ k lt. before (suc k) (omega arith)))

-- ---- one good line more

one_more : (known last next : DraftData) (before : List (List ℕ)) (line : List ℕ) → MakeKnown known before last → after_line last line ≡ Ok next → MakeKnown known (before ++ line ∷ []) next
one_more known last next [] line same good = subst (λ (d : DraftData). MakeKnown d (line ∷ []) next) (sym same) (good_line last next line good)
one_more known last next (first ∷ before) line (s, says, is_good, rest) good = (s, says, is_good, one_more (with_statement known s) last next before line rest good)

-- what holds of what good lines make known, and how many they are
made_sound : (known last : DraftData) (lines : List (List ℕ)) (number : ℕ) → Sound known → number ≡ length (statements_so_far known) + 1 → MakeKnown known lines last
    → Sound last × (number + length lines ≡ length (statements_so_far last) + 1)
made_sound known last [] number sound counted same = subst (λ (d : DraftData). Sound d × (number + 0 ≡ length (statements_so_far d) + 1)) same (sound, omega (arith, counted))
made_sound known last (line ∷ lines) number sound counted (s, says, good, rest) =
    let next = with_statement known s in
    let one = one_more_line known next line number sound counted (reads_good known line s says good) in
    let all = made_sound next last lines (number + 1) one.0 one.1 rest in
    (all.0, omega (arith, all.1))

-- ---- a fault of a line is told of all bytes

fails_then : (fault : ScriptFault) (given : Result DraftData BadLine) (f : DraftData → Result DraftData BadLine) → FailsAt fault given → FailsAt fault (given >=> f)
fails_then (Bad line why) given f fails = (ap (λ (g : Result DraftData BadLine). g >=> f) fails.0, fails.1)
fails_then NoMemory given f fails = tt

of_script : (fault : ScriptFault) (given : Result DraftData BadLine) → FailsAt fault given → IsOfScript fault
of_script (Bad line why) given fails = fails.1
of_script NoMemory given fails = tt

-- ---- a piece

-- the lines of the whole so far are good, and this is left of the piece
pub record GoOn (whole rest : List ℕ) (known : DraftData) (number : ℕ) (kept : List ℕ) : Type 0 where
  before : List (List ℕ)
  cut : (more : List ℕ) → pieces 10 (whole ++ more) ≡ before ++ pieces 10 (kept ++ (rest ++ more))
  clear : Without 10 kept
  good : MakeKnown nothing_known before known
  counted : number ≡ length before + 1

pub piece_begun : (bytes piece : List ℕ) (lines : LinesData) → AreLinesOf bytes lines → GoOn (bytes ++ piece) piece lines.known lines.number lines.kept
piece_begun bytes piece lines is = record {
  before = is.before;
  cut = λ more. ap (pieces 10) (append_assoc bytes piece more) ∙ (more_pieces bytes is.before lines.kept (piece ++ more) is.cut).0;
  clear = (more_pieces bytes is.before lines.kept [] is.cut).1;
  good = is.good;
  counted = is.counted;
}

module _ (whole rest : List ℕ) (known : DraftData) (number : ℕ) (kept : List ℕ) (g : GoOn whole rest known number kept) (end : ℕ) (within : end ≤ length rest) (before : (k : ℕ) → k < end → get_or rest k 0 ≢ 10) where
  -- what is left is kept
  pub piece_ended : length rest ≤ end → AreLinesOf whole (record { known = known; number = number; kept = kept ++ rest })
  piece_ended le =
      let clear : Without 10 rest = subst (Without 10) (take_all end rest le) (without_take end rest within before) in
      record {
        before = g.before;
        cut = ap (pieces 10) (sym (append-nil whole)) ∙ g.cut [] ∙ ap (λ (x : List ℕ). g.before ++ pieces 10 (kept ++ x)) (append-nil rest)
            ∙ ap (λ (x : List (List ℕ)). g.before ++ x) (pieces_only 10 (kept ++ rest) (without_append 10 kept rest g.clear clear));
        good = g.good;
        counted = g.counted;
      }

  module _ (found : end < length rest → get_or rest end 0 ≡ 10) (text next : List ℕ) (lt : end < length rest) (is : text ≡ take end rest) (is_next : next ≡ drop (end + 1) rest) where
    -- the next line, and what follows it
    line_cut : (more : List ℕ) → pieces 10 (whole ++ more) ≡ g.before ++ (kept ++ text) ∷ pieces 10 (next ++ more)
    line_cut more =
        let clear : Without 10 text = subst (Without 10) (sym is) (without_take end rest within before) in
        let whole_rest : rest ≡ text ++ 10 ∷ next =
        sym (take-append-drop end rest)
        ∙ ap (λ (x : List ℕ). take end rest ++ x) (drop_more rest end 0 lt ∙ ap (λ (b : ℕ). b ∷ drop (end + 1) rest) (found lt))
        ∙ ap₂ (λ (x y : List ℕ). x ++ 10 ∷ y) (sym is) (sym is_next) in
        let from_kept : kept ++ (rest ++ more) ≡ (kept ++ text) ++ 10 ∷ (next ++ more) =
        ap (λ (x : List ℕ). kept ++ (x ++ more)) whole_rest
        ∙ ap (λ (x : List ℕ). kept ++ x) (append_assoc text (10 ∷ next) more)
        ∙ sym (append_assoc kept text (10 ∷ (next ++ more))) in
        g.cut more
        ∙ ap (λ (x : List (List ℕ)). g.before ++ x) (ap (pieces 10) from_kept ∙ pieces_first 10 (kept ++ text) (next ++ more) (without_append 10 kept text g.clear clear))

    pub line_good : (after : DraftData) → at_line number (after_line known (kept ++ text)) ≡ Ok after → GoOn whole next after (number + 1) []
    line_good after good = record {
      before = g.before ++ (kept ++ text) ∷ [];
      cut = λ more. line_cut more ∙ sym (append_assoc g.before ((kept ++ text) ∷ []) (pieces 10 (next ++ more)));
      clear = tt;
      good = one_more nothing_known known after g.before (kept ++ text) g.good (numbered_ok number (after_line known (kept ++ text)) after good);
      counted = omega (arith, g.counted, length-append g.before ((kept ++ text) ∷ []));
    }

    pub line_bad : (fault : ScriptFault) → FailsAt fault (at_line number (after_line known (kept ++ text))) → HasTaken whole (Err fault)
    line_bad fault fails = (λ more. tells (whole ++ more) fault (subst (FailsAt fault) (sym (outcome_is more)) (fails_then fault _ _ fails)), of_script fault _ fails)
      where
        outcome_is : (more : List ℕ) → outcome (whole ++ more) ≡ (at_line number (after_line known (kept ++ text)) >=> λ after. after_lines after (number + 1) (pieces 10 (next ++ more)))
        outcome_is more =
            let counted : 1 + length g.before ≡ number = omega (arith, g.counted) in
            ap (after_lines nothing_known 1) (line_cut more)
            ∙ reads_lines nothing_known known g.before 1 (kept ++ text) (pieces 10 (next ++ more)) g.good
            ∙ ap (λ (n : ℕ). after_lines known n ((kept ++ text) ∷ pieces 10 (next ++ more))) counted
            ∙ line_first known number (kept ++ text) (next ++ more)

  -- before a good line there are few
  pub few_so_far : (line : List ℕ) (after : DraftData) → at_line number (after_line known line) ≡ Ok after → number ≤ 272643140
  few_so_far line after good =
      let made = made_sound nothing_known known g.before 1 at_first refl g.good in
      omega (arith, made.1, g.counted, few_lines known after line made.0 (numbered_ok number (after_line known line) after good))

-- ---- the end

pub nothing_taken : AreLinesOf [] (record { known = nothing_known; number = 1; kept = [] })
nothing_taken = record { before = []; cut = refl; good = refl; counted = refl }

-- what comes of the bytes, where no more come
pub lines_ended : (bytes : List ℕ) (lines : LinesData) → AreLinesOf bytes lines → outcome bytes ≡ at_line lines.number (at_end lines.known lines.kept)
unfolding after_lines
lines_ended bytes lines is =
    let counted : 1 + length is.before ≡ lines.number = omega (arith, is.counted) in
    ap (after_lines nothing_known 1) is.cut
    ∙ reads_lines nothing_known lines.known is.before 1 lines.kept [] is.good
    ∙ ap (λ (n : ℕ). at_line n (at_end lines.known lines.kept)) counted
