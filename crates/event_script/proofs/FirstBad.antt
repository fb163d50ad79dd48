-- The first bad line of the table is the one that the reader finds.
use Rattle.std.proofs.Common.{◌≡◌, ◌⊎◌, inl, inr, ℕ, ◌+◌, ◌-◌, ◌^◌, Bool, true, false, true≢false, cond, ◌&&◌, eqb, ltb, leb, List, [], ◌∷◌, ◌++◌, length, Result, Ok, Err, refl, sym, ap, subst, ◌∙◌, ltb-true, arith}
use Rattle.std.specs.List.{slice_get}
use Rattle.std.specs.Option.{ok_or}
use Rattle.std.proofs.lemmas.Bool.{ltb-false}
use Rattle.frame_parse.specs.Sections.{SectionData}
use Rattle.frame_parse.specs.Reading.{section_of}
use Rattle.frame_parse.specs.declared.fault.FrameFault.{FrameFault}
use Rattle.script_text.specs.ScriptData.{ScriptData, ImageData, SnapshotData, counts_of, recorded_bytes}
use Rattle.script_text.specs.Spelling.{IsScript}
use Rattle.event_script.specs.Draft.{DraftData, nothing_known, is_ended, snapshots_so_far, threads_so_far, rounds_so_far, with_image, contents_or_none, with_statement}
use Rattle.event_script.specs.Reasons.{LineText, Says, SaysSome, HasBadSection, number_in_table, SpeaksAgainst, IsReason, IsGood}
use Rattle.event_script.specs.Refusal.{whole_line, text_before, HasLineHere, MakeKnown, IsFirstBad, HasOneReading}
use Rattle.event_script.specs.Reading.{◌>=>◌, section_or, image_added, last_fixed, is_above, accepts, region_added, is_named, has_room, added, after_line, at_end, BadLine, at_line, after_lines, outcome}
use Rattle.event_script.specs.Fault.{Tells, FailsAt}
use Rattle.event_script.specs.declared.reader.fault.ScriptFault.{ScriptFault}
use Rattle.event_script.specs.declared.reader.fault.ScriptFault.TheVariants.{Bad, NoMemory}
use Rattle.script_text.specs.declared.reason.Reason.{Reason}
use Rattle.script_text.specs.declared.reason.Reason.TheVariants as reason
use Rattle.script_text.specs.declared.statement.Statement.{Statement}
use Rattle.script_text.specs.declared.statement.Statement.TheVariants as statement
use Rattle.script_text.proofs.Pieces.{some_pieces}
use Rattle.event_script.proofs.Steps.{bind_ok, guard_last, guard_then, ok_is}
use Rattle.event_script.proofs.Spoken.{says_one}
use Rattle.event_script.proofs.Sections.{section_bad}
use Rattle.event_script.proofs.Passed.{Judged}
use Rattle.event_script.proofs.Judged.{judged_line, judged_end}
use Rattle.event_script.proofs.Sound.{section_from_or}
use Rattle.event_script.proofs.LinesRead.{line_read, numbered_ok, outcome_sound}
use Rattle.event_script.proofs.Complete.{whole, outcome_complete, one_script}

-- ---- what a good line adds

image_made : (known next : DraftData) (image : ImageData) → image_added known image ≡ Ok next → with_statement known (statement.Image image) ≡ next
image_made known next image e =
    let made : SectionData → Result DraftData Reason = λ section. Ok (with_image known image section) in
    let order = guard_then (eqb image.number (length known.script.images)) reason.Order _ next e in
    let limit = guard_then (ltb (length known.script.images) 4096 && leb (length image.bytes) 65536) reason.Limit _ next order.1 in
    let span = guard_then (ltb 0 image.size && leb (image.base + image.size) (2 ^ 64 - 1)) reason.Span _ next limit.1 in
    let read = bind_ok (section_or (section_of image.section image.bytes)) made next span.1 in
    let found = section_from_or (section_of image.section image.bytes) read.0 read.1 in
    ap (λ (given : Result SectionData FrameFault). with_image known image (contents_or_none image.section image.bytes given)) found
    ∙ ok_is (with_image known image read.0) next read.2

pub added_makes : (known next : DraftData) (s : Statement) → added known s ≡ Ok next → with_statement known s ≡ next
unfolding added
added_makes known next (statement.Version version) e = (guard_last (leb 1 version && leb version 2) reason.Limit (with_statement known (statement.Version version)) next e).1
added_makes known next (statement.Nodes nodes) e = (guard_last (leb 4 nodes && leb nodes 16384) reason.Limit (with_statement known (statement.Nodes nodes)) next e).1
added_makes known next (statement.Loads loads) e = (guard_last (leb 1 loads && leb loads 1024) reason.Limit (with_statement known (statement.Loads loads)) next e).1
added_makes known next (statement.Image image) e = image_made known next image e
added_makes known next (statement.Fixed image) e =
    let named = bind_ok (ok_or (slice_get known.script.images image) reason.Name) _ next e in
    (guard_last (is_above (last_fixed known.script.images known.script.fixed) named.0) reason.Fixed (with_statement known (statement.Fixed image)) next named.2).1
added_makes known next (statement.Snapshot fields) e =
    let order = guard_then (eqb fields.number (length (snapshots_so_far known))) reason.Order _ next e in
    (guard_last (ltb (length (snapshots_so_far known)) 4096) reason.Limit (with_statement known (statement.Snapshot fields)) next order.1).1
added_makes known next (statement.Memory region) e =
    let grown : SnapshotData = record known.snapshot { memory = known.snapshot.memory ++ region ∷ [] } in
    let one = bind_ok (region_added known.snapshot region) (λ x. Ok (record known { snapshot = x })) next e in
    let limit = guard_then (leb (recorded_bytes known.snapshot.memory + length region.bytes) 65536) reason.Limit _ one.0 one.1 in
    let accepted = guard_last (accepts known.snapshot.memory region) reason.Region grown one.0 limit.1 in
    ap (λ (x : SnapshotData). record known { snapshot = x }) accepted.1 ∙ ok_is _ next one.2
added_makes known next statement.Round e = (guard_last (ltb (length (rounds_so_far known)) 64) reason.Limit (with_statement known statement.Round) next e).1
added_makes known next statement.Thread e = (guard_last (ltb (length (threads_so_far known)) 16) reason.Limit (with_statement known statement.Thread) next e).1
added_makes known next (statement.Event happens) e =
    let limit = guard_then (ltb (length known.events) 4096 && has_room known.totals happens) reason.Limit _ next e in
    (guard_last (is_named (counts_of known.script) happens) reason.Name (with_statement known (statement.Event happens)) next limit.1).1
added_makes known next statement.End e = ok_is (with_statement known statement.End) next e

-- ---- what the reader finds is the first bad line

abbrev ok : DraftData → Result DraftData Reason
ok known = Ok known

abbrev err : Reason → Result DraftData Reason
err why = Err why

judged_as : (known : DraftData) (text : LineText) (given other : Result DraftData Reason) → given ≡ other → Judged known text given → Judged known text other
judged_as known text given other e judged = subst (Judged known text) e judged

-- a good line, and what it makes known
pub good_line : (known next : DraftData) (line : List ℕ) → after_line known line ≡ Ok next → (s : Statement) × Says (whole_line line) s × IsGood known (whole_line line) × (with_statement known s ≡ next)
good_line known next line e =
    let r = line_read known next line e in
    (r.statement, r.says, judged_as known (whole_line line) (after_line known line) (ok next) e (judged_line known line), added_makes known next r.statement r.is)

-- the first bad one of some lines
record FoundBad (known : DraftData) (number : ℕ) (lines : List (List ℕ)) (bad : BadLine) : Type 0 where
  before : List (List ℕ)
  line : List ℕ
  others : List (List ℕ)
  last : DraftData
  cut : lines ≡ before ++ line ∷ others
  counted : bad.line ≡ number + length before
  good : MakeKnown known before last
  due : HasLineHere last (text_before others line)
  is_bad : IsReason last (text_before others line) bad.reason

abbrev failed_with : BadLine → Result DraftData BadLine
failed_with bad = Err bad

bad_is : (x y : BadLine) → failed_with x ≡ failed_with y → x ≡ y
bad_is x y e = cc

at_line_bad : (number : ℕ) (given : Result DraftData Reason) (bad : BadLine) → at_line number given ≡ Err bad → (given ≡ Err bad.reason) × (bad.line ≡ number)
at_line_bad number (Ok known) bad e = absurd cc
at_line_bad number (Err why) bad e =
    let same = bad_is (record { line = number; reason = why }) bad e in (ap (λ (b : BadLine). err b.reason) same, sym (ap (λ (b : BadLine). b.line) same))

bind_bad : (r : Result DraftData BadLine) (f : DraftData → Result DraftData BadLine) (bad : BadLine) → (r >=> f) ≡ Err bad → (r ≡ Err bad) ⊎ ((known : DraftData) × (r ≡ Ok known) × (f known ≡ Err bad))
bind_bad (Ok known) f bad e = inr (known, refl, e)
bind_bad (Err other) f bad e = inl (ap failed_with (bad_is other bad e))

here_bad : (known : DraftData) (number : ℕ) (line : List ℕ) (others : List (List ℕ)) (bad : BadLine) → bad.line ≡ number → HasLineHere known (text_before others line) → IsReason known (text_before others line) bad.reason → FoundBad known number (line ∷ others) bad
here_bad known number line others bad is due reason = record { before = []; line = line; others = others; last = known; cut = refl; counted = (let same : bad.line ≡ number = is in omega arith); good = refl; due = due; is_bad = reason }

-- what is refused at the end of the text was due there
end_due : (known : DraftData) (rest : List ℕ) (why : Reason) → at_end known rest ≡ Err why → HasLineHere known (record { bytes = rest; has_feed = false })
unfolding at_end
end_due known [] why e = by (is_ended known.stage) refl e
  where
    by : (t : Bool) → is_ended known.stage ≡ t → cond t (ok known) (err reason.Missing) ≡ err why → HasLineHere known (record { bytes = []; has_feed = false })
    by true is e = absurd cc
    by false is e = inl is
end_due known (b ∷ rest) why e = inr (inl (λ same. absurd cc))

found_bad : (known : DraftData) (number : ℕ) (first : List ℕ) (lines : List (List ℕ)) (bad : BadLine) → after_lines known number (first ∷ lines) ≡ Err bad → FoundBad known number (first ∷ lines) bad
unfolding after_lines
found_bad known number rest [] bad e =
    let at = at_line_bad number (at_end known rest) bad e in
    here_bad known number rest [] bad at.1 (end_due known rest bad.reason at.0) (judged_end known rest bad.reason at.0)
found_bad known number line (next ∷ others) bad e = elim (bind_bad (at_line number (after_line known line)) (λ after. after_lines after (number + 1) (next ∷ others)) bad e) [
  | inl here ↦ (
      let at = at_line_bad number (after_line known line) bad here in
      here_bad known number line (next ∷ others) bad at.1 (inr (inr refl)) (judged_as known (whole_line line) (after_line known line) (err bad.reason) at.0 (judged_line known line)))
  | inr later ↦ (
      let good = good_line known later.0 line (numbered_ok number (after_line known line) later.0 later.1) in
      let found = found_bad later.0 (number + 1) next others bad later.2 in
      record {
        before = line ∷ found.before;
        line = found.line;
        others = found.others;
        last = found.last;
        cut = ap (λ (x : List (List ℕ)). line ∷ x) found.cut;
        counted = omega (arith, found.counted);
        good = (good.0, good.1, good.2, subst (λ (d : DraftData). MakeKnown d found.before found.last) (sym good.3) found.good);
        due = found.due;
        is_bad = found.is_bad;
      })
]

pub bad_found : (bytes : List ℕ) (bad : BadLine) → outcome bytes ≡ Err bad → IsFirstBad bytes bad.line bad.reason
bad_found bytes bad e =
    let p = some_pieces 10 bytes in
    let found = found_bad nothing_known 1 p.0 p.1 bad (sym (ap (after_lines nothing_known 1) p.2) ∙ e) in
    record {
      before = found.before;
      line = found.line;
      others = found.others;
      known = found.last;
      cut = p.2 ∙ found.cut;
      counted = omega (arith, found.counted);
      good = found.good;
      due = found.due;
      bad = found.is_bad;
    }

-- what the reader's faults say
pub tells : (bytes : List ℕ) (fault : ScriptFault) → FailsAt fault (outcome bytes) → Tells bytes fault
tells bytes (Bad line why) fails = bad_found bytes (record { line = line; reason = why }) fails.0
tells bytes NoMemory fails = tt

-- ---- and the first bad line is what the reader finds

-- no reason holds of a line: it is read, and adds what it says
pub reads_good : (known : DraftData) (line : List ℕ) (s : Statement) → Says (whole_line line) s → IsGood known (whole_line line) → after_line known line ≡ Ok (with_statement known s)
reads_good known line s says good = by (after_line known line) refl (judged_line known line)
  where
    by : (given : Result DraftData Reason) → after_line known line ≡ given → Judged known (whole_line line) given → given ≡ Ok (with_statement known s)
    by (Err why) e judged = absurd (good why judged.holds)
    by (Ok next) e judged =
        let r = line_read known next line e in
        ap ok (sym (added_makes known next r.statement r.is) ∙ ap (with_statement known) (says_one (whole_line line) r.statement s r.says says))

-- the lines are read one after another
pub reads_lines : (known last : DraftData) (before : List (List ℕ)) (number : ℕ) (line : List ℕ) (others : List (List ℕ)) → MakeKnown known before last
    → after_lines known number (before ++ line ∷ others) ≡ after_lines last (number + length before) (line ∷ others)
unfolding after_lines
reads_lines known last [] number line others e = (let same : number ≡ number + 0 = omega arith in ap (λ (d : DraftData). after_lines d number (line ∷ others)) e ∙ ap (λ (n : ℕ). after_lines last n (line ∷ others)) same)
reads_lines known last (first ∷ []) number line others (s, says, good, rest) =
    let same : number + 1 ≡ number + length (first ∷ []) = omega arith in
    ap (λ (given : Result DraftData Reason). at_line number given >=> λ after. after_lines after (number + 1) (line ∷ others)) (reads_good known first s says good)
    ∙ ap (λ (d : DraftData). after_lines d (number + 1) (line ∷ others)) rest
    ∙ ap (λ (n : ℕ). after_lines last n (line ∷ others)) same
reads_lines known last (first ∷ second ∷ before) number line others (s, says, good, rest) =
    let same : number + 1 + length (second ∷ before) ≡ number + length (first ∷ second ∷ before) = omega arith in
    ap (λ (given : Result DraftData Reason). at_line number given >=> λ after. after_lines after (number + 1) (second ∷ before ++ line ∷ others)) (reads_good known first s says good)
    ∙ reads_lines (with_statement known s) last (second ∷ before) (number + 1) line others rest
    ∙ ap (λ (n : ℕ). after_lines last n (line ∷ others)) same

-- ---- there is one first reason

-- what is refused has one fault
one_section : (text : LineText) (a b : FrameFault) → SaysSome text (HasBadSection a) → SaysSome text (HasBadSection b) → a ≡ b
one_section text a b (s, says, p) (t, other, q) = at s p (subst (HasBadSection b) (says_one text t s other says) q)
  where
    fault_is : (r : Result SectionData FrameFault) (x y : FrameFault) → r ≡ Err x → r ≡ Err y → x ≡ y
    fault_is r x y p q = cc

    at : (s : Statement) → HasBadSection a s → HasBadSection b s → a ≡ b
    at (statement.Image image) p q = fault_is (section_of image.section image.bytes) a b (section_bad image.section image.bytes a p) (section_bad image.section image.bytes b q)
    at (statement.Version version) p q = absurd p
    at _ p q = absurd p

same_number : (known : DraftData) (text : LineText) (a b : Reason) → number_in_table a ≡ number_in_table b → SpeaksAgainst a known text → SpeaksAgainst b known text → a ≡ b
same_number known text reason.Missing reason.Missing e p q = refl
same_number known text reason.After reason.After e p q = refl
same_number known text reason.Unended reason.Unended e p q = refl
same_number known text reason.Byte reason.Byte e p q = refl
same_number known text reason.Word reason.Word e p q = refl
same_number known text reason.Fields reason.Fields e p q = refl
same_number known text reason.Spelling reason.Spelling e p q = refl
same_number known text reason.Order reason.Order e p q = refl
same_number known text reason.Limit reason.Limit e p q = refl
same_number known text reason.Span reason.Span e p q = refl
same_number known text (reason.Section a) (reason.Section b) e p q = ap reason.Section (one_section text a b p q)
same_number known text reason.Name reason.Name e p q = refl
same_number known text reason.Fixed reason.Fixed e p q = refl
same_number known text reason.Region reason.Region e p q = refl
same_number known text _ _ e p q = absurd (omega arith)

pub one_reason : (known : DraftData) (text : LineText) (a b : Reason) → IsReason known text a → IsReason known text b → a ≡ b
one_reason known text a b p q = by (ltb (number_in_table a) (number_in_table b)) refl (ltb (number_in_table b) (number_in_table a)) refl
  where
    by : (t : Bool) → ltb (number_in_table a) (number_in_table b) ≡ t → (u : Bool) → ltb (number_in_table b) (number_in_table a) ≡ u → a ≡ b
    by true lt u e = absurd (q.first a (ltb-true _ _ lt) p.holds)
    by false ge true lt = absurd (p.first b (ltb-true _ _ lt) q.holds)
    by false ge false le = same_number known text a b (let x = ltb-false _ _ ge in let y = ltb-false _ _ le in omega arith) p.holds q.holds

-- where the text ends well nothing is due
ends_well : (known : DraftData) (rest : List ℕ) (after : DraftData) → at_end known rest ≡ Ok after → HasLineHere known (record { bytes = rest; has_feed = false }) → ⊥
unfolding at_end
ends_well known [] after e due = ended due (guard_last (is_ended known.stage) reason.Missing known after e).0
  where
    ended : HasLineHere known (record { bytes = []; has_feed = false }) → is_ended known.stage ≡ true → ⊥
    ended (inl going) is = true≢false (sym is ∙ going)
    ended (inr (inl some)) is = some refl
    ended (inr (inr feed)) is = true≢false (sym feed)
ends_well known (b ∷ rest) after e due = ended_not (is_ended known.stage) e
  where
    ended_not : (t : Bool) → cond t (err reason.After) (err reason.Unended) ≡ ok after → ⊥
    ended_not true e = cc
    ended_not false e = cc

-- the last of these lines is read as the table says
reads_bad : (known : DraftData) (number : ℕ) (line : List ℕ) (others : List (List ℕ)) (why : Reason) → HasLineHere known (text_before others line) → IsReason known (text_before others line) why → after_lines known number (line ∷ others) ≡ Err (record { line = number; reason = why })
unfolding after_lines at_end
reads_bad known number line (next ∷ others) why due is = by (after_line known line) (judged_line known line)
  where
    by : (given : Result DraftData Reason) → Judged known (whole_line line) given → (at_line number given >=> λ after. after_lines after (number + 1) (next ∷ others)) ≡ Err (record { line = number; reason = why })
    by (Ok after) judged = absurd (judged why is.holds)
    by (Err other) judged = ap (λ (w : Reason). failed_with (record { line = number; reason = w })) (one_reason known (whole_line line) other why judged is)
reads_bad known number line [] why due is = by (at_end known line) refl
  where
    by : (given : Result DraftData Reason) → at_end known line ≡ given → at_line number given ≡ Err (record { line = number; reason = why })
    by (Err other) e = ap (λ (w : Reason). failed_with (record { line = number; reason = w })) (one_reason known (record { bytes = line; has_feed = false }) other why (judged_end known line other e) is)
    by (Ok after) e = absurd (ends_well known line after e due)

pub found_first : (bytes : List ℕ) (number : ℕ) (why : Reason) → IsFirstBad bytes number why → outcome bytes ≡ Err (record { line = number; reason = why })
found_first bytes number why is =
    let counted : number ≡ 1 + length is.before = omega (arith, is.counted) in
    ap (after_lines nothing_known 1) is.cut
    ∙ reads_lines nothing_known is.known is.before 1 is.line is.others is.good
    ∙ reads_bad is.known (1 + length is.before) is.line is.others why is.due is.bad
    ∙ ap (λ (n : ℕ). failed_with (record { line = n; reason = why })) (sym counted)

-- ---- one reading

pub never_both : (bytes : List ℕ) (s : ScriptData) (line : ℕ) (why : Reason) → IsScript bytes s → IsFirstBad bytes line why → ⊥
never_both bytes s line why p q = never (outcome bytes) (whole s) (record { line = line; reason = why }) (outcome_complete bytes s p) (found_first bytes line why q)
  where
    never : (o : Result DraftData BadLine) (known : DraftData) (bad : BadLine) → o ≡ Ok known → o ≡ Err bad → ⊥
    never o known bad e f = cc

one_fault : (bytes : List ℕ) (line other : ℕ) (why because : Reason) → IsFirstBad bytes line why → IsFirstBad bytes other because → (line ≡ other) × (why ≡ because)
one_fault bytes line other why because p q =
    let e = bad_is (record { line = line; reason = why }) (record { line = other; reason = because }) (sym (found_first bytes line why p) ∙ found_first bytes other because q) in
    (ap (λ (b : BadLine). b.line) e, ap (λ (b : BadLine). b.reason) e)

pub one_reading : (bytes : List ℕ) → HasOneReading bytes
one_reading bytes = record {
  some = by (outcome bytes) refl;
  one_script = one_script bytes;
  one_fault = one_fault bytes;
  never_both = never_both bytes;
}
  where
    by : (o : Result DraftData BadLine) → outcome bytes ≡ o → ((s : ScriptData) × IsScript bytes s) ⊎ ((line : ℕ) × (why : Reason) × IsFirstBad bytes line why)
    by (Ok known) e = inl (known.script, outcome_sound bytes known e)
    by (Err bad) e = inr (bad.line, bad.reason, bad_found bytes bad e)
