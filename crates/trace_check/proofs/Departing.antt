-- The departure of a trace: that it has one at most, and which.
use Rattle.std.proofs.Common.{◌≡◌, ◌↔◌, ℕ, ◌+◌, ◌<◌, ◌≤◌, inl, inr, List, [], ◌∷◌, ◌++◌, length, take, drop, get_or, Option, Some, None, slice_get, refl, sym, ◌∙◌, ap, subst, arith, append_assoc, append-nil, take-append-drop}
use Rattle.std.proofs.lemmas.List.{take_all, take_more, take-take, length-take-le}
use Rattle.std.proofs.lemmas.Option.{get_or_from_slice_get, slice_get_read, slice_get_within, none-some, same_Some}
use Rattle.frame_expr.specs.declared.regs.Regs.{Regs}
use Rattle.frame_expr.specs.Regions.{RegionData}
use Rattle.frame_parse.specs.Sections.{SectionData}
use Rattle.unwind_step.specs.Backtrace.{TraceData, Unfolds}
use Rattle.unwind_step.specs.declared.backtrace.End.{End}
use Rattle.unwind_step.specs.declared.backtrace.FrameLine.{FrameLine}
use Rattle.unwind_step.specs.declared.frame.Frame.{Frame}
use Rattle.trace_check.specs.declared.next_line.NextLine.{NextLine}
use Rattle.trace_check.specs.declared.next_line.NextLine.TheVariants as nexts
use Rattle.trace_check.specs.Departures.{BeginsUnfolding, LeavesAt, IsDeparture, DepartsOnce}
use Rattle.trace_check.specs.NextLines.{Continues, IsNextLine, IsReached, StandsBefore}
use Rattle.trace_check.proofs.Reaching.{begins_here, ended, reached_more, none_after_end, none_with_line}

-- one item more of a list
pub take_one_more : {X : Type 0} (xs : List X) (i : ℕ) (x : X) → slice_get xs i ≡ Some x → take (i + 1) xs ≡ take i xs ++ x ∷ []
take_one_more xs i x at = take_more xs i x (slice_get_within xs i x at) ∙ ap (λ y. take i xs ++ y ∷ []) (get_or_from_slice_get xs i x x at)

pub line_read : (lines : List FrameLine) (i : ℕ) (line : FrameLine) → i < length lines → line ≡ get_or lines i line → slice_get lines i ≡ Some line
line_read lines i line within is = slice_get_read lines (length lines) i line refl within is

module _ (sections : List SectionData) (memory : List RegionData) (regs : Regs) where
  abbrev Begins : List FrameLine → Type 0
  Begins lines = BeginsUnfolding sections memory regs lines

  -- ---- one at most

  begins_shorter : (front back : List FrameLine) → Begins (front ++ back) → Begins front
  begins_shorter front back begins = record {
    trace = begins.trace;
    unfolds = begins.unfolds;
    rest = back ++ begins.rest;
    begins = begins.begins ∙ append_assoc front back begins.rest;
  }

  -- what begins with so many lines begins with fewer of them
  begins_fewer : (lines : List FrameLine) (i j : ℕ) → i ≤ j → Begins (take j lines) → Begins (take i lines)
  begins_fewer lines i j less begins =
      let fewer : take i (take j lines) ≡ take i lines = take-take i j lines less in
      subst Begins fewer (begins_shorter (take i (take j lines)) (drop i (take j lines)) (subst Begins (sym (take-append-drop i (take j lines))) begins))

  unfolds_begins : (trace : TraceData) → Unfolds sections memory regs trace → Begins trace.frames
  unfolds_begins trace unfolds = record { trace = trace; unfolds = unfolds; rest = []; begins = sym (append-nil trace.frames) }

  begins_part : (lines : List FrameLine) (i : ℕ) → Begins lines → Begins (take i lines)
  begins_part lines i begins = begins_shorter (take i lines) (drop i lines) (subst Begins (sym (take-append-drop i lines)) begins)

  never_both : (trace : TraceData) → Unfolds sections memory regs trace → (k : ℕ) → ¬ IsDeparture sections memory regs trace k
  never_both trace unfolds k (inl at) = at.leaves (begins_part trace.frames (k + 1) (unfolds_begins trace unfolds))
  never_both trace unfolds k (inr end) = end.1.leaves unfolds

  not_later : (lines : List FrameLine) (j k : ℕ) → LeavesAt sections memory regs lines j → Begins (take k lines) → ¬ (j < k)
  not_later lines j k at before less = at.leaves (begins_fewer lines (j + 1) k (omega (arith, less)) before)

  -- a trace whose frames begin one that unfolds leaves at none of them
  not_at_end : (lines : List FrameLine) (j : ℕ) → LeavesAt sections memory regs lines j → Begins lines → ⊥
  not_at_end lines j at begins = at.leaves (begins_part lines (j + 1) begins)

  one_place : (trace : TraceData) (j k : ℕ) → IsDeparture sections memory regs trace j → IsDeparture sections memory regs trace k → j ≡ k
  one_place trace j k (inl at) (inl also) =
      let before = not_later trace.frames j k at also.before in
      let after = not_later trace.frames k j also at.before in
      omega (arith, before, after)
  one_place trace j k (inl at) (inr also) = absurd (not_at_end trace.frames j at also.1.before)
  one_place trace j k (inr at) (inl also) = absurd (not_at_end trace.frames k also at.1.before)
  one_place trace j k (inr at) (inr also) = at.0 ∙ sym also.0

  pub departs_once : (trace : TraceData) → DepartsOnce sections memory regs trace
  departs_once trace = record { none = never_both trace; once = one_place trace }

  -- ---- which

  abbrev Answers : TraceData → Option ℕ → Type 0
  Answers trace result = ((result ≡ None) ↔ Unfolds sections memory regs trace) × ((k : ℕ) → (result ≡ Some k) ↔ IsDeparture sections memory regs trace k)

  unfolds_answer : (trace : TraceData) → Unfolds sections memory regs trace → Answers trace None
  unfolds_answer trace unfolds = (
    (λ e. unfolds, λ u. refl),
    λ k. (λ e. absurd (none-some k e), λ departs. absurd (never_both trace unfolds k departs)),
  )

  departs_answer : (trace : TraceData) (k : ℕ) → IsDeparture sections memory regs trace k → Answers trace (Some k)
  departs_answer trace k departs = (
    (λ e. absurd (none-some k (sym e)), λ unfolds. absurd (never_both trace unfolds k departs)),
    λ j. (
      λ e. subst (IsDeparture sections memory regs trace) (same_Some k j e) departs,
      λ also. ap Some (one_place trace k j departs also),
    ),
  )

  -- A trace's fields are what is seen of it. These say what was found of its lines and its end.
  pub line_answer : (seen trace : TraceData) → seen ≡ trace → (lines : List FrameLine) → lines ≡ seen.frames → (k : ℕ) → LeavesAt sections memory regs lines k → Answers trace (Some k)
  line_answer seen trace same lines are k leaves =
      departs_answer trace k (inl (subst (λ (ls : List FrameLine). LeavesAt sections memory regs ls k) (are ∙ ap (λ (t : TraceData). t.frames) same) leaves))

  -- a trace that goes on so has no line more, and this end
  ends_so : (frames : List Frame) (count : ℕ) (end : End) (next : NextLine) → Continues frames count end [] next → next ≡ nexts.End end
  ends_so frames count end (nexts.Frame frame) on = absurd (on.0 refl)
  ends_so frames count end (nexts.End other) on = ap nexts.End (sym on.1)

  ends_at : (trace : TraceData) (next : NextLine) → IsReached sections memory regs trace.frames next → ¬ (next ≡ nexts.End trace.end) → IsDeparture sections memory regs trace (length trace.frames)
  ends_at trace next reached other = inr (
    refl,
    record {
      before = begins_here sections memory regs trace.frames next reached.stands;
      leaves = λ unfolds. other (ends_so unfolds.frames (length trace.frames) trace.end next (reached.only trace unfolds [] (sym (append-nil trace.frames))));
    },
  )

  pub end_answer : (seen trace : TraceData) → seen ≡ trace → (lines : List FrameLine) → lines ≡ seen.frames → (next : NextLine) → IsReached sections memory regs lines next → ¬ (next ≡ nexts.End seen.end) → (n : ℕ) → n ≡ length seen.frames → Answers trace (Some n)
  end_answer seen trace same lines are next reached other n long =
      let here = ends_at seen next (subst (λ (ls : List FrameLine). IsReached sections memory regs ls next) are reached) other in
      subst (λ (t : TraceData). Answers t (Some n)) same (departs_answer seen n (subst (IsDeparture sections memory regs seen) (sym long) here))

  pub whole_answer : (seen trace : TraceData) → seen ≡ trace → (lines : List FrameLine) → lines ≡ seen.frames → (next : NextLine) → IsReached sections memory regs lines next → next ≡ nexts.End seen.end → Answers trace None
  whole_answer seen trace same lines are next reached is =
      let here = subst (λ (ls : List FrameLine). IsReached sections memory regs ls next) are reached in
      let stands = subst (StandsBefore sections memory regs seen.frames) is here.stands in
      subst (λ (t : TraceData). Answers t None) same (unfolds_answer seen (ended sections memory regs seen.frames stands.0 seen.end stands.1))

  -- ---- a line more

  abbrev Reached : List FrameLine → NextLine → Type 0
  Reached lines next = IsReached sections memory regs lines next

  taken : (lines : List FrameLine) (i : ℕ) (line : FrameLine) → slice_get lines i ≡ Some line → length (take i lines) ≡ i
  taken lines i line at = length-take-le i lines (let less = slice_get_within lines i line at in omega (arith, less))

  pub goes_through : (lines : List FrameLine) (i : ℕ) (line : FrameLine) (frame : Frame) (next : NextLine) → slice_get lines i ≡ Some line → Reached (take i lines) (nexts.Frame frame) → IsNextLine sections memory (i + 1) frame line next → ((other : NextLine) → IsNextLine sections memory (i + 1) frame line other → Some other ≡ Some next) → Reached (take (i + 1) lines) next
  goes_through lines i line frame next at reached is only =
      let count : i ≡ length (take i lines) = sym (taken lines i line at) in
      subst (λ (ls : List FrameLine). Reached ls next) (sym (take_one_more lines i line at))
      (reached_more sections memory regs (take i lines) frame line next reached (subst (λ (n : ℕ). IsNextLine sections memory (n + 1) frame line next) count is) (subst (λ (n : ℕ). (other : NextLine) → IsNextLine sections memory (n + 1) frame line other → other ≡ next) count (λ other also. same_Some other next (only other also))))

  leaves_here : (lines : List FrameLine) (i : ℕ) (line : FrameLine) (next : NextLine) → slice_get lines i ≡ Some line → Reached (take i lines) next → ¬ Begins (take i lines ++ line ∷ []) → LeavesAt sections memory regs lines i
  leaves_here lines i line next at reached none = record {
    within = slice_get_within lines i line at;
    before = begins_here sections memory regs (take i lines) next reached.stands;
    leaves = λ begins. none (subst Begins (take_one_more lines i line at) begins);
  }

  pub leaves_after_end : (lines : List FrameLine) (i : ℕ) (line : FrameLine) (end : End) → slice_get lines i ≡ Some line → Reached (take i lines) (nexts.End end) → LeavesAt sections memory regs lines i
  leaves_after_end lines i line end at reached = leaves_here lines i line (nexts.End end) at reached (none_after_end sections memory regs (take i lines) end line reached)

  pub leaves_with_line : (lines : List FrameLine) (i : ℕ) (line : FrameLine) (frame : Frame) → slice_get lines i ≡ Some line → Reached (take i lines) (nexts.Frame frame) → ((other : NextLine) → IsNextLine sections memory (i + 1) frame line other → Some other ≡ None) → LeavesAt sections memory regs lines i
  leaves_with_line lines i line frame at reached none =
      let count : i ≡ length (take i lines) = sym (taken lines i line at) in
      leaves_here lines i line (nexts.Frame frame) at reached (none_with_line sections memory regs (take i lines) frame line reached (subst (λ (n : ℕ). (other : NextLine) → ¬ IsNextLine sections memory (n + 1) frame line other) count (λ other also. none-some other (sym (none other also)))))

  pub all_gone : (lines : List FrameLine) (i : ℕ) (next : NextLine) → length lines ≤ i → Reached (take i lines) next → Reached lines next
  all_gone lines i next end reached = subst (λ (ls : List FrameLine). Reached ls next) (take_all i lines end) reached
