-- Each number that a trace shows has 64 bits: a register is one that was recorded, that was read as
-- eight bytes, or that was worked out modulo 2 ^ 64.
use Rattle.std.proofs.Common.{◌≡◌, ℕ, zero, suc, ◌+◌, ◌-◌, ◌%◌, ◌^◌, ◌<◌, ◌≤◌, List, [], ◌∷◌, length, get_or, Bool, true, false, cond, Option, Some, None, IfSome, Result, Ok, Err, All, inl, inr, sym, ◌∙◌, ap, subst, arith, option_and_then, option_map, add-one}
use Rattle.std.specs.Prelude.{slice_get, slice_index, ◌==◌}
use Rattle.std.proofs.lemmas.Bool.{cases_lt}
use Rattle.std.proofs.lemmas.List.{get_or_past}
use Rattle.std.proofs.lemmas.Option.{get_or_from_slice_get, slice_get_within, slice_get-get_or, none-some, same_Some}
use Rattle.std.proofs.lemmas.Slice.Zip.{AllZip-long}
use Rattle.frame_expr.specs.declared.fault.NoBytes as faults
use Rattle.frame_expr.specs.declared.regs.Regs.{Regs}
use Rattle.frame_expr.specs.Regions.{RegionData, word_at}
use Rattle.frame_expr.specs.Registers.{stack_pointer_column, return_address_column, column_count}
use Rattle.frame_parse.specs.Sections.{SectionData, FdeData, first_cover}
use Rattle.frame_parse.specs.Entries.{FdeRecord}
use Rattle.frame_rows.specs.Rules.{RowData, RuleData, CfaRuleData}
use Rattle.frame_rows.specs.declared.rule.RuleWith.TheVariants as rules
use Rattle.frame_rows.specs.declared.rule.CfaRuleWith.TheVariants as cfas
use Rattle.hex.specs.Hex.{IsBytes}
use Rattle.reg_model.specs.declared.span.Member.{Member}
use Rattle.unwind_step.specs.Backtrace.{TraceData, Unfolds, AreFrames, Shows, IsCallingFrame, IsEnd, innermost, lookup_address, fde_in, fde_of, hit_of, hit_section}
use Rattle.unwind_step.specs.NextFrame.{IsRow, IsFrame, LacksBytes, rule_in}
use Rattle.unwind_step.specs.Rules.{IsCfa, IsRestored, number_read, saved_at, saved_by}
use Rattle.unwind_step.specs.declared.backtrace.End.{End}
use Rattle.unwind_step.specs.declared.backtrace.End.TheVariants as ends
use Rattle.unwind_step.specs.declared.backtrace.FrameLine.{FrameLine}
use Rattle.unwind_step.specs.declared.frame.AddressKind.{AddressKind}
use Rattle.unwind_step.specs.declared.frame.AddressKind.TheVariants.{Instruction, Return}
use Rattle.unwind_step.specs.declared.frame.Frame.{Frame}
use Rattle.trace_check.specs.Words.{AreWords, HoldBytes, HasWord, IsWordLine, IsWordEnd, HasWords}
use Rattle.trace_check.proofs.Following.{found_in}
use Rattle.trace_check.proofs.Numbers.{mod_fits}
use Rattle.trace_check.proofs.Reaching.{at_place, shown_at}
use Rattle.trace_check.proofs.RuleBytes.{HasBytes, CfaHasBytes, rule_bytes, cfa_bytes}
use Rattle.trace_check.proofs.Values.{expression_fits, word_fits}

-- ---- what rules restore

read_fits : (address : ℕ) (o : Option ℕ) → address < 2 ^ 64 → IfSome o (λ n. n < 2 ^ 64) → HasWord (number_read address o)
read_fits address None less word = less
read_fits address (Some n) less word = word

module _ (memory : List RegionData) (bytes : HoldBytes memory) where
  saved_fits : (address : ℕ) → address < 2 ^ 64 → HasWord (saved_at address memory)
  saved_fits address less = read_fits address (word_at address memory) less (word_fits address memory bytes)

  saved_by_fits : (address : Result ℕ faults.NoBytes) → HasWord address → HasWord (saved_by address memory)
  saved_by_fits (Ok address) less = saved_fits address less
  saved_by_fits (Err fault) less = less

  module _ (old : List ℕ) (words : AreWords old) where
    cfa_fits : (rule : CfaRuleData) (cfa : Result ℕ faults.NoBytes) → CfaHasBytes rule → IsCfa rule old memory cfa → HasWord cfa
    cfa_fits cfas.Missing cfa spelled is = absurd is
    cfa_fits (cfas.Offset q n) cfa spelled is = subst HasWord (sym is) (mod_fits (slice_index old q + n))
    cfa_fits (cfas.Expression e) cfa spelled is = expression_fits old memory words bytes 0 e None cfa spelled (λ i. omega arith) is

    module _ (cfa : ℕ) (less : cfa < 2 ^ 64) where
      -- the stack at the start of an expression that starts with the CFA
      first : AreWords (cfa ∷ [])
      first zero = less
      first (suc i) = omega arith

      kept : (b : Bool) (n : ℕ) → n < 2 ^ 64 → cond b cfa n < 2 ^ 64
      kept true n also = less
      kept false n also = also

      restored_fits : (r : ℕ) (rule : RuleData) (number : Result ℕ faults.NoBytes) → HasBytes rule → IsRestored r rule cfa old memory number → HasWord number
      restored_fits r rules.Unset number spelled is = subst HasWord (sym is) (kept (r == stack_pointer_column) (slice_index old r) (words r))
      restored_fits r rules.Undefined number spelled is = subst HasWord (sym is) (words r)
      restored_fits r rules.Same number spelled is = subst HasWord (sym is) (words r)
      restored_fits r (rules.Offset n) number spelled is = subst HasWord (sym is) (saved_fits ((cfa + n) % 2 ^ 64) (mod_fits (cfa + n)))
      restored_fits r (rules.ValOffset n) number spelled is = subst HasWord (sym is) (mod_fits (cfa + n))
      restored_fits r (rules.Register q) number spelled is = subst HasWord (sym is) (words q)
      restored_fits r (rules.Expression e) number spelled is =
          subst HasWord (sym is.is_number) (saved_by_fits is.address (expression_fits old memory words bytes 1 e (Some cfa) is.address spelled first is.is_value))
      restored_fits r (rules.ValExpression e) number spelled is = expression_fits old memory words bytes 1 e (Some cfa) number spelled first is

    -- ---- frames

    module _ (f : FdeData) (look : ℕ) (row : RowData) (spelled : IsBytes f.bytes) (is_row : IsRow f look row) where
      row_cfa_bytes : CfaHasBytes row.cfa
      row_cfa_bytes = subst CfaHasBytes (sym is_row.cfa) (cfa_bytes f look is_row.initial is_row.steps spelled is_row.has_initial is_row.has_program)

      row_rule_bytes : (r : ℕ) → r < column_count → HasBytes (rule_in row r)
      row_rule_bytes r below =
          let is = get_or_from_slice_get row.columns r _ rules.Unset (is_row.columns r below) in
          subst HasBytes (sym is) (rule_bytes f look is_row.initial is_row.steps spelled r is_row.has_initial is_row.has_program)

      frame_words : (new : List ℕ) → IsFrame row old memory new → AreWords new
      frame_words new is i =
          let cfa = cfa_fits row.cfa (Ok is.cfa) row_cfa_bytes is.is_cfa in
          elim (cases_lt i column_count) [
            | inl below ↦ restored_fits is.cfa cfa i (rule_in row i) (Ok (slice_index new i)) (row_rule_bytes i below) (is.restored i below)
            | inr past ↦ (
                let long : length new ≤ i = (let all = is.all in omega (arith, all, past)) in
                subst (λ n. n < 2 ^ 64) (sym (get_or_past new i 0 long)) (omega arith))
          ]

      lacked_fits : (fault : faults.NoBytes) → LacksBytes row old memory fault → fault.address < 2 ^ 64
      lacked_fits fault lacks = elim lacks.fails [
        | inl is ↦ cfa_fits row.cfa (Err fault) row_cfa_bytes is
        | inr (cfa, is_cfa, fails) ↦ (
            let less = cfa_fits row.cfa (Ok cfa) row_cfa_bytes is_cfa in
            restored_fits cfa less fails.r (rule_in row fails.r) (Err fault) (row_rule_bytes fails.r fails.below) fails.fails)
      ]

-- ---- traces

abbrev HaveBytes : List SectionData → Type 0
HaveBytes sections = All (λ s. IsBytes s.bytes) sections

section_fde : (s : SectionData) (look : ℕ) (f : FdeData) → fde_in look s ≡ Some f → f.bytes ≡ s.bytes
section_fde s look f is = bytes_of (first_cover look s.fdes) is
  where
    bytes_of : (o : Option FdeRecord) → option_map (λ e. record { section = s.address; bytes = s.bytes; entry = e }) o ≡ Some f → f.bytes ≡ s.bytes
    bytes_of None same = absurd (none-some f same)
    bytes_of (Some e) same = ap (λ (g : FdeData). g.bytes) (sym (same_Some _ f same))

listed_bytes : (sections : List SectionData) (i : ℕ) (s : SectionData) → HaveBytes sections → slice_get sections i ≡ Some s → IsBytes s.bytes
listed_bytes sections i s all at =
    subst (λ (t : SectionData). IsBytes t.bytes) (get_or_from_slice_get sections i s s at) (all i s (slice_get_within sections i s at))

module _ (sections : List SectionData) (spelled : HaveBytes sections) where
  fde_bytes : (line : FrameLine) (f : FdeData) → fde_of sections line ≡ Some f → IsBytes f.bytes
  fde_bytes line f found =
      let in_section = found_in (hit_section sections line.place) line.look f found in
      subst IsBytes (sym (section_fde in_section.0 line.look f in_section.2)) (hit_bytes in_section.0 (hit_of line.place) in_section.1)
    where
      hit_bytes : (s : SectionData) (hit : Option Member) → option_and_then (λ m. slice_get sections m.payload) hit ≡ Some s → IsBytes s.bytes
      hit_bytes s None at = absurd (none-some s at)
      hit_bytes s (Some m) at = listed_bytes sections m.payload s spelled at

  module _ (memory : List RegionData) (regs : Regs) (bytes : HoldBytes memory) (words : AreWords regs.columns) where
    caller_words : (frame : Frame) (line : FrameLine) (caller : Frame) → AreWords frame.regs.columns → IsCallingFrame sections memory frame line caller → AreWords caller.regs.columns
    caller_words frame line caller before calls =
        let next = calls.is_next in
        frame_words memory bytes frame.regs.columns before calls.fde line.look next.row (fde_bytes line calls.fde calls.found) next.is_row caller.regs.columns next.is_step

    module _ (frames : List Frame) (lines : List FrameLine) (are : AreFrames sections memory regs frames lines) where
      all_words : (i : ℕ) (frame : Frame) → slice_get frames i ≡ Some frame → AreWords frame.regs.columns
      all_words zero frame at = subst (λ (f : Frame). AreWords f.regs.columns) (same_Some (innermost regs) frame (sym are.first ∙ at)) words
      all_words (suc i) frame at =
          let within = slice_get_within frames (suc i) frame at in
          let long = AllZip-long Shows frames lines are.shown in
          let before = at_place frames i (omega (arith, within)) in
          let line = at_place lines i (omega (arith, within, long)) in
          let next : slice_get frames (i + 1) ≡ Some frame = subst (λ k. slice_get frames k ≡ Some frame) (sym (add-one i)) at in
          caller_words before.0 line.0 frame (all_words i before.0 before.1) (are.callers i before.0 frame line.0 before.1 next line.1)

      looked_up : (kind : AddressKind) (pc : ℕ) → pc < 2 ^ 64 → lookup_address kind pc < 2 ^ 64
      looked_up Instruction pc less = less
      looked_up Return pc less = mod_fits (pc + (2 ^ 64 - 1))

      shown_words : (frame : Frame) (line : FrameLine) → AreWords frame.regs.columns → Shows frame line → IsWordLine line
      shown_words frame line all shows =
          let pc : line.pc < 2 ^ 64 = subst (λ n. n < 2 ^ 64) (sym shows.pc) (all return_address_column) in
          record {
            pc = pc;
            sp = subst (λ n. n < 2 ^ 64) (sym shows.sp) (all stack_pointer_column);
            look = subst (λ n. n < 2 ^ 64) (sym shows.look) (looked_up frame.address line.pc pc);
          }

      line_words : All IsWordLine lines
      line_words i d within =
          let long = AllZip-long Shows frames lines are.shown in
          let frame = at_place frames i (omega (arith, within, long)) in
          let line = slice_get-get_or lines i d within in
          shown_words frame.0 (get_or lines i d) (all_words i frame.0 frame.1) (shown_at frames lines i frame.0 (get_or lines i d) are.shown frame.1 line)

      end_words : (count : ℕ) (frame : Frame) (line : FrameLine) (end : End) → AreWords frame.regs.columns → IsEnd sections memory count frame line end → IsWordEnd end
      end_words count frame line ends.NoObject before is = tt
      end_words count frame line ends.NoFde before is = tt
      end_words count frame line ends.NoRow before is = tt
      end_words count frame line ends.Undefined before is = tt
      end_words count frame line (ends.NoBytes a) before is =
          let next = is.is_next in
          lacked_fits memory bytes frame.regs.columns before is.fde line.look next.row (fde_bytes line is.fde is.found) next.is_row (record { address = a }) next.is_step
      end_words count frame line ends.Long before is = tt

    pub trace_words : (trace : TraceData) → Unfolds sections memory regs trace → HasWords trace
    trace_words trace unfolds =
        let are = unfolds.are_frames in
        let frames = unfolds.frames in
        let long = AllZip-long Shows frames trace.frames are.shown in
        let some = slice_get_within frames 0 (innermost regs) are.first in
        let last : length trace.frames - 1 + 1 ≡ length trace.frames = omega (arith, long, some) in
        let frame = at_place frames (length trace.frames - 1) (omega (arith, long, some)) in
        let line = at_place trace.frames (length trace.frames - 1) (omega (arith, long, some)) in
        record {
          frames = line_words frames trace.frames are;
          end = end_words frames trace.frames are (length trace.frames) frame.0 line.0 trace.end (all_words frames trace.frames are (length trace.frames - 1) frame.0 frame.1) (unfolds.ends (length trace.frames - 1) frame.0 line.0 last frame.1 line.1);
        }
