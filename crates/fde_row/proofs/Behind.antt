-- Bytes behind those that were lent change nothing: neither what the two records say, nor the rows.
use Rattle.std.proofs.Common.{◌≡◌, ℕ, ◌+◌, ◌-◌, ◌≤◌, List, [], ◌∷◌, ◌++◌, length, take, drop, map, Ok, refl, sym, ap, subst, ◌∙◌, append_assoc, arith, inl, inr}
use Rattle.std.proofs.lemmas.Bool.{cases_lt}
use Rattle.std.proofs.lemmas.List.{append-nil, take_at, drop_at, drop-append-le}
use Rattle.eh_bytes.specs.CursorData.{CursorData}
use Rattle.eh_bytes.proofs.Results.{bind_ok}
use Rattle.frame_parse.specs.Blocks.{block_in, HasExpression, HasRuleExpression, HasItsExpression, HaveExpressions}
use Rattle.frame_parse.specs.declared.instructions.ReadRuleWith.TheVariants as rules
use Rattle.frame_parse.specs.declared.instructions.InstructionWith.TheVariants.{Nop, Advance, Set, Restore, Remember, RestoreState, Cfa, CfaColumn, CfaOffset, CfaExpression}
use Rattle.frame_parse.specs.declared.records.CieRecord.{CieRecord}
use Rattle.frame_parse.specs.declared.records.Extent.{Extent}
use Rattle.frame_parse.specs.Entries.{FdeRecord, Record, Cie, Fde}
use Rattle.frame_parse.specs.Instructions.{PlacedInstruction, PlacedReadRule, PlacedStep, ReadRuleData, InstructionData, StepData, read_rule_told, instruction_told}
use Rattle.frame_parse.specs.Programs.{IsExtent, text_in, HasPrograms, HasPlacedSteps, initial_of, program_of}
use Rattle.frame_parse.specs.Records.{whole_record}
use Rattle.frame_parse.specs.Steps.{HasSteps, lent_step}
use Rattle.frame_parse.proofs.Blocks.{block_is, initial_has, own_has}
use Rattle.frame_parse.proofs.RecordWholes.{whole_record_exact}
use Rattle.frame_rows.specs.Columns.{HasInitial, HasProgram}
use Rattle.frame_rows.specs.RowAt.{IsRowAt}
use Rattle.frame_rows.specs.Rules.{RowData}
use Rattle.fde_row.specs.Reading.{from_place, as_cie, as_fde, cie_at, fde_by, lone_fde}
use Rattle.fde_row.specs.RowsOfFde.{fde_data, StaysTheSame}
use Rattle.fde_row.proofs.Standing.{cie_read, fde_read, short_from, kept_at, no_cies, one_kept}

-- ---- what the records say

as_cie-is : (at : ℕ) (r : Record) (c : CieRecord) → as_cie at r ≡ Ok c → r ≡ Cie c
as_cie-is at (Cie d) c e = ap (λ (k : CieRecord). Cie k) (let same : d ≡ c = cc in same)
as_cie-is at (Fde f) c e = absurd cc

as_fde-is : (at : ℕ) (r : Record) (f : FdeRecord) → as_fde at r ≡ Ok f → r ≡ Fde f
as_fde-is at (Cie d) f e = absurd cc
as_fde-is at (Fde g) f e = ap (λ (k : FdeRecord). Fde k) (let same : g ≡ f = cc in same)

-- a record was read at a place
abbrev IsRead : ℕ → List CieRecord → List ℕ → ℕ → Record → Type 0
IsRead section cs bytes at r = (behind : CursorData) × ((whole_record section cs).read (from_place bytes at) ≡ Ok (r, behind))

read_cie : (section : ℕ) (bytes : List ℕ) (at : ℕ) (c : CieRecord) → cie_at section bytes at ≡ Ok c → IsRead section [] bytes at (Cie c)
unfolding cie_at
read_cie section bytes at c e =
    let b = bind_ok ((whole_record section []).read (from_place bytes at)) (λ x. as_cie at x.0) c e in
    (b.0.1, b.1 ∙ ap (λ (r : Record). Ok (r, b.0.1)) (as_cie-is at b.0.0 c b.2))

read_fde : (section : ℕ) (bytes : List ℕ) (c : CieRecord) (at : ℕ) (f : FdeRecord) → fde_by section bytes c at ≡ Ok f → IsRead section (c ∷ []) bytes at (Fde f)
unfolding fde_by
read_fde section bytes c at f e =
    let b = bind_ok ((whole_record section (c ∷ [])).read (from_place bytes at)) (λ x. as_fde at x.0) f e in
    (b.0.1, b.1 ∙ ap (λ (r : Record). Ok (r, b.0.1)) (as_fde-is at b.0.0 f b.2))

-- where one is read there are bytes
within : (section : ℕ) (cs : List CieRecord) (bytes : List ℕ) (at : ℕ) (r : Record) → IsRead section cs bytes at r → at ≤ length bytes
within section cs bytes at r is =
    elim (cases_lt (length bytes) at) [
      | inl lt ↦ absurd (let short = sym (short_from section cs bytes at lt) ∙ is.1 in cc)
      | inr le ↦ le
    ]

read_more : (section : ℕ) (cs : List CieRecord) (bytes more : List ℕ) (at : ℕ) (r : Record) → IsRead section cs bytes at r → IsRead section cs (bytes ++ more) at r
read_more section cs bytes more at r is =
    let behind = is.0 in
    let t = (whole_record_exact section cs).takes (from_place bytes at) r behind is.1 in
    let left : drop at (bytes ++ more) ≡ t.front ++ (behind.bytes ++ more) =
    drop-append-le at bytes more (within section cs bytes at r is) ∙ ap (λ (l : List ℕ). l ++ more) t.parts ∙ append_assoc t.front behind.bytes more in (
      record { bytes = behind.bytes ++ more; at = at + length t.front },
      ap (λ (l : List ℕ). (whole_record section cs).read (record { bytes = l; at = at })) left ∙ (whole_record_exact section cs).again at t.front (behind.bytes ++ more) r t.spells,
    )

-- the CIE, and the FDE by it
record BothRead (section : ℕ) (bytes : List ℕ) (cie fde : ℕ) (f : FdeRecord) : Type 0 where
  c : CieRecord
  first : IsRead section [] bytes cie (Cie c)
  second : IsRead section (c ∷ []) bytes fde (Fde f)

both_read : (section : ℕ) (bytes : List ℕ) (cie fde : ℕ) (f : FdeRecord) → lone_fde section bytes cie fde ≡ Ok f → BothRead section bytes cie fde f
unfolding lone_fde
both_read section bytes cie fde f e =
    let b = bind_ok (cie_at section bytes cie) (λ c. fde_by section bytes c fde) f e in
    record { c = b.0; first = read_cie section bytes cie b.0 b.1; second = read_fde section bytes b.0 fde f b.2 }

read_both : (section : ℕ) (bytes : List ℕ) (cie fde : ℕ) (f : FdeRecord) → BothRead section bytes cie fde f → lone_fde section bytes cie fde ≡ Ok f
unfolding lone_fde
read_both section bytes cie fde f b = rw (cie_read section bytes cie b.c b.first.0 b.first.1) (fde_read section bytes b.c fde f b.second.0 b.second.1)

both_more : (section : ℕ) (bytes more : List ℕ) (cie fde : ℕ) (f : FdeRecord) → BothRead section bytes cie fde f → BothRead section (bytes ++ more) cie fde f
both_more section bytes more cie fde f b = record { c = b.c; first = read_more section [] bytes more cie (Cie b.c) b.first; second = read_more section (b.c ∷ []) bytes more fde (Fde f) b.second }

has_programs : (section : ℕ) (bytes : List ℕ) (cie fde : ℕ) (f : FdeRecord) → BothRead section bytes cie fde f → HasPrograms section bytes f
has_programs section bytes cie fde f b =
    let kept = kept_at section [] bytes cie (Cie b.c) b.first.0 (within section [] bytes cie (Cie b.c) b.first) (no_cies section bytes) b.first.1 in
    (kept_at section (b.c ∷ []) bytes fde (Fde f) b.second.0 (within section (b.c ∷ []) bytes fde (Fde f) b.second) (one_kept section bytes b.c kept) b.second.1).0

-- ---- the steps of programs

text_more : (bytes more : List ℕ) (e : Extent) (text : List ℕ) → IsExtent bytes e text → text_in (bytes ++ more) e ≡ text
text_more bytes more e text is =
    let size : e.end - e.at ≡ length text = omega (arith, is.4) in
    let whole : bytes ++ more ≡ is.0 ++ (text ++ (is.1 ++ more)) = ap (λ (l : List ℕ). l ++ more) is.2 ∙ append_assoc is.0 (text ++ is.1) more ∙ ap (λ (l : List ℕ). is.0 ++ l) (append_assoc text is.1 more) in
    let dropped : drop e.at (bytes ++ more) ≡ text ++ (is.1 ++ more) = ap (drop e.at) whole ∙ drop_at is.0 (text ++ (is.1 ++ more)) e.at (sym is.3) in
    ap (take (e.end - e.at)) dropped ∙ take_at text (is.1 ++ more) (e.end - e.at) (sym size)

same_text : (bytes more : List ℕ) (e : Extent) (text : List ℕ) → IsExtent bytes e text → text_in (bytes ++ more) e ≡ text_in bytes e
same_text bytes more e text is = text_more bytes more e text is ∙ sym (text_more bytes [] e text is) ∙ ap (λ (l : List ℕ). text_in l e) (append-nil bytes)

same_block : (bytes more : List ℕ) (depth place : ℕ) → HasExpression depth bytes place → block_in (bytes ++ more) place ≡ block_in bytes place
same_block bytes more depth place has =
    let parts : bytes ++ more ≡ has.before ++ (has.size ++ (has.text ++ (has.after ++ more))) =
    ap (λ (l : List ℕ). l ++ more) has.parts ∙ append_assoc has.before (has.size ++ (has.text ++ has.after)) more
    ∙ ap (λ (l : List ℕ). has.before ++ l) (append_assoc has.size (has.text ++ has.after) more ∙ ap (λ (l : List ℕ). has.size ++ l) (append_assoc has.text has.after more)) in
    let there : HasExpression depth (bytes ++ more) place = record { before = has.before; size = has.size; text = has.text; after = has.after ++ more; parts = parts; begins = has.begins; sized = has.sized; spelled = has.spelled } in
    block_is depth (bytes ++ more) place there ∙ sym (block_is depth bytes place has)

same_rule : (bytes more : List ℕ) (rule : PlacedReadRule) → HasRuleExpression bytes rule → read_rule_told (block_in (bytes ++ more)) rule ≡ read_rule_told (block_in bytes) rule
same_rule bytes more rules.Undefined has = refl
same_rule bytes more rules.Same has = refl
same_rule bytes more (rules.Offset n) has = refl
same_rule bytes more (rules.ValOffset n) has = refl
same_rule bytes more (rules.Register q) has = refl
same_rule bytes more (rules.Expression e) has = ap (λ (k : List ℕ). rules.Expression k) (same_block bytes more 1 e has)
same_rule bytes more (rules.ValExpression e) has = ap (λ (k : List ℕ). rules.ValExpression k) (same_block bytes more 1 e has)

same_instruction : (bytes more : List ℕ) (i : PlacedInstruction) → HasItsExpression bytes i → instruction_told (block_in (bytes ++ more)) (block_in (bytes ++ more)) i ≡ instruction_told (block_in bytes) (block_in bytes) i
same_instruction bytes more Nop has = refl
same_instruction bytes more Advance has = refl
same_instruction bytes more (Set r rule) has = ap (λ (k : ReadRuleData). Set r k) (same_rule bytes more rule has)
same_instruction bytes more (Restore r) has = refl
same_instruction bytes more Remember has = refl
same_instruction bytes more RestoreState has = refl
same_instruction bytes more (Cfa r n) has = refl
same_instruction bytes more (CfaColumn r) has = refl
same_instruction bytes more (CfaOffset n) has = refl
same_instruction bytes more (CfaExpression e) has = ap (λ (k : List ℕ). CfaExpression k) (same_block bytes more 0 e has)

same_steps : (bytes more : List ℕ) (steps : List PlacedStep) → HaveExpressions bytes steps → map (lent_step (bytes ++ more)) steps ≡ map (lent_step bytes) steps
same_steps bytes more [] has = refl
same_steps bytes more (x ∷ xs) has =
    let one : lent_step (bytes ++ more) x ≡ lent_step bytes x = ap (λ (i : InstructionData). record { location = x.location; instruction = i }) (same_instruction bytes more x.instruction has.0) in
    ap (λ (s : StepData). s ∷ map (lent_step (bytes ++ more)) xs) one ∙ ap (λ (l : List StepData). lent_step bytes x ∷ l) (same_steps bytes more xs has.1)

-- ---- the rows

record BothWays (A B : Type 0) : Type 0 where
  there : A → B
  back : B → A

initial_both : (section : ℕ) (bytes more : List ℕ) (f : FdeRecord) (steps : List StepData) → HasPrograms section bytes f → BothWays (HasInitial (fde_data section bytes f) steps) (HasInitial (fde_data section (bytes ++ more) f) steps)
unfolding HasSteps
initial_both section bytes more f steps kept =
    let same = same_text bytes more f.cie.initial kept.initial_text kept.initial_inside in record {
      there = λ s.
          (s.0, subst (λ (l : List ℕ). HasPlacedSteps (initial_of section f l) s.0) (sym same) s.1, s.2 ∙ sym (same_steps bytes more s.0 (initial_has (fde_data section bytes f) s.0 kept s.1)));
      back = λ s.
          let placed = subst (λ (l : List ℕ). HasPlacedSteps (initial_of section f l) s.0) same s.1 in
          (s.0, placed, s.2 ∙ same_steps bytes more s.0 (initial_has (fde_data section bytes f) s.0 kept placed));
    }

own_both : (section : ℕ) (bytes more : List ℕ) (f : FdeRecord) (steps : List StepData) → HasPrograms section bytes f → BothWays (HasProgram (fde_data section bytes f) steps) (HasProgram (fde_data section (bytes ++ more) f) steps)
unfolding HasSteps
own_both section bytes more f steps kept =
    let same = same_text bytes more f.program kept.text kept.inside in record {
      there = λ s.
          (s.0, subst (λ (l : List ℕ). HasPlacedSteps (program_of section f l) s.0) (sym same) s.1, s.2 ∙ sym (same_steps bytes more s.0 (own_has (fde_data section bytes f) s.0 kept s.1)));
      back = λ s.
          let placed = subst (λ (l : List ℕ). HasPlacedSteps (program_of section f l) s.0) same s.1 in
          (s.0, placed, s.2 ∙ same_steps bytes more s.0 (own_has (fde_data section bytes f) s.0 kept placed));
    }

row_more : (section : ℕ) (bytes more : List ℕ) (f : FdeRecord) (pc : ℕ) (row : RowData) → HasPrograms section bytes f → IsRowAt (fde_data section bytes f) pc row → IsRowAt (fde_data section (bytes ++ more) f) pc row
row_more section bytes more f pc row kept is =
    let initials = λ (s : List StepData). initial_both section bytes more f s kept in
    let owns = λ (s : List StepData). own_both section bytes more f s kept in
    let k = is.known in record {
      known = (k.0, k.1, (initials k.0).there k.2, (owns k.1).there k.3);
      cfa = λ initial steps hi hp. is.cfa initial steps ((initials initial).back hi) ((owns steps).back hp);
      columns = λ initial steps hi hp r lt. is.columns initial steps ((initials initial).back hi) ((owns steps).back hp) r lt;
    }

pub stays_the_same : (section : ℕ) (bytes more : List ℕ) (cie fde : ℕ) (f : FdeRecord) → lone_fde section bytes cie fde ≡ Ok f → StaysTheSame section bytes (bytes ++ more) cie fde f
stays_the_same section bytes more cie fde f e =
    let both = both_read section bytes cie fde f e in record {
      read = read_both section (bytes ++ more) cie fde f (both_more section bytes more cie fde f both);
      rows = λ pc row is. row_more section bytes more f pc row (has_programs section bytes cie fde f both) is;
    }
