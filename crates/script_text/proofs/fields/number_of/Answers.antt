use Rattle.std.proofs.Common.{◌≡◌, ℕ, ◌<◌, List, length, get_or, subst, inl, inr, Some, ap, sym, ◌∙◌, take_all, arith}
use Rattle.std.specs.Str.Parse.{digits_value}
use Rattle.std.specs.List.{AllByRecursion}
use Rattle.std.proofs.lemmas.Bool.{eqb-true, eqb-false, cases_eq}
use Rattle.script_text.proofs.Numbers.{IsGlyph, all_at, number_none, number_found, digits_more, digits_fit}
use Rattle.script_text.proofs.DigitTable.{glyph_below, glyph_of}
use Rattle.script_text.proofs.fields.number_of.Goals as goal
use Rattle.script_text.proofs.fields.number_of.Goals.{then-is_empty-via-then-is_empty, then-is_empty-via-else-is_empty+then-field-most, else-field-gt1-via-then-field-gt1+else-field-eq48, else-field-gt1-via-else-field-gt1}

pub returns-then-is_empty : goal.returns-then-is_empty
returns-then-is_empty c = sym (number_none c.args.base c.args.most c.args.field.now (omega arith) (omega arith) (omega arith) (omega arith)
    (λ number. elim c.then-is_empty.branch [
      | then-is_empty-via-then-is_empty w ↦ omega (arith, number.some, eqb-true _ _ (sym w.if-is_empty.ensures))
      | then-is_empty-via-else-is_empty+then-field-most w ↦ omega (arith, number.short)
    ]))

pub returns-then-field-eq48 : goal.returns-then-field-eq48
returns-then-field-eq48 c = sym (number_none c.args.base c.args.most c.args.field.now (omega arith) (omega arith) (omega arith) (omega arith)
    (λ number. omega (arith, number.lead c.if-field-eq48.true)))

pub returns-then-digit-base : goal.returns-then-digit-base
returns-then-digit-base c = sym (number_none c.args.base c.args.most c.args.field.now (omega arith) (omega arith) (omega arith) (omega arith)
    (λ number. let g = all_at (IsGlyph c.args.base) c.args.field.now c.loop-byte.byte-index number.each c.loop-byte-test.true in
    omega (arith, glyph_below c.args.base _ (omega arith) g, c.digit_of-digit.ensures, c.if-digit-base.true)))

pub overflow_mul-number : goal.overflow_mul-number
overflow_mul-number c = let i = c.loop-byte.invariant in
    omega (arith, digits_fit c.args.base c.args.most c.loop-byte.number c.digit_of-digit.result c.loop-byte.byte-index c.args.field.now (omega arith) (omega arith) (omega arith) (omega arith) i.each i.value c.loop-byte-test.true (omega arith) (glyph_of (get_or c.args.field.now c.loop-byte.byte-index 0) c.digit_of-digit.result (omega (arith, c.type_inv.field c.loop-byte.byte-index)) c.digit_of-digit.ensures (omega arith)))

pub overflow_add-number : goal.overflow_add-number
overflow_add-number c = let i = c.loop-byte.invariant in
    omega (arith, digits_fit c.args.base c.args.most c.loop-byte.number c.digit_of-digit.result c.loop-byte.byte-index c.args.field.now (omega arith) (omega arith) (omega arith) (omega arith) i.each i.value c.loop-byte-test.true (omega arith) (glyph_of (get_or c.args.field.now c.loop-byte.byte-index 0) c.digit_of-digit.result (omega (arith, c.type_inv.field c.loop-byte.byte-index)) c.digit_of-digit.ensures (omega arith)))

pub loop-byte-preserved : goal.loop-byte-preserved
loop-byte-preserved c = let i = c.loop-byte.invariant in
    let more = digits_more c.args.base c.loop-byte.number c.digit_of-digit.result c.loop-byte.byte-index c.args.field.now (omega arith) i.each i.value c.loop-byte-test.true (omega arith) (glyph_of (get_or c.args.field.now c.loop-byte.byte-index 0) c.digit_of-digit.result (omega (arith, c.type_inv.field c.loop-byte.byte-index)) c.digit_of-digit.ensures (omega arith)) in
    record { each = more.0; value = more.1 }

pub returns : goal.returns
returns c =
    let i = c.loop-byte.invariant in
    let field = c.args.field.now in
    let whole = take_all c.loop-byte.byte-index field (omega arith) in
    let some : 0 < length field = elim (cases_eq (length field) 0) [ inl none ↦ absurd (eqb-false (length field) 0 (sym c.if-is_empty.ensures) none) | inr more ↦ omega arith ] in
    let lead : get_or field 0 0 ≡ 48 → length field ≡ 1 = λ e. elim c.else-field-gt1.branch [
      | else-field-gt1-via-then-field-gt1+else-field-eq48 w ↦ absurd (w.if-field-eq48.false e)
      | else-field-gt1-via-else-field-gt1 w ↦ omega arith
    ] in
    ap Some i.value ∙ ap (λ (x : List ℕ). Some (digits_value c.args.base x)) whole
    ∙ sym (number_found c.args.base c.args.most field (omega arith) (omega arith) (omega arith)
    (record { each = subst (AllByRecursion (IsGlyph c.args.base)) whole i.each; some = some; short = omega arith; lead = lead }))
