use Rattle.std.proofs.Common.{rules, ◌∙◌, [], ◌∷◌, Ok, ap, subst}
use Rattle.frame_parse.specs.Entries.{FdeRecord, Fde, fde_among}
use Rattle.frame_parse.specs.Keeping.{EndsLow}
use Rattle.frame_parse.specs.Programs.{HasPrograms}
use Rattle.fde_row.proofs.Standing.{read_from, fde_read, fde_is_cie, fde_refused, fde_short, one_cie, kept_at, one_kept}
use Rattle.fde_row.proofs.reading.fde_by.Goals as goal

pub returns-then-bytes-at-clause-refused : goal.returns-then-bytes-at-clause-refused
returns-then-bytes-at-clause-refused c = fde_short c.args.section c.args.bytes.now c.args.cie.now c.args.at c.if-bytes-at.true

pub new-cursor-requires-clause-ordered : goal.new-cursor-requires-clause-ordered
new-cursor-requires-clause-ordered c = c.if-bytes-at.false

pub new-cursor-requires-clause-within : goal.new-cursor-requires-clause-within
new-cursor-requires-clause-within c = search rules

pub slice_bounds-whole_record-end : goal.slice_bounds-whole_record-end
slice_bounds-whole_record-end c = search rules

pub whole_record-requires : goal.whole_record-requires
whole_record-requires c = search rules

pub returns-in-Ok-Fde-clause-found : goal.returns-in-Ok-Fde-clause-found
returns-in-Ok-Fde-clause-found c =
    let read = rw c.in-Ok-Fde.field-0-is at c.in-Ok-Fde.ensures.read in
    let has = rw c.in-Ok-Fde.field-0-is at c.in-Ok-Fde.ensures.cie in
    let one = one_cie c.args.cie.now c.in-Ok-Fde.fde has in
    let here = read_from c.args.section (c.args.cie.now ∷ []) c.args.bytes.now c.args.at c.new-cursor.result _ c.new-cursor.ensures.bytes c.new-cursor.ensures.place read in
    fde_read c.args.section c.args.bytes.now c.args.cie.now c.args.at (fde_among (c.args.cie.now ∷ []) c.in-Ok-Fde.fde) c.whole_record.new.cursor here ∙ ap (λ (f : FdeRecord). Ok f) one

pub returns-in-Ok-Fde-clause-programs : goal.returns-in-Ok-Fde-clause-programs
returns-in-Ok-Fde-clause-programs c =
    let read = rw c.in-Ok-Fde.field-0-is at c.in-Ok-Fde.ensures.read in
    let has = rw c.in-Ok-Fde.field-0-is at c.in-Ok-Fde.ensures.cie in
    let one = one_cie c.args.cie.now c.in-Ok-Fde.fde has in
    let here = read_from c.args.section (c.args.cie.now ∷ []) c.args.bytes.now c.args.at c.new-cursor.result _ c.new-cursor.ensures.bytes c.new-cursor.ensures.place read in
    let kept = kept_at c.args.section (c.args.cie.now ∷ []) c.args.bytes.now c.args.at (Fde (fde_among (c.args.cie.now ∷ []) c.in-Ok-Fde.fde)) c.whole_record.new.cursor c.if-bytes-at.false (one_kept c.args.section c.args.bytes.now c.args.cie.now c.requires) here in
    subst (λ (f : FdeRecord). HasPrograms c.args.section c.args.bytes.now f) one kept.0

pub returns-in-Ok-Fde-clause-ends : goal.returns-in-Ok-Fde-clause-ends
returns-in-Ok-Fde-clause-ends c =
    let read = rw c.in-Ok-Fde.field-0-is at c.in-Ok-Fde.ensures.read in
    let has = rw c.in-Ok-Fde.field-0-is at c.in-Ok-Fde.ensures.cie in
    let one = one_cie c.args.cie.now c.in-Ok-Fde.fde has in
    let here = read_from c.args.section (c.args.cie.now ∷ []) c.args.bytes.now c.args.at c.new-cursor.result _ c.new-cursor.ensures.bytes c.new-cursor.ensures.place read in
    let kept = kept_at c.args.section (c.args.cie.now ∷ []) c.args.bytes.now c.args.at (Fde (fde_among (c.args.cie.now ∷ []) c.in-Ok-Fde.fde)) c.whole_record.new.cursor c.if-bytes-at.false (one_kept c.args.section c.args.bytes.now c.args.cie.now c.requires) here in
    subst (λ (f : FdeRecord). EndsLow f) one kept.1

pub returns-in-Ok-Cie-clause-refused : goal.returns-in-Ok-Cie-clause-refused
returns-in-Ok-Cie-clause-refused c =
    let read = rw c.in-Ok-Cie.field-0-is at c.in-Ok-Cie.ensures.read in
    let here = read_from c.args.section (c.args.cie.now ∷ []) c.args.bytes.now c.args.at c.new-cursor.result _ c.new-cursor.ensures.bytes c.new-cursor.ensures.place read in
    fde_is_cie c.args.section c.args.bytes.now c.args.cie.now c.args.at _ c.whole_record.new.cursor here

pub returns-in-Err-clause-refused : goal.returns-in-Err-clause-refused
returns-in-Err-clause-refused c =
    let here = read_from c.args.section (c.args.cie.now ∷ []) c.args.bytes.now c.args.at c.new-cursor.result _ c.new-cursor.ensures.bytes c.new-cursor.ensures.place c.in-Err.ensures.read in
    fde_refused c.args.section c.args.bytes.now c.args.cie.now c.args.at c.in-Err.fault here
