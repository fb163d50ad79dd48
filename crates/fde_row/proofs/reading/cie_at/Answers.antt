use Rattle.std.proofs.Common.{rules, [], sym}
use Rattle.frame_parse.specs.Entries.{Cie, fde_among}
use Rattle.fde_row.proofs.Standing.{read_from, cie_read, cie_is_fde, cie_refused, cie_short, kept_at, no_cies}
use Rattle.fde_row.proofs.reading.cie_at.Goals as goal

pub returns-then-bytes-at-clause-read : goal.returns-then-bytes-at-clause-read
returns-then-bytes-at-clause-read c = sym (cie_short c.args.section c.args.bytes.now c.args.at c.if-bytes-at.true)

pub new-cursor-requires-clause-ordered : goal.new-cursor-requires-clause-ordered
new-cursor-requires-clause-ordered c = c.if-bytes-at.false

pub new-cursor-requires-clause-within : goal.new-cursor-requires-clause-within
new-cursor-requires-clause-within c = search rules

pub whole_record-requires : goal.whole_record-requires
whole_record-requires c = search rules

pub returns-in-Ok-Cie-clause-read : goal.returns-in-Ok-Cie-clause-read
returns-in-Ok-Cie-clause-read c =
    let read = rw c.in-Ok-Cie.field-0-is at c.in-Ok-Cie.ensures.read in
    let here = read_from c.args.section [] c.args.bytes.now c.args.at c.new-cursor.result _ c.new-cursor.ensures.bytes c.new-cursor.ensures.place read in
    sym (cie_read c.args.section c.args.bytes.now c.args.at c.in-Ok-Cie.cie c.whole_record.new.cursor here)

pub returns-in-Ok-Cie-clause-kept : goal.returns-in-Ok-Cie-clause-kept
returns-in-Ok-Cie-clause-kept c =
    let read = rw c.in-Ok-Cie.field-0-is at c.in-Ok-Cie.ensures.read in
    let here = read_from c.args.section [] c.args.bytes.now c.args.at c.new-cursor.result _ c.new-cursor.ensures.bytes c.new-cursor.ensures.place read in
    kept_at c.args.section [] c.args.bytes.now c.args.at (Cie c.in-Ok-Cie.cie) c.whole_record.new.cursor c.if-bytes-at.false (no_cies c.args.section c.args.bytes.now) here

pub returns-in-Ok-Fde-clause-read : goal.returns-in-Ok-Fde-clause-read
returns-in-Ok-Fde-clause-read c =
    let read = rw c.in-Ok-Fde.field-0-is at c.in-Ok-Fde.ensures.read in
    let here = read_from c.args.section [] c.args.bytes.now c.args.at c.new-cursor.result _ c.new-cursor.ensures.bytes c.new-cursor.ensures.place read in
    sym (cie_is_fde c.args.section c.args.bytes.now c.args.at (fde_among [] c.in-Ok-Fde.field-0-0) c.whole_record.new.cursor here)

pub returns-in-Err-clause-read : goal.returns-in-Err-clause-read
returns-in-Err-clause-read c =
    let here = read_from c.args.section [] c.args.bytes.now c.args.at c.new-cursor.result _ c.new-cursor.ensures.bytes c.new-cursor.ensures.place c.in-Err.ensures.read in
    sym (cie_refused c.args.section c.args.bytes.now c.args.at c.in-Err.fault here)
