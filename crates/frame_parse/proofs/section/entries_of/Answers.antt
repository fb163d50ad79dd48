use Rattle.std.proofs.Common.{◌≡◌, true, false, sym, ap, ◌∙◌, inr}
use Rattle.std.proofs.lemmas.Result.{err_from_is_err_and}
use Rattle.frame_parse.specs.Sections.{is_end}
use Rattle.frame_parse.proofs.SoFar.{next_cie, next_fde, all_read, none_further}
use Rattle.frame_parse.proofs.section.entries_of.Goals as goal

pub loop-cursor-preserved-in-Continue-branch-4 : goal.loop-cursor-preserved-in-Continue-branch-4
loop-cursor-preserved-in-Continue-branch-4 c =
    let was = c.loop-cursor in
    let read = rw (c.deref.ensures.value, c.in-Cie.is) at c.in_ok-cie.ensures.read in
    let start = rw c.in-Cie.is at c.in_ok-cie.ensures.start in
    rw c.in_ok-push-in-Cie.ensures.items
    (next_cie c.args.section c.args.bytes.now was.cursor was.cies.items was.fdes.items c.in-Cie.cie c.whole_record.new.cursor was.invariant read start)

pub loop-cursor-preserved : goal.loop-cursor-preserved
loop-cursor-preserved c =
    let was = c.loop-cursor in
    let read = rw (c.deref.ensures.value, c.in-Fde.is) at c.in_ok-cie.ensures.read in
    let has = rw (c.deref.ensures.value, c.in-Fde.is) at c.in_ok-cie.ensures.cie in
    rw c.in_ok-push-in-Fde.ensures.items
    (next_fde c.args.section c.args.bytes.now was.cursor was.cies.items was.fdes.items c.in-Fde.fde c.whole_record.new.cursor was.invariant read has)

pub returns-in_err-cie-clause-refused : goal.returns-in_err-cie-clause-refused
returns-in_err-cie-clause-refused c =
    let was = c.loop-cursor in
    let read = rw c.deref.ensures.value at c.in_err-cie.ensures.read in
    let on : is_end was.cursor.bytes ≡ false = ap is_end (sym c.rest.ensures) ∙ sym c.loop-cursor-test.ensures in
    let refused = none_further c.args.section c.args.bytes.now was.cursor was.cies.items was.fdes.items c.in_err-cie.field-0.0 was.invariant on read in
    let p = err_from_is_err_and c.from_residual-in_err-cie.result c.from_residual-in_err-cie.ensures.1 in
    rw (p.1, p.2) (inr refused)

pub returns-clause-found : goal.returns-clause-found
returns-clause-found c =
    let was = c.loop-cursor in
    let done : is_end was.cursor.bytes ≡ true = ap is_end (sym c.rest.ensures) ∙ sym c.loop-cursor-test.ensures in
    all_read c.args.section c.args.bytes.now was.cursor was.cies.items was.fdes.items was.invariant done

pub returns-clause-cies : goal.returns-clause-cies
returns-clause-cies c = c.loop-cursor.invariant.within
