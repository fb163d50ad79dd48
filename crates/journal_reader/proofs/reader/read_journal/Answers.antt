use Rattle.std.proofs.Common.{◌^◌, ◌<◌, length, subst, arith}
use Rattle.script_text.specs.ScriptData.{ScriptData}
use Rattle.journal_reader.proofs.Flaws.{left_fewer, flaw_of, whole_tells}
use Rattle.journal_reader.proofs.ToldAnswers.{told_prints}
use Rattle.journal_reader.proofs.reader.read_journal.Goals as goal

pub line_number-line-requires : goal.line_number-line-requires
line_number-line-requires c = left_fewer c.args.script.now c.args.text.now c.read_whole.new.self.rest.now (rw c.in-None.is at c.in_ok-journal.ensures)

pub returns-in-Some-clause-told : goal.returns-in-Some-clause-told
returns-in-Some-clause-told c =
    let few : length c.args.script.now.images < 2 ^ 32 = subst (λ (s : ScriptData). length s.images < 2 ^ 32) c.script.view_is (let bound = c.script.invariant.images in omega (arith, bound)) in
    let read = rw c.in-Some.is at c.in_ok-journal.ensures in
    whole_tells c.args.script.now few c.args.text.now c.in-Some.journal read.0 read.1

pub returns-in-Some-clause-printable : goal.returns-in-Some-clause-printable
returns-in-Some-clause-printable c =
    let few : length c.args.script.now.images < 2 ^ 32 = subst (λ (s : ScriptData). length s.images < 2 ^ 32) c.script.view_is (let bound = c.script.invariant.images in omega (arith, bound)) in
    let read = rw c.in-Some.is at c.in_ok-journal.ensures in
    told_prints c.args.script.now c.in-Some.journal (whole_tells c.args.script.now few c.args.text.now c.in-Some.journal read.0 read.1).told

pub returns-in-None-clause-bad : goal.returns-in-None-clause-bad
returns-in-None-clause-bad c =
    let few : length c.args.script.now.images < 2 ^ 32 = subst (λ (s : ScriptData). length s.images < 2 ^ 32) c.script.view_is (let bound = c.script.invariant.images in omega (arith, bound)) in
    flaw_of c.args.script.now few c.args.text.now c.read_whole.new.self.rest.now c.line_number-line.result (rw c.in-None.is at c.in_ok-journal.ensures) c.line_number-line.ensures
