use Rattle.std.proofs.Common.{◌+◌, List, ◌++◌, get_or, take, ap, sym, subst, ◌∙◌}
use Rattle.std.specs.List.{AllZip}
use Rattle.script_text.specs.Fields.{pieces}
use Rattle.script_text.specs.declared.script.Event.TheVariants as event
use Rattle.script_text.specs.declared.journal.Answer.{Answer}
use Rattle.journal_reader.specs.Told.{IsToldAnswer}
use Rattle.journal_reader.specs.JournalLines.{event_lines, numbered_lines}
use Rattle.journal_reader.proofs.Loops.{get_same, loop_stuck, loop_more}
use Rattle.journal_reader.proofs.Events.{unique_answer, some_answer}
use Rattle.journal_reader.proofs.reader.JournalReader.read_thread.Goals as goal

pub returns-in-None-clause-lines : goal.returns-in-None-clause-lines
returns-in-None-clause-lines c =
    let images = c.args.self.now.images.now in
    let events = c.args.events.now in
    let i = c.loop-index.index in
    let asked = get_or events i (event.Register 0) in
    let stuck = rw (c.loop-index.invariant.images, c.in-None.is) at c.in_ok-read_answer.ensures.lines in
    loop_stuck (IsToldAnswer images) (event_lines c.args.round c.args.thread) (λ asked n. unique_answer images c.requires.few c.args.round c.args.thread n asked) (some_answer images c.requires.few)
    events i asked c.loop-index-test.true (get_same events i (event.Register 0) asked c.loop-index-test.true)
    c.loop-index.answers.items (pieces 10 c.args.self.now.rest.now) (pieces 10 c.loop-index.self.rest.now) (pieces 10 c.read_answer.new.self.rest.now) c.loop-index.invariant.told c.loop-index.invariant.cut stuck

pub loop-index-preserved : goal.loop-index-preserved
loop-index-preserved c =
    let images = c.args.self.now.images.now in
    let events = c.args.events.now in
    let i = c.loop-index.index in
    let asked = get_or events i (event.Register 0) in
    let read = rw (c.loop-index.invariant.images, c.in-Some.is) at c.in_ok-read_answer.ensures.lines in
    let more = loop_more (IsToldAnswer images) (event_lines c.args.round c.args.thread) (λ asked n. unique_answer images c.requires.few c.args.round c.args.thread n asked) (some_answer images c.requires.few)
    events i asked c.loop-index-test.true (get_same events i (event.Register 0) asked c.loop-index-test.true)
    c.loop-index.answers.items c.in-Some.answer (pieces 10 c.args.self.now.rest.now) (pieces 10 c.loop-index.self.rest.now) (pieces 10 c.read_answer.new.self.rest.now) c.loop-index.invariant.told c.loop-index.invariant.cut read.0 read.1 in
    let added = sym c.in_ok-add-in-Some.ensures in
    record {
      images = c.read_answer.ensures.images ∙ c.loop-index.invariant.images;
      told = subst (AllZip (IsToldAnswer images) (take (i + 1) events)) added more.0;
      cut = more.1 ∙ ap (λ (x : List Answer). numbered_lines (event_lines c.args.round c.args.thread) 1 x ++ pieces 10 c.read_answer.new.self.rest.now) added;
    }
