use Rattle.std.proofs.Common.{◌+◌, List, ◌++◌, take, map, ap, sym, subst, ◌∙◌}
use Rattle.std.specs.List.{AllZip}
use Rattle.script_text.specs.Fields.{pieces}
use Rattle.script_text.specs.declared.journal.Answer.{Answer}
use Rattle.journal_reader.specs.JournalLines.{thread_lines, numbered_lines}
use Rattle.script_text.proofs.StatementLists.{map_push}
use Rattle.journal_reader.proofs.Loops.{loop_stuck, loop_more}
use Rattle.journal_reader.proofs.Journals.{ToldThread, thread_unique, some_thread}
use Rattle.journal_reader.proofs.reader.JournalReader.read_round.Goals as goal

pub returns-in-None-clause-lines : goal.returns-in-None-clause-lines
returns-in-None-clause-lines c =
    let images = c.args.self.now.images.now in
    let events = c.deref.ensures.value ∙ c.thread.view_is in
    let stuck = rw (c.loop-index.invariant.images, events, c.in-None.is) at c.in_ok-read_thread.ensures.lines in
    loop_stuck (ToldThread images c.requires.few) (thread_lines c.args.round) (thread_unique images c.requires.few c.args.round) (some_thread images c.requires.few)
    c.args.threads.now c.loop-index.index c.index-threads-index.result c.loop-index-test.true c.index-threads-index.is
    (map (λ answers. answers.items) c.loop-index.answers.items) (pieces 10 c.args.self.now.rest.now) (pieces 10 c.loop-index.self.rest.now) (pieces 10 c.read_thread.new.self.rest.now) c.loop-index.invariant.told c.loop-index.invariant.cut stuck

pub loop-index-preserved : goal.loop-index-preserved
loop-index-preserved c =
    let images = c.args.self.now.images.now in
    let events = c.deref.ensures.value ∙ c.thread.view_is in
    let read = rw (c.loop-index.invariant.images, events, c.in-Some.is) at c.in_ok-read_thread.ensures.lines in
    let more = loop_more (ToldThread images c.requires.few) (thread_lines c.args.round) (thread_unique images c.requires.few c.args.round) (some_thread images c.requires.few)
    c.args.threads.now c.loop-index.index c.index-threads-index.result c.loop-index-test.true c.index-threads-index.is
    (map (λ answers. answers.items) c.loop-index.answers.items) c.in-Some.told.items (pieces 10 c.args.self.now.rest.now) (pieces 10 c.loop-index.self.rest.now) (pieces 10 c.read_thread.new.self.rest.now) c.loop-index.invariant.told c.loop-index.invariant.cut read.0 read.1 in
    let added = sym (ap (map (λ answers. answers.items)) c.in_ok-add-in-Some.ensures ∙ map_push (λ answers. answers.items) c.loop-index.answers.items c.in-Some.told) in
    record {
      images = c.read_thread.ensures.images ∙ c.loop-index.invariant.images;
      told = subst (AllZip (ToldThread images c.requires.few) (take (c.loop-index.index + 1) c.args.threads.now)) added more.0;
      cut = more.1 ∙ ap (λ (x : List (List Answer)). numbered_lines (thread_lines c.args.round) 1 x ++ pieces 10 c.read_thread.new.self.rest.now) added;
    }
