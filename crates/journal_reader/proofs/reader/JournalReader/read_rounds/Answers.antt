use Rattle.std.proofs.Common.{◌+◌, List, ◌++◌, take, map, ap, sym, subst, ◌∙◌}
use Rattle.std.specs.List.{AllZip}
use Rattle.script_text.specs.Fields.{pieces}
use Rattle.script_text.specs.declared.journal.Answer.{Answer}
use Rattle.journal_reader.specs.JournalLines.{round_lines, numbered_lines}
use Rattle.script_text.proofs.StatementLists.{map_push}
use Rattle.journal_reader.proofs.Loops.{loop_stuck, loop_more}
use Rattle.journal_reader.proofs.Journals.{ToldRound, round_unique, some_round}
use Rattle.journal_reader.proofs.reader.JournalReader.read_rounds.Goals as goal

pub returns-in-None-clause-lines : goal.returns-in-None-clause-lines
returns-in-None-clause-lines c =
    let images = c.args.self.now.images.now in
    let threads = c.deref.ensures.value ∙ c.round.view_is in
    let stuck = rw (c.loop-index.invariant.images, threads, c.in-None.is) at c.in_ok-read_round.ensures.lines in
    loop_stuck (ToldRound images c.requires.few) round_lines (round_unique images c.requires.few) (some_round images c.requires.few)
    c.args.rounds.now c.loop-index.index c.index-rounds-index.result c.loop-index-test.true c.index-rounds-index.is
    (map (λ threads. map (λ answers. answers.items) threads.items) c.loop-index.answers.items) (pieces 10 c.args.self.now.rest.now) (pieces 10 c.loop-index.self.rest.now) (pieces 10 c.read_round.new.self.rest.now) c.loop-index.invariant.told c.loop-index.invariant.cut stuck

pub loop-index-preserved : goal.loop-index-preserved
loop-index-preserved c =
    let images = c.args.self.now.images.now in
    let threads = c.deref.ensures.value ∙ c.round.view_is in
    let read = rw (c.loop-index.invariant.images, threads, c.in-Some.is) at c.in_ok-read_round.ensures.lines in
    let more = loop_more (ToldRound images c.requires.few) round_lines (round_unique images c.requires.few) (some_round images c.requires.few)
    c.args.rounds.now c.loop-index.index c.index-rounds-index.result c.loop-index-test.true c.index-rounds-index.is
    (map (λ threads. map (λ answers. answers.items) threads.items) c.loop-index.answers.items) (map (λ answers. answers.items) c.in-Some.told.items) (pieces 10 c.args.self.now.rest.now) (pieces 10 c.loop-index.self.rest.now) (pieces 10 c.read_round.new.self.rest.now) c.loop-index.invariant.told c.loop-index.invariant.cut read.0 read.1 in
    let added = sym (ap (map (λ threads. map (λ answers. answers.items) threads.items)) c.in_ok-add-in-Some.ensures ∙ map_push (λ threads. map (λ answers. answers.items) threads.items) c.loop-index.answers.items c.in-Some.told) in
    record {
      images = c.read_round.ensures.images ∙ c.loop-index.invariant.images;
      told = subst (AllZip (ToldRound images c.requires.few) (take (c.loop-index.index + 1) c.args.rounds.now)) added more.0;
      cut = more.1 ∙ ap (λ (x : List (List (List Answer))). numbered_lines round_lines 1 x ++ pieces 10 c.read_round.new.self.rest.now) added;
    }
