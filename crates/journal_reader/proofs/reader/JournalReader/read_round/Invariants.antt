use Rattle.std.proofs.Common.{◌≡◌, ◌++◌, take, map}
use Rattle.std.specs.List.{AllZip}
use Rattle.script_text.specs.Fields.{pieces}
use Rattle.journal_reader.specs.Told.{IsToldAnswer}
use Rattle.journal_reader.specs.JournalLines.{thread_lines, numbered_lines}
use Rattle.journal_reader.proofs.reader.JournalReader.read_round.Given as goal

abbrev pub invariant-loop-index : goal.invariant-loop-index
invariant-loop-index l = record {
  images : l.self.images.now ≡ l.fn.self.images.now;
  told : AllZip (AllZip (IsToldAnswer l.fn.self.images.now)) (take l.index l.threads) (map (λ answers. answers.items) l.answers.items);
  cut : pieces 10 l.fn.self.rest.now ≡ numbered_lines (thread_lines l.fn.round) 1 (map (λ answers. answers.items) l.answers.items) ++ pieces 10 l.self.rest.now;
}
