use Rattle.std.proofs.Common.{◌≡◌, ◌++◌, take}
use Rattle.std.specs.List.{AllZip}
use Rattle.script_text.specs.Fields.{pieces}
use Rattle.journal_reader.specs.Told.{IsToldAnswer}
use Rattle.journal_reader.specs.JournalLines.{event_lines, numbered_lines}
use Rattle.journal_reader.proofs.reader.JournalReader.read_thread.Given as goal

abbrev pub invariant-loop-index : goal.invariant-loop-index
invariant-loop-index l = record {
  images : l.self.images.now ≡ l.fn.self.images.now;
  told : AllZip (IsToldAnswer l.fn.self.images.now) (take l.index l.events) l.answers.items;
  cut : pieces 10 l.fn.self.rest.now ≡ numbered_lines (event_lines l.fn.round l.fn.thread) 1 l.answers.items ++ pieces 10 l.self.rest.now;
}
