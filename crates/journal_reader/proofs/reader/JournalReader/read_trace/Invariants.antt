use Rattle.std.proofs.Common.{◌≡◌, ◌++◌, length, map}
use Rattle.std.specs.List.{AllByRecursion}
use Rattle.script_text.specs.Fields.{pieces}
use Rattle.script_text.specs.Text.{frame_lines}
use Rattle.journal_reader.specs.Told.{IsToldFrame}
use Rattle.journal_reader.specs.JournalLines.{line_at}
use Rattle.journal_reader.proofs.reader.JournalReader.read_trace.Given as goal

abbrev pub invariant-loop-line : goal.invariant-loop-line
invariant-loop-line l = record {
  images : l.self.images.now ≡ l.fn.self.images.now;
  told : AllByRecursion (IsToldFrame l.fn.self.images.now) l.frames.items;
  cut : pieces 10 l.fn.self.rest.now ≡ map (line_at l.fn.number.round l.fn.number.thread l.fn.number.event) (frame_lines 0 l.frames.items) ++ pieces 10 l.self.rest.now;
}

abbrev pub decreases-loop-line : goal.decreases-loop-line
decreases-loop-line l = length l.self.rest.now
