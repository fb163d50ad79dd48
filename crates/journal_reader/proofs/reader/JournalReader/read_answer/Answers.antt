use Rattle.std.proofs.Common.{List, ℕ, ap, sym, ◌∙◌}
use Rattle.script_text.specs.Fields.{pieces}
use Rattle.journal_reader.specs.Reading.{first_line}
use Rattle.journal_reader.proofs.Pieced.{next_of, others_of, some_next}
use Rattle.journal_reader.proofs.Events.{is_one_line, event_ends, event_unread, event_read}
use Rattle.journal_reader.proofs.reader.JournalReader.read_answer.Goals as goal

pub returns-in_default-next_line-clause-lines : goal.returns-in_default-next_line-clause-lines
returns-in_default-next_line-clause-lines c =
    let n = c.args.number in
    event_ends c.args.self.now.images.now c.requires.few n.round n.thread n.event c.args.event.now (pieces 10 c.args.self.now.rest.now) c.args.self.now.rest.now c.in_default-next_line.ensures.lines

pub returns-in-None-clause-lines : goal.returns-in-None-clause-lines
returns-in-None-clause-lines c =
    let n = c.args.number in
    let images = c.args.self.now.images.now in
    let all = pieces 10 c.args.self.now.rest.now in
    let line = c.in-Some.line.now in
    let rest = c.in-Some.rest.now in
    let head = sym (c.as_str.ensures.value ∙ c.in_ok-head.ensures) in
    event_unread images c.requires.few n.round n.thread n.event c.args.event.now all line (next_of rest) (others_of rest) (is_one_line c.args.event.now c.in_default.not-Unwind) (some_next all line rest c.in-Some.ensures.lines)
    (ap (λ (x : List ℕ). first_line images x c.args.event.now line) head ∙ sym c.first_line.ensures ∙ c.in-None.is)

pub returns-clause-lines : goal.returns-clause-lines
returns-clause-lines c =
    let n = c.args.number in
    let images = c.args.self.now.images.now in
    let line = c.in-Some.line.now in
    let head = sym (c.as_str.ensures.value ∙ c.in_ok-head.ensures) in
    event_read images c.requires.few n.round n.thread n.event c.args.event.now (pieces 10 c.args.self.now.rest.now) (pieces 10 c.in-Some.rest.now) line c.in-Some-first_line.answer (is_one_line c.args.event.now c.in_default.not-Unwind) c.in-Some.ensures.lines
    (ap (λ (x : List ℕ). first_line images x c.args.event.now line) head ∙ sym c.first_line.ensures ∙ c.in-Some-first_line.is)
