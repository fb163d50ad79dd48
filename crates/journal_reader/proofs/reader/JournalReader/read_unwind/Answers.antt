use Rattle.std.proofs.Common.{◌≡◌, ℕ, List, Bool, true, false, not, sym, subst, ◌∙◌}
use Rattle.std.specs.Str.{bytes_eq}
use Rattle.std.proofs.lemmas.Slice.Eq.{bytes_eq-Decides}
use Rattle.script_text.specs.Fields.{pieces}
use Rattle.script_text.specs.declared.script.Event.TheVariants as event
use Rattle.journal_reader.specs.Told.{IsToldAnswer}
use Rattle.journal_reader.specs.ReadLines.{IsStuck}
use Rattle.journal_reader.specs.JournalLines.{event_lines}
use Rattle.journal_reader.proofs.Pieced.{next_of, others_of, some_next}
use Rattle.journal_reader.proofs.Events.{event_ends, event_stuck, unwind_none, trace_stuck}
use Rattle.journal_reader.proofs.reader.JournalReader.read_unwind.Goals as goal

differs : (t result : Bool) → result ≡ not t → result ≡ true → t ≡ true → ⊥
differs t result is yes_it_is same = absurd cc

agrees : (t result : Bool) → result ≡ not t → result ≡ false → t ≡ true
agrees true result is no_it_is = cc
agrees false result is no_it_is = absurd cc

pub returns-in_default-clause-lines : goal.returns-in_default-clause-lines
returns-in_default-clause-lines c =
    let n = c.args.number in
    event_ends c.args.self.now.images.now c.requires.few n.round n.thread n.event (event.Unwind c.args.snapshot) (pieces 10 c.args.self.now.rest.now) c.args.self.now.rest.now c.in_default.ensures.lines

pub returns-then-ne-clause-lines : goal.returns-then-ne-clause-lines
returns-then-ne-clause-lines c =
    let n = c.args.number in
    let line = c.in-Some.line.now in
    let rest = c.in-Some.rest.now in
    let head = c.as_bytes.ensures.value ∙ c.in_ok-head.ensures in
    event_stuck c.args.self.now.images.now c.requires.few n.round n.thread n.event (event.Unwind c.args.snapshot) (pieces 10 c.args.self.now.rest.now) line (next_of rest) (others_of rest)
    (some_next (pieces 10 c.args.self.now.rest.now) line rest c.in-Some.ensures.lines)
    (unwind_none c.args.self.now.images.now c.requires.few n.round n.thread n.event c.args.snapshot line
    (λ same. differs (bytes_eq line c.as_bytes.result.now) c.ne.result c.ne.ensures c.if-ne.true ((bytes_eq-Decides line c.as_bytes.result.now).1 (same ∙ sym head))))

pub returns-in-None-clause-lines : goal.returns-in-None-clause-lines
returns-in-None-clause-lines c =
    let n = c.args.number in
    let line = c.in-Some.line.now in
    let images = c.args.self.now.images.now in
    let head = c.as_bytes.ensures.value ∙ c.in_ok-head.ensures in
    let same = (bytes_eq-Decides line c.as_bytes.result.now).0 (agrees (bytes_eq line c.as_bytes.result.now) c.ne.result c.ne.ensures c.if-ne.false) in
    let stuck = rw c.in-None.is at c.in_ok-read_trace.ensures.lines in
    subst (λ (x : List (List ℕ)). IsStuck (IsToldAnswer images (event.Unwind c.args.snapshot)) (event_lines n.round n.thread n.event) x (pieces 10 c.read_trace.new.self.rest.now)) (sym c.in-Some.ensures.lines)
    (trace_stuck images c.requires.few n.round n.thread n.event c.args.snapshot line (pieces 10 c.in-Some.rest.now) (pieces 10 c.read_trace.new.self.rest.now) (same ∙ head) stuck)
