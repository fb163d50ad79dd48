use Rattle.std.proofs.Common.{◌∷◌, List, ℕ, ap, sym, ◌∙◌}
use Rattle.script_text.specs.Fields.{pieces}
use Rattle.journal_reader.proofs.Pieced.{next_of, others_of, some_next}
use Rattle.journal_reader.proofs.LinesOfEvents.{updates_is}
use Rattle.journal_reader.proofs.Journals.{updates_ends, updates_unread}
use Rattle.journal_reader.proofs.reader.JournalReader.read_updates.Goals as goal

pub returns-in_default : goal.returns-in_default
returns-in_default c = updates_ends (pieces 10 c.args.self.now.rest.now) c.args.self.now.rest.now c.in_default.ensures.lines

pub returns-in-None : goal.returns-in-None
returns-in-None c =
    let all = pieces 10 c.args.self.now.rest.now in
    let line = c.in-Some.line.now in
    let rest = c.in-Some.rest.now in
    updates_unread all line (next_of rest) (others_of rest) (some_next all line rest c.in-Some.ensures.lines) (sym c.told_updates.ensures ∙ c.in-None.is)

pub returns-in-Some-told_updates : goal.returns-in-Some-told_updates
returns-in-Some-told_updates c =
    let line = c.in-Some.line.now in
    let p = updates_is line c.in-Some-told_updates.updates (sym c.told_updates.ensures ∙ c.in-Some-told_updates.is) in
    (p.0, c.in-Some.ensures.lines ∙ ap (λ (x : List ℕ). x ∷ pieces 10 c.in-Some.rest.now) p.1)
