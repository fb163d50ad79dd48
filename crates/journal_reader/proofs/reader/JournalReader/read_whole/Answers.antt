use Rattle.std.proofs.Common.{ℕ, ◌^◌, ◌<◌, List, ◌++◌, length, map, inl, inr, ap, sym, subst, ◌∙◌}
use Rattle.reg_model.specs.SpanData.{SpanData}
use Rattle.script_text.specs.Fields.{pieces}
use Rattle.script_text.specs.ScriptData.{ScriptData}
use Rattle.journal_reader.specs.JournalLines.{journal_lines}
use Rattle.journal_reader.proofs.Flaws.{nothing_left, something_left}
use Rattle.journal_reader.proofs.Journals.{rounds_left, last_stuck, journal_read}
use Rattle.journal_reader.proofs.reader.JournalReader.read_whole.Goals as goal

pub returns-in-None : goal.returns-in-None
returns-in-None c =
    let script = c.args.script.now in
    let few = subst (λ (images : List SpanData). length images < 2 ^ 32) c.requires.images c.requires.few in
    let rounds = c.deref.ensures.value ∙ ap (λ (s : ScriptData). s.rounds) c.script.view_is in
    inl (rounds_left script few (pieces 10 c.args.self.now.rest.now) (pieces 10 c.read_rounds.new.self.rest.now) (rw (c.requires.images, rounds, c.in-None.is) at c.in_ok-read_rounds.ensures.lines))

pub returns-in-None-read_updates : goal.returns-in-None-read_updates
returns-in-None-read_updates c =
    let script = c.args.script.now in
    let few = subst (λ (images : List SpanData). length images < 2 ^ 32) c.requires.images c.requires.few in
    let rounds = c.deref.ensures.value ∙ ap (λ (s : ScriptData). s.rounds) c.script.view_is in
    let read = rw (c.requires.images, rounds, c.in-Some.is) at c.in_ok-read_rounds.ensures.lines in
    let stuck = rw c.in-None-read_updates.is at c.read_updates.ensures in
    inl (last_stuck script few (pieces 10 c.args.self.now.rest.now) (pieces 10 c.read_rounds.new.self.rest.now) (pieces 10 c.read_updates.new.self.rest.now)
    (map (λ threads. map (λ answers. answers.items) threads.items) c.in-Some.rounds.items) read.0 read.1 stuck)

pub returns-then-is_empty : goal.returns-then-is_empty
returns-then-is_empty c =
    let read = rw (c.requires.images, c.deref.ensures.value ∙ ap (λ (s : ScriptData). s.rounds) c.script.view_is, c.in-Some.is) at c.in_ok-read_rounds.ensures.lines in
    let last = rw c.in-Some-read_updates.is at c.read_updates.ensures in
    let whole = journal_read c.args.script.now (subst (λ (images : List SpanData). length images < 2 ^ 32) c.requires.images c.requires.few) _ _ _ (map (λ threads. map (λ answers. answers.items) threads.items) c.in-Some.rounds.items) c.in-Some-read_updates.updates read.0 read.1 last.0 last.1 in
    (whole.0, whole.1 ∙ ap (λ (x : List (List ℕ)). journal_lines (record { rounds = map (λ threads. map (λ answers. answers.items) threads.items) c.in-Some.rounds.items; updates = c.in-Some-read_updates.updates }) ++ x) (nothing_left c.read_updates.new.self.rest.now (sym c.is_empty.ensures ∙ c.if-is_empty.true)))

pub returns-else-is_empty : goal.returns-else-is_empty
returns-else-is_empty c =
    let read = rw (c.requires.images, c.deref.ensures.value ∙ ap (λ (s : ScriptData). s.rounds) c.script.view_is, c.in-Some.is) at c.in_ok-read_rounds.ensures.lines in
    let last = rw c.in-Some-read_updates.is at c.read_updates.ensures in
    let whole = journal_read c.args.script.now (subst (λ (images : List SpanData). length images < 2 ^ 32) c.requires.images c.requires.few) _ _ _ (map (λ threads. map (λ answers. answers.items) threads.items) c.in-Some.rounds.items) c.in-Some-read_updates.updates read.0 read.1 last.0 last.1 in
    inr (record {
      journal = record { rounds = map (λ threads. map (λ answers. answers.items) threads.items) c.in-Some.rounds.items; updates = c.in-Some-read_updates.updates };
      told = whole.0;
      cut = whole.1;
      more = something_left c.read_updates.new.self.rest.now (sym c.is_empty.ensures ∙ c.if-is_empty.false);
    })
