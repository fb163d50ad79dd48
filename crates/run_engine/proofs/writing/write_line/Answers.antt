use Rattle.std.proofs.Common.{◌≡◌, ℕ, List, [], OnErr, OnOk, subst, ◌∙◌}
use Rattle.std.specs.Prelude.{slice_index_or}
use Rattle.script_text.specs.Text.{answer_lines, event_line}
use Rattle.run_ports.specs.Ports.{Gains, GainsPart}
use Rattle.run_engine.proofs.writing.write_line.Goals as goal

pub returns-clause-ok : goal.returns-clause-ok
returns-clause-ok g c =
    let line = event_line c.args.number.round c.args.number.thread c.args.number.event (slice_index_or (answer_lines c.args.answer.now) c.args.line []) in
    let whole : c.as_bytes.result.now ≡ line = c.as_bytes.ensures.value ∙ c.as_str.ensures ∙ c.spell_event_line.ensures.text in
    subst (λ (text : List ℕ). OnOk c.write_piece.result (Gains (g.K.Sink.written c.args.sink.now) (g.K.Sink.written c.write_piece.new.sink) text)) whole c.write_piece.ensures.ok

pub returns-clause-err : goal.returns-clause-err
returns-clause-err g c =
    let line = event_line c.args.number.round c.args.number.thread c.args.number.event (slice_index_or (answer_lines c.args.answer.now) c.args.line []) in
    let whole : c.as_bytes.result.now ≡ line = c.as_bytes.ensures.value ∙ c.as_str.ensures ∙ c.spell_event_line.ensures.text in
    subst (λ (text : List ℕ). OnErr c.write_piece.result (GainsPart (g.K.Sink.written c.args.sink.now) (g.K.Sink.written c.write_piece.new.sink) text)) whole c.write_piece.ensures.err
