use Rattle.std.proofs.Common.{◌≡◌, ◌∙◌, List, ℕ, map, ap, subst}
use Rattle.std.specs.List.{flat_map}
use Rattle.std.proofs.lemmas.Result.{on_err_weaker}
use Rattle.script_generator.specs.Summaries.{summary_of, summary_lines, summary_text}
use Rattle.run_ports.specs.Ports.{GainsPart}
use Rattle.run_engine.proofs.writing.write_summary.Goals as goal

pub returns-in-Ok-clause-err : goal.returns-in-Ok-clause-err
returns-in-Ok-clause-err g c =
    let lines : map (λ line. line.items) c.deref.result.now ≡ summary_lines (summary_of c.args.journal.now) = ap (map (λ line. line.items)) c.deref.ensures.value ∙ c.in-Ok.ensures ∙ ap summary_lines c.summary.ensures in
    let text : flat_map (λ (line : List ℕ). line) (map (λ line. line.items) c.deref.result.now) ≡ summary_text (summary_of c.args.journal.now) = ap (flat_map (λ (line : List ℕ). line)) lines in
    let P : List ℕ → Type 0 = GainsPart (g.K.Sink.written c.args.sink.now) (g.K.Sink.written c.write_lines.new.sink) in
    on_err_weaker c.write_lines.result (λ part. subst P text part) c.write_lines.ensures.err
