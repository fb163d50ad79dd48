use Rattle.std.proofs.Common.{◌≡◌, ℕ, List, OnErr, OnOk, ap, refl, subst, sym, ◌∙◌}
use Rattle.script_text.specs.Text.{answer_text}
use Rattle.script_text.specs.declared.journal.Answer.{Answer}
use Rattle.run_ports.specs.Ports.{Gains, GainsPart}
use Rattle.run_engine.specs.Kept.{told}
use Rattle.run_engine.proofs.Told.{short_is}
use Rattle.run_engine.proofs.writing.write_event.Goals as goal

pub returns-in-Whole-clause-err : goal.returns-in-Whole-clause-err
returns-in-Whole-clause-err g c =
    let number = c.args.number in
    let tells : told c.args.event.images.now c.args.event.event c.args.event.kept.now ≡ c.deref.result.now = ap (told c.args.event.images.now c.args.event.event) c.in-Whole.is ∙ sym c.deref.ensures in
    let P : Answer → Type 0 = λ answer. OnErr c.write_answer.result (GainsPart (g.K.Sink.written c.args.sink.now) (g.K.Sink.written c.write_answer.new.sink) (answer_text number.round number.thread number.event answer)) in
    subst P (sym tells) c.write_answer.ensures.err

pub returns-in_default : goal.returns-in_default
returns-in_default g c =
    let number = c.args.number in
    let tells : told c.args.event.images.now c.args.event.event c.args.event.kept.now ≡ c.tell_short-told.result = short_is c.args.event.images.now c.args.event.event c.args.event.kept.now c.in_default.not-Whole ∙ sym c.tell_short-told.ensures in
    let P : Answer → Type 0 = λ answer. OnOk c.write_answer-in_default.result (Gains (g.K.Sink.written c.args.sink.now) (g.K.Sink.written c.write_answer-in_default.new.sink) (answer_text number.round number.thread number.event answer)) in
    let Q : Answer → Type 0 = λ answer. OnErr c.write_answer-in_default.result (GainsPart (g.K.Sink.written c.args.sink.now) (g.K.Sink.written c.write_answer-in_default.new.sink) (answer_text number.round number.thread number.event answer)) in
    record {
      goes_on = c.write_answer-in_default.ensures.goes_on;
      ok = subst P (sym tells) c.write_answer-in_default.ensures.ok;
      err = subst Q (sym tells) c.write_answer-in_default.ensures.err;
      failed = c.write_answer-in_default.ensures.failed;
      sound = c.write_answer-in_default.ensures.sound;
    }

pub returns-then-spell_usual-clause-err : goal.returns-then-spell_usual-clause-err
returns-then-spell_usual-clause-err g c =
    let number = c.args.number in
    let text = answer_text number.round number.thread number.event (told c.args.event.images.now c.args.event.event c.args.event.kept.now) in
    let spelled : c.spell_usual.new.room ≡ text = c.if-spell_usual.ensures refl in
    let whole : c.as_bytes.result.now ≡ text = c.as_bytes.ensures.value ∙ (c.as_str.ensures ∙ spelled) in
    let Q : List ℕ → Type 0 = λ line. OnErr c.write_piece.result (GainsPart (g.K.Sink.written c.args.sink.now) (g.K.Sink.written c.write_piece.new.sink) line) in
    subst Q whole c.write_piece.ensures.err
