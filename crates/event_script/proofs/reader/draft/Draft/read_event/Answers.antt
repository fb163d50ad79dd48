use Rattle.std.proofs.Common.{◌≡◌, ℕ, List, true, ap, subst}
use Rattle.std.proofs.lemmas.Result.{err_from_is_err_and}
use Rattle.event_script.specs.Draft.{DraftData, is_ended, may_come}
use Rattle.script_text.specs.EventLines.{event_spelling}
use Rattle.event_script.specs.Reading.{added, after_line}
use Rattle.script_text.specs.Statements.{kind_of_event, HasEventForm}
use Rattle.event_script.specs.declared.reader.kinds.Stage.TheVariants as stage
use Rattle.script_text.specs.declared.statement.Statement.TheVariants as statement
use Rattle.script_text.specs.declared.script.Event.{Event}
use Rattle.event_script.proofs.SaidLines.{event_said, read_in_fields}
use Rattle.event_script.proofs.reader.draft.Draft.read_event.Goals as goal

-- the line of an event says it, where it may come by what is known as by what its reader looked at
said : (seen known : DraftData) (event : Event) (line : List ℕ) → seen ≡ known → known.stage ≡ stage.Thread → may_come seen.script.version stage.Thread (kind_of_event event) ≡ true → HasEventForm event → line ≡ event_spelling event → after_line known line ≡ added known (statement.Event event)
said seen known event line same at may form is = event_said known event line at (subst (λ (draft : DraftData). may_come draft.script.version stage.Thread (kind_of_event event) ≡ true) same may) form is

pub returns-in_err-event-in-Some : goal.returns-in_err-event-in-Some
returns-in_err-event-in-Some c =
    let p = err_from_is_err_and c.from_residual.result c.from_residual.ensures.1 in
    rw (p.1, p.2, said _ c.args.self.now c.in-Some.event c.args.line.now c.self.view_is c.requires c.in-Some.ensures.2 c.in-Some.ensures.0 c.in-Some.ensures.1) c.in_err-event-in-Some.ensures

pub returns-in_ok-event-in-Some : goal.returns-in_ok-event-in-Some
returns-in_ok-event-in-Some c =
    rw (said _ c.args.self.now c.in-Some.event c.args.line.now c.self.view_is c.requires c.in-Some.ensures.2 c.in-Some.ensures.0 c.in-Some.ensures.1) c.in_ok-event-in-Some.ensures

pub returns-in-None : goal.returns-in-None
returns-in-None c = rw (read_in_fields c.args.self.now c.args.line.now (ap is_ended c.requires)) c.read_by_fields.ensures
