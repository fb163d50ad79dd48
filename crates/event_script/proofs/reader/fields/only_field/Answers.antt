use Rattle.std.proofs.Common.{sym, ◌∙◌}
use Rattle.std.proofs.lemmas.Bool.{eqb-false}
use Rattle.event_script.proofs.Following.{only_none}
use Rattle.event_script.proofs.reader.fields.only_field.Goals as goal

pub returns-else-is_empty : goal.returns-else-is_empty
returns-else-is_empty c = only_none _ c.in_ok-field.field.now c.in_ok-field.rest.now c.in_ok-field.ensures (eqb-false _ _ (sym c.is_empty.ensures ∙ c.if-is_empty.false))
