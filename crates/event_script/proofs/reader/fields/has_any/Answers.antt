use Rattle.std.proofs.Common.{not, ap, ◌∙◌}
use Rattle.event_script.proofs.Following.{has_any_is}
use Rattle.event_script.proofs.reader.fields.has_any.Goals as goal

pub returns : goal.returns
returns c = ap not c.is_empty.ensures ∙ has_any_is c.args.rest.now
