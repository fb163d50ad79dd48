use Rattle.std.proofs.Common.{sym, ◌∙◌}
use Rattle.eh_bytes.proofs.Ends.{text_len-below}
use Rattle.eh_bytes.proofs.cursor.text_length.Goals as goal

pub returns-clause-length : goal.returns-clause-length
returns-clause-length c = c.first_below.ensures.first ∙ sym (text_len-below c.args.bytes.now)
