use Rattle.std.proofs.Common.{ℕ, suc, Some, ap, sym, ◌∙◌, arith}
use Rattle.std.specs.Option.{option_map}
use Rattle.eh_bytes.proofs.Ends.{leb_len-below}
use Rattle.eh_bytes.proofs.leb.leb_length.Goals as goal

pub returns-clause-length : goal.returns-clause-length
returns-clause-length c = sym (leb_len-below c.args.bytes.now ∙ ap (option_map suc) (sym c.in_ok-first_below.ensures.first) ∙ ap (λ (k : ℕ). Some k) (omega arith))

pub returns-in_err-first_below-clause-length : goal.returns-in_err-first_below-clause-length
returns-in_err-first_below-clause-length c = c.from_residual.ensures ∙ sym (leb_len-below c.args.bytes.now ∙ ap (option_map suc) (sym c.in_err-first_below.ensures.first))
