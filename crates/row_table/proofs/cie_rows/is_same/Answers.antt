use Rattle.std.proofs.Common.{◌≡◌, true, sym, ◌∙◌}
use Rattle.row_table.proofs.Initials.{same_cie_test, same_cie}
use Rattle.row_table.proofs.cie_rows.is_same.Goals as goal

pub returns : goal.returns
returns c = λ same.
    let is : same_cie_test c.args.cie.now c.args.other.now ≡ true = sym c.eq.ensures ∙ same in
    same_cie c.args.cie.now c.args.other.now is
