use Rattle.std.proofs.Common.{List, sym, subst}
use Rattle.std.specs.Prelude.{All}
use Rattle.row_table.specs.declared.cie_rows.CieRow.{CieRow}
use Rattle.row_table.specs.Initials.{IsCieRow}
use Rattle.row_table.proofs.Initials.{one_more_cie}
use Rattle.row_table.proofs.cie_rows.CieRows.number_of.Goals as goal

pub returns-clause-rows : goal.returns-clause-rows
returns-clause-rows c = λ s inside all.
    let rows = c.self.inside.rows.items in
    let before = subst (λ (l : List CieRow). All (IsCieRow s) l) (sym c.self.view_is) all in
    subst (λ (l : List CieRow). All (IsCieRow s) l) (sym c.in_ok-push.ensures.items)
    (one_more_cie c.initial_rows_are_the_cies.ensures s c.args.fde.now rows c.cie-cie.result.now c.initial_row-row.result inside c.cie-cie.ensures c.initial_row-row.ensures before)
