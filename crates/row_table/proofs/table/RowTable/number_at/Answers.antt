use Rattle.std.proofs.Common.{sym, ◌∙◌}
use Rattle.row_table.specs.Tables.{IsFdeOf}
use Rattle.row_table.proofs.Lookups.{has_rows, fde_there}
use Rattle.row_table.proofs.table.RowTable.number_at.Goals as goal

pub row_number-requires : goal.row_number-requires
row_number-requires c =
    let number = c.in-Some.number in
    let is : IsFdeOf c.args.section.now number c.fde-fde.result = record { entry = c.fde-fde.ensures.entry; section = c.fde-fde.ensures.section; bytes = c.fde-fde.ensures.bytes } in
    has_rows c.args.section.now c.args.self.now c.args.pc number c.fde-fde.result c.requires c.in-Some.ensures.value c.in-Some.ensures.within is

pub returns-in-Some : goal.returns-in-Some
returns-in-Some c = record {
  fde = c.fde-fde.result;
  covers = fde_there c.args.section.now c.args.pc c.fde-fde.result (sym c.in-Some.ensures.value ∙ c.fde-fde.ensures.entry) c.fde-fde.ensures.section c.fde-fde.ensures.bytes;
  has = c.row_number.ensures;
}
