use Rattle.std.proofs.Common.{sym, subst, ◌∙◌, arith}
use Rattle.row_table.specs.Tables.{TableData, IsFdeOf, HasNumber}
use Rattle.row_table.proofs.Lookups.{has_rows, expressions_lent, found_lent}
use Rattle.row_table.proofs.table.RowTable.row_at.Goals as goal

pub row_number-row-requires : goal.row_number-row-requires
row_number-row-requires c =
    let number = c.in_ok-number.number in
    let is : IsFdeOf c.args.section.now number c.fde-fde.result = record { entry = c.fde-fde.ensures.entry; section = c.fde-fde.ensures.section; bytes = c.fde-fde.ensures.bytes } in
    has_rows c.args.section.now c.args.self.now c.args.pc number c.fde-fde.result c.requires c.in_ok-number.ensures.value c.in_ok-number.ensures.within is

pub index-placed-requires : goal.index-placed-requires
index-placed-requires c =
    let f = c.fde-fde.result in
    let row = c.row_number-row.result in
    let has : HasNumber f c.args.pc c.self.inside.distinct.items row = subst (λ (k : TableData). HasNumber f c.args.pc k.rows.distinct row) (sym c.self.view_is) c.row_number-row.ensures in
    omega (arith, has.within, c.self.inside.distinct.ok)

pub new-requires : goal.new-requires
new-requires c =
    let f = c.fde-fde.result in
    let row = c.row_number-row.result in
    let has : HasNumber f c.args.pc c.self.inside.distinct.items row = subst (λ (k : TableData). HasNumber f c.args.pc k.rows.distinct row) (sym c.self.view_is) c.row_number-row.ensures in
    expressions_lent f c.args.pc row c.self.inside.distinct.items c.index-placed.result.now c.bytes.result.now has c.index-placed.ensures (c.bytes.ensures ∙ sym c.fde-fde.ensures.bytes)

pub returns : goal.returns
returns c =
    let f = c.fde-fde.result in
    let row = c.row_number-row.result in
    let has : HasNumber f c.args.pc c.self.inside.distinct.items row = subst (λ (k : TableData). HasNumber f c.args.pc k.rows.distinct row) (sym c.self.view_is) c.row_number-row.ensures in
    found_lent c.args.section.now c.args.pc row f c.self.inside.distinct.items c.index-placed.result.now c.bytes.result.now c.new.result (sym c.in_ok-number.ensures.value ∙ c.fde-fde.ensures.entry) c.fde-fde.ensures.section c.fde-fde.ensures.bytes
    has c.index-placed.ensures (c.bytes.ensures ∙ sym c.fde-fde.ensures.bytes) c.new.ensures
