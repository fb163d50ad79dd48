use Rattle.std.proofs.Common.{List, ap, subst, ◌∙◌}
use Rattle.std.specs.List.{AllZip}
use Rattle.frame_parse.specs.Sections.{SectionData}
use Rattle.frame_rows.specs.declared.placed_row.PlacedRow.{PlacedRow}
use Rattle.row_table.specs.Tables.{IsRowTableOf}
use Rattle.frames_c.specs.Held.{LoadedData}
use Rattle.frames_c.specs.Rows.{IsToldPlaced}
use Rattle.frames_c.proofs.row_share.RowsOfSection.of.Goals as goal

pub invariant_of-result : goal.invariant_of-result
invariant_of-result c = (
  subst (λ (s : SectionData). IsRowTableOf s c.in_ok-table.table) (c.section.ensures ∙ ap (λ (l : LoadedData). l.section) c.get.ensures) c.in_ok-table.ensures.rows,
  subst (λ (l : List PlacedRow). AllZip IsToldPlaced l c.in_ok-told.told.items) c.distinct.ensures c.in_ok-told.ensures,
)
