use Rattle.std.proofs.Common.{ℕ, [], ◌∷◌, ◌++◌, refl, ap, ◌∙◌, arith}
use Rattle.std.proofs.lemmas.Result.{err_from_is_err_and}
use Rattle.row_table.specs.Making.{rows_in}
use Rattle.row_table.specs.Tables.{IsFdeOf}
use Rattle.row_table.proofs.Growth.{one_more_fde, all_fdes, one_more_comes, refused_fde}
use Rattle.row_table.specs.Initials.{IsFdeIn}
use Rattle.row_table.proofs.Initials.{initial_of}
use Rattle.row_table.proofs.table.RowTable.of.Goals as goal

pub loop-index-preserved : goal.loop-index-preserved
loop-index-preserved c =
    let was = c.loop-index in
    let is : IsFdeOf c.args.section.now was.index c.fde-fde.result = record { entry = c.fde-fde.ensures.entry; section = c.fde-fde.ensures.section; bytes = c.fde-fde.ensures.bytes } in
    let added = c.in_ok-add.ensures.added in record {
      rows =
          one_more_fde c.args.section.now was.index was.begins.items c.push-in-loop-index.new.self.items (rows_in was.rows) (rows_in c.add.new.self) c.fde-fde.result was.invariant.rows added is
          (c.in_ok-push-2.ensures.items ∙ ap (λ (k : ℕ). was.begins.items ++ k ∷ []) c.len.ensures);
      initials = c.number_of.ensures.rows c.args.section.now (c.fde-fde.ensures.section, c.fde-fde.ensures.bytes) was.invariant.initials;
      come = one_more_comes c.args.section.now was.index (rows_in was.rows) (rows_in c.add.new.self) c.fde-fde.result was.invariant.come added is;
    }

pub add-requires-clause-base : goal.add-requires-clause-base
add-requires-clause-base c =
    let was = c.loop-index in
    let inside : IsFdeIn c.args.section.now c.fde-fde.result = (c.fde-fde.ensures.section, c.fde-fde.ensures.bytes) in
    initial_of c.args.section.now c.fde-fde.result c.number_of.new.self c.in_ok-number.number c.row.result.now inside (c.number_of.ensures.rows c.args.section.now inside was.invariant.initials)
    c.in_ok-number.ensures.within c.in_ok-number.ensures.cie c.row.ensures

pub returns-clause-rows : goal.returns-clause-rows
returns-clause-rows c =
    let was = c.loop-index in
    let rows = rows_in was.rows in
    all_fdes c.args.section.now was.index was.begins.items rows.starts rows.numbers rows.distinct c.into_rows.result.items rows was.invariant.rows (omega (arith, was.auto.index-end, c.loop-index-test.false, c.count-index-end.ensures)) refl c.into_rows.ensures

pub returns-in_err-add-clause-refused : goal.returns-in_err-add-clause-refused
returns-in_err-add-clause-refused c =
    let was = c.loop-index in
    let is : IsFdeOf c.args.section.now was.index c.fde-fde.result = record { entry = c.fde-fde.ensures.entry; section = c.fde-fde.ensures.section; bytes = c.fde-fde.ensures.bytes } in
    let p = err_from_is_err_and c.from_residual-in_err-add.result c.from_residual-in_err-add.ensures.1 in
    rw (p.1, p.2) (refused_fde c.args.section.now was.index was.rows.course.distinct c.fde-fde.result c.in_err-add.field-0.0 was.invariant.come is c.in_err-add.ensures.refused)
