use Rattle.std.proofs.Common.{List, ℕ, sym, ap, subst, ◌∙◌}
use Rattle.std.specs.Prelude.{slice_get}
use Rattle.frame_rows.specs.Expressions.{HasExpressions}
use Rattle.frame_rows.specs.Rules.{RowData, lent_row}
use Rattle.frame_rows.proofs.PlacedRows.{row_of, expressions_of}
use Rattle.frame_rows.proofs.walk.row_at.Goals as goal

pub new-requires : goal.new-requires
new-requires c =
    let at = c.rules_at.ensures in
    let stand = c.expressions_stand.ensures in
    let known = at.known in
    let has = expressions_of c.args.fde.now c.args.pc c.rules_at.result known.0 known.1 c.steps_are_ordered.ensures.placed known.2 known.3 stand.initial stand.program at.row in
    subst (λ (bytes : List ℕ). HasExpressions bytes c.rules_at.result) (sym c.bytes.ensures) has

pub returns-clause-known : goal.returns-clause-known
returns-clause-known c =
    let at = c.rules_at.ensures in
    let known = at.known in
    (row_of c.args.fde.now c.args.pc c.rules_at.result known.0 known.1 c.steps_are_ordered.ensures.placed known.2 known.3 at.row).known

pub returns-clause-cfa : goal.returns-clause-cfa
returns-clause-cfa c =
    let at = c.rules_at.ensures in
    let known = at.known in
    let is = row_of c.args.fde.now c.args.pc c.rules_at.result known.0 known.1 c.steps_are_ordered.ensures.placed known.2 known.3 at.row in
    λ initial steps has_initial has.
    ap (λ (row : RowData). row.cfa) c.new.ensures
    ∙ ap (λ (bytes : List ℕ). (lent_row bytes c.rules_at.result).cfa) c.bytes.ensures
    ∙ is.cfa initial steps has_initial has

pub returns-clause-columns : goal.returns-clause-columns
returns-clause-columns c =
    let at = c.rules_at.ensures in
    let known = at.known in
    let is = row_of c.args.fde.now c.args.pc c.rules_at.result known.0 known.1 c.steps_are_ordered.ensures.placed known.2 known.3 at.row in
    λ initial steps has_initial has r lt.
    ap (λ (row : RowData). slice_get row.columns r) c.new.ensures
    ∙ ap (λ (bytes : List ℕ). slice_get (lent_row bytes c.rules_at.result).columns r) c.bytes.ensures
    ∙ is.columns initial steps has_initial has r lt
