use Rattle.std.proofs.Common.{List, Vec, Global, sym, ap, subst, ◌∙◌, ◌++◌, ◌∷◌, [], length, length-append, arith, ℕ, ◌≡◌, ◌<◌, ◌+◌}
use Rattle.frame_rows.specs.declared.placed_row.PlacedRow.{PlacedRow}
use Rattle.row_table.specs.Numbering.{first_rows, IsNoneOfTheFirst}
use Rattle.row_table.proofs.Numbers.{longer_first}
use Rattle.row_table.proofs.distinct_rows.DistinctRows.add_first.Goals as goal

abbrev words_in : Vec ℕ Global → List ℕ
words_in key = key.items

pub invariant_of-self-2 : goal.invariant_of-self-2
invariant_of-self-2 c =
    let rows = c.self.inside.rows.items in
    let row = c.args.row.now in
    let new : IsNoneOfTheFirst rows row = subst (λ (l : List PlacedRow). IsNoneOfTheFirst l row) (sym c.self.view_is) c.requires.new in
    let few : length rows < first_rows = subst (λ (l : List PlacedRow). length l < first_rows) (sym c.self.view_is) c.requires.room in
    let grown : c.add.new.rows.items ≡ rows ++ row ∷ [] = c.add.ensures ∙ ap (λ (l : List PlacedRow). l ++ row ∷ []) c.in_ok-try_reserve.ensures.items in
    let count : length c.add.new.rows.items ≡ length rows + 1 = ap (λ (l : List PlacedRow). length l) grown ∙ length-append rows (row ∷ []) ∙ omega arith in
    (longer_first words_in c.self.inside.index rows c.add.new.rows.items row c.self.invariant.0 few new grown, omega (arith, count, few))
