use Rattle.std.proofs.Common.{List, Vec, Global, inr, sym, ap, subst, ◌∙◌, ◌++◌, ◌∷◌, [], length, length-append, arith, ℕ, ◌≡◌, ◌≤◌, ◌+◌}
use Rattle.frame_rows.specs.declared.placed_row.PlacedRow.{PlacedRow}
use Rattle.row_table.specs.Numbering.{IsIndexOf, IsNoneOfTheFirst}
use Rattle.row_table.specs.Tables.{IsNumbered, IsOneTooMany}
use Rattle.row_table.proofs.Numbers.{is_numbered, is_one_too_many, same_index, longer_index}
use Rattle.row_table.proofs.distinct_rows.DistinctRows.indexed.Goals as goal

abbrev words_in : Vec ℕ Global → List ℕ
words_in key = key.items

pub returns-in-Some-clause-numbered : goal.returns-in-Some-clause-numbered
returns-in-Some-clause-numbered c =
    let rows = c.self.inside.rows.items in
    let row = c.args.row.now in
    let number = c.in-Some.number.now in
    subst (λ (l : List PlacedRow). IsNumbered l row number l) c.self.view_is
    (is_numbered words_in c.self.inside.index rows row c.in_ok-words.words number c.self.invariant.0 c.in_ok-words.ensures (sym c.in-Some.ensures.value))

pub returns-then-number-clause-refused : goal.returns-then-number-clause-refused
returns-then-number-clause-refused c =
    let rows = c.self.inside.rows.items in
    let row = c.args.row.now in
    let below = c.self.invariant.1 in
    let later : IsNoneOfTheFirst rows row = subst (λ (l : List PlacedRow). IsNoneOfTheFirst l row) (sym c.self.view_is) c.requires.later in
    let count : length rows ≡ 65536 = omega (arith, c.if-number.true, c.len-number.ensures, c.self.inside.rows.ok) in
    inr (subst (λ (l : List PlacedRow). IsOneTooMany l row) c.self.view_is (is_one_too_many words_in c.self.inside.index rows row c.in_ok-words.words c.self.invariant.0 later c.in_ok-words.ensures (sym c.in_default.ensures.value) count))

pub invariant_of-self-in_err-insert : goal.invariant_of-self-in_err-insert
invariant_of-self-in_err-insert c =
    let rows = c.self.inside.rows.items in
    let same : c.try_reserve.new.self.items ≡ rows = c.in_ok-try_reserve.ensures.items in
    let kept = same_index words_in c.self.inside.index c.insert.new.self rows c.in_err-insert.ensures.err c.self.invariant.0 in
    let below = c.self.invariant.1 in
    subst (λ (l : List PlacedRow). IsIndexOf (Vec ℕ Global) words_in c.insert.new.self l × (length l ≤ 65536)) (sym same) (kept, below)

pub invariant_of-self-2 : goal.invariant_of-self-2
invariant_of-self-2 c =
    let rows = c.self.inside.rows.items in
    let row = c.args.row.now in
    let later : IsNoneOfTheFirst rows row = subst (λ (l : List PlacedRow). IsNoneOfTheFirst l row) (sym c.self.view_is) c.requires.later in
    let grown : c.add.new.rows.items ≡ rows ++ row ∷ [] = c.add.ensures ∙ ap (λ (l : List PlacedRow). l ++ row ∷ []) c.in_ok-try_reserve.ensures.items in
    let number : c.len-number.result ≡ length rows = omega (arith, c.len-number.ensures, c.self.inside.rows.ok) in
    let count : length c.add.new.rows.items ≡ length rows + 1 = ap (λ (l : List PlacedRow). length l) grown ∙ length-append rows (row ∷ []) ∙ omega arith in
    let within : length c.add.new.rows.items ≤ 65536 = omega (arith, count, number, c.if-number.false) in
    (longer_index words_in c.self.inside.index c.insert.new.self rows c.add.new.rows.items row c.in_ok-words.words c.len-number.result c.self.invariant.0 later c.in_ok-words.ensures (sym c.in_default.ensures.value) number c.in_ok-insert.ensures.updates grown, within)
