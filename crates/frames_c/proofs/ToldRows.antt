-- Rows are told to C alike however their expressions are told, and those of a table are told beforehand.
use Rattle.std.proofs.Common.{◌≡◌, ◌≢◌, ℕ, zero, suc, ◌+◌, ◌<◌, List, [], ◌∷◌, ◌++◌, length, get_or, set, take, true, false, Option, None, option_map, refl, sym, ap, subst, ◌∙◌, arith, below_more, get_or-set_same, get_or-set_other}
use Rattle.std.specs.Prelude.{slice_index, slice_index_or}
use Rattle.std.specs.List.{AllZip}
use Rattle.std.proofs.Math.ListN.{get_or-map}
use Rattle.std.proofs.lemmas.List.{take_more}
use Rattle.std.proofs.lemmas.Slice.Zip.{all_zipped_more}
use Rattle.frame_parse.specs.Blocks.{block_in}
use Rattle.frame_parse.specs.Entries.{FdeRecord}
use Rattle.frame_parse.specs.Sections.{FdeData, SectionData, first_cover}
use Rattle.frame_rows.specs.declared.placed_row.PlacedRow.{PlacedRow}
use Rattle.frame_rows.specs.declared.rule.RuleWith.{RuleWith}
use Rattle.frame_rows.specs.declared.rule.RuleWith.TheVariants as rules
use Rattle.frame_rows.specs.declared.rule.CfaRuleWith.{CfaRuleWith}
use Rattle.frame_rows.specs.declared.rule.CfaRuleWith.TheVariants as cfas
use Rattle.frame_rows.specs.Rows.{unset}
use Rattle.frame_rows.specs.Rules.{RowData, RuleData, CfaRuleData, PlacedRule, rule_told, cfa_rule_told, lent_row}
use Rattle.row_table.specs.Tables.{IsNumberAt}
use Rattle.unwind_step.specs.Backtrace.{fde_in}
use Rattle.unwind_step.proofs.OneStep.{fde_with}
use Rattle.frames_c.specs.Rows.{rule_kind, rule_number, cfa_rule_kind, cfa_rule_column, cfa_rule_offset, column_rule, AreToldRules, IsToldRow, IsToldPlaced, AnswersRow}
use Rattle.frames_c.specs.declared.row.FramesRow.{FramesRow}

-- ---- rules

kind_and_number_told : {A B : Type 0} (rule : RuleWith A) (f : A → B) → (rule_kind (rule_told f rule) ≡ rule_kind rule) × (rule_number (rule_told f rule) ≡ rule_number rule)
kind_and_number_told rules.Unset f = (refl, refl)
kind_and_number_told rules.Undefined f = (refl, refl)
kind_and_number_told rules.Same f = (refl, refl)
kind_and_number_told (rules.Offset n) f = (refl, refl)
kind_and_number_told (rules.ValOffset n) f = (refl, refl)
kind_and_number_told (rules.Register q) f = (refl, refl)
kind_and_number_told (rules.Expression e) f = (refl, refl)
kind_and_number_told (rules.ValExpression e) f = (refl, refl)

cfa_told : {A B : Type 0} (rule : CfaRuleWith A) (f : A → B)
    → (cfa_rule_kind (cfa_rule_told f rule) ≡ cfa_rule_kind rule) × (cfa_rule_column (cfa_rule_told f rule) ≡ cfa_rule_column rule) × (cfa_rule_offset (cfa_rule_told f rule) ≡ cfa_rule_offset rule)
cfa_told cfas.Missing f = (refl, refl, refl)
cfa_told (cfas.Offset q n) f = (refl, refl, refl)
cfa_told (cfas.Expression e) f = (refl, refl, refl)

-- ---- rows

-- one column more
pub one_more_told : {A : Type 0} (rule : RuleWith A) (f : A → List ℕ) (row : RowData) (column kind number : ℕ) (kinds numbers : List ℕ) → AreToldRules row column kinds numbers → column < length kinds → column < length numbers
    → kind ≡ rule_kind rule → number ≡ rule_number rule → rule_told f rule ≡ column_rule row column → AreToldRules row (column + 1) (set kinds column kind) (set numbers column number)
one_more_told rule f row column kind number kinds numbers are in_kinds in_numbers kind_is number_is of_row =
    let other : (r : ℕ) → r < column → r ≢ column = λ r lt. omega arith in record {
      kind =
          below_more (λ (r : ℕ). slice_index (set kinds column kind) r ≡ rule_kind (column_rule row r)) column
          (λ r lt. get_or-set_other kinds column r kind 0 (other r lt) ∙ are.kind r lt)
          (get_or-set_same kinds column kind 0 in_kinds ∙ kind_is ∙ sym (kind_and_number_told rule f).0 ∙ ap (λ (k : RuleData). rule_kind k) of_row);
      number =
          below_more (λ (r : ℕ). slice_index (set numbers column number) r ≡ rule_number (column_rule row r)) column
          (λ r lt. get_or-set_other numbers column r number 0 (other r lt) ∙ are.number r lt)
          (get_or-set_same numbers column number 0 in_numbers ∙ number_is ∙ sym (kind_and_number_told rule f).1 ∙ ap (λ (k : RuleData). rule_number k) of_row);
    }

pub row_is_told : {A : Type 0} (rule : CfaRuleWith A) (f : A → List ℕ) (row : RowData) (kind column offset : ℕ) (kinds numbers : List ℕ) → kind ≡ cfa_rule_kind rule → column ≡ cfa_rule_column rule → offset ≡ cfa_rule_offset rule → cfa_rule_told f rule ≡ row.cfa → AreToldRules row 17 kinds numbers
    → IsToldRow row (record { cfa = kind; cfa_column = column; cfa_offset = offset; rules = kinds; numbers = numbers })
row_is_told rule f row kind column offset kinds numbers kind_is column_is offset_is of_row told = record {
  cfa = kind_is ∙ sym (cfa_told rule f).0 ∙ ap (λ (k : CfaRuleData). cfa_rule_kind k) of_row;
  column = column_is ∙ sym (cfa_told rule f).1 ∙ ap (λ (k : CfaRuleData). cfa_rule_column k) of_row;
  offset = offset_is ∙ sym (cfa_told rule f).2 ∙ ap (λ (k : CfaRuleData). cfa_rule_offset k) of_row;
  columns = told;
}

-- ---- rows with the places of their expressions

-- the rule of a column, lent
pub rule_lent : (bytes : List ℕ) (row : PlacedRow) (column : ℕ) (rule : PlacedRule) → rule ≡ slice_index_or row.columns column rules.Unset → rule_told (block_in bytes) rule ≡ column_rule (lent_row bytes row) column
rule_lent bytes row column rule is =
    ap (λ (k : PlacedRule). rule_told (block_in bytes) k) is ∙ sym (get_or-map (rule_told (block_in bytes)) row.columns column rules.Unset)

pub placed_is_told : (row : PlacedRow) (kind column offset : ℕ) (kinds numbers : List ℕ) → kind ≡ cfa_rule_kind row.cfa → column ≡ cfa_rule_column row.cfa → offset ≡ cfa_rule_offset row.cfa
    → ((bytes : List ℕ) → AreToldRules (lent_row bytes row) 17 kinds numbers) → IsToldPlaced row (record { cfa = kind; cfa_column = column; cfa_offset = offset; rules = kinds; numbers = numbers })
placed_is_told row kind column offset kinds numbers kind_is column_is offset_is told =
    record { lent = λ bytes. row_is_told row.cfa (block_in bytes) (lent_row bytes row) kind column offset kinds numbers kind_is column_is offset_is refl (told bytes) }

-- one row more
pub one_more_row : (rows : List PlacedRow) (all more : List FramesRow) (i : ℕ) (d : PlacedRow) (told : FramesRow) → i < length rows → AllZip IsToldPlaced (take i rows) all → IsToldPlaced (get_or rows i d) told → more ≡ all ++ told ∷ []
    → AllZip IsToldPlaced (take (i + 1) rows) more
one_more_row rows all more i d told lt are is grown =
    subst (λ (l : List PlacedRow). AllZip IsToldPlaced l more) (sym (take_more rows i d lt))
    (subst (λ (l : List FramesRow). AllZip IsToldPlaced (take i rows ++ get_or rows i d ∷ []) l) (sym grown) (all_zipped_more IsToldPlaced (take i rows) all (get_or rows i d) told are is))

told_at : (rows : List PlacedRow) (all : List FramesRow) (k : ℕ) (d : PlacedRow) (e : FramesRow) → AllZip IsToldPlaced rows all → k < length rows → IsToldPlaced (get_or rows k d) (get_or all k e)
told_at [] all k d e are lt = absurd (omega arith)
told_at (x ∷ xs) [] k d e are lt = absurd are
told_at (x ∷ xs) (y ∷ ys) zero d e are lt = are.0
told_at (x ∷ xs) (y ∷ ys) (suc k) d e are lt = told_at xs ys k d e are.1 (omega arith)

-- ---- the row of an address

pub none_covers : (s : SectionData) (pc : ℕ) (out : FramesRow) → first_cover pc s.fdes ≡ None → AnswersRow (fde_in pc s) pc false out out
none_covers s pc out none = subst (λ (o : Option FdeRecord). AnswersRow (option_map (λ (e : FdeRecord). fde_with s.address s.bytes e) o) pc false out out) (sym none) (refl, refl)

-- the one that is told by its number
pub row_of_number : (s : SectionData) (pc number : ℕ) (rows : List PlacedRow) (all : List FramesRow) (d old : FramesRow) → IsNumberAt s pc rows number → AllZip IsToldPlaced rows all → AnswersRow (fde_in pc s) pc true old (get_or all number d)
row_of_number s pc number rows all d old is are =
    let f = is.fde in
    let told = told_at rows all number unset d are is.has.within in
    subst (λ (o : Option FdeData). AnswersRow o pc true old (get_or all number d)) (sym is.covers) (refl, (lent_row f.bytes (get_or rows number unset), is.has.row, told.lent f.bytes))
