-- How rows that differ are numbered: the first ones are looked at one after another, each after
-- them is written out in words, and found by these in an ordered map.
use Rattle.std.specs.Prelude.{◌≡◌, ◌≢◌, ℕ, ◌<◌, ◌≤◌, List, [], ◌∷◌, length, get_or, Some}
use Rattle.std.specs.BTreeMap.{BTreeMap, get}
use Rattle.std.specs.Cmp.Lexicographic.{slice_cmp}
use Rattle.std.specs.Ordering.{nat_cmp}
use Rattle.std.specs.declared.cmp.Ordering.{Ordering}
use Rattle.frame_rows.specs.declared.placed_row.PlacedRow.{PlacedRow}
use Rattle.frame_rows.specs.declared.rule.RuleWith.TheVariants as rules
use Rattle.frame_rows.specs.declared.rule.CfaRuleWith.TheVariants as cfas
use Rattle.frame_rows.specs.Rows.{unset}
use Rattle.frame_rows.specs.Rules.{PlacedRule, PlacedCfaRule}
use Rattle.row_table.specs.Tables.{AreDifferent}

-- ---- a row in words

abbrev pub kind_word : PlacedRule → ℕ
kind_word rules.Unset = 0
kind_word rules.Undefined = 1
kind_word rules.Same = 2
kind_word (rules.Offset n) = 3
kind_word (rules.ValOffset n) = 4
kind_word (rules.Register q) = 5
kind_word (rules.Expression e) = 6
kind_word (rules.ValExpression e) = 7

abbrev pub number_word : PlacedRule → ℕ
number_word rules.Unset = 0
number_word rules.Undefined = 0
number_word rules.Same = 0
number_word (rules.Offset n) = n
number_word (rules.ValOffset n) = n
number_word (rules.Register q) = q
number_word (rules.Expression e) = e
number_word (rules.ValExpression e) = e

abbrev pub cfa_kind_word : PlacedCfaRule → ℕ
cfa_kind_word cfas.Missing = 0
cfa_kind_word (cfas.Offset q n) = 1
cfa_kind_word (cfas.Expression e) = 2

abbrev pub cfa_column_word : PlacedCfaRule → ℕ
cfa_column_word cfas.Missing = 0
cfa_column_word (cfas.Offset q n) = q
cfa_column_word (cfas.Expression e) = 0

abbrev pub cfa_number_word : PlacedCfaRule → ℕ
cfa_number_word cfas.Missing = 0
cfa_number_word (cfas.Offset q n) = n
cfa_number_word (cfas.Expression e) = e

abbrev pub columns_words : List PlacedRule → List ℕ
columns_words [] = []
columns_words (rule ∷ others) = kind_word rule ∷ number_word rule ∷ columns_words others

abbrev pub row_words : PlacedRow → List ℕ
row_words row = cfa_kind_word row.cfa ∷ cfa_column_word row.cfa ∷ cfa_number_word row.cfa
    ∷ columns_words row.columns

-- ---- the first rows

-- so many
abbrev pub first_rows : ℕ
first_rows = 64

-- a row is none of them
abbrev pub IsNoneOfTheFirst : List PlacedRow → PlacedRow → Type 0
IsNoneOfTheFirst rows row = (i : ℕ) → i < first_rows → i < length rows → get_or rows i unset ≢ row

-- ---- the map

-- keys are in the order of their words
abbrev pub compare_words : {K : Type 0} → (K → List ℕ) → K → K → Ordering
compare_words words a b = slice_cmp nat_cmp (words a) (words b)

-- The rows differ, and a map from their words to their numbers has all of them but the first ones,
-- and none that isn't among them.
pub record IsIndexOf (K : Type 0) (words : K → List ℕ) (index : BTreeMap K ℕ)
    (rows : List PlacedRow) : Type 0 where
  pub different : AreDifferent rows
  pub known : (i : ℕ) (k : K) → first_rows ≤ i → i < length rows
      → words k ≡ row_words (get_or rows i unset)
      → get (compare_words words) index k ≡ Some i
  pub right : (i : ℕ) (k : K) → get (compare_words words) index k ≡ Some i
      → (i < length rows) × (words k ≡ row_words (get_or rows i unset))
