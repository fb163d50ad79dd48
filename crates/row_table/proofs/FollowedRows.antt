-- Columns restored where they stand, one after another.
use Rattle.std.proofs.Common.{◌≡◌, ◌≢◌, ℕ, ◌+◌, ◌<◌, List, slice_index, get_or, length, Ok, Err, inr, sym, ap, subst, ◌∙◌, below_more, arith}
use Rattle.std.proofs.Math.ListN.{get_or-map}
use Rattle.frame_expr.specs.Regions.{RegionData}
use Rattle.frame_expr.specs.declared.fault.NoBytes.{NoBytes}
use Rattle.frame_parse.specs.Blocks.{block_in}
use Rattle.frame_rows.specs.declared.placed_row.PlacedRow.{PlacedRow}
use Rattle.frame_rows.specs.declared.rule.RuleWith.TheVariants.{Unset}
use Rattle.frame_rows.specs.declared.rule.RuleWith.TheVariants as rules
use Rattle.frame_rows.specs.declared.rule.CfaRuleWith.TheVariants as cfas
use Rattle.frame_rows.specs.Rules.{RowData, RuleData, PlacedRule, lent_row, rule_told}
use Rattle.unwind_step.specs.NextFrame.{AreRestored, FailsFirst, IsFrame, LacksBytes, Leads, rule_in}
use Rattle.unwind_step.specs.Rules.{IsCfa, IsRestored}

-- the rule of a column in a row that is lent
rule_lent : (bytes : List ℕ) (row : PlacedRow) (r : ℕ) → rule_in (lent_row bytes row) r ≡ rule_told (block_in bytes) (get_or row.columns r Unset)
rule_lent bytes row r = get_or-map (rule_told (block_in bytes)) row.columns r Unset

abbrev pub Stays : ℕ → List ℕ → List ℕ → Type 0
Stays i before after = (r : ℕ) → r ≢ i → slice_index after r ≡ slice_index before r

-- a column is restored by its rule where it stands; the others stay
pub one_more_restored : (bytes : List ℕ) (row : PlacedRow) (i cfa : ℕ) (old : List ℕ) (memory : List RegionData) (before after : List ℕ) (rule : PlacedRule) → rule ≡ get_or row.columns i Unset
    → AreRestored i (lent_row bytes row) cfa old memory before → Stays i before after → IsRestored i (rule_told (block_in bytes) rule) cfa old memory (Ok (slice_index after i)) → AreRestored (i + 1) (lent_row bytes row) cfa old memory after
one_more_restored bytes row i cfa old memory before after rule is restored stays here =
    let of : IsRestored i (rule_told (block_in bytes) (get_or row.columns i Unset)) cfa old memory (Ok (slice_index after i)) = subst (λ (k : PlacedRule). IsRestored i (rule_told (block_in bytes) k) cfa old memory (Ok (slice_index after i))) is here in
    let last : IsRestored i (rule_in (lent_row bytes row) i) cfa old memory (Ok (slice_index after i)) = subst (λ (k : RuleData). IsRestored i k cfa old memory (Ok (slice_index after i))) (sym (rule_lent bytes row i)) of in
    below_more _ _ (λ r below. let ne : r ≢ i = omega arith in subst (λ (n : ℕ). IsRestored r (rule_in (lent_row bytes row) r) cfa old memory (Ok n)) (sym (stays r ne)) (restored r below)) last

-- a column can't be restored
pub first_failed : (bytes : List ℕ) (row : PlacedRow) (i cfa : ℕ) (old : List ℕ) (memory : List RegionData) (before : List ℕ) (rule : PlacedRule) (fault : NoBytes) → i < 17 → rule ≡ get_or row.columns i Unset
    → AreRestored i (lent_row bytes row) cfa old memory before → IsRestored i (rule_told (block_in bytes) rule) cfa old memory (Err fault) → FailsFirst (lent_row bytes row) cfa old memory fault
first_failed bytes row i cfa old memory before rule fault below is restored fails = record {
  r = i;
  below = below;
  fails =
      subst (λ (k : RuleData). IsRestored i k cfa old memory (Err fault)) (sym (rule_lent bytes row i))
      (subst (λ (k : PlacedRule). IsRestored i (rule_told (block_in bytes) k) cfa old memory (Err fault)) is fails);
  new = before;
  earlier = restored;
}

-- a row whose CFA and return address have frequent rules leads to a frame
pub row_leads : (bytes : List ℕ) (row : PlacedRow) (q n by : ℕ) → row.cfa ≡ cfas.Offset q n → rules.Offset by ≡ get_or row.columns 16 Unset → Leads (lent_row bytes row)
row_leads bytes row q n by cfa is =
    let told : rule_in (lent_row bytes row) 16 ≡ rules.Offset by = rule_lent bytes row 16 ∙ ap (rule_told (block_in bytes)) (sym is) in record {
      cfa = rw cfa (λ e. absurd cc);
      defined = λ e. absurd (let other = sym told ∙ e in cc);
      told = λ e. absurd (let other = sym told ∙ e in cc);
    }

pub frame_followed : (bytes : List ℕ) (row : RowData) (placed : PlacedRow) (cfa : ℕ) (old : List ℕ) (memory : List RegionData) (new : List ℕ) → row ≡ lent_row bytes placed → Leads (lent_row bytes placed)
    → IsCfa (lent_row bytes placed).cfa old memory (Ok cfa) → AreRestored 17 (lent_row bytes placed) cfa old memory new → length new ≡ 17 → IsFrame row old memory new
frame_followed bytes row placed cfa old memory new is leads is_cfa restored all =
    subst (λ (k : RowData). IsFrame k old memory new) (sym is) (record { leads = leads; cfa = cfa; is_cfa = is_cfa; restored = restored; all = all })

pub bytes_lacked : (bytes : List ℕ) (row : RowData) (placed : PlacedRow) (cfa : ℕ) (old : List ℕ) (memory : List RegionData) (fault : NoBytes) → row ≡ lent_row bytes placed → Leads (lent_row bytes placed)
    → IsCfa (lent_row bytes placed).cfa old memory (Ok cfa) → FailsFirst (lent_row bytes placed) cfa old memory fault → LacksBytes row old memory fault
bytes_lacked bytes row placed cfa old memory fault is leads is_cfa fails =
    subst (λ (k : RowData). LacksBytes k old memory fault) (sym is) (record { leads = leads; fails = inr (cfa, is_cfa, fails) })
