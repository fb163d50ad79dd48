-- Columns restored where they stand, one after another, by parts.
use Rattle.std.proofs.Common.{◌≡◌, ◌≢◌, ℕ, ◌+◌, ◌<◌, List, slice_index, get_or, Ok, Err, refl, sym, subst, ◌∙◌, arith}
use Rattle.frame_expr.specs.Regions.{RegionData}
use Rattle.frame_parse.specs.Blocks.{block_in}
use Rattle.frame_rows.specs.declared.placed_row.PlacedRow.{PlacedRow}
use Rattle.frame_rows.specs.declared.rule.RuleWith.TheVariants.{Unset}
use Rattle.frame_rows.specs.Rules.{PlacedRule, lent_row, rule_told}
use Rattle.unwind_step.specs.NextFrame.{AreRestored, FailsFirst}
use Rattle.unwind_step.specs.Rules.{IsRestored}
use Rattle.row_table.specs.Followed.{Restores}
use Rattle.row_table.specs.declared.following.Followed.{Followed}
use Rattle.row_table.specs.declared.following.Followed.TheVariants.{Frame, NoBytes, Rare}
use Rattle.row_table.proofs.FollowedRows.{first_failed, one_more_restored}

module _ (row : PlacedRow) (cfa : ℕ) (memory : List RegionData) where
  -- one column
  pub restored_one : (i : ℕ) (before : List ℕ) (result : Followed) (after : List ℕ) (rule : PlacedRule) → i < 17 → rule ≡ get_or row.columns i Unset
      → (result ≡ Frame → (bytes old : List ℕ) → slice_index old i ≡ slice_index before i → IsRestored i (rule_told (block_in bytes) rule) cfa old memory (Ok (slice_index after i)))
      → ((a : ℕ) → result ≡ NoBytes a → (bytes old : List ℕ) → IsRestored i (rule_told (block_in bytes) rule) cfa old memory (Err (record { address = a })))
      → ((r : ℕ) → r ≢ i → slice_index after r ≡ slice_index before r) → Restores i (i + 1) row cfa memory before result after
  restored_one i before Frame after rule below is restored fails stays = λ bytes old so_far same. (
    one_more_restored bytes row i cfa old memory before after rule is so_far stays (restored refl bytes old (sym (same i (omega arith)))),
    λ r le. let ne : r ≢ i = omega (arith, le) in stays r ne ∙ same r (omega (arith, le)),
  )
  restored_one i before (NoBytes a) after rule below is restored fails stays = λ bytes old so_far same.
      first_failed bytes row i cfa old memory before rule (record { address = a }) below is so_far (fails a refl bytes old)
  restored_one i before Rare after rule below is restored fails stays = λ bytes old so_far same. tt

  -- more columns behind those that were restored
  pub goes_on : (from mid n m : ℕ) (before between : List ℕ) (result : Followed) (after : List ℕ) → mid ≡ from + n → Restores from (from + n) row cfa memory before Frame between → Restores mid (mid + m) row cfa memory between result after
      → Restores from (from + (n + m)) row cfa memory before result after
  goes_on from mid n m before between result after behind some others =
      let to : mid + m ≡ from + (n + m) = omega arith in
      let rest = subst (λ k. Restores k (from + (n + m)) row cfa memory between result after) behind (subst (λ k. Restores mid k row cfa memory between result after) to others) in λ bytes old so_far same.
      let restored = some bytes old so_far same in rest bytes old restored.0 restored.1

  -- none of those behind one that wasn't
  pub stops : (from mid to : ℕ) (before : List ℕ) (result : Followed) (after : List ℕ) → result ≢ Frame → Restores from mid row cfa memory before result after → Restores from to row cfa memory before result after
  stops from mid to before Frame after other half = absurd (other refl)
  stops from mid to before (NoBytes a) after other half = half
  stops from mid to before Rare after other half = half

  module _ (bytes old new : List ℕ) where
    pub all_restored : Restores 0 17 row cfa memory old Frame new → AreRestored 17 (lent_row bytes row) cfa old memory new
    all_restored all = (all bytes old (λ r below. absurd (omega (arith, below))) (λ r le. refl)).0

    pub first_lacks : (a : ℕ) → Restores 0 17 row cfa memory old (NoBytes a) new → FailsFirst (lent_row bytes row) cfa old memory (record { address = a })
    first_lacks a all = all bytes old (λ r below. absurd (omega (arith, below))) (λ r le. refl)
