-- What the frequent rules of a row make of registers.
use Rattle.std.specs.Prelude.{◌≡◌, ℕ, ◌≤◌, List, slice_index}
use Rattle.frame_expr.specs.Regions.{RegionData}
use Rattle.frame_expr.specs.declared.regs.Regs.{Regs}
use Rattle.frame_rows.specs.Rules.{RowData, lent_row}
use Rattle.frame_rows.specs.declared.placed_row.PlacedRow.{PlacedRow}
use Rattle.unwind_step.specs.NextFrame.{AreRestored, FailsFirst, IsFrame, LacksBytes}
use Rattle.row_table.specs.declared.following.Followed.{Followed}
use Rattle.row_table.specs.declared.following.Followed.TheVariants.{Frame, NoBytes, Rare}

-- from a column on they are the old ones
abbrev pub SameFrom : ℕ → List ℕ → List ℕ → Type 0
SameFrom from old now = (r : ℕ) → from ≤ r → slice_index now r ≡ slice_index old r

-- The columns below one are restored, and the others are the old ones. Or one can't be; or it has
-- another rule, of which nothing is said.
abbrev pub RestoresTo : ℕ → RowData → ℕ → List ℕ → List RegionData → Followed → List ℕ → Type 0
RestoresTo to row cfa old memory Frame now =
    AreRestored to row cfa old memory now × SameFrom to old now
RestoresTo to row cfa old memory (NoBytes a) now =
    FailsFirst row cfa old memory (record { address = a })
RestoresTo to row cfa old memory Rare now = Unit {0}

-- from one column up to another, whatever the old registers are
abbrev pub Restores : ℕ → ℕ → PlacedRow → ℕ → List RegionData → List ℕ → Followed → List ℕ
    → Type 0
Restores from to row cfa memory before result after = (bytes old : List ℕ)
    → AreRestored from (lent_row bytes row) cfa old memory before → SameFrom from old before
    → RestoresTo to (lent_row bytes row) cfa old memory result after

-- They become those of the frame before. Or they stay: bytes that it needs aren't there, or a rule
-- is another one, of which nothing is said.
abbrev pub FollowsRow : RowData → List RegionData → Regs → Followed → Regs → Type 0
FollowsRow row memory old Frame new = IsFrame row old.columns memory new.columns
FollowsRow row memory old (NoBytes a) new =
    (new ≡ old) × LacksBytes row old.columns memory (record { address = a })
FollowsRow row memory old Rare new = new ≡ old
