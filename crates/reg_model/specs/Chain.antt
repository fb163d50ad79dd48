-- Calls one after another.
use Rattle.std.specs.Prelude.{◌≡◌, ℕ, ◌+◌, ◌≤◌, List, [], ◌∷◌, ◌&&◌, nat_le, count_by, is_some}
use Rattle.std.specs.Prelude.{if◌then◌else◌}
use Rattle.std.specs.List.{flat_map, AllByRecursion}
use Rattle.reg_model.specs.State.{State}
use Rattle.reg_model.specs.Receipt.{moment, accepted, made, Holds, AreInOrder}
use Rattle.reg_model.specs.Numbers.{has_number}
use Rattle.reg_model.specs.PlainRegistryData.{PlainRegistryData, Step}
use Rattle.reg_model.specs.declared.answer.Inserted.TheVariants as inserted
use Rattle.reg_model.specs.declared.answer.Update.{Update}
use Rattle.reg_model.specs.declared.answer.Receipt.{Receipt}
use Rattle.reg_model.specs.declared.answer.Receipt.TheVariants.{Register}

-- from one state to another by calls with these receipts, one after another; `step` says what one
-- call does
abbrev pub Chain : {S : Type 0} → (S → Receipt → S → Type 0) → S → List Receipt → S → Type 0
Chain step old [] new = new ≡ old
Chain {S} step old (r ∷ receipts) new = (mid : S) × step old r mid × Chain step mid receipts new

-- the answer doesn't say that a tree is full
abbrev pub HasRoom : Receipt → Type 0
HasRoom (Register member (inserted.Full stamp)) = ⊥
HasRoom _ = Unit {0}

-- a call of the registry over plain lists, which have room
pub record PlainStep (old : PlainRegistryData) (r : Receipt)
    (new : PlainRegistryData) : Type 0 where
  pub step : Step old r new
  pub room : HasRoom r

-- the updates that the receipts accepted, in order, and how many
abbrev pub all_made : List Receipt → List Update
all_made receipts = flat_map made receipts

abbrev pub made_count : List Receipt → ℕ
made_count receipts = count_by (λ r. is_some (accepted r)) receipts

-- the receipt holds however many nodes and callers there are, and whatever came before it on its
-- list
pub record HoldsAlways (start : State) (history : List Update) (r : Receipt) : Type 0 where
  pub always : (nodes callers since : ℕ) → Holds start history nodes callers since r

-- the stamp or number is between the updates before and those after
abbrev pub IsBetween : ℕ → ℕ → Receipt → Type 0
IsBetween low high r = (low ≤ moment r) × (moment r ≤ high)

-- Along a chain stamps and numbers rise, and the numbers are those of its updates, each once.
pub record Rises (old : PlainRegistryData) (receipts : List Receipt)
    (new : PlainRegistryData) : Type 0 where
  pub count : new.updates ≡ old.updates + made_count receipts
  pub between : AllByRecursion (IsBetween old.updates new.updates) receipts
  pub order : (since : ℕ) → since ≤ old.updates → AreInOrder since receipts
  pub numbers : (number : ℕ)
      → count_by (has_number number) receipts
      ≡ (if (nat_le (old.updates + 1) number && nat_le number new.updates) then 1 else 0)
