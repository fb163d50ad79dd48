-- What this crate sees of its recent members.
use Rattle.std.specs.Prelude.{◌≡◌, ℕ, ◌≤◌, List, length}
use Rattle.reg_model.specs.declared.span.Member.{Member}
use Rattle.frame_cache.specs.Order.{AreSlots}

-- their stamp, the member in each slot, the slots in their order, and how many of them are used
pub record RecentData : Type 0 where
  pub stamp : ℕ
  pub members : List Member
  pub slots : List ℕ
  pub used : ℕ

-- the most recent entries by their parts
abbrev pub recent : ℕ → List Member → List ℕ → ℕ → RecentData
recent stamp members slots used =
    record { stamp = stamp; members = members; slots = slots; used = used }

-- each slot has a member, and stands in the order once
pub record IsRecent (r : RecentData) : Type 0 where
  pub slots : AreSlots r.slots
  pub members : length r.members ≡ 8
  pub used : r.used ≤ 8
