-- The cause of a Full, by the loads of some steps: it stays so where more is loaded.
use Rattle.std.proofs.Common.{ℕ, length, sym, subst, ◌≡◌}
use Rattle.reg_model.specs.declared.answer.Inserted.{Inserted}
use Rattle.word_rule.specs.CallerData.{CallerData}
use Rattle.word_rule.specs.TreeRefusals.{HadNoRoom}
use Rattle.tree_descent.specs.Loads.{FoundNoRoom, KeepsLoads}
use Rattle.tree_descent.proofs.Loading.{keeps_then, keeps_all}
use Rattle.tree_descent.specs.Insertion.{IfFull}
use Rattle.node_split.proofs.NoRoom.{earlier_loads, no_room_after, no_room_still}
use Rattle.node_split.specs.declared.split.Room.{Room}
use Rattle.btree_change.specs.Stands.{HasCause, IfNoneFree}
use Rattle.node_split.specs.declared.split.Room.TheVariants as room
use Rattle.reg_model.specs.declared.answer.Inserted.TheVariants as inserted

-- it is among all loads then
pub no_room_now : (base : ℕ) (k k' : CallerData) → FoundNoRoom base k k' → HadNoRoom base (length k.log.receipts.own) k'.log.trace.loads
no_room_now base k k' f = subst (HadNoRoom base (length k.log.receipts.own)) (sym f.loads) (earlier_loads base (length k.log.receipts.own) k.log.trace.loads f.more f.no_room)

-- what was found in these steps is a cause, however nodes were split before
pub found_cause : (way : Room) (base : ℕ) (k k' : CallerData) → FoundNoRoom base k k' → HasCause way base k k'
found_cause room.Splitting base k k' f = f
found_cause room.NoneFree base k k' f = (f.more, f.loads)

pub cause_after : (way : Room) (base : ℕ) (k l m : CallerData) → l.log.receipts.own ≡ k.log.receipts.own → KeepsLoads k l → HasCause way base l m → HasCause way base k m
cause_after room.Splitting base k l m own kept c = no_room_after base k l m own kept c
cause_after room.NoneFree base k l m own kept c = keeps_then k l m kept c

pub cause_still : (way : Room) (base : ℕ) (k l m : CallerData) → HasCause way base k l → KeepsLoads l m → HasCause way base k m
cause_still room.Splitting base k l m c kept = no_room_still base k l m c kept
cause_still room.NoneFree base k l m c kept = keeps_then k l m c kept

-- where nothing was done, the way is as it was
pub same_cause : (way : Room) (base : ℕ) (k : CallerData) → IfNoneFree way (HasCause way base k k)
same_cause room.Splitting base k = tt
same_cause room.NoneFree base k = keeps_all k

-- The way down may lose its room by a part, and the next part say Full.
pub cause_below : (way next : Room) (base : ℕ) (k l m : CallerData) → l.log.receipts.own ≡ k.log.receipts.own → KeepsLoads k l → IfNoneFree next (HasCause way base k l) → HasCause next base l m → HasCause way base k m
cause_below way room.Splitting base k l m own kept lost c = found_cause way base k m (no_room_after base k l m own kept c)
cause_below way room.NoneFree base k l m own kept lost c = cause_still way base k l m lost c

-- what a Full has, whatever the answer is
pub any_full : {P : Type 0} (answer : Inserted) → P → IfFull answer P
any_full (inserted.Done number) p = tt
any_full (inserted.Overlap other stamp) p = tt
any_full (inserted.Full stamp) p = p
any_full inserted.Spent p = tt

pub if_full : {P Q : Type 0} (answer : Inserted) → (P → Q) → IfFull answer P → IfFull answer Q
if_full (inserted.Done number) f p = tt
if_full (inserted.Overlap other stamp) f p = tt
if_full (inserted.Full stamp) f p = f p
if_full inserted.Spent f p = tt
