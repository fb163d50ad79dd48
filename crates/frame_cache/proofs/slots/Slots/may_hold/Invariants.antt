use Rattle.std.proofs.Common.{◌≡◌, ℕ, ◌<◌, false}
use Rattle.reg_model.specs.SpanData.{contains}
use Rattle.frame_cache.specs.Recent.{in_slot}
use Rattle.frame_cache.proofs.slots.Slots.may_hold.Given as goal

-- no member so far contains the address, where none of them is near it
abbrev pub invariant-loop-slot : goal.invariant-loop-slot
invariant-loop-slot l = l.near ≡ false → (i : ℕ) → i < l.slot → contains (in_slot l.self i).span l.pc ≡ false
