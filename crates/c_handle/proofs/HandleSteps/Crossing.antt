-- A handle may go to another thread, where what it leads to may.
--     pointer_sends    its pointer may
--     owned            what it owns names no thread
--     leaves           nor does what is left of one that is used up
use mathlib.Core.List.{[], ◌∷◌}
use mir.Raw.{raw}
use base.Shift.{Keyless}
use denote.Exit.{Kept, hidden, under}
use denote.Memory.{lone}
use denote.RattleType.{RattleType, Denots}
use denote.RawPtr.{Ptr, RawPtr}
use denote.Param.Send.{IsSend, AllSend, Quiet, struct_send, sendable}
use denote.Struct.Struct.{exits_of}
use Rattle.std.specs.Prelude.{Option, Some, None}
use Rattle.std.proofs.Crossing as heap
use Rattle.std_alloc.proofs.SendSync.{lies, quiet}
use Rattle.std_heap.proofs.Handle.{handle}
use Rattle.c_handle.specs.Handles.{handle_owns}
use Rattle.c_handle.proofs.HandleSteps.Form.{shape_of}

pub pointer_sends : AllSend (RawPtr ∷ [])
pointer_sends = search sendable

pub owned : (R : RattleType) → IsSend R → (at : Ptr) (held : Option R.Denot) → Keyless (handle_owns R at held)
owned R s at None = tt
owned R s at (Some x) = (lies R s at x, heap.frees.frees handle (raw (lone R.mir)) at)

pub leaves : {D : Type 0} (to : D → Denots (RawPtr ∷ [])) (k : Kept) → Quiet (hidden (under to (exits_of k (RawPtr ∷ []))))
leaves to k = quiet to (exits_of k (RawPtr ∷ [])) ((struct_send (shape_of []) pointer_sends).leaving k)
