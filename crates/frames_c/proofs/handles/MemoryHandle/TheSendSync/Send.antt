-- A handle may go to another thread, since what it leads to may.
use denote.Struct.Owning.{to}
use denote.Param.Send.{IsSend, owning_send}
use Rattle.c_handle.proofs.HandleSteps.Crossing.{pointer_sends, owned, leaves}
use Rattle.frame_expr.specs.contracts.memory.Memory as Memory
use Rattle.frame_expr.proofs.memory.Memory.TheSendSync.{the_send as memory}
use Rattle.frames_c.specs.contracts.handles.MemoryHandle.{the_row, the_type}

pub send : IsSend the_row
send = owning_send the_type pointer_sends (λ d. owned Memory.the_row memory d.at d.held) (leaves (to the_type))
