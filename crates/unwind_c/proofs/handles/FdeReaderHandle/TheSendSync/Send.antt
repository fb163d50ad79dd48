-- A handle may go to another thread, since what it leads to may.
use denote.Struct.Owning.{to}
use denote.Param.Send.{IsSend, owning_send}
use Rattle.c_handle.proofs.HandleSteps.Crossing.{pointer_sends, owned, leaves}
use Rattle.fde_reader.specs.contracts.reader.FdeReader as FdeReader
use Rattle.fde_reader.proofs.reader.FdeReader.TheSendSync.{the_send as reader}
use Rattle.unwind_c.specs.contracts.handles.FdeReaderHandle.{the_row, the_type}

pub send : IsSend the_row
send = owning_send the_type pointer_sends (λ d. owned FdeReader.the_row reader d.at d.held) (leaves (to the_type))
