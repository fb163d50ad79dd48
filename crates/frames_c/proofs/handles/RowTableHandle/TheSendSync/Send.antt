-- A handle may go to another thread, since what it leads to may.
use denote.Struct.Owning.{to}
use denote.Param.Send.{IsSend, owning_send}
use Rattle.c_handle.proofs.HandleSteps.Crossing.{pointer_sends, owned, leaves}
use Rattle.c_handle.specs.contracts.shared.Shared as Shared
use Rattle.c_handle.proofs.shared.Shared.TheSendSync.{the_send as share}
use Rattle.frames_c.specs.contracts.row_share.RowsOfSection as RowsOfSection
use Rattle.frames_c.proofs.row_share.RowsOfSection.TheSendSync.{the_send, the_sync}
use Rattle.frames_c.specs.contracts.handles.RowTableHandle.{the_row, the_type}

pub send : IsSend the_row
send = owning_send the_type pointer_sends (λ d. owned (Shared.the_row RowsOfSection.the_row) (share RowsOfSection.the_row the_send the_sync) d.at d.held) (leaves (to the_type))
