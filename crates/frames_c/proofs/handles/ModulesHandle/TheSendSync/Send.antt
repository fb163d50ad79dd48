-- A handle may go to another thread, since what it leads to may.
use denote.Struct.Owning.{to}
use denote.Param.Send.{IsSend, owning_send}
use Rattle.c_handle.proofs.HandleSteps.Crossing.{pointer_sends, owned, leaves}
use Rattle.frames_c.specs.contracts.modules.LoadedModules as LoadedModules
use Rattle.frames_c.proofs.modules.LoadedModules.TheSendSync.{the_send as modules}
use Rattle.frames_c.specs.contracts.handles.ModulesHandle.{the_row, the_type}

pub send : IsSend the_row
send = owning_send the_type pointer_sends (λ d. owned LoadedModules.the_row modules d.at d.held) (leaves (to the_type))
