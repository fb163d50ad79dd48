-- A handle may go to another thread, since what it leads to may.
use denote.Struct.Owning.{to}
use denote.Param.Send.{IsSend, owning_send}
use Rattle.c_handle.proofs.HandleSteps.Crossing.{pointer_sends, owned, leaves}
use Rattle.registry_client.specs.contracts.client.Client as Client
use Rattle.registry_client.proofs.client.Client.TheSendSync.{the_send as client}
use Rattle.registry_c.specs.contracts.handles.ClientHandle.{the_row, the_type}

pub send : IsSend the_row
send = owning_send the_type pointer_sends (λ d. owned Client.the_row client d.at d.held) (leaves (to the_type))
