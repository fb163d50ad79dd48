-- A handle may go to another thread, since what it leads to may.
use denote.Struct.Owning.{to}
use denote.Param.Send.{IsSend, owning_send}
use Rattle.c_handle.proofs.HandleSteps.Crossing.{pointer_sends, owned, leaves}
use Rattle.registry_client.specs.contracts.reader.RegistryReader as RegistryReader
use Rattle.registry_client.proofs.reader.RegistryReader.TheSendSync.{the_send as reader}
use Rattle.registry_c.specs.contracts.handles.ReaderHandle.{the_row, the_type}

pub send : IsSend the_row
send = owning_send the_type pointer_sends (λ d. owned RegistryReader.the_row reader d.at d.held) (leaves (to the_type))
