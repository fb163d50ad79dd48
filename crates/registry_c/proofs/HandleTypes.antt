-- The handles, as c_handle speaks of one.
use mathlib.Core.Path.{refl}
use Rattle.c_handle.proofs.HandleSteps.Form.{HandleType, handles_to}
use Rattle.registry_client.specs.contracts.client.Client as Client
use Rattle.registry_client.proofs.client.Client.TheLaws as client
use Rattle.registry_c.specs.contracts.handles.ClientHandle as ClientHandle
use Rattle.registry_client.specs.contracts.reader.RegistryReader as RegistryReader
use Rattle.registry_client.proofs.reader.RegistryReader.TheLaws as reader
use Rattle.registry_c.specs.contracts.handles.ReaderHandle as ReaderHandle

abbrev pub client_handle : HandleType
client_handle = handles_to Client.the_row client.the_row_laws ClientHandle.the_type (λ h. (h.at, h.held)) (λ at held. record { at = at; held = held }) (λ at held. refl)

abbrev pub reader_handle : HandleType
reader_handle = handles_to RegistryReader.the_row reader.the_row_laws ReaderHandle.the_type (λ h. (h.at, h.held)) (λ at held. record { at = at; held = held }) (λ at held. refl)
