-- The handles, as c_handle speaks of one.
use mathlib.Core.Path.{refl}
use Rattle.c_handle.proofs.HandleSteps.Form.{HandleType, handles_to}
use Rattle.fde_reader.specs.contracts.reader.FdeReader as FdeReader
use Rattle.fde_reader.proofs.reader.FdeReader.TheLaws as reader
use Rattle.fde_writer.specs.contracts.writer.FdeWriter as FdeWriter
use Rattle.fde_writer.proofs.writer.FdeWriter.TheLaws as writer
use Rattle.unwind_c.specs.contracts.handles.FdeReaderHandle as FdeReaderHandle
use Rattle.unwind_c.specs.contracts.handles.FdeWriterHandle as FdeWriterHandle

abbrev pub fde_reader_handle : HandleType
fde_reader_handle = handles_to FdeReader.the_row reader.the_row_laws FdeReaderHandle.the_type (λ h. (h.at, h.held)) (λ at held. record { at = at; held = held }) (λ at held. refl)

abbrev pub fde_writer_handle : HandleType
fde_writer_handle = handles_to FdeWriter.the_row writer.the_row_laws FdeWriterHandle.the_type (λ h. (h.at, h.held)) (λ at held. record { at = at; held = held }) (λ at held. refl)
