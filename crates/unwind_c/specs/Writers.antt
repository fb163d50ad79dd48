-- Writers, and the readers that are made of them.
use Rattle.std.specs.Prelude.{◌≡◌, Bool, Option}
use Rattle.fde_reader.specs.Readers.{FdeReaderData}
use Rattle.fde_writer.specs.Sections.{FdeWriterData}
use Rattle.word_rule.specs.Logs.{reader_of}
use Rattle.unwind_c.specs.Readers.{HoldsFdeReader}

-- a reader that has seen what a writer has
abbrev pub fde_reader_of : FdeWriterData → FdeReaderData
fde_reader_of u = record {
  words = u.client.words;
  me = record { table = u.client.words.table; left = 0; log = reader_of u.client.me.log };
  low = u.low;
}

-- A reader was made of a writer, which stays as it was; or memory ran out.
abbrev pub MakesFdeReader : Bool → Option FdeReaderData → FdeWriterData → FdeWriterData → Type 0
MakesFdeReader made held u u' = (u' ≡ u) × HoldsFdeReader made (fde_reader_of u) held
