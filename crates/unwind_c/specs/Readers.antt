-- Readers that come and go.
use Rattle.std.specs.Prelude.{◌≡◌, Bool, true, false, Option, Some, None}
use Rattle.fde_reader.specs.Readers.{FdeReaderData}
use Rattle.word_rule.specs.Logs.{reader_of}

-- a reader that has seen what another one has
abbrev pub fde_reader_again : FdeReaderData → FdeReaderData
fde_reader_again r = record r {
  me = record { table = r.me.table; left = 0; log = reader_of r.me.log };
}

-- the handle of a reader that was made, or nothing
abbrev pub HoldsFdeReader : Bool → FdeReaderData → Option FdeReaderData → Type 0
HoldsFdeReader true r held = held ≡ Some r
HoldsFdeReader false r held = held ≡ None

-- Another reader was made, and the first stays as it was; or memory ran out.
abbrev pub MakesFdeReaderAgain : Bool → Option FdeReaderData → FdeReaderData → FdeReaderData
    → Type 0
MakesFdeReaderAgain made held r r' = (r' ≡ r) × HoldsFdeReader made (fde_reader_again r) held
