-- Lookups of a reader, and what C is told of them.
use Rattle.std.specs.Prelude.{◌≡◌, ℕ, ◌+◌, ◌-◌, Result, Ok, Err, IfOk, IfErr}
use Rattle.c_handle.specs.Kinds.{NOWHERE, REGISTERED, LOADED, FIND_AGAIN}
use Rattle.fde_reader.specs.Readers.{FdeReaderData, FindsAgain, FindsFde}
use Rattle.fde_reader.specs.declared.reader.FdeFound.{FdeFound}
use Rattle.fde_reader.specs.declared.reader.FdeFound.TheVariants.{Hit, Miss}
use Rattle.reg_model.specs.SpanData.{SpanData}
use Rattle.reg_model.specs.declared.answer.Again.{Again}
use Rattle.reg_model.specs.declared.answer.Half.{Half}
use Rattle.reg_model.specs.declared.answer.Half.TheVariants.{Loaded, Registered}
use Rattle.unwind_c.specs.declared.found.UnwindFound.{UnwindFound}

-- An address was looked up, once in each half that was asked. Nothing of the reader changed but
-- what it has seen.
pub record FindsFdeOnce (pc : ℕ) (r r' : FdeReaderData) (result : Result FdeFound Again) : Type 0
  where
    pub found : IfOk result (FindsFde r.words.terms r.low pc r.me r'.me)
    pub again : IfErr result (FindsAgain r.words.terms pc r.me r'.me)
    pub same : r' ≡ record r { me = r'.me }

-- none, with the stamps of both halves where they were answered
abbrev pub no_fde_told : ℕ → ℕ → ℕ → UnwindFound
no_fde_told kind registered loaded = record {
  kind = kind;
  registered = registered;
  loaded = loaded;
  first = 0;
  size = 0;
  fde = 0;
}

-- the half that answered, at its stamp
abbrev pub half_told : Half → ℕ → UnwindFound
half_told Registered stamp = no_fde_told REGISTERED stamp 0
half_told Loaded stamp = no_fde_told LOADED 0 stamp

-- an FDE that was found in one half: the half and its stamp, its addresses, and its own address
abbrev pub fde_hit_told : Half → ℕ → SpanData → ℕ → UnwindFound
fde_hit_told half stamp span fde = record (half_told half stamp) {
  first = span.first;
  size = span.last - span.first + 1;
  fde = fde;
}

abbrev pub found_fde_told : Result FdeFound Again → UnwindFound
found_fde_told (Ok (Hit half stamp span fde)) = fde_hit_told half stamp span fde
found_fde_told (Ok (Miss registered loaded)) = no_fde_told NOWHERE registered loaded
found_fde_told (Err again) = no_fde_told FIND_AGAIN 0 0

-- An address was looked up, which is told so.
abbrev pub TellsFde : ℕ → UnwindFound → FdeReaderData → FdeReaderData → Type 0
TellsFde pc told r r' = (result : Result FdeFound Again)
    × (FindsFdeOnce pc r r' result × (told ≡ found_fde_told result))
