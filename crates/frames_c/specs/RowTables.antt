-- What comes of making a row table, as C is told.
use Rattle.std.specs.Prelude.{◌≡◌, ◌⊎◌, ℕ, Option}
use Rattle.row_table.specs.Tables.{HasTooManyRows}
use Rattle.row_table.specs.declared.fault.TableFault.{TableFault}
use Rattle.row_table.specs.declared.fault.TableFault.TheVariants.{NoMemory, TooManyRows}
use Rattle.c_handle.specs.Handles.{LeadsNowhere}
use Rattle.frames_c.specs.Held.{LoadedData, held_section}

-- why there is no table
abbrev pub table_fault_told : TableFault → ℕ
table_fault_told NoMemory = 1
table_fault_told TooManyRows = 2

-- 0: there is a table of the section's rows; 1: memory ran out; 2: too many of them differ
abbrev pub AnswersRowTable : Option LoadedData → ℕ → Option LoadedData → Type 0
AnswersRowTable section result made =
    ((result ≡ 0) × (made ≡ section))
    ⊎ ((result ≡ 1) × LeadsNowhere made)
    ⊎ ((result ≡ 2) × LeadsNowhere made × HasTooManyRows (held_section section))
