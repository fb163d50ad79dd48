-- The registers of x86-64 by the numbers that DWARF has for them (System V psABI, AMD64, "DWARF
-- Register Number Mapping"): the sixteen general ones, and the return address. Those above, as
-- vector registers, have no columns here.
use Rattle.std.specs.Prelude.{ℕ}

-- the columns 0 to 16
abbrev pub column_count : ℕ
column_count = 17

-- RSP
abbrev pub stack_pointer_column : ℕ
stack_pointer_column = 7

-- RA
abbrev pub return_address_column : ℕ
return_address_column = 16
