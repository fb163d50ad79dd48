-- The numbers of the encodings of pointers, by the names that the LSB gives them (LSB 5.0, DWARF
-- Extensions, exception header encoding); indirect is of GCC's unwind-pe.h. An encoding is a
-- format, to which what is added stands beside it, or omit.
use Rattle.std.specs.Prelude.{ℕ}

-- ---- the formats, in the low four bits

-- eight bytes
abbrev pub DW_EH_PE_absptr : ℕ
DW_EH_PE_absptr = 0x00

-- an unsigned LEB128 number
abbrev pub DW_EH_PE_uleb128 : ℕ
DW_EH_PE_uleb128 = 0x01

-- two, four and eight bytes
abbrev pub DW_EH_PE_udata2 : ℕ
DW_EH_PE_udata2 = 0x02

abbrev pub DW_EH_PE_udata4 : ℕ
DW_EH_PE_udata4 = 0x03

abbrev pub DW_EH_PE_udata8 : ℕ
DW_EH_PE_udata8 = 0x04

-- a signed LEB128 number
abbrev pub DW_EH_PE_sleb128 : ℕ
DW_EH_PE_sleb128 = 0x09

-- two, four and eight bytes with a sign
abbrev pub DW_EH_PE_sdata2 : ℕ
DW_EH_PE_sdata2 = 0x0a

abbrev pub DW_EH_PE_sdata4 : ℕ
DW_EH_PE_sdata4 = 0x0b

abbrev pub DW_EH_PE_sdata8 : ℕ
DW_EH_PE_sdata8 = 0x0c

-- ---- what is added, in bits 4 to 6

-- the address of the pointer's first byte
abbrev pub DW_EH_PE_pcrel : ℕ
DW_EH_PE_pcrel = 0x10

-- the beginning of the data
abbrev pub DW_EH_PE_datarel : ℕ
DW_EH_PE_datarel = 0x30

-- ---- the others

-- what is read is the address of the pointer
abbrev pub DW_EH_PE_indirect : ℕ
DW_EH_PE_indirect = 0x80

-- there is no pointer
abbrev pub DW_EH_PE_omit : ℕ
DW_EH_PE_omit = 0xff
