-- The numbers that stand in records of `.eh_frame`, after the LSB (5.0, DWARF Extensions) and DWARF
-- 5, section 6.4.1. The letters of an augmentation are told by their ASCII codes.
use Rattle.std.specs.Prelude.{ℕ}

-- ---- lengths and ids

-- a length in whose place eight more bytes hold it
abbrev pub extended_length : ℕ
extended_length = 0xffffffff

-- the length that ends a section
abbrev pub end_length : ℕ
end_length = 0

-- the id of a CIE
abbrev pub cie_id : ℕ
cie_id = 0

-- ---- versions of a CIE

-- the return address's column is a byte
abbrev pub cie_version_of_dwarf_2 : ℕ
cie_version_of_dwarf_2 = 1

-- it is an unsigned LEB128 number
abbrev pub cie_version_of_dwarf_3 : ℕ
cie_version_of_dwarf_3 = 3

-- ---- letters of an augmentation

-- z: there is augmentation data
abbrev pub data_letter : ℕ
data_letter = 0x7a

-- L: it has the encoding of LSDA pointers
abbrev pub lsda_letter : ℕ
lsda_letter = 0x4c

-- P: it has the personality
abbrev pub personality_letter : ℕ
personality_letter = 0x50

-- R: it has the encoding of code addresses
abbrev pub code_letter : ℕ
code_letter = 0x52

-- S: the frame is a signal's
abbrev pub signal_letter : ℕ
signal_letter = 0x53
