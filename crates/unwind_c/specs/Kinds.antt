-- The kinds of answers, as C is told them; c_handle has those of a lookup.
use Rattle.std.specs.Prelude.{ℕ}

-- of a call that registers a section, gives one up or moves one
abbrev pub SECTION_DONE : ℕ
SECTION_DONE = 0

abbrev pub SECTION_REFUSED : ℕ
SECTION_REFUSED = 1

abbrev pub SECTION_FAR : ℕ
SECTION_FAR = 2

abbrev pub SECTION_SPENT : ℕ
SECTION_SPENT = 3

abbrev pub SECTION_NO_MEMORY : ℕ
SECTION_NO_MEMORY = 4

abbrev pub SECTION_OVERLAP : ℕ
SECTION_OVERLAP = 5

abbrev pub SECTION_FULL : ℕ
SECTION_FULL = 6

abbrev pub SECTION_STUCK : ℕ
SECTION_STUCK = 7

abbrev pub SECTION_UNKNOWN : ℕ
SECTION_UNKNOWN = 8

abbrev pub SECTION_LEFT : ℕ
SECTION_LEFT = 9

abbrev pub SECTION_INTO_STUCK : ℕ
SECTION_INTO_STUCK = 10
