-- The kinds of answers, as C is told them; c_handle has those of a lookup in both halves.
use Rattle.std.specs.Prelude.{ℕ}

-- of an update
abbrev pub DONE : ℕ
DONE = 0

abbrev pub OVERLAP : ℕ
OVERLAP = 1

abbrev pub ABSENT : ℕ
ABSENT = 2

abbrev pub FULL : ℕ
FULL = 3

abbrev pub SPENT : ℕ
SPENT = 4

abbrev pub BUSY : ℕ
BUSY = 5

abbrev pub NO_MEMBER : ℕ
NO_MEMBER = 6

abbrev pub NO_PAYLOAD : ℕ
NO_PAYLOAD = 7

-- of a lookup in one half
abbrev pub MISS : ℕ
MISS = 0

abbrev pub HIT : ℕ
HIT = 1

abbrev pub AGAIN : ℕ
AGAIN = 2
