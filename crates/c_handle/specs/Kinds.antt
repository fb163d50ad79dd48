-- The kinds of what a lookup of both halves answers, as C is told them.
use Rattle.std.specs.Prelude.{ℕ}

-- no half has the address, the registered one or the loaded one, or it is to be asked again
abbrev pub NOWHERE : ℕ
NOWHERE = 0

abbrev pub REGISTERED : ℕ
REGISTERED = 1

abbrev pub LOADED : ℕ
LOADED = 2

abbrev pub FIND_AGAIN : ℕ
FIND_AGAIN = 3
