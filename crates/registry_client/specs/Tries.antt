-- Update calls of a client that are tried until they are answered.
use Rattle.std.specs.Prelude.{◌≡◌, ◌-◌, ◌<◌, ◌≤◌, ◌⊎◌, ◌&&◌, Bool, true, false, MatchBool, nat_le}
use Rattle.std.specs.Prelude.{if◌then◌else◌}
use Rattle.word_rule.specs.CallerData.{CallerData, surplus}
use Rattle.word_rule.specs.Places.{CALL_CREDIT}
use Rattle.version_locks.specs.declared.locking.Busy.{Busy}
use Rattle.version_locks.specs.declared.locking.Busy.TheVariants as busy
use Rattle.registry_client.specs.Clients.{ClientData}

-- whether a call is begun, and the releases that it may make are to spare
abbrev pub is_provided : ClientData → Bool
is_provided c = c.begun && nat_le CALL_CREDIT (surplus c.me)

-- whether a try that gave up lost a node
abbrev pub is_lost : Busy → Bool
is_lost (busy.Taken id) = false
is_lost busy.Raced = false
is_lost busy.Lost = true

-- No node was lost; and such a call is begun, or one is left, which has releases of its own.
abbrev pub MayTry : ClientData → Type 0
MayTry c = (c.lost ≡ false) × MatchBool (is_provided c) (Unit {0}) (0 < c.me.left)

-- The caller once such a call is begun. Where one was begun that has used up its releases, the one
-- that is begun takes its place.
abbrev pub begun_caller : ClientData → CallerData
begun_caller c = if is_provided c then c.me else record c.me { left = c.me.left - 1 }

-- A call was begun, unless one was that may be tried, and may be tried.
pub record Begins (c c' : ClientData) : Type 0 where
  pub may : MayTry c
  pub spare : CALL_CREDIT ≤ surplus c'.me
  pub begun : c' ≡ record c { me = begun_caller c; begun = true }

-- A call that is begun was tried, and this was made of the caller. It is still begun, or was
-- answered; and a node was lost or none was.
pub record TriesCall (step : CallerData → CallerData → Type 0) (begun lost : Bool)
    (c c' : ClientData) : Type 0 where
  pub may : MayTry c
  pub stepped : step (begun_caller c) c'.me
  pub words : c'.words ≡ c.words
  pub registered : c'.registered ≡ c.registered
  pub loaded : c'.loaded ≡ c.loaded
  pub name : c'.name ≡ c.name
  pub begun_now : c'.begun ≡ begun
  pub lost_now : c'.lost ≡ lost

-- A node was lost; or no call is left, and none that may be tried is begun. Nothing was done.
abbrev pub IsSpent : ClientData → ClientData → Type 0
IsSpent c c' =
    ((c.lost ≡ true) ⊎ ((c.me.left ≡ 0) × (is_provided c ≡ false))) × (c' ≡ c)
