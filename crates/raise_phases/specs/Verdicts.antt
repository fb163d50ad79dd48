-- The verdict of a table of call sites on an address: whether the exception goes on to the caller,
-- is caught here, or may not pass.
use Rattle.std.specs.Prelude.{◌≡◌, ℕ, ◌+◌, ◌-◌, ◌%◌, ◌^◌, ◌⊎◌, pos, List, ◌++◌, length, Option}
use Rattle.std.specs.Prelude.{Some, None, Result, Ok, Err, ◌==◌, if◌then◌else◌}
use Rattle.eh_bytes.specs.Grammar.{Part, ◌>>=◌, here, given}
use Rattle.raise_phases.specs.declared.fault.LsdaFault.{LsdaFault}
use Rattle.raise_phases.specs.declared.call_sites.CallSite.{CallSite}
use Rattle.raise_phases.specs.declared.outcome.Verdict.{Verdict}
use Rattle.raise_phases.specs.declared.outcome.Verdict.TheVariants.{Terminate, Continue, Cleanup}
use Rattle.raise_phases.specs.CallSites.{table_header, sized_sites}
use Rattle.raise_phases.specs.Actions.{ActionsData, place_among, chain_verdict, read_from}

-- how many records of a chain are read
abbrev pub most_records : ℕ
most_records = 255

-- the chain that begins with record a, counted from 1 and in bytes from the place of the actions
abbrev pub verdict_by_action : ActionsData → ℕ → ℕ → CallSite → Result Verdict LsdaFault
verdict_by_action a actions pad s =
    if s.action == 0 then Ok (Cleanup pad)
    else chain_verdict a pad most_records s.action_at
    (place_among (length a.bytes) (pos (actions + (s.action - 1)))) Continue

-- The verdict of the call site that counts: without one nothing may pass here, and where its pad is
-- 0 there is nothing to do.
unfoldable pub site_verdict : ActionsData → ℕ → ℕ → Option CallSite → Result Verdict LsdaFault
site_verdict a start actions None = Ok Terminate
site_verdict a start actions (Some s) =
    if s.pad == 0 then Ok Continue
    else verdict_by_action a actions ((start + s.pad) % 2 ^ 64) s

-- a table at an address, of a function that starts at `first`, asked for an address and a kind
unfoldable pub call_site_table : ℕ → ℕ → List ℕ → ℕ → ℕ → Part LsdaFault Verdict
call_site_table first address bytes look kind = do
  h ← table_header first address
  s ← sized_sites (look - first) h
  actions ← here
  given (site_verdict (record { address = address; bytes = bytes; types = h.types; kind = kind })
      h.pad_start actions s)

-- ---- the answer

-- what the bytes say
abbrev pub verdict_of : ℕ → ℕ → List ℕ → ℕ → ℕ → Result Verdict LsdaFault
verdict_of first address bytes look kind =
    read_from (call_site_table first address bytes look kind) bytes 0

-- the bytes begin with a table that gives this verdict
unfoldable pub IsVerdict : ℕ → ℕ → List ℕ → ℕ → ℕ → Verdict → Type 0
IsVerdict first address bytes look kind v =
    (front : List ℕ) × (back : List ℕ) × (bytes ≡ front ++ back)
    × (call_site_table first address bytes look kind).Spells 0 front v

-- the first fault, in the order in which the verdict needs the bytes
abbrev pub IsRefusedTable : ℕ → ℕ → List ℕ → ℕ → ℕ → LsdaFault → Type 0
IsRefusedTable first address bytes look kind f =
    (call_site_table first address bytes look kind).Refuses 0 bytes f

-- every list of bytes has one verdict or one first fault, never both
pub record HasOneVerdict (first address : ℕ) (bytes : List ℕ) (look kind : ℕ) : Type 0 where
  pub some : ((v : Verdict) × IsVerdict first address bytes look kind v)
      ⊎ ((f : LsdaFault) × IsRefusedTable first address bytes look kind f)
  pub verdict : (v : Verdict) → IsVerdict first address bytes look kind v
      → verdict_of first address bytes look kind ≡ Ok v
  pub fault : (f : LsdaFault) → IsRefusedTable first address bytes look kind f
      → verdict_of first address bytes look kind ≡ Err f
