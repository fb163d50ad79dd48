-- What stands after the call sites: a list of action records that lead from one to the next, and
-- the types that they name, which are told by their places before an end.
use Rattle.std.specs.Prelude.{ℕ, zero, suc, ◌+◌, ◌-◌, ◌*◌, ◌%◌, ◌^◌, ℤ, pos, negsuc, ◌+ℤ◌, List}
use Rattle.std.specs.Prelude.{length, drop, Bool, true, false, Option, Some, None, Result, Ok, Err}
use Rattle.std.specs.Prelude.{nat_lt, ◌==◌, ◌||◌, if◌then◌else◌}
use Rattle.eh_bytes.specs.PointerEncodings.{DW_EH_PE_udata2, DW_EH_PE_udata4, DW_EH_PE_sdata2}
use Rattle.eh_bytes.specs.PointerEncodings.{DW_EH_PE_sdata4}
use Rattle.eh_bytes.specs.Pointer.{encoded_number, base_of}
use Rattle.eh_bytes.specs.Results.{◌and_then◌, with_fault}
use Rattle.eh_bytes.specs.Fields.{sleb}
use Rattle.eh_bytes.specs.Grammar.{Part, ◌>>=◌, give, here, when, given}
use Rattle.raise_phases.specs.declared.fault.LsdaFault.{LsdaFault}
use Rattle.raise_phases.specs.declared.fault.LsdaFault.TheVariants.{Filter, Chain, TypeEntry}
use Rattle.raise_phases.specs.declared.call_sites.TypeTable.{TypeTable}
use Rattle.raise_phases.specs.declared.actions.ActionRecord.{ActionRecord}
use Rattle.raise_phases.specs.declared.actions.ActionRecord.TheVariants.{Catches, Passes}
use Rattle.raise_phases.specs.declared.outcome.Verdict.{Verdict}
use Rattle.raise_phases.specs.declared.outcome.Verdict.TheVariants.{Cleanup, Handler}
use Rattle.raise_phases.specs.CallSites.{lsda_field}

-- what a part reads from a place of the bytes on
abbrev pub read_from : {F A : Type 0} → Part F A → List ℕ → ℕ → Result A F
read_from g bytes p = g.read (record { bytes = drop p bytes; at = p }) and_then λ x. Ok x.0

-- what decides whether a type catches: the table's address, its bytes and types, and the kind of
-- the exception
pub record ActionsData : Type 0 where
  pub address : ℕ
  pub bytes : List ℕ
  pub types : Option TypeTable
  pub kind : ℕ

-- ---- types

-- how many bytes the number of a type has
abbrev pub type_width : ℕ → ℕ
type_width e =
    if e % 16 == DW_EH_PE_udata2 || e % 16 == DW_EH_PE_sdata2 then 2
    else (if e % 16 == DW_EH_PE_udata4 || e % 16 == DW_EH_PE_sdata4 then 4 else 8)

-- the place so far from the front of n bytes, where it is one of theirs
abbrev pub place_among : ℕ → ℤ → Option ℕ
place_among n (pos p) = if nat_lt p n then Some p else None
place_among n (negsuc p) = None

-- the place of type i among n bytes, which stands i entries before the end
abbrev pub type_place : ℕ → TypeTable → ℕ → Option ℕ
type_place n t i = if nat_lt t.end (i * type_width t.encoding) then None
    else place_among n (pos (t.end - i * type_width t.encoding))

-- A type of number 0 catches everything. Another one catches the kind that is its number after
-- what the encoding adds. An indirect type keeps the address of its pointer.
abbrev pub type_catches : ℕ → ℕ → ℕ → ℕ → ℕ → Bool
type_catches e address p number kind =
    number == 0 || (number + base_of e address p) % 2 ^ 64 == kind

-- the type at a place catches; it has to stand in the bytes wholly
abbrev pub catches_at : ActionsData → LsdaFault → TypeTable → Option ℕ → Result Bool LsdaFault
catches_at a outside t None = Err outside
catches_at a outside t (Some p) =
    with_fault (λ f. outside) (read_from (encoded_number t.encoding) a.bytes p) and_then λ number.
    Ok (type_catches t.encoding a.address p number a.kind)

-- type i of the table catches, which is named by the filter at this place
unfoldable pub type_of_table : ActionsData → ℕ → ℕ → Option TypeTable → Result Bool LsdaFault
type_of_table a at i None = Err (TypeEntry at)
type_of_table a at i (Some t) = catches_at a (TypeEntry at) t (type_place (length a.bytes) t i)

-- a filter names a type, but for 0, which catches nothing
abbrev pub filter_catches : ActionsData → ℕ → ℕ → Result Bool LsdaFault
filter_catches a at i = if i == 0 then Ok false else type_of_table a at i a.types

-- ---- records

-- a filter below 0 is a list of exceptions that may pass, which isn't read
abbrev pub accepted_filter : ℕ → ℤ → Result ℕ LsdaFault
accepted_filter at (pos i) = Ok i
accepted_filter at (negsuc n) = Err (Filter at)

-- a record that doesn't catch leads on from its displacement
unfoldable pub passing : ℕ → Part LsdaFault ActionRecord
passing i = do
  at ← here
  d ← lsda_field sleb
  give (Passes i at d)

-- a filter, and a displacement, which isn't read where the filter's type catches
unfoldable pub action_record : ActionsData → Part LsdaFault ActionRecord
action_record a = do
  at ← here
  filter ← lsda_field sleb
  i ← given (accepted_filter at filter)
  catches ← given (filter_catches a at i)
  when catches (give (Catches i)) (passing i)

-- ---- chains

-- a filter 0 asks for the cleanup at the pad, where nothing after it catches
abbrev pub after_filter : ℕ → ℕ → Verdict → Verdict
after_filter pad i otherwise = if i == 0 then Cleanup pad else otherwise

-- a displacement leads to another record, but for 0
abbrev pub leads_on : ℤ → Bool
leads_on (pos zero) = false
leads_on (pos (suc n)) = true
leads_on (negsuc n) = true

-- what a record says, and else what the chain from the next place on says
abbrev pub by_record : ActionsData → ℕ → Verdict → (Option ℕ → Verdict → Result Verdict LsdaFault)
    → ActionRecord → Result Verdict LsdaFault
by_record a pad otherwise onward (Catches i) = Ok (Handler pad i)
by_record a pad otherwise onward (Passes i at d) =
    if leads_on d
    then onward (place_among (length a.bytes) (pos at +ℤ d)) (after_filter pad i otherwise)
    else Ok (after_filter pad i otherwise)

-- The first record that catches, of at most n from a place on; else the cleanup where a filter was
-- 0. Beside it stands the place of the filter before, where a chain is refused.
unfoldable pub chain_verdict : ActionsData → ℕ → ℕ → ℕ → Option ℕ → Verdict
    → Result Verdict LsdaFault
chain_verdict a pad n before None otherwise = Err (Chain before)
chain_verdict a pad zero before (Some p) otherwise = Err (Chain before)
chain_verdict a pad (suc n) before (Some p) otherwise =
    read_from (action_record a) a.bytes p and_then λ r.
    by_record a pad otherwise (λ q v. chain_verdict a pad n p q v) r
