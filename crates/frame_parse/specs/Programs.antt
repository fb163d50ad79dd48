-- Call frame instructions, after DWARF 5, section 6.4.2, and the programs that they make.
use Rattle.std.specs.Prelude.{slice_range, ◌≡◌, ℕ, ◌+◌, ◌-◌, ◌*◌, ◌/◌, ◌%◌, ◌^◌, List, [], ◌∷◌}
use Rattle.std.specs.Prelude.{◌++◌, length, take, get_or, Bool, true, false, Result, Ok, Err}
use Rattle.std.specs.Prelude.{nat_lt, nat_le, ◌==◌, ◌&&◌, ◌||◌, if◌then◌else◌}
use Rattle.std.specs.Int.{w64, cast_unsigned}
use Rattle.eh_bytes.specs.CursorData.{CursorData}
use Rattle.eh_bytes.specs.Steps.{AreSteps}
use Rattle.frame_parse.specs.declared.fault.RecordFault.{RecordFault}
use Rattle.frame_parse.specs.declared.fault.RecordFault.TheVariants as faults
use Rattle.frame_parse.specs.declared.instructions.context.Context.{Context}
use Rattle.frame_parse.specs.declared.instructions.context.ProgramKind.{ProgramKind}
use Rattle.frame_parse.specs.declared.instructions.context.ProgramKind.TheVariants.{Initial, Own}
use Rattle.frame_parse.specs.declared.records.CieRecord.{CieRecord}
use Rattle.frame_parse.specs.declared.records.Extent.{Extent}
use Rattle.frame_parse.specs.Instructions.{PlacedInstruction, PlacedReadRule, PlacedStep}
use Rattle.frame_parse.specs.declared.instructions.ReadRuleWith.TheVariants as rules
use Rattle.frame_parse.specs.declared.instructions.InstructionWith.TheVariants.{Nop, Advance, Set}
use Rattle.frame_parse.specs.declared.instructions.InstructionWith.TheVariants.{Restore, Remember}
use Rattle.frame_parse.specs.declared.instructions.InstructionWith.TheVariants.{RestoreState, Cfa}
use Rattle.frame_parse.specs.declared.instructions.InstructionWith.TheVariants.{CfaColumn}
use Rattle.frame_parse.specs.declared.instructions.InstructionWith.TheVariants.{CfaOffset}
use Rattle.frame_parse.specs.declared.instructions.InstructionWith.TheVariants.{CfaExpression}
use Rattle.frame_parse.specs.declared.instructions.RawInstruction.{RawInstruction}
use Rattle.frame_parse.specs.declared.instructions.RawInstruction.TheVariants as operations
use Rattle.frame_parse.specs.declared.program_state.ProgramState.{ProgramState}
use Rattle.frame_parse.specs.InstructionEncodings.{DW_CFA_advance_loc, DW_CFA_offset}
use Rattle.frame_parse.specs.InstructionEncodings.{DW_CFA_restore, DW_CFA_nop, DW_CFA_set_loc}
use Rattle.frame_parse.specs.InstructionEncodings.{DW_CFA_advance_loc1, DW_CFA_advance_loc2}
use Rattle.frame_parse.specs.InstructionEncodings.{DW_CFA_advance_loc4, DW_CFA_offset_extended}
use Rattle.frame_parse.specs.InstructionEncodings.{DW_CFA_restore_extended, DW_CFA_undefined}
use Rattle.frame_parse.specs.InstructionEncodings.{DW_CFA_same_value, DW_CFA_register}
use Rattle.frame_parse.specs.InstructionEncodings.{DW_CFA_remember_state, DW_CFA_restore_state}
use Rattle.frame_parse.specs.InstructionEncodings.{DW_CFA_def_cfa, DW_CFA_def_cfa_register}
use Rattle.frame_parse.specs.InstructionEncodings.{DW_CFA_def_cfa_offset, DW_CFA_def_cfa_expression}
use Rattle.frame_parse.specs.InstructionEncodings.{DW_CFA_expression, DW_CFA_offset_extended_sf}
use Rattle.frame_parse.specs.InstructionEncodings.{DW_CFA_def_cfa_sf, DW_CFA_def_cfa_offset_sf}
use Rattle.frame_parse.specs.InstructionEncodings.{DW_CFA_val_offset, DW_CFA_val_offset_sf}
use Rattle.frame_parse.specs.InstructionEncodings.{DW_CFA_val_expression, DW_CFA_GNU_args_size}
use Rattle.eh_bytes.specs.Grammar.{Part, ◌>>=◌, give, here, refuse, when, check, given, lift}
use Rattle.eh_bytes.specs.Grammar.{block, filled}
use Rattle.frame_expr.specs.declared.fault.ExprFault.{ExprFault}
use Rattle.frame_expr.specs.declared.fault.ExprFault.TheVariants as exprs
use Rattle.frame_expr.specs.Expressions.{expression}
use Rattle.frame_expr.specs.Registers.{column_count, return_address_column}
use Rattle.frame_parse.specs.Fields.{field, pointer}
use Rattle.eh_bytes.specs.Fields.{fixed, uleb, sleb}
use Rattle.frame_parse.specs.Entries.{FdeRecord}

-- ---- what the instructions of a program refer to

abbrev pub context_of : ℕ → CieRecord → ProgramKind → Context
context_of section c kind =
    record {
      section = section;
      code_alignment = c.code_alignment;
      data_alignment = c.data_alignment;
      pointers = c.augmentation.pointers;
      kind = kind;
    }

-- only the instructions of an FDE itself move the location
abbrev pub moves : ProgramKind → Bool
moves Initial = false
moves Own = true

-- ---- what one instruction spells

-- offsets count in data alignments, modulo 2 ^ 64
abbrev pub factored : Context → ℕ → ℕ
factored c n = (n * cast_unsigned w64 c.data_alignment) % 2 ^ 64

abbrev pub other : PlacedInstruction → RawInstruction
other i = operations.Other i

-- the return address has the last column
abbrev pub is_above_columns : ℕ → Bool
is_above_columns r = nat_lt return_address_column r

-- rules for columns above the last are read and not applied
abbrev pub set : ℕ → PlacedReadRule → PlacedInstruction
set r rule = if is_above_columns r then Nop else Set r rule

abbrev pub restore : ℕ → PlacedInstruction
restore r = if is_above_columns r then Nop else Restore r

-- a column of the CFA is one of those that there are
unfoldable pub cfa_column : Part RecordFault ℕ
cfa_column = do
  at ← here
  r ← field uleb
  _ ← check (nat_lt r column_count) (faults.Column at r)
  give r

-- the second column of a register rule: where the first is one of those that there are, it is too
unfoldable pub second_column : ℕ → Part RecordFault ℕ
second_column first = do
  at ← here
  r ← field uleb
  _ ← check (is_above_columns first || nat_lt r column_count) (faults.Column at r)
  give r

-- an expression's fault as the record's
abbrev pub expression_fault : ExprFault → RecordFault
expression_fault (exprs.Short at) = faults.Short at
expression_fault (exprs.TooWide at) = faults.TooWide at
expression_fault (exprs.Operation at byte) = faults.Operation at byte
expression_fault (exprs.Depth at) = faults.Depth at

-- A block: its length, and that many bytes, which are wholly an expression. The expression's stack
-- holds so many numbers at the start. It stands for its place, that of its length.
unfoldable pub expression_block : ℕ → Part RecordFault ℕ
expression_block depth = do
  place ← here
  n ← field uleb
  at ← here
  _ ← filled (faults.Short at) n (lift expression_fault (expression depth))
  give place

-- a block whose bytes are skipped
unfoldable pub skipped_block : Part RecordFault ℕ
skipped_block = do
  place ← here
  n ← field uleb
  at ← here
  _ ← block (faults.Short at) n (give (tt {0}))
  give place

-- The expression of a column starts with the CFA. Those for columns above the last aren't read.
abbrev pub column_block : ℕ → Part RecordFault ℕ
column_block r = when (is_above_columns r) skipped_block (expression_block 1)

-- the instructions whose byte is an extended opcode, which is below 64
unfoldable pub extended_operation : Context → ℕ → ℕ → Part RecordFault RawInstruction
extended_operation c at b =
    when (b == DW_CFA_nop) (give (other Nop))
    (when (b == DW_CFA_set_loc) (pointer c.section c.pointers >>=
    λ a. give (operations.SetLocation a))
    (when (b == DW_CFA_advance_loc1) (field (fixed 1) >>= λ d. give (operations.Advance d))
    (when (b == DW_CFA_advance_loc2) (field (fixed 2) >>= λ d. give (operations.Advance d))
    (when (b == DW_CFA_advance_loc4) (field (fixed 4) >>= λ d. give (operations.Advance d))
    (when (b == DW_CFA_offset_extended) (field uleb >>= λ r. field uleb >>=
    λ n. give (other (set r (rules.Offset (factored c n)))))
    (when (b == DW_CFA_restore_extended) (field uleb >>= λ r. give (other (restore r)))
    (when (b == DW_CFA_undefined) (field uleb >>= λ r. give (other (set r rules.Undefined)))
    (when (b == DW_CFA_same_value) (field uleb >>= λ r. give (other (set r rules.Same)))
    (when (b == DW_CFA_register) (field uleb >>= λ r. second_column r >>=
    λ q. give (other (set r (rules.Register q))))
    (when (b == DW_CFA_remember_state) (give (other Remember))
    (when (b == DW_CFA_restore_state) (give (other RestoreState))
    (when (b == DW_CFA_def_cfa) (cfa_column >>= λ r. field uleb >>= λ n. give (other (Cfa r n)))
    (when (b == DW_CFA_def_cfa_register) (cfa_column >>= λ r. give (other (CfaColumn r)))
    (when (b == DW_CFA_def_cfa_offset) (field uleb >>= λ n. give (other (CfaOffset n)))
    (when (b == DW_CFA_def_cfa_expression) (expression_block 0 >>=
    λ e. give (other (CfaExpression e)))
    (when (b == DW_CFA_expression) (field uleb >>= λ r. column_block r >>=
    λ e. give (other (set r (rules.Expression e))))
    (when (b == DW_CFA_offset_extended_sf) (field uleb >>= λ r. field sleb >>=
    λ n. give (other (set r (rules.Offset (factored c (cast_unsigned w64 n))))))
    (when (b == DW_CFA_def_cfa_sf) (cfa_column >>= λ r. field sleb >>=
    λ n. give (other (Cfa r (factored c (cast_unsigned w64 n)))))
    (when (b == DW_CFA_def_cfa_offset_sf) (field sleb >>=
    λ n. give (other (CfaOffset (factored c (cast_unsigned w64 n)))))
    (when (b == DW_CFA_val_offset) (field uleb >>= λ r. field uleb >>=
    λ n. give (other (set r (rules.ValOffset (factored c n)))))
    (when (b == DW_CFA_val_offset_sf) (field uleb >>= λ r. field sleb >>=
    λ n. give (other (set r (rules.ValOffset (factored c (cast_unsigned w64 n))))))
    (when (b == DW_CFA_val_expression) (field uleb >>= λ r. column_block r >>=
    λ e. give (other (set r (rules.ValExpression e))))
    (when (b == DW_CFA_GNU_args_size) (field uleb >>= λ n. give (other Nop))
    (refuse (faults.Opcode at b)))))))))))))))))))))))))

-- the two high bits of the byte are a primary opcode with an operand in the low six, or 0
unfoldable pub operation : Context → Part RecordFault RawInstruction
operation c = do
  at ← here
  b ← field (fixed 1)
  when (b / 64 == DW_CFA_advance_loc) (give (operations.Advance (b % 64)))
      (when (b / 64 == DW_CFA_offset) (field uleb >>=
      λ n. give (other (set (b % 64) (rules.Offset (factored c n)))))
      (when (b / 64 == DW_CFA_restore) (give (other (restore (b % 64))))
      (extended_operation c at b)))

-- ---- what it is tested against, and what it changes

-- the last flag, and those before it
abbrev pub top : List Bool → Bool
top flags = get_or flags (length flags - 1) false

abbrev pub below_top : List Bool → List Bool
below_top flags = take (length flags - 1) flags

-- a part of the CFA rule changes only where that is a column plus an offset
abbrev pub change_cfa : ℕ → ProgramState → Result ProgramState RecordFault
change_cfa at s = if s.offset then Ok s else Err (faults.CfaRule at)

-- how many states are remembered at most
abbrev pub most_remembered : ℕ
most_remembered = 8

-- remembering and restoring states, and changing a part of the CFA rule
abbrev pub effect_of : ℕ → ProgramState → PlacedInstruction → Result ProgramState RecordFault
effect_of at s Remember =
    if nat_lt (length s.remembered) most_remembered
    then Ok (record s { remembered = s.remembered ++ s.offset ∷ [] }) else Err (faults.Remember at)
effect_of at s RestoreState =
    if nat_lt 0 (length s.remembered)
    then Ok (record s { offset = top s.remembered; remembered = below_top s.remembered })
    else Err (faults.Remember at)
effect_of at s (Cfa r n) = Ok (record s { offset = true })
effect_of at s (CfaExpression e) = Ok (record s { offset = false })
effect_of at s (CfaColumn r) = change_cfa at s
effect_of at s (CfaOffset n) = change_cfa at s
effect_of at s Nop = Ok s
effect_of at s Advance = Ok s
effect_of at s (Set r rule) = Ok s
effect_of at s (Restore r) = Ok s

-- the location moves up alone, only in an FDE, and not past the last address
abbrev pub effect : ℕ → Context → ProgramState → RawInstruction → Result ProgramState RecordFault
effect at c s (operations.Advance d) =
    if moves c.kind && nat_lt (s.location + d * c.code_alignment) (2 ^ 64)
    then Ok (record s { location = s.location + d * c.code_alignment })
    else Err (faults.Location at)
effect at c s (operations.SetLocation a) =
    if moves c.kind && nat_le s.location a
    then Ok (record s { location = a }) else Err (faults.Location at)
effect at c s (operations.Other i) = effect_of at s i

abbrev pub instruction_of : RawInstruction → PlacedInstruction
instruction_of (operations.Advance d) = Advance
instruction_of (operations.SetLocation a) = Advance
instruction_of (operations.Other i) = i

-- the step of an operation, with the location that holds after it, and the state after it
abbrev pub finished : ℕ → Context → ProgramState → RawInstruction
    → Part RecordFault (PlacedStep × ProgramState)
finished at c s o = given (effect at c s o) >>=
    λ t. give (record { location = t.location; instruction = instruction_of o }, t)

-- the step of an instruction whose byte is an extended opcode
abbrev pub extended_step : Context → ProgramState → ℕ → ℕ
    → Part RecordFault (PlacedStep × ProgramState)
extended_step c s at b = extended_operation c at b >>= λ o. finished at c s o

-- an instruction with the location that holds when it is met, and the state after it
unfoldable pub step : Context → ProgramState → Part RecordFault (PlacedStep × ProgramState)
step c s = do
  at ← here
  o ← operation c
  finished at c s o

-- ---- programs

-- the state before any instruction: nothing is known of the CFA, and nothing is remembered
abbrev pub initial_state : ProgramState
initial_state = record { location = 0; offset = false; remembered = [] }

-- the state before the instructions of an FDE, after those of its CIE
abbrev pub first_state : CieRecord → ℕ → ProgramState
first_state c first = record { location = first; offset = c.offset; remembered = [] }

-- what contracts see of a program: where it goes on, and what its instructions refer to
pub record PlacedProgramData : Type 0 where
  pub context : Context
  pub state : ProgramState
  pub rest : CursorData

-- the steps that a program goes on with: the pairs of location and instruction that its bytes spell
unfoldable pub HasPlacedSteps : PlacedProgramData → List PlacedStep → Type 0
HasPlacedSteps p steps =
    (t : ProgramState) × AreSteps (step p.context) p.rest.at p.state p.rest.bytes steps t

-- the text that stands at an extent of the bytes
abbrev pub IsExtent : List ℕ → Extent → List ℕ → Type 0
IsExtent bytes e text =
    (before : List ℕ) × (after : List ℕ) × (bytes ≡ before ++ (text ++ after))
    × (e.at ≡ length before) × (e.end ≡ e.at + length text)

-- the bytes between the two places of an extent
abbrev pub text_in : List ℕ → Extent → List ℕ
text_in bytes e = slice_range bytes e.at e.end

-- the instructions of an FDE, which start at its first address
abbrev pub program_of : ℕ → FdeRecord → List ℕ → PlacedProgramData
program_of section f text =
    record {
      context = context_of section f.cie Own;
      state = first_state f.cie f.first;
      rest = record { bytes = text; at = f.program.at };
    }

-- the initial instructions of its CIE, at that address
abbrev pub initial_of : ℕ → FdeRecord → List ℕ → PlacedProgramData
initial_of section f text =
    record {
      context = context_of section f.cie Initial;
      state = record initial_state { location = f.first };
      rest = record { bytes = text; at = f.cie.initial.at };
    }

-- both programs of an FDE stand in the bytes, and were read without fault
pub record HasPrograms (section : ℕ) (bytes : List ℕ) (f : FdeRecord) : Type 0 where
  pub text : List ℕ
  pub inside : IsExtent bytes f.program text
  pub steps : List PlacedStep
  pub spelled : HasPlacedSteps (program_of section f text) steps
  pub initial_text : List ℕ
  pub initial_inside : IsExtent bytes f.cie.initial initial_text
  pub initial_steps : List PlacedStep
  pub initial_spelled : HasPlacedSteps (initial_of section f initial_text) initial_steps
