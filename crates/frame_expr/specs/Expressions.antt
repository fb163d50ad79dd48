-- Expressions: operations one after another, each of which finds its entries on the stack.
use Rattle.std.specs.Prelude.{◌≡◌, ℕ, ◌<◌, ◌⊎◌, List, Bool, Result, Ok, Err, is_ok, nat_lt}
use Rattle.std.specs.Prelude.{if◌then◌else◌}
use Rattle.eh_bytes.specs.declared.fault.ByteFault.{ByteFault}
use Rattle.eh_bytes.specs.declared.fault.ByteFault.TheVariants as bytes
use Rattle.eh_bytes.specs.CursorData.{CursorData}
use Rattle.eh_bytes.specs.Grammar.{Part, ◌>>=◌, give, here, check, found, lift, ended, bytes_of}
use Rattle.eh_bytes.specs.Fields.{fixed}
use Rattle.eh_bytes.specs.Steps.{AreSteps, steps_from}
use Rattle.frame_expr.specs.declared.operation.Operation.{Operation}
use Rattle.frame_expr.specs.declared.operation.Code.{Code}
use Rattle.frame_expr.specs.declared.fault.ExprFault.{ExprFault}
use Rattle.frame_expr.specs.declared.fault.ExprFault.TheVariants as faults
use Rattle.frame_expr.specs.Operations.{operation_code, operand_of, with_operand}
use Rattle.frame_expr.specs.Depth.{fits, depth_after, byte_fits}

-- a field's fault as the expression's; operands have no encodings
abbrev pub expr_fault : ByteFault → ExprFault
expr_fault (bytes.Short at) = faults.Short at
expr_fault (bytes.TooWide at) = faults.TooWide at
expr_fault (bytes.Encoding at b) = faults.Operation at b

-- What stands after the byte of an operation, where the stack has d entries: the operand. Its byte
-- tells whether the stack fits, or with pick its operand. Beside the operation stands the depth
-- after it.
unfoldable pub coded : ℕ → ℕ → Code → Part ExprFault (Operation × ℕ)
coded d at c = do
  _ ← check (byte_fits d c.operation) (faults.Depth at)
  n ← lift expr_fault (operand_of c.operand)
  _ ← check (fits d (with_operand n c)) (faults.Depth at)
  give (with_operand n c, depth_after d (with_operand n c))

-- the next operation
unfoldable pub next_operation : ℕ → Part ExprFault (Operation × ℕ)
next_operation d = do
  at ← here
  b ← lift expr_fault (fixed 1)
  c ← found (operation_code b) (faults.Operation at b)
  coded d at c

-- at the end the stack holds an entry
abbrev pub some_entry : ℕ → ℕ → Result ℕ ExprFault
some_entry at d = if nat_lt 0 d then Ok d else Err (faults.Depth at)

-- operations to the end of the bytes, and the depth of the stack there
abbrev pub operations : ℕ → Part ExprFault ℕ
operations d = ended (steps_from next_operation d) some_entry

-- an expression, which stands for its bytes
unfoldable pub expression : ℕ → Part ExprFault (List ℕ)
expression d = bytes_of (operations d)

-- all bytes, counted from 0
abbrev pub whole : List ℕ → CursorData
whole bytes = record { bytes = bytes; at = 0 }

-- the bytes are read as an expression, whose stack has so many entries at the start, without a
-- fault
abbrev pub is_expression : ℕ → List ℕ → Bool
is_expression d bytes = is_ok ((expression d).read (whole bytes))

-- the bytes spell these operations to their end, and the stack holds an entry then
abbrev pub IsExpr : ℕ → List ℕ → List Operation → Type 0
IsExpr depth bytes os = (e : ℕ) × AreSteps next_operation 0 depth bytes os e × (0 < e)

-- the first fault, at its place in the bytes
abbrev pub IsRefusedExpr : ℕ → List ℕ → ExprFault → Type 0
IsRefusedExpr depth bytes f = (expression depth).Refuses 0 bytes f

-- The bytes are an expression of one list of operations, or have one first fault, and never both.
abbrev pub IsExprOrRefused : ℕ → List ℕ → Type 0
IsExprOrRefused depth bytes =
    ((os : List Operation) × IsExpr depth bytes os
    × ((ps : List Operation) → IsExpr depth bytes ps → ps ≡ os)
    × ((f : ExprFault) → IsRefusedExpr depth bytes f → ⊥))
    ⊎ ((f : ExprFault) × IsRefusedExpr depth bytes f
    × ((g : ExprFault) → IsRefusedExpr depth bytes g → g ≡ f)
    × ((ps : List Operation) → IsExpr depth bytes ps → ⊥))
