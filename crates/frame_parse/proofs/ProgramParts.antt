-- Instructions are exact.
use Rattle.std.proofs.Common.{ℕ, ◌≤◌, List, length, arith, nat_lt}
use Rattle.std.specs.Prelude.{◌||◌}
use Rattle.frame_parse.specs.declared.fault.RecordFault.TheVariants as faults
use Rattle.frame_parse.specs.declared.instructions.context.Context.{Context}
use Rattle.frame_parse.specs.declared.program_state.ProgramState.{ProgramState}
use Rattle.frame_expr.specs.Registers.{column_count}
use Rattle.frame_parse.specs.Programs.{is_above_columns, cfa_column, second_column, expression_fault, expression_block, skipped_block, column_block, extended_operation, operation, effect, step}
use Rattle.eh_bytes.specs.Grammar.{give, lift}
use Rattle.frame_expr.specs.Expressions.{expression}
use Rattle.frame_expr.proofs.Parts.{expression_whole}
use Rattle.eh_bytes.proofs.Wholes.{lift_whole, filled_exact}
use Rattle.eh_bytes.proofs.Exact.{IsExact, then_exact, give_exact, here_exact, refuse_exact, when_exact, check_exact, given_exact, block_exact}
use Rattle.eh_bytes.proofs.Steps.{AreSound}
use Rattle.frame_parse.specs.Instructions.{PlacedStep}
use Rattle.eh_bytes.proofs.Fields.{fixed_exact, uleb_exact, sleb_exact}
use Rattle.frame_parse.proofs.RecordParts.{field_exact, parts_length, pointer_exact}

cfa_column_exact : IsExact cfa_column
unfolding cfa_column
cfa_column_exact =
    then_exact _ _ here_exact (λ at.
    then_exact _ _ (field_exact _ uleb_exact) (λ r.
    then_exact _ _ (check_exact (nat_lt r column_count) (faults.Column at r)) (λ _. give_exact r)))

second_column_exact : (first : ℕ) → IsExact (second_column first)
unfolding second_column
second_column_exact first =
    then_exact _ _ here_exact (λ at.
    then_exact _ _ (field_exact _ uleb_exact) (λ r.
    then_exact _ _ (check_exact (is_above_columns first || nat_lt r column_count) (faults.Column at r)) (λ _. give_exact r)))

expression_block_exact : (depth : ℕ) → IsExact (expression_block depth)
unfolding expression_block
expression_block_exact depth =
    then_exact _ _ here_exact (λ place.
    then_exact _ _ (field_exact _ uleb_exact) (λ n.
    then_exact _ _ here_exact (λ at.
    then_exact _ _ (filled_exact (faults.Short at) n (lift expression_fault (expression depth)) (lift_whole expression_fault (expression depth) (expression_whole depth))) (λ _. give_exact _))))

skipped_block_exact : IsExact skipped_block
unfolding skipped_block
skipped_block_exact =
    then_exact _ _ here_exact (λ place.
    then_exact _ _ (field_exact _ uleb_exact) (λ n.
    then_exact _ _ here_exact (λ at.
    then_exact _ _ (block_exact (faults.Short at) n (give (tt {0})) (give_exact (tt {0}))) (λ _. give_exact _))))

column_block_exact : (r : ℕ) → IsExact (column_block r)
column_block_exact r = when_exact (is_above_columns r) skipped_block (expression_block 1) skipped_block_exact (expression_block_exact 1)

extended_operation_exact : (c : Context) (at b : ℕ) → IsExact (extended_operation c at b)
unfolding extended_operation
extended_operation_exact c at b =
    when_exact _ _ _ (give_exact _)
    (when_exact _ _ _ (then_exact _ _ (pointer_exact c.section c.pointers) (λ a. give_exact _))
    (when_exact _ _ _ (then_exact _ _ (field_exact _ (fixed_exact 1)) (λ d. give_exact _))
    (when_exact _ _ _ (then_exact _ _ (field_exact _ (fixed_exact 2)) (λ d. give_exact _))
    (when_exact _ _ _ (then_exact _ _ (field_exact _ (fixed_exact 4)) (λ d. give_exact _))
    (when_exact _ _ _ (then_exact _ _ (field_exact _ uleb_exact) (λ r. then_exact _ _ (field_exact _ uleb_exact) (λ n. give_exact _)))
    (when_exact _ _ _ (then_exact _ _ (field_exact _ uleb_exact) (λ r. give_exact _))
    (when_exact _ _ _ (then_exact _ _ (field_exact _ uleb_exact) (λ r. give_exact _))
    (when_exact _ _ _ (then_exact _ _ (field_exact _ uleb_exact) (λ r. give_exact _))
    (when_exact _ _ _ (then_exact _ _ (field_exact _ uleb_exact) (λ r. then_exact _ _ (second_column_exact r) (λ q. give_exact _)))
    (when_exact _ _ _ (give_exact _)
    (when_exact _ _ _ (give_exact _)
    (when_exact _ _ _ (then_exact _ _ cfa_column_exact (λ r. then_exact _ _ (field_exact _ uleb_exact) (λ n. give_exact _)))
    (when_exact _ _ _ (then_exact _ _ cfa_column_exact (λ r. give_exact _))
    (when_exact _ _ _ (then_exact _ _ (field_exact _ uleb_exact) (λ n. give_exact _))
    (when_exact _ _ _ (then_exact _ _ (expression_block_exact 0) (λ e. give_exact _))
    (when_exact _ _ _ (then_exact _ _ (field_exact _ uleb_exact) (λ r. then_exact _ _ (column_block_exact r) (λ e. give_exact _)))
    (when_exact _ _ _ (then_exact _ _ (field_exact _ uleb_exact) (λ r. then_exact _ _ (field_exact _ sleb_exact) (λ n. give_exact _)))
    (when_exact _ _ _ (then_exact _ _ cfa_column_exact (λ r. then_exact _ _ (field_exact _ sleb_exact) (λ n. give_exact _)))
    (when_exact _ _ _ (then_exact _ _ (field_exact _ sleb_exact) (λ n. give_exact _))
    (when_exact _ _ _ (then_exact _ _ (field_exact _ uleb_exact) (λ r. then_exact _ _ (field_exact _ uleb_exact) (λ n. give_exact _)))
    (when_exact _ _ _ (then_exact _ _ (field_exact _ uleb_exact) (λ r. then_exact _ _ (field_exact _ sleb_exact) (λ n. give_exact _)))
    (when_exact _ _ _ (then_exact _ _ (field_exact _ uleb_exact) (λ r. then_exact _ _ (column_block_exact r) (λ e. give_exact _)))
    (when_exact _ _ _ (then_exact _ _ (field_exact _ uleb_exact) (λ n. give_exact _))
    (refuse_exact (faults.Opcode at b)))))))))))))))))))))))))

operation_exact : (c : Context) → IsExact (operation c)
unfolding operation
operation_exact c =
    then_exact _ _ here_exact (λ at.
    then_exact _ _ (field_exact _ (fixed_exact 1)) (λ b.
    when_exact _ _ _ (give_exact _)
    (when_exact _ _ _ (then_exact _ _ (field_exact _ uleb_exact) (λ n. give_exact _))
    (when_exact _ _ _ (give_exact _)
    (extended_operation_exact c at b)))))

pub step_exact : (c : Context) (s : ProgramState) → IsExact (step c s)
unfolding step
step_exact c s =
    then_exact _ _ here_exact (λ at.
    then_exact _ _ (operation_exact c) (λ o.
    then_exact _ _ (given_exact (effect at c s o)) (λ t. give_exact _)))

-- a step takes its first byte at least
step_grows : (c : Context) (s : ProgramState) (p : ℕ) (front : List ℕ) (x : PlacedStep × ProgramState) → (step c s).Spells p front x → 1 ≤ length front
unfolding step operation
step_grows c s p front x a =
    let spelled = a.5.4 in
    let byte = spelled.5.4 in
    omega (arith, byte.0, parts_length spelled.2 spelled.5.1 spelled.5.2 spelled.5.3, parts_length a.5.1 spelled.1 spelled.2 spelled.3, parts_length a.2 a.5.1 a.5.2 a.5.3, parts_length front a.1 a.2 a.3)

pub steps_sound : (c : Context) → AreSound (step c)
steps_sound c = record { exact = step_exact c; grows = step_grows c }
