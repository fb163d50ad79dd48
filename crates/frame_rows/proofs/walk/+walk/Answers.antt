use Rattle.std.proofs.Common.{refl, subst, sym, arith}
use Rattle.frame_rows.specs.declared.placed_row.PlacedRow.{PlacedRow}
use Rattle.frame_rows.specs.declared.walk.Stop.TheVariants.{End, Restored}
use Rattle.frame_rows.specs.Walk.{ComesTo}
use Rattle.frame_rows.proofs.Onward.{leads_on, leads_stop, leads_plain, leads_restore, leads_advance, leads_back, stops_inside, stops_above, stops_after, stops_restored}
use Rattle.frame_rows.proofs.walk.+walk.Goals as goal

pub walk-returns-then-step-pc-clause-walks : goal.walk-returns-then-step-pc-clause-walks
walk-returns-then-step-pc-clause-walks g t c = λ base gives.
    let was = c.loop-step in
    leads_stop base c.args.pc c.args.program.now was.program c.next.new.self c.args.row.now was.row was.row End (was.invariant.leads base gives)
    (stops_above base c.args.pc was.program c.next.new.self was.row c.in-Some.step c.in-Some.ensures.steps c.if-step-pc.true)

pub walk-loop-step-preserved-else-step-pc : goal.walk-loop-step-preserved-else-step-pc
walk-loop-step-preserved-else-step-pc g t c =
    let was = c.loop-step in record {
      shorter = omega (arith, was.invariant.shorter, c.in-Some.ensures.shrinks);
      leads = λ base gives.
          leads_on base c.args.pc c.args.program.now was.program c.next.new.self c.args.row.now was.row was.row (was.invariant.leads base gives)
          (leads_advance base c.args.pc was.program c.next.new.self was.row c.in-Some.step c.in-Some.ensures.steps c.if-step-pc.false c.in-Advance.is);
    }

pub walk-returns-in-End-clause-walks : goal.walk-returns-in-End-clause-walks
walk-returns-in-End-clause-walks g t c = λ base gives.
    let was = c.loop-step in
    leads_stop base c.args.pc c.args.program.now was.program c.walk_back.new.program c.args.row.now was.row c.walk_back.new.row End (was.invariant.leads base gives)
    (stops_inside base c.args.pc was.program c.next.new.self c.walk_back.new.program was.row c.walk_back.new.row c.in-Some.step c.in-Some.ensures.steps c.in-Remember.is (c.in-End.ensures.walks base gives))

pub walk-loop-step-preserved-in-Restored : goal.walk-loop-step-preserved-in-Restored
walk-loop-step-preserved-in-Restored g t c =
    let was = c.loop-step in record {
      shorter = omega (arith, was.invariant.shorter, c.in-Some.ensures.shrinks, c.in-Restored.ensures.shorter refl);
      leads = λ base gives.
          let on =
          leads_on base c.args.pc c.args.program.now was.program c.walk_back.new.program c.args.row.now was.row was.row (was.invariant.leads base gives)
          (leads_back base c.args.pc was.program c.next.new.self c.walk_back.new.program was.row c.walk_back.new.row c.in-Some.step c.in-Some.ensures.steps c.in-Remember.is (c.in-Restored.ensures.walks base gives)) in
          subst (λ (k : PlacedRow). ComesTo base c.args.pc c.args.program.now c.args.row.now c.walk_back.new.program k) (sym (c.in-Restored.ensures.kept refl)) on;
    }

pub walk-returns-in-RestoreState-clause-walks : goal.walk-returns-in-RestoreState-clause-walks
walk-returns-in-RestoreState-clause-walks g t c = λ base gives.
    let was = c.loop-step in
    leads_stop base c.args.pc c.args.program.now was.program c.next.new.self c.args.row.now was.row was.row Restored (was.invariant.leads base gives)
    (stops_restored base c.args.pc was.program c.next.new.self was.row was.row c.in-Some.step c.in-Some.ensures.steps c.in-RestoreState.is)

pub walk-loop-step-preserved-in-Some-rule : goal.walk-loop-step-preserved-in-Some-rule
walk-loop-step-preserved-in-Some-rule g t c =
    let was = c.loop-step in record {
      shorter = omega (arith, was.invariant.shorter, c.in-Some.ensures.shrinks);
      leads = λ base gives.
          leads_on base c.args.pc c.args.program.now was.program c.next.new.self c.args.row.now was.row c.set.new.self (was.invariant.leads base gives)
          (leads_restore base c.args.pc was.program c.next.new.self was.row c.set.new.self c.in-Some.step c.in-Restore.column c.in-Some-rule.rule c.in-Some.ensures.steps c.in-Restore.is (c.in-Some-rule.ensures.rule base gives) c.set.ensures);
    }

pub walk-loop-step-preserved : goal.walk-loop-step-preserved
walk-loop-step-preserved g t c =
    let was = c.loop-step in record {
      shorter = omega (arith, was.invariant.shorter, c.in-Some.ensures.shrinks);
      leads = λ base gives.
          let plain = leads_plain base c.args.pc was.program c.next.new.self was.row c.in-Some.step c.in-Some.ensures.steps (λ e. absurd (c.in_default-instruction.not-Advance e)) c.in_default-instruction.not-Remember c.in_default-instruction.not-RestoreState in
          leads_on base c.args.pc c.args.program.now was.program c.next.new.self c.args.row.now was.row c.change.new.row (was.invariant.leads base gives)
          (subst (λ (k : PlacedRow). ComesTo base c.args.pc was.program was.row c.next.new.self k) (sym (c.change.ensures base c.in_default-instruction.not-Restore)) plain);
    }

pub walk-returns-clause-walks : goal.walk-returns-clause-walks
walk-returns-clause-walks g t c = λ base gives.
    let was = c.loop-step in
    leads_stop base c.args.pc c.args.program.now was.program c.next.new.self c.args.row.now was.row was.row End (was.invariant.leads base gives)
    (stops_after base c.args.pc was.program c.next.new.self was.row c.in_default.ensures.steps)
