use Rattle.unwind_step.specs.Backtrace.{fde_in}
use Rattle.frames_c.specs.AskedSteps.{told_in}
use Rattle.frames_c.specs.FrameSteps.{frame_look}
use Rattle.frames_c.specs.Held.{claim_in}
use Rattle.frames_c.proofs.AskedFrames.{asks, serves}
use Rattle.frames_c.proofs.step.step_told.Goals as goal

pub returns-clause-serves : goal.returns-clause-serves
returns-clause-serves g c = λ memory agrees none.
    let l = c.args.section.now in
    let look = frame_look c.args.frame.now in
    serves c.told_words_serve.ensures (told_in c.args.told.now) memory (claim_in look l) (fde_in look l.section) c.args.frame.now _ c.step_by.result c.step_by.ensures agrees none

pub returns-clause-anew : goal.returns-clause-anew
returns-clause-anew g c = λ four.
    let l = c.args.section.now in
    let look = frame_look c.args.frame.now in
    asks c.asks_anew.ensures (told_in c.args.told.now) (claim_in look l) (fde_in look l.section) c.args.frame.now _ c.step_by.result c.step_by.ensures four
