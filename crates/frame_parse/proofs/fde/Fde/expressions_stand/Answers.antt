use Rattle.std.proofs.Common.{subst}
use Rattle.frame_parse.specs.Programs.{HasPrograms}
use Rattle.frame_parse.specs.Sections.{FdeData}
use Rattle.frame_parse.proofs.Blocks.{initial_has, own_has}
use Rattle.frame_parse.proofs.fde.Fde.expressions_stand.Goals as goal

pub returns-clause-initial : goal.returns-clause-initial
returns-clause-initial c = λ steps has.
    initial_has c.args.self.now steps (subst (λ (f : FdeData). HasPrograms f.section f.bytes f.entry) c.self.view_is c.self.invariant) has

pub returns-clause-program : goal.returns-clause-program
returns-clause-program c = λ steps has.
    own_has c.args.self.now steps (subst (λ (f : FdeData). HasPrograms f.section f.bytes f.entry) c.self.view_is c.self.invariant) has
