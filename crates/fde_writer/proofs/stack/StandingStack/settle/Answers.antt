use Rattle.std.proofs.Common.{◌∙◌, [], ap, sym}
use Rattle.fde_writer.specs.Layers.{layered}
use Rattle.fde_writer.specs.Standing.{bare_standing}
use Rattle.fde_writer.proofs.stack.StandingStack.settle.Goals as goal

pub only-requires : goal.only-requires
only-requires c =
    let b = c.in-Bare in
    c.requires [] (bare_standing b.section.section (record { member = record { span = b.span; payload = b.payload }; half = b.half })) (sym c.self.view_is ∙ ap layered b.is)
