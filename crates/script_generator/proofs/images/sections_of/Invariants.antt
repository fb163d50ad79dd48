use Rattle.std.proofs.Common.{take, All}
use Rattle.script_text.specs.ScriptData.{IsSectionOf}
use Rattle.script_generator.specs.Generator.{AreGeneratedSections}
use Rattle.script_generator.proofs.images.sections_of.Given as goal

-- the sections so far
abbrev pub invariant-loop-image : goal.invariant-loop-image
invariant-loop-image l = AreGeneratedSections (take l.image-index l.images) l.sections.items × All IsSectionOf l.sections.items
