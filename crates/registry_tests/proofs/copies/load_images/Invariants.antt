use Rattle.array_publish.specs.Update.{IsFreeAgain}
use Rattle.registry_tests.proofs.copies.load_images.Given as goal

abbrev pub invariant-loop-image : goal.invariant-loop-image
invariant-loop-image g l = IsFreeAgain l.fn.me l.me
