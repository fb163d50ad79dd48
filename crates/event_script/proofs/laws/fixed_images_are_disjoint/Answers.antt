use Rattle.event_script.proofs.Fixed.{fixed_apart}
use Rattle.event_script.proofs.laws.fixed_images_are_disjoint.Goals as goal

pub returns : goal.returns
returns c = λ s run. fixed_apart s.images s.fixed run.images.1 run.fixed
