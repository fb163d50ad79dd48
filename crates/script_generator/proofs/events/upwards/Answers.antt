use Rattle.std.proofs.Common.{◌∙◌, ◌++◌, ◌∷◌, [], List, ℕ, sym, ap}
use Rattle.script_generator.proofs.Ranges.{range_more}
use Rattle.script_generator.proofs.events.upwards.Goals as goal

pub loop-image-preserved : goal.loop-image-preserved
loop-image-preserved c =
    c.in_ok-push.ensures.items ∙ ap (λ (xs : List ℕ). xs ++ c.loop-image.image ∷ []) c.loop-image.invariant ∙ sym (range_more c.loop-image.image)
