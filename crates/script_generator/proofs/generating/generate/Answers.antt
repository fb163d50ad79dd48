use Rattle.std.proofs.Common.{◌≡◌, ◌∙◌, ◌<◌, ap, sym, subst, refl, All, [], ◌∷◌, ◌++◌}
use Rattle.script_generator.specs.Generator.{generated_images, images_up}
use Rattle.script_generator.proofs.Runnable.{up_within, images_low, runnable}
use Rattle.script_generator.proofs.generating.generate.Goals as goal

pub images_of-requires : goal.images_of-requires
images_of-requires c =
    subst (All (λ image. image < 500)) (sym (c.deref.ensures.value ∙ c.in_ok-order.ensures)) (up_within c.args.count 500 c.requires.1)

pub sections_of-requires : goal.sections_of-requires
sections_of-requires c =
    let images : c.deref-2.result.now ≡ generated_images (images_up c.args.count) = c.deref-2.ensures.value ∙ c.in_ok-images.ensures ∙ ap generated_images (c.deref.ensures.value ∙ c.in_ok-order.ensures) in
    subst (All (λ image. image.first < 34359738368)) (sym images) (images_low c.args.count c.requires.1)

pub invariant_of-result : goal.invariant_of-result
invariant_of-result c =
    let images = c.in_ok-images.ensures ∙ ap generated_images (c.deref.ensures.value ∙ c.in_ok-order.ensures) in
    runnable c.args.count _ c.requires
    (record {
      version = refl;
      nodes = refl;
      loads = refl;
      images = images;
      sections = rw c.deref-2.ensures.value at c.in_ok-sections.ensures.sections;
      fixed = c.new.ensures.items;
      snapshots = c.in_ok-snapshots.ensures;
      rounds = c.in_ok-push.ensures.items ∙ ap (λ xs. xs ++ c.in_ok-round_of.field-0 ∷ []) c.in_ok-rounds.ensures.items ∙ ap (λ x. x ∷ []) c.in_ok-round_of.ensures;
    })
    c.in_ok-sections.ensures.whole
