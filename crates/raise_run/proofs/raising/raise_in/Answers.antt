use Rattle.std.proofs.Common.{◌≡◌, ℕ, List, length, map, sym, ap, ap₂, ◌∙◌, subst, arith}
use Rattle.reg_model.specs.PlainRegistryData.{PlainRegistryData}
use Rattle.reg_model.specs.SpanData.{SpanData}
use Rattle.reg_model.specs.State.{AreDisjoint, opening}
use Rattle.reg_model.specs.declared.span.Member.{Member}
use Rattle.unwind_step.specs.Finders.{HasPayloadsBelow, PlainFinderData}
use Rattle.script_text.specs.Lawful.{image_member}
use Rattle.raise_run.specs.RaiseOutcome.{fixed_registry}
use Rattle.raise_run.proofs.Opened.{fixed_below, raise_is}
use Rattle.raise_run.proofs.raising.raise_in.Goals as goal

pub new-registry-requires : goal.new-registry-requires
new-registry-requires g c =
    let images = c.script.inside.images.items in
    let numbers = c.script.inside.fixed.items in
    let fixed = c.in_ok-fixed.ensures ∙ ap₂ (λ (images : List SpanData) (numbers : List ℕ). map (image_member images) numbers) c.deref.ensures.value c.deref-2.ensures.value in
    subst AreDisjoint (sym fixed) (c.fixed_images_are_disjoint.ensures _ c.script.invariant)

pub new-finder-requires : goal.new-finder-requires
new-finder-requires g c =
    let images = c.script.inside.images.items in
    let numbers = c.script.inside.fixed.items in
    let loads = c.script.inside.loads in
    let fixed = c.in_ok-fixed.ensures ∙ ap₂ (λ (images : List SpanData) (numbers : List ℕ). map (image_member images) numbers) c.deref.ensures.value c.deref-2.ensures.value in
    let count : c.len.result ≡ length images = (let n = c.len.ensures in omega (arith, n, c.script.inside.images.ok.0)) in
    let P : ℕ → Type 0 = λ n. HasPayloadsBelow n c.new-registry.result.state in
    let Q : PlainRegistryData → Type 0 = λ r. HasPayloadsBelow (length images) r.state in
    let S : List Member → Type 0 = λ members. HasPayloadsBelow (length images) (opening members loads) in
    subst P (sym count) (subst Q (sym c.new-registry.ensures) (subst S (sym fixed) (fixed_below images numbers loads c.script.invariant.fixed)))

pub returns : goal.returns
returns g c =
    let loads = c.script.inside.loads in
    let fixed = c.in_ok-fixed.ensures ∙ ap₂ (λ (images : List SpanData) (numbers : List ℕ). map (image_member images) numbers) c.deref.ensures.value c.deref-2.ensures.value in
    let opened : c.new-finder.result.registry ≡ fixed_registry c.args.script.now = rw (← c.script.view_is) (ap (λ (f : PlainFinderData). f.registry) c.new-finder.ensures ∙ c.new-registry.ensures ∙ ap (λ (members : List Member). record { state = opening members loads; updates = 0 }) fixed) in
    let unfolds = rw (c.deref-3.ensures.value) at c.raise.ensures.unfolds in
    raise_is c.steady_answers_change_no_raise.ensures c.plain_answers_are_right.ensures.right c.args.script.now c.args.request.now c.args.snapshot.now c.new-finder.result c.raise.new.finder c.raise.result c.requires opened
    (rw (← c.script.view_is, ← c.snapshot.view_is) unfolds) c.raise.ensures.queries
