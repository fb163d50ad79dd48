use Rattle.std.proofs.Common.{◌∙◌, ◌++◌, List, ap}
use Rattle.script_text.specs.declared.script.Event.{Event}
use Rattle.script_generator.specs.declared.events.Activity.TheVariants.{Adding, FindingEnds, RemovingEven, FindingBases}
use Rattle.script_generator.proofs.Ranges.{is_order, activity_added, all_activities}
use Rattle.script_generator.proofs.events.thread_of.Goals as goal

pub with_activity-requires-clause-images : goal.with_activity-requires-clause-images
with_activity-requires-clause-images c = is_order c.args.count c.args.thread _ c.requires.count.1 (c.deref.ensures.value ∙ c.in_ok-order.ensures)

pub with_activity-requires-2-clause-images : goal.with_activity-requires-2-clause-images
with_activity-requires-2-clause-images c = is_order c.args.count c.args.thread _ c.requires.count.1 (c.deref-2.ensures.value ∙ c.in_ok-order.ensures)

pub with_activity-requires-3-clause-images : goal.with_activity-requires-3-clause-images
with_activity-requires-3-clause-images c = is_order c.args.count c.args.thread _ c.requires.count.1 (c.deref-3.ensures.value ∙ c.in_ok-order.ensures)

pub with_activity-requires-4-clause-images : goal.with_activity-requires-4-clause-images
with_activity-requires-4-clause-images c = is_order c.args.count c.args.thread _ c.requires.count.1 (c.deref-4.ensures.value ∙ c.in_ok-order.ensures)

pub returns : goal.returns
returns c =
    let count = c.args.count in
    let thread = c.args.thread in
    all_activities count thread c.in_ok-events.events.items c.in_ok-events-2.events.items c.in_ok-events-3.events.items c.push.new.self.items c.in_ok-events-4.events.items c.in_ok-events-5.events.items
    c.in_ok-events.ensures.items
    (c.in_ok-events-2.ensures ∙ ap (λ (ys : List Event). c.in_ok-events.events.items ++ ys) (activity_added count thread _ Adding (c.deref.ensures.value ∙ c.in_ok-order.ensures)))
    (c.in_ok-events-3.ensures ∙ ap (λ (ys : List Event). c.in_ok-events-2.events.items ++ ys) (activity_added count thread _ FindingEnds (c.deref-2.ensures.value ∙ c.in_ok-order.ensures)))
    c.in_ok-push.ensures.items
    (c.in_ok-events-4.ensures ∙ ap (λ (ys : List Event). c.push.new.self.items ++ ys) (activity_added count thread _ RemovingEven (c.deref-3.ensures.value ∙ c.in_ok-order.ensures)))
    (c.in_ok-events-5.ensures ∙ ap (λ (ys : List Event). c.in_ok-events-4.events.items ++ ys) (activity_added count thread _ FindingBases (c.deref-4.ensures.value ∙ c.in_ok-order.ensures)))
