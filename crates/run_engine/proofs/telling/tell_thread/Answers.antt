use Rattle.std.proofs.Common.{◌≡◌, ◌∙◌, length, get_or, arith}
use Rattle.std.proofs.lemmas.List.{get_or_default}
use Rattle.script_text.specs.declared.script.Event.TheVariants.{Register}
use Rattle.run_engine.specs.Kept.{IsKeptPrintable, told}
use Rattle.run_engine.proofs.Told.{told_next, told_within}
use Rattle.run_engine.proofs.telling.tell_thread.Goals as goal

pub offset_bounds-events-len : goal.offset_bounds-events-len
offset_bounds-events-len c =
    let count : c.len.result ≡ length c.loop-kept.answers.items = (let n = c.len.ensures in omega (arith, n, c.loop-kept.answers.ok.0)) in
    let within = told_within (IsKeptPrintable c.args.images.now) c.args.events.now c.args.thread c.requires c.into_iter-kept-iterator.result c.loop-kept.kept-iterator c.next.new.self (c.into_iter-kept-iterator.ensures.into_iter_gives.0 ∙ c.thread.view_is) c.loop-kept.yielded c.in-Some.kept c.loop-kept.yielded_by c.in-Some.ensures.steps.0 (told c.args.images.now) c.loop-kept.answers.items c.loop-kept.invariant c.len.result count in
    omega (arith, within)

pub bounds-events-len : goal.bounds-events-len
bounds-events-len c =
    let count : c.len.result ≡ length c.loop-kept.answers.items = (let n = c.len.ensures in omega (arith, n, c.loop-kept.answers.ok.0)) in
    let within = told_within (IsKeptPrintable c.args.images.now) c.args.events.now c.args.thread c.requires c.into_iter-kept-iterator.result c.loop-kept.kept-iterator c.next.new.self (c.into_iter-kept-iterator.ensures.into_iter_gives.0 ∙ c.thread.view_is) c.loop-kept.yielded c.in-Some.kept c.loop-kept.yielded_by c.in-Some.ensures.steps.0 (told c.args.images.now) c.loop-kept.answers.items c.loop-kept.invariant c.len.result count in
    omega (arith, within)

pub loop-kept-preserved : goal.loop-kept-preserved
loop-kept-preserved c =
    let count : c.len.result ≡ length c.loop-kept.answers.items = (let n = c.len.ensures in omega (arith, n, c.loop-kept.answers.ok.0)) in
    let event = get_or c.args.events.now c.len.result (Register 0) in
    let within = told_within (IsKeptPrintable c.args.images.now) c.args.events.now c.args.thread c.requires c.into_iter-kept-iterator.result c.loop-kept.kept-iterator c.next.new.self (c.into_iter-kept-iterator.ensures.into_iter_gives.0 ∙ c.thread.view_is) c.loop-kept.yielded c.in-Some.kept c.loop-kept.yielded_by c.in-Some.ensures.steps.0 (told c.args.images.now) c.loop-kept.answers.items c.loop-kept.invariant c.len.result count in
    c.in_ok-push.ensures.items ∙ told_next (IsKeptPrintable c.args.images.now) c.args.events.now c.args.thread c.requires c.into_iter-kept-iterator.result c.loop-kept.kept-iterator c.next.new.self (c.into_iter-kept-iterator.ensures.into_iter_gives.0 ∙ c.thread.view_is) c.loop-kept.yielded c.in-Some.kept c.loop-kept.yielded_by c.in-Some.ensures.steps.0 (told c.args.images.now) c.loop-kept.answers.items c.loop-kept.invariant c.len.result count c.tell-told.result event c.tell-told.ensures (get_or_default c.args.events.now c.len.result (Register 0) event within)
