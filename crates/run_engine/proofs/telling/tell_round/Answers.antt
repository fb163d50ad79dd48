use Rattle.std.proofs.Common.{◌≡◌, List, length, map, ap, sym, ◌∙◌, subst, arith}
use Rattle.std.specs.List.{AllZip}
use Rattle.std.proofs.lemmas.List.{length-map, map-append}
use Rattle.script_text.specs.declared.script.Event.{Event}
use Rattle.run_engine.specs.Kept.{IsKeptPrintable, thread_told}
use Rattle.run_engine.proofs.Told.{told_holds, told_next, told_within}
use Rattle.run_engine.proofs.telling.tell_round.Goals as goal

pub offset_bounds-threads-len : goal.offset_bounds-threads-len
offset_bounds-threads-len c =
    let count : c.len.result ≡ length (map (λ thread. thread.items) c.loop-kept.answers.items) = (let n = c.len.ensures in omega (arith, n, c.loop-kept.answers.ok.0, length-map c.loop-kept.answers.items (λ thread. thread.items))) in
    let within = told_within (AllZip (IsKeptPrintable c.args.images.now)) c.args.threads.now c.args.round c.requires c.into_iter-kept-iterator.result c.loop-kept.kept-iterator c.next.new.self (c.into_iter-kept-iterator.ensures.into_iter_gives.0 ∙ c.round.view_is) c.loop-kept.yielded c.in-Some.kept c.loop-kept.yielded_by c.in-Some.ensures.steps.0 (thread_told c.args.images.now) (map (λ thread. thread.items) c.loop-kept.answers.items) c.loop-kept.invariant c.len.result count in
    omega (arith, within)

pub bounds-threads-len : goal.bounds-threads-len
bounds-threads-len c =
    let count : c.len.result ≡ length (map (λ thread. thread.items) c.loop-kept.answers.items) = (let n = c.len.ensures in omega (arith, n, c.loop-kept.answers.ok.0, length-map c.loop-kept.answers.items (λ thread. thread.items))) in
    let within = told_within (AllZip (IsKeptPrintable c.args.images.now)) c.args.threads.now c.args.round c.requires c.into_iter-kept-iterator.result c.loop-kept.kept-iterator c.next.new.self (c.into_iter-kept-iterator.ensures.into_iter_gives.0 ∙ c.round.view_is) c.loop-kept.yielded c.in-Some.kept c.loop-kept.yielded_by c.in-Some.ensures.steps.0 (thread_told c.args.images.now) (map (λ thread. thread.items) c.loop-kept.answers.items) c.loop-kept.invariant c.len.result count in
    omega (arith, within)

pub tell_thread-requires : goal.tell_thread-requires
tell_thread-requires c =
    let count : c.len.result ≡ length (map (λ thread. thread.items) c.loop-kept.answers.items) = (let n = c.len.ensures in omega (arith, n, c.loop-kept.answers.ok.0, length-map c.loop-kept.answers.items (λ thread. thread.items))) in
    let holds = told_holds (AllZip (IsKeptPrintable c.args.images.now)) c.args.threads.now c.args.round c.requires c.into_iter-kept-iterator.result c.loop-kept.kept-iterator c.next.new.self (c.into_iter-kept-iterator.ensures.into_iter_gives.0 ∙ c.round.view_is) c.loop-kept.yielded c.in-Some.kept c.loop-kept.yielded_by c.in-Some.ensures.steps.0 (thread_told c.args.images.now) (map (λ thread. thread.items) c.loop-kept.answers.items) c.loop-kept.invariant c.len.result count c.index-threads-len.result c.index-threads-len.is in
    let P : List Event → Type 0 = λ beside. AllZip (IsKeptPrintable c.args.images.now) beside c.in-Some.kept in
    subst P (sym (c.deref.ensures.value ∙ c.thread.view_is)) holds

pub loop-kept-preserved : goal.loop-kept-preserved
loop-kept-preserved c =
    let count : c.len.result ≡ length (map (λ thread. thread.items) c.loop-kept.answers.items) = (let n = c.len.ensures in omega (arith, n, c.loop-kept.answers.ok.0, length-map c.loop-kept.answers.items (λ thread. thread.items))) in
    let tells = c.in_ok-told.ensures ∙ ap (λ beside. thread_told c.args.images.now beside c.in-Some.kept) (c.deref.ensures.value ∙ c.thread.view_is) in
    rw (c.in_ok-push.ensures.items, map-append) (told_next (AllZip (IsKeptPrintable c.args.images.now)) c.args.threads.now c.args.round c.requires c.into_iter-kept-iterator.result c.loop-kept.kept-iterator c.next.new.self (c.into_iter-kept-iterator.ensures.into_iter_gives.0 ∙ c.round.view_is) c.loop-kept.yielded c.in-Some.kept c.loop-kept.yielded_by c.in-Some.ensures.steps.0 (thread_told c.args.images.now) (map (λ thread. thread.items) c.loop-kept.answers.items) c.loop-kept.invariant c.len.result count _ c.index-threads-len.result tells c.index-threads-len.is)
