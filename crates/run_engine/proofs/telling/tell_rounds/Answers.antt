use Rattle.std.proofs.Common.{◌≡◌, List, length, map, ap, sym, ◌∙◌, subst, arith}
use Rattle.std.specs.List.{AllZip}
use Rattle.std.proofs.lemmas.List.{length-map, map-append}
use Rattle.script_text.specs.declared.script.Event.{Event}
use Rattle.run_engine.specs.Kept.{IsKeptPrintable, round_told}
use Rattle.run_engine.proofs.Told.{told_holds, told_next, told_within}
use Rattle.run_engine.proofs.telling.tell_rounds.Goals as goal

pub offset_bounds-rounds-len : goal.offset_bounds-rounds-len
offset_bounds-rounds-len c =
    let count : c.len.result ≡ length (map (λ round. map (λ thread. thread.items) round.items) c.loop-kept.answers.items) = (let n = c.len.ensures in omega (arith, n, c.loop-kept.answers.ok.0, length-map c.loop-kept.answers.items (λ round. map (λ thread. thread.items) round.items))) in
    let within = told_within (AllZip (AllZip (IsKeptPrintable c.args.images.now))) c.args.rounds.now c.args.kept.items c.requires c.into_iter-kept-iterator.result c.loop-kept.kept-iterator c.next.new.self c.into_iter-kept-iterator.ensures.into_iter_gives.0 c.loop-kept.yielded c.in-Some.kept c.loop-kept.yielded_by c.in-Some.ensures.steps.0 (round_told c.args.images.now) (map (λ round. map (λ thread. thread.items) round.items) c.loop-kept.answers.items) c.loop-kept.invariant c.len.result count in
    omega (arith, within)

pub bounds-rounds-len : goal.bounds-rounds-len
bounds-rounds-len c =
    let count : c.len.result ≡ length (map (λ round. map (λ thread. thread.items) round.items) c.loop-kept.answers.items) = (let n = c.len.ensures in omega (arith, n, c.loop-kept.answers.ok.0, length-map c.loop-kept.answers.items (λ round. map (λ thread. thread.items) round.items))) in
    let within = told_within (AllZip (AllZip (IsKeptPrintable c.args.images.now))) c.args.rounds.now c.args.kept.items c.requires c.into_iter-kept-iterator.result c.loop-kept.kept-iterator c.next.new.self c.into_iter-kept-iterator.ensures.into_iter_gives.0 c.loop-kept.yielded c.in-Some.kept c.loop-kept.yielded_by c.in-Some.ensures.steps.0 (round_told c.args.images.now) (map (λ round. map (λ thread. thread.items) round.items) c.loop-kept.answers.items) c.loop-kept.invariant c.len.result count in
    omega (arith, within)

pub tell_round-requires : goal.tell_round-requires
tell_round-requires c =
    let count : c.len.result ≡ length (map (λ round. map (λ thread. thread.items) round.items) c.loop-kept.answers.items) = (let n = c.len.ensures in omega (arith, n, c.loop-kept.answers.ok.0, length-map c.loop-kept.answers.items (λ round. map (λ thread. thread.items) round.items))) in
    let holds = told_holds (AllZip (AllZip (IsKeptPrintable c.args.images.now))) c.args.rounds.now c.args.kept.items c.requires c.into_iter-kept-iterator.result c.loop-kept.kept-iterator c.next.new.self c.into_iter-kept-iterator.ensures.into_iter_gives.0 c.loop-kept.yielded c.in-Some.kept c.loop-kept.yielded_by c.in-Some.ensures.steps.0 (round_told c.args.images.now) (map (λ round. map (λ thread. thread.items) round.items) c.loop-kept.answers.items) c.loop-kept.invariant c.len.result count c.index-rounds-len.result c.index-rounds-len.is in
    let P : List (List Event) → Type 0 = λ beside. AllZip (AllZip (IsKeptPrintable c.args.images.now)) beside c.in-Some.kept in
    subst P (sym (c.deref.ensures.value ∙ c.round.view_is)) holds

pub loop-kept-preserved : goal.loop-kept-preserved
loop-kept-preserved c =
    let count : c.len.result ≡ length (map (λ round. map (λ thread. thread.items) round.items) c.loop-kept.answers.items) = (let n = c.len.ensures in omega (arith, n, c.loop-kept.answers.ok.0, length-map c.loop-kept.answers.items (λ round. map (λ thread. thread.items) round.items))) in
    let tells = c.in_ok-told.ensures ∙ ap (λ beside. round_told c.args.images.now beside c.in-Some.kept) (c.deref.ensures.value ∙ c.round.view_is) in
    rw (c.in_ok-push.ensures.items, map-append) (told_next (AllZip (AllZip (IsKeptPrintable c.args.images.now))) c.args.rounds.now c.args.kept.items c.requires c.into_iter-kept-iterator.result c.loop-kept.kept-iterator c.next.new.self c.into_iter-kept-iterator.ensures.into_iter_gives.0 c.loop-kept.yielded c.in-Some.kept c.loop-kept.yielded_by c.in-Some.ensures.steps.0 (round_told c.args.images.now) (map (λ round. map (λ thread. thread.items) round.items) c.loop-kept.answers.items) c.loop-kept.invariant c.len.result count _ c.index-rounds-len.result tells c.index-rounds-len.is)
