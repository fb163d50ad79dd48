use Rattle.std.proofs.Common.{◌≡◌, ◌-◌, ◌∙◌, List, [], ◌∷◌, ◌++◌, length, map, take, ap, subst, sym, rules, arith}
use Rattle.std.specs.List.{AllZip, flat_map}
use Rattle.std.proofs.lemmas.List.{length-take-le, map-append}
use Rattle.registry_core.specs.Calls.{Answered}
use Rattle.registry_core.specs.Rounds.{AreAnswered}
use Rattle.script_text.specs.Lawful.{receipts_of}
use Rattle.script_text.specs.declared.script.Event.{Event}
use Rattle.run_engine.specs.Kept.{IsKeptRight, round_told, thread_told}
use Rattle.run_engine.proofs.Lists.{AllZip-length, AllZip-more}
use Rattle.run_engine.proofs.Teams.{AreAnswered-more, last_parts}
use Rattle.run_engine.proofs.Told.{zip_more}
use Rattle.run_engine.proofs.threads.+fn-play_threads-join+arg2+play_threads.Goals as goal

pub join-others-requires-after_bounds : goal.join-others-requires-after_bounds
join-others-requires-after_bounds g t c κs within =
    let threads = c.args.threads.now in
    let events : c.deref-events.result.now ≡ c.thread-item.result = c.deref-events.ensures.value ∙ c.thread.view_is in
    let least = c.in-len1-up.len_at_least in
    let parts = last_parts _ _ _ threads c.args.team.callers.items c.pop.new.self.items c.in-Some.me c.thread-item.result (omega (arith, least)) c.requires.round c.requires.manned c.in-Some.ensures.items c.thread-item.is in
    let parts' = rw (← events) at parts in
    let short : length (take (length threads - 1) threads) ≡ length threads - 1 = length-take-le (length threads - 1) threads (omega arith) in
    let falls = c.decreases in (
      (search (rules, arith), ((λ a m. m), ((λ a m. m), ((search rules, search rules, c.requires.images, parts.front, parts.front_manned), (search rules, search rules))))),
      (search rules, search rules, c.requires.images, parts'.last, parts.ready, parts'.left),
    )

pub returns-clause-answered : goal.returns-clause-answered
returns-clause-answered g t c =
    let threads = c.args.threads.now in
    let setting = c.args.setting in
    let events : c.deref-events.result.now ≡ c.thread-item.result = c.deref-events.ensures.value ∙ c.thread.view_is in
    let least = c.in-len1-up.len_at_least in
    let parts = last_parts _ _ _ threads c.args.team.callers.items c.pop.new.self.items c.in-Some.me c.thread-item.result (omega (arith, least)) c.requires.round c.requires.manned c.in-Some.ensures.items c.thread-item.is in
    let first : AllZip (AllZip (IsKeptRight setting.images.now setting.sections.now setting.snapshots.now)) (take (length threads - 1) threads) c.in_ok-others.others.kept.items = search rules in
    let second : AllZip (IsKeptRight setting.images.now setting.sections.now setting.snapshots.now) c.deref-events.result.now c.in_ok-own-2.own.kept = search rules in
    let E : List Event → Type 0 = λ es. AllZip (IsKeptRight setting.images.now setting.sections.now setting.snapshots.now) es c.in_ok-own-2.own.kept in
    let T : List (List Event) → Type 0 = λ ts. AllZip (AllZip (IsKeptRight setting.images.now setting.sections.now setting.snapshots.now)) ts c.push-2.new.self.items in
    subst T (sym parts.whole) (rw c.in_ok-push-3.ensures.items (AllZip-more _ (take (length threads - 1) threads) c.in_ok-others.others.kept.items c.thread-item.result c.in_ok-own-2.own.kept first (subst E events second)))

pub returns-clause-calls : goal.returns-clause-calls
returns-clause-calls g t c =
    let threads = c.args.threads.now in
    let setting = c.args.setting in
    let images = setting.images.now in
    let events : c.deref-events.result.now ≡ c.thread-item.result = c.deref-events.ensures.value ∙ c.thread.view_is in
    let least = c.in-len1-up.len_at_least in
    let parts = last_parts _ _ _ threads c.args.team.callers.items c.pop.new.self.items c.in-Some.me c.thread-item.result (omega (arith, least)) c.requires.round c.requires.manned c.in-Some.ensures.items c.thread-item.is in
    let front = take (length threads - 1) threads in
    let others = c.in_ok-others.others.kept.items in
    let own = c.in_ok-own-2.own.kept in
    let right : AllZip (AllZip (IsKeptRight images setting.sections.now setting.snapshots.now)) front others = search rules in
    let same = AllZip-length (AllZip (IsKeptRight images setting.sections.now setting.snapshots.now)) front others right in
    let grown : round_told images threads (others ++ own ∷ []) ≡ round_told images front others ++ thread_told images c.deref-events.result.now own ∷ [] =
    ap (λ ts. round_told images ts (others ++ own ∷ [])) parts.whole
    ∙ (zip_more (thread_told images) front others c.thread-item.result own same ∙ ap (λ es. round_told images front others ++ thread_told images es own ∷ []) (sym events)) in
    let first : AreAnswered (map (λ answers. flat_map (receipts_of images) answers) (round_told images front others)) c.pop.new.self.items c.in_ok-others.others.callers.items = search rules in
    let second : Answered (flat_map (receipts_of images) (thread_told images c.deref-events.result.now own)) c.in-Some.me c.in_ok-own-2.own.caller = search rules in
    rw (c.in_ok-push-3.ensures.items, grown, map-append, c.in-Some.ensures.items, c.in_ok-push-4.ensures.items) (AreAnswered-more _ _ _ _ _ _ first second)
