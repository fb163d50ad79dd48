use Rattle.std.proofs.Common.{◌≡◌, ◌++◌, ◌∷◌, [], length, take, get_or, arith}
use Rattle.std.proofs.lemmas.List.{length-take-le, take_more}
use Rattle.registry_core.specs.Calls.{Receives}
use Rattle.script_text.specs.Lawful.{receipts_of}
use Rattle.script_text.specs.declared.script.Event.TheVariants.{Register}
use Rattle.run_engine.specs.Kept.{IsKeptRight, thread_told, told}
use Rattle.run_engine.proofs.Lists.{AllZip-length, AllZip-more}
use Rattle.run_engine.proofs.Chains.{Chain-push}
use Rattle.run_engine.proofs.Teams.{left_next}
use Rattle.run_engine.proofs.Told.{zip_next}
use Rattle.run_engine.proofs.threads.play_thread.Goals as goal

pub loop-index-preserved : goal.loop-index-preserved
loop-index-preserved g c =
    let setting = c.args.setting in
    let images = setting.images.now in
    let events = c.args.events.now in
    let i = c.loop-index.index in
    let answers = c.loop-index.answers.items in
    let kept = c.in_ok-kept.kept in
    let before = c.loop-index.invariant in
    let happens = get_or events i (Register 0) in
    let same = AllZip-length (IsKeptRight images setting.sections.now setting.snapshots.now) (take i events) answers before.answered in
    let short : length (take i events) ≡ i = length-take-le i events (let within = c.loop-index-test.true in omega (arith, within)) in
    let long : length answers ≡ i = omega (arith, same, short) in
    let grown : thread_told images events (answers ++ kept ∷ []) ≡ thread_told images events answers ++ told images happens kept ∷ [] = zip_next (told images) events answers i kept (Register 0) long c.loop-index-test.true in
    rw c.in_ok-push.ensures.items (record {
      answered = rw (take_more events i (Register 0) c.loop-index-test.true) (AllZip-more (IsKeptRight images setting.sections.now setting.snapshots.now) _ answers _ kept before.answered c.in_ok-kept.ensures.right);
      calls = Chain-push Receives (receipts_of images) _ _ _ (thread_told images events answers) (told images happens kept) (thread_told images events (answers ++ kept ∷ [])) grown before.calls c.in_ok-kept.ensures.calls;
      ready = c.in_ok-kept.ensures.ready;
      left = left_next events i _ _ _ c.loop-index-test.true before.left c.in_ok-kept.ensures.left;
    })

pub returns-clause-calls : goal.returns-clause-calls
returns-clause-calls g c = rw c.into_caller-caller.ensures (c.calls_follow.ensures.chain _ _ _ c.loop-index.invariant.calls)
