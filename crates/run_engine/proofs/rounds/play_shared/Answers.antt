use Rattle.std.proofs.Common.{◌≡◌, ◌+◌, ◌++◌, ◌∷◌, [], List, length, map, take, get_or, ap, sym, ◌∙◌, subst, arith}
use Rattle.std.specs.List.{AllZip, flat_map}
use Rattle.std.proofs.lemmas.List.{length-take-le, map-append, take_more}
use Rattle.reg_model.specs.declared.answer.Receipt.{Receipt}
use Rattle.script_text.specs.Lawful.{receipts_of}
use Rattle.script_text.specs.declared.journal.Answer.{Answer}
use Rattle.script_text.specs.declared.script.Event.{Event}
use Rattle.run_engine.specs.Kept.{IsKeptRight, round_told, rounds_told}
use Rattle.run_engine.specs.Shared.{IsAfterRounds}
use Rattle.run_engine.specs.declared.kept.KeptAnswer.{KeptAnswer}
use Rattle.run_engine.proofs.Lists.{AllZip-length, AllZip-more}
use Rattle.run_engine.proofs.ManyRounds.{no_rounds, rounds_more}
use Rattle.run_engine.proofs.Teams.{after_ready}
use Rattle.run_engine.proofs.Told.{zip_next}
use Rattle.run_engine.proofs.rounds.play_shared.Goals as goal

pub loop-index-init : goal.loop-index-init
loop-index-init g c =
    rw c.new-kept.ensures.items (record {
      answered = tt;
      after = no_rounds c.args.me.now c.requires.between;
      ready = c.requires.ready;
      left = omega arith;
    })

pub loop-index-preserved : goal.loop-index-preserved
loop-index-preserved g c =
    let images = c.args.setting.images.now in
    let rounds = c.args.rounds.now in
    let i = c.loop-index.index in
    let kept = c.loop-index.kept.items in
    let played = c.in_ok-played.played in
    let before = c.loop-index.invariant in
    let item = c.index-rounds-index.result in
    let passed = take i rounds in
    let Right : List (List Event) → List (List KeptAnswer) → Type 0 = AllZip (AllZip (IsKeptRight images c.args.setting.sections.now c.args.setting.snapshots.now)) in
    let same = AllZip-length Right passed kept before.answered in
    let short : length passed ≡ i = length-take-le i rounds (let within = c.loop-index-test.true in omega (arith, within)) in
    let long : length kept ≡ i = omega (arith, same, short) in
    let grown : take (i + 1) rounds ≡ passed ++ item ∷ [] = take_more rounds i item c.loop-index-test.true ∙ ap (λ threads. passed ++ threads ∷ []) (sym c.index-rounds-index.is) in
    let threads : c.deref.result.now ≡ item = c.deref.ensures.value ∙ c.round.view_is in
    let at : get_or rounds i item ≡ c.deref.result.now = sym c.index-rounds-index.is ∙ sym threads in
    let tells : rounds_told images rounds (kept ++ played ∷ []) ≡ rounds_told images rounds kept ++ round_told images c.deref.result.now played ∷ [] =
    zip_next (round_told images) rounds kept i played item long c.loop-index-test.true ∙ ap (λ ts. rounds_told images rounds kept ++ round_told images ts played ∷ []) at in
    let F : List (List Answer) → List (List Receipt) = λ round. map (λ answers. flat_map (receipts_of images) answers) round in
    let P : List (List (List Receipt)) → Type 0 = λ lists. IsAfterRounds lists c.args.me.now c.play_round.new.me in
    rw c.in_ok-push.ensures.items (record {
      answered = rw grown (AllZip-more Right passed kept item played before.answered (rw (← threads) c.in_ok-played.ensures.answered));
      after = subst P (sym (ap (map F) tells ∙ map-append F (rounds_told images rounds kept) (round_told images c.deref.result.now played ∷ []))) (rounds_more c.records_stay.ensures _ _ _ _ _ before.after c.in_ok-played.ensures.after);
      ready = after_ready _ _ _ _ _ c.in_ok-played.ensures.after before.ready;
      left = (let left = before.left in let more = c.in_ok-played.ensures.left in omega arith);
    })
