use Rattle.std.proofs.Common.{◌≡◌, ap, ◌∙◌}
use Rattle.std.specs.List.{AllZip}
use Rattle.word_rule.specs.CallerData.{CallerData}
use Rattle.word_rule.specs.Logs.{first_log}
use Rattle.registry_core.specs.Rounds.{joined_lists}
use Rattle.run_engine.specs.Kept.{IsKeptRight, rounds_told}
use Rattle.run_engine.specs.Shared.{terms_with}
use Rattle.run_engine.proofs.SharedLawfulness.{receipts_joined, shared_lawful}
use Rattle.run_engine.proofs.Told.{rounds_played, rounds_printable, rounds_right}
use Rattle.run_engine.proofs.scripts.run_kept.Goals as goal

pub returns-clause-kept : goal.returns-clause-kept
returns-clause-kept g c =
    let first : c.args.me.now.log ≡ first_log (terms_with c.args.script.now c.args.registry.now.terms.nodes) = ap (λ (k : CallerData). k.log) c.requires.caller ∙ ap first_log c.requires.terms in
    let right : AllZip (AllZip (AllZip (IsKeptRight c.script.inside.images.items c.script.inside.sections.items c.script.inside.snapshots.items))) c.script.inside.rounds.items c.in_ok-rounds.rounds.items =
    rw (← c.deref.ensures.value, ← c.deref-2.ensures.value, ← c.deref-3.ensures.value, ← c.deref-4.ensures.value) c.in_ok-rounds.ensures.answered in
    rw (← c.script.view_is) (record {
      lawful = shared_lawful c.numbers_tell_histories.ensures c.whole_logs_are_numbered.ensures.numbers _ _ (rounds_told c.script.inside.images.items c.script.inside.rounds.items c.in_ok-rounds.rounds.items) c.seen-updates.result c.args.me.now c.play_shared.new.me c.script.invariant (rw (← c.script.view_is) at c.requires.nodes) (rw (← c.script.view_is) at first) (rounds_right _ _ _ _ _ right) (rw (← c.deref.ensures.value, ← c.deref-4.ensures.value) c.in_ok-rounds.ensures.after) c.seen-updates.ensures;
      played = rounds_played _ _ _ _ _ _ c.script.invariant.rounds right;
      printable = rounds_printable _ _ _ _ _ right;
    })

pub returns-clause-receipts : goal.returns-clause-receipts
returns-clause-receipts g c =
    let images = c.script.inside.images.items in
    rw (← c.script.view_is) (receipts_joined images (rounds_told images c.script.inside.rounds.items c.in_ok-rounds.rounds.items) c.seen-updates.result c.args.me.now c.play_shared.new.me (ap (λ (k : CallerData). joined_lists k.log.receipts) c.requires.caller)
    (rw (← c.deref.ensures.value, ← c.deref-4.ensures.value) c.in_ok-rounds.ensures.after))
