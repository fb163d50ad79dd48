use Rattle.std.proofs.Common.{refl, sym, subst}
use Rattle.std.proofs.lemmas.Result.{IfOk-weaker}
use Rattle.reg_model.specs.Chain.{Chain}
use Rattle.registry_core.specs.Calls.{Receives}
use Rattle.script_text.specs.Lawful.{receipts_of}
use Rattle.script_text.specs.declared.journal.Answer.{Answer}
use Rattle.script_text.specs.declared.journal.Answer.TheVariants.{Find}
use Rattle.run_engine.specs.Played.{IsRightAnswer}
use Rattle.run_engine.proofs.Sharing.{event_left, still_ready}
use Rattle.run_engine.proofs.Told.{kept_right, told_is}
use Rattle.run_engine.proofs.threads.play_one.Goals as goal

pub returns-in-Find : goal.returns-in-Find
returns-in-Find g c =
    let setting = c.args.setting in
    let images = setting.images.now in
    let happens = c.args.event.event in
    let answer = Find c.in-Find.pc c.find-place.result in
    let asked = c.find-place.ensures in
    let right : IsRightAnswer setting.sections.now setting.snapshots.now happens answer = rw c.in-Find.is ((refl, asked.halves), tt) in
    let answered = c.calls_follow.ensures.chain _ _ _ asked.answered.1.calls in
    let P : Answer → Type 0 = λ answer. Chain Receives c.args.player.now.me (receipts_of images answer) c.find-place.new.self.me in
    record {
      right = IfOk-weaker c.keep_place.result _ _ (λ kept tells. kept_right images setting.sections.now setting.snapshots.now happens answer kept right tells asked.halves) c.keep_place.ensures;
      calls = IfOk-weaker c.keep_place.result _ _ (λ kept tells. subst P (sym (told_is images setting.sections.now setting.snapshots.now happens answer kept right tells)) asked.answered.1.calls) c.keep_place.ensures;
      left = IfOk-weaker c.keep_place.result _ _ (λ kept tells. event_left images happens answer _ _ right.0 answered) c.keep_place.ensures;
      ready = IfOk-weaker c.keep_place.result _ _ (λ kept tells. still_ready _ c.args.player.now.registry c.find-place.new.self.registry _ c.args.player.now.me c.find-place.new.self.me asked.answered.0 answered c.requires.ready) c.keep_place.ensures;
    }

pub returns-in_ok-answer-in_default : goal.returns-in_ok-answer-in_default
returns-in_ok-answer-in_default g c =
    let setting = c.args.setting in
    let images = setting.images.now in
    let happens = c.args.event.event in
    let answer = c.in_ok-answer-in_default.answer in
    let a = c.in_ok-answer-in_default.ensures in
    let answered = c.calls_follow.ensures.chain _ _ _ a.calls in
    let P : Answer → Type 0 = λ answer. Chain Receives c.args.player.now.me (receipts_of images answer) c.play.new.self.me in
    record {
      right = IfOk-weaker c.keep.result _ _ (λ kept tells. kept_right images setting.sections.now setting.snapshots.now happens answer kept a.answered tells a.printable) c.keep.ensures;
      calls = IfOk-weaker c.keep.result _ _ (λ kept tells. subst P (sym (told_is images setting.sections.now setting.snapshots.now happens answer kept a.answered tells)) a.calls) c.keep.ensures;
      left = IfOk-weaker c.keep.result _ _ (λ kept tells. event_left images happens answer _ _ a.answered.0 answered) c.keep.ensures;
      ready = IfOk-weaker c.keep.result _ _ (λ kept tells. still_ready _ c.args.player.now.registry c.play.new.self.registry _ c.args.player.now.me c.play.new.self.me a.registry answered c.requires.ready) c.keep.ensures;
    }
