use Rattle.std.proofs.Common.{subst, ◌∙◌, Ok}
use Rattle.reg_model.specs.declared.answer.Found.{Found}
use Rattle.reg_model.specs.declared.answer.Found.TheVariants.{Hit, Miss}
use Rattle.word_rule.specs.CallerData.{WordsData}
use Rattle.word_rule.specs.Clock.{AfterClock}
use Rattle.word_rule.specs.declared.log.Ask.TheVariants as ask
use Rattle.frame_cache.specs.CacheData.{CacheData}
use Rattle.frame_cache.specs.Cached.{IsAnswerOf, TriesHalf}
use Rattle.frame_cache.proofs.Steps.{finds, keeps_as, known_own, known_steps, known_fits, known_answers, missed_fits, half_answers, hit_fits, hit_own}
use Rattle.frame_cache.proofs.cache.FrameCache.try_cached.Goals as goal

pub invariant_of-self : goal.invariant_of-self
invariant_of-self c =
    known_own c.args.pc _ c.member-member.result c.in-Some.place c.self.inside.recent c.keep.new.self c.touch.new.self c.self.invariant (record { stamp_is = c.keep.ensures.stamp; entries = c.keep.ensures.entries }) (finds c.args.pc c.member-member.result c.in-Some.place c.keep.new.self c.in-Some.ensures (c.member-member.ensures ∙ c.get.ensures))
    (record { stamp = c.touch.ensures.stamp; entries = c.touch.ensures.entries })

pub returns-in-Some-clause-steps : goal.returns-in-Some-clause-steps
returns-in-Some-clause-steps c =
    rw c.stamp.ensures
    (known_steps c.args.registry.now.terms c.self.inside.half c.args.pc c.load_clock-clock.result c.args.self.now c.args.me.now c.load_clock-clock.new.me c.self.inside.recent c.keep.new.self c.self.view_is
    (keeps_as c.updates_at.ensures (record { stamp_is = c.keep.ensures.stamp; entries = c.keep.ensures.entries })) (subst (λ (w : WordsData). AfterClock w.terms ask.Nothing c.load_clock-clock.result c.args.me.now.log c.load_clock-clock.new.me.log) c.words.ensures c.load_clock-clock.ensures.log)
    c.member-member.result c.in-Some.place c.touch.new.self (finds c.args.pc c.member-member.result c.in-Some.place c.keep.new.self c.in-Some.ensures (c.member-member.ensures ∙ c.get.ensures)) (record { stamp = c.touch.ensures.stamp; entries = c.touch.ensures.entries }) c.load_clock-clock.ensures.rest)

pub returns-in-Some-clause-fits : goal.returns-in-Some-clause-fits
returns-in-Some-clause-fits c =
    known_fits c.words.result.now.terms c.self.inside.half c.args.pc c.load_clock-clock.result c.args.self.now c.args.me.now c.load_clock-clock.new.me c.self.inside.recent c.keep.new.self c.self.view_is
    (keeps_as c.updates_at.ensures (record { stamp_is = c.keep.ensures.stamp; entries = c.keep.ensures.entries })) c.load_clock-clock.ensures.log c.member-member.result c.in-Some.place c.touch.new.self (finds c.args.pc c.member-member.result c.in-Some.place c.keep.new.self c.in-Some.ensures (c.member-member.ensures ∙ c.get.ensures))
    (record { stamp = c.touch.ensures.stamp; entries = c.touch.ensures.entries }) c.requires.fits

pub returns-in-Some-clause-answers : goal.returns-in-Some-clause-answers
returns-in-Some-clause-answers c =
    rw c.stamp.ensures
    (subst (λ (d : CacheData). IsAnswerOf c.args.registry.now.terms d.half c.args.pc c.args.me.now c.load_clock-clock.new.me (Hit c.member-member.result c.touch.new.self.stamp)) c.self.view_is
    (known_answers c.args.registry.now.terms c.self.inside.half c.args.pc c.load_clock-clock.result c.args.self.now c.args.me.now c.load_clock-clock.new.me c.self.inside.recent c.keep.new.self c.self.view_is
    (keeps_as c.updates_at.ensures (record { stamp_is = c.keep.ensures.stamp; entries = c.keep.ensures.entries })) (subst (λ (w : WordsData). AfterClock w.terms ask.Nothing c.load_clock-clock.result c.args.me.now.log c.load_clock-clock.new.me.log) c.words.ensures c.load_clock-clock.ensures.log)
    c.member-member.result c.in-Some.place c.touch.new.self (finds c.args.pc c.member-member.result c.in-Some.place c.keep.new.self c.in-Some.ensures (c.member-member.ensures ∙ c.get.ensures)) (record { stamp = c.touch.ensures.stamp; entries = c.touch.ensures.entries }) c.one_member_contains.ensures c.histories_are_lawful.ensures c.requires.fits))

pub returns-in_err-member-clause-fits : goal.returns-in_err-member-clause-fits
returns-in_err-member-clause-fits c =
    missed_fits c.args.registry.now.terms c.self.inside.half c.args.pc c.load_clock-clock.result c.args.self.now c.args.me.now c.load_clock-clock.new.me c.self.inside.recent c.keep.new.self c.self.view_is
    (keeps_as c.updates_at.ensures (record { stamp_is = c.keep.ensures.stamp; entries = c.keep.ensures.entries })) (subst (λ (w : WordsData). AfterClock w.terms ask.Nothing c.load_clock-clock.result c.args.me.now.log c.load_clock-clock.new.me.log) c.words.ensures c.load_clock-clock.ensures.log)
    c.try_half.new.me c.requires.fits _ c.in_err-member.ensures.tries

pub invariant_of-self-in-Hit : goal.invariant_of-self-in-Hit
invariant_of-self-in-Hit c =
    hit_own c.args.registry.now.terms c.self.inside.half c.args.pc c.load_clock-clock.result c.args.self.now c.args.me.now c.load_clock-clock.new.me c.self.inside.recent c.keep.new.self c.self.view_is
    (keeps_as c.updates_at.ensures (record { stamp_is = c.keep.ensures.stamp; entries = c.keep.ensures.entries })) (subst (λ (w : WordsData). AfterClock w.terms ask.Nothing c.load_clock-clock.result c.args.me.now.log c.load_clock-clock.new.me.log) c.words.ensures c.load_clock-clock.ensures.log)
    c.try_half.new.me c.in-Hit.member c.in-Hit.stamp c.keep-in-Hit.new.self c.add.new.self (record { stamp_is = c.keep-in-Hit.ensures.stamp; entries = c.keep-in-Hit.ensures.entries }) (record { stamp = c.add.ensures.stamp; entries = c.add.ensures.entries }) (subst (λ (found : Found). TriesHalf c.self.inside.half c.args.registry.now.terms c.args.pc c.load_clock-clock.new.me c.try_half.new.me (Ok found)) c.in-Hit.is c.in_ok-member.ensures.tries) c.self.invariant c.in_default.ensures

pub returns-in-Hit-clause-fits : goal.returns-in-Hit-clause-fits
returns-in-Hit-clause-fits c =
    hit_fits c.args.registry.now.terms c.self.inside.half c.args.pc c.load_clock-clock.result c.args.self.now c.args.me.now c.load_clock-clock.new.me c.self.inside.recent c.keep.new.self c.self.view_is
    (keeps_as c.updates_at.ensures (record { stamp_is = c.keep.ensures.stamp; entries = c.keep.ensures.entries })) (subst (λ (w : WordsData). AfterClock w.terms ask.Nothing c.load_clock-clock.result c.args.me.now.log c.load_clock-clock.new.me.log) c.words.ensures c.load_clock-clock.ensures.log)
    c.try_half.new.me c.in-Hit.member c.in-Hit.stamp c.keep-in-Hit.new.self c.add.new.self (record { stamp_is = c.keep-in-Hit.ensures.stamp; entries = c.keep-in-Hit.ensures.entries }) (record { stamp = c.add.ensures.stamp; entries = c.add.ensures.entries }) (subst (λ (found : Found). TriesHalf c.self.inside.half c.args.registry.now.terms c.args.pc c.load_clock-clock.new.me c.try_half.new.me (Ok found)) c.in-Hit.is c.in_ok-member.ensures.tries) c.requires.fits

pub returns-in-Hit-clause-answers : goal.returns-in-Hit-clause-answers
returns-in-Hit-clause-answers c =
    subst (λ (d : CacheData). IsAnswerOf c.args.registry.now.terms d.half c.args.pc c.args.me.now c.try_half.new.me (Hit c.in-Hit.member c.in-Hit.stamp)) c.self.view_is
    (half_answers c.args.registry.now.terms c.self.inside.half c.args.pc c.load_clock-clock.result c.args.self.now c.args.me.now c.load_clock-clock.new.me c.self.inside.recent c.keep.new.self c.self.view_is
    (keeps_as c.updates_at.ensures (record { stamp_is = c.keep.ensures.stamp; entries = c.keep.ensures.entries })) (subst (λ (w : WordsData). AfterClock w.terms ask.Nothing c.load_clock-clock.result c.args.me.now.log c.load_clock-clock.new.me.log) c.words.ensures c.load_clock-clock.ensures.log)
    c.try_half.new.me (Hit c.in-Hit.member c.in-Hit.stamp) (subst (λ (found : Found). TriesHalf c.self.inside.half c.args.registry.now.terms c.args.pc c.load_clock-clock.new.me c.try_half.new.me (Ok found)) c.in-Hit.is c.in_ok-member.ensures.tries))

pub returns-in-Miss-clause-fits : goal.returns-in-Miss-clause-fits
returns-in-Miss-clause-fits c =
    missed_fits c.args.registry.now.terms c.self.inside.half c.args.pc c.load_clock-clock.result c.args.self.now c.args.me.now c.load_clock-clock.new.me c.self.inside.recent c.keep.new.self c.self.view_is
    (keeps_as c.updates_at.ensures (record { stamp_is = c.keep.ensures.stamp; entries = c.keep.ensures.entries })) (subst (λ (w : WordsData). AfterClock w.terms ask.Nothing c.load_clock-clock.result c.args.me.now.log c.load_clock-clock.new.me.log) c.words.ensures c.load_clock-clock.ensures.log)
    c.try_half.new.me c.requires.fits _ (subst (λ (found : Found). TriesHalf c.self.inside.half c.args.registry.now.terms c.args.pc c.load_clock-clock.new.me c.try_half.new.me (Ok found)) c.in-Miss.is c.in_ok-member.ensures.tries)

pub returns-in-Miss-clause-answers : goal.returns-in-Miss-clause-answers
returns-in-Miss-clause-answers c =
    subst (λ (d : CacheData). IsAnswerOf c.args.registry.now.terms d.half c.args.pc c.args.me.now c.try_half.new.me (Miss c.in-Miss.stamp)) c.self.view_is
    (half_answers c.args.registry.now.terms c.self.inside.half c.args.pc c.load_clock-clock.result c.args.self.now c.args.me.now c.load_clock-clock.new.me c.self.inside.recent c.keep.new.self c.self.view_is
    (keeps_as c.updates_at.ensures (record { stamp_is = c.keep.ensures.stamp; entries = c.keep.ensures.entries })) (subst (λ (w : WordsData). AfterClock w.terms ask.Nothing c.load_clock-clock.result c.args.me.now.log c.load_clock-clock.new.me.log) c.words.ensures c.load_clock-clock.ensures.log)
    c.try_half.new.me (Miss c.in-Miss.stamp) (subst (λ (found : Found). TriesHalf c.self.inside.half c.args.registry.now.terms c.args.pc c.load_clock-clock.new.me c.try_half.new.me (Ok found)) c.in-Miss.is c.in_ok-member.ensures.tries))
