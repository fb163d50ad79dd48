use Rattle.std.proofs.Common.{◌≡◌, ap, ◌∙◌, sym, subst, arith}
use Rattle.reg_model.specs.declared.answer.Removed.TheVariants as removed
use Rattle.reg_model.specs.declared.answer.Update.TheVariants as update
use Rattle.reg_model.specs.declared.span.Member.{Member}
use Rattle.word_rule.specs.CallerData.{CallerData, WordsData}
use Rattle.word_rule.specs.Callers.{IsMemberOf}
use Rattle.word_rule.specs.Copies.{ListsMembers}
use Rattle.array_publish.specs.Holders.{active_words, member_in, spare_words}
use Rattle.array_publish.specs.Update.{AnswersUnload}
use Rattle.array_publish.specs.Writing.{EndsBelow, EndsFrom}
use Rattle.array_publish.specs.declared.active.ActiveCopy.{ActiveCopy}
use Rattle.array_publish.proofs.Answering.{may_refuse, not_found_so, unpublished_so, is_held}
use Rattle.array_publish.proofs.Bases.{holder_terms, may_publish, member_listed, none_listed}
use Rattle.array_publish.proofs.Knowing.{known_at, terms_before}
use Rattle.array_publish.proofs.StillKnowing.{StillKnows, has_written, knows_after, may_write, still_clean, still_knows}
use Rattle.array_publish.proofs.Works.{spells_active}
use Rattle.array_publish.proofs.update.unload_held.Goals.{After-beginning_at}
use Rattle.array_publish.proofs.update.unload_held.Goals as goal

-- once it is known which member begins there
looked : (c : After-beginning_at) → StillKnows c.args.words.now c.active_copy-active.result c.args.me.now c.beginning_at.new.me
looked c =
    let taken : StillKnows _ _ _ _ = record { works = c.active_copy-active.ensures.works; knows = c.active_copy-active.ensures.knows; kept = c.active_copy-active.ensures.kept } in
    still_knows _ _ _ _ _ (still_knows _ _ _ _ _ taken c.ending_below-place.ensures.loads) c.beginning_at.ensures.loads

pub beginning_at-requires-clause-knows : goal.beginning_at-requires-clause-knows
beginning_at-requires-clause-knows c = knows_after _ _ _ _ c.active_copy-active.ensures.knows c.ending_below-place.ensures.loads

pub load_clock-clock-requires-clause-ask : goal.load_clock-clock-requires-clause-ask
load_clock-clock-requires-clause-ask c =
    let w : WordsData = c.args.words.now in let a : ActiveCopy = c.active_copy-active.result in let k2 : CallerData = c.ending_below-place.new.me in let k3 : CallerData = c.beginning_at.new.me in
    let now = looked (goal.at.load_clock-clock-requires-clause-ask c).After-beginning_at in
    let active2 = ap active_words c.ending_below-place.ensures.loads.kept in
    let active3 = ap active_words c.beginning_at.ensures.loads.kept in
    let below = subst (λ ws. EndsBelow ws c.args.base c.ending_below-place.result) (sym active2) c.ending_below-place.ensures.below in
    let above = subst (λ ws. EndsFrom ws c.args.base a.count c.ending_below-place.result) (sym active2) c.ending_below-place.ensures.above in
    may_refuse w a k3 (update.Unload c.args.base) now.knows
    (none_listed (active_words k2.log.loader) now.knows.listing.members a.count c.ending_below-place.result c.args.base (member_in (active_words k2.log.loader) 0) (subst (λ ws. ListsMembers ws now.knows.listing.members) active3 now.knows.listing.lists) now.knows.count c.ending_below-place.ensures.inside below above c.in_default.ensures.none)

pub returns-in_default-clause-answer : goal.returns-in_default-clause-answer
returns-in_default-clause-answer c =
    let w : WordsData = c.args.words.now in let k3 : CallerData = c.beginning_at.new.me in
    let now = looked (goal.at.returns-in_default-clause-answer c).After-beginning_at in
    subst (λ stamp. AnswersUnload w.terms c.args.base c.args.me.now c.load_clock-clock.new.me (removed.NotFound stamp)) (sym c.updates_at.ensures)
    (not_found_so w.terms c.args.me.now k3 c.load_clock-clock.new.me c.load_clock-clock.result c.args.base now.works (still_clean _ _ _ k3 now c.requires.clean) c.load_clock-clock.ensures.log c.load_clock-clock.ensures.rest)

pub write_copy-requires-clause-may : goal.write_copy-requires-clause-may
write_copy-requires-clause-may c = may_write _ _ _ _ (looked (goal.at.write_copy-requires-clause-may c).After-beginning_at) c.active_copy-active.ensures.behind

pub publish-number-requires-clause-may : goal.publish-number-requires-clause-may
publish-number-requires-clause-may c =
    let w : WordsData = c.args.words.now in let a : ActiveCopy = c.active_copy-active.result in let k3 : CallerData = c.beginning_at.new.me in let k4 : CallerData = c.write_copy.new.me in
    let now = looked (goal.at.publish-number-requires-clause-may c).After-beginning_at in
    let wrote = has_written w a _ k3 k4 now c.write_copy.ensures.same c.write_copy.ensures.wide in
    let active3 = ap active_words c.beginning_at.ensures.loads.kept in
    let found = c.in-Some.ensures.found in
    let allowance : k4.log.budget.allowance ≡ c.args.me.now.log.budget.allowance = ap (λ (k : CallerData). k.log.budget.allowance) wrote.works.6.1 in
    let due_now = c.requires.due in
    may_publish w a k3 k4 c.ending_below-place.result c.args.base now.knows c.write_copy.ensures.same wrote.holds (omega (arith, allowance, due_now)) found.0
    (ap (λ ws. (member_in ws c.ending_below-place.result).span.first) active3 ∙ (ap (λ (m : Member). m.span.first) (sym found.1) ∙ found.2)) c.write_copy.ensures.written

pub returns-clause-answer : goal.returns-clause-answer
returns-clause-answer c =
    let w : WordsData = c.args.words.now in let a : ActiveCopy = c.active_copy-active.result in let k3 : CallerData = c.beginning_at.new.me in let k4 : CallerData = c.write_copy.new.me in
    let now = looked (goal.at.returns-clause-answer c).After-beginning_at in
    let wrote = has_written w a _ k3 k4 now c.write_copy.ensures.same c.write_copy.ensures.wide in
    let active3 = ap active_words c.beginning_at.ensures.loads.kept in
    let active4 = spells_active (spare_words k4.log.loader) k3 k4 c.write_copy.ensures.same in
    let found = c.in-Some.ensures.found in
    unpublished_so w.terms c.args.me.now k4 c.publish-number.new.me c.publish-number.ensures.log.0 c.publish-number.result c.args.base c.in-Some.member now.knows.listing.members
    (holder_terms w a k3 k4 now.knows c.write_copy.ensures.same) (subst (IsMemberOf w.terms) (sym (found.1 ∙ sym (ap (λ ws. member_in ws c.ending_below-place.result) active3))) (known_at w a k3 c.ending_below-place.result now.knows found.0)) (subst (λ ws. ListsMembers ws now.knows.listing.members) (sym active4) now.knows.listing.lists)
    (member_listed w a k3 now.knows c.ending_below-place.result c.in-Some.member found.0 (found.1 ∙ sym (ap (λ ws. member_in ws c.ending_below-place.result) active3))) found.2
    wrote.works (is_held w.terms a.starts.copy k4.log.loader wrote.holds) c.publish-number.ensures.log.1 c.publish-number.ensures.rest c.publish-number.ensures.number

pub returns-in_default-clause-terms : goal.returns-in_default-clause-terms
returns-in_default-clause-terms c = terms_before c.args.words.now c.active_copy-active.result c.args.me.now c.active_copy-active.new.me c.active_copy-active.ensures.works c.active_copy-active.ensures.knows

pub returns-clause-terms : goal.returns-clause-terms
returns-clause-terms c = terms_before c.args.words.now c.active_copy-active.result c.args.me.now c.active_copy-active.new.me c.active_copy-active.ensures.works c.active_copy-active.ensures.knows
