use Rattle.std.proofs.Common.{◌≡◌, ◌<◌, ◌⊎◌, inr, List, sym, ap, ◌∙◌, subst, arith}
use Rattle.std.proofs.lemmas.List.Elements.{All-append}
use Rattle.reg_model.specs.SpanData.{Overlaps}
use Rattle.reg_model.specs.declared.span.Member.{Member}
use Rattle.reg_model.specs.declared.answer.Loading.TheVariants as loading
use Rattle.reg_model.specs.declared.answer.Update.TheVariants as update
use Rattle.word_rule.specs.CallerData.{CallerData, WordsData}
use Rattle.word_rule.specs.Copies.{ListsMembers}
use Rattle.array_publish.specs.Holders.{active_words, member_in}
use Rattle.array_publish.specs.Update.{AnswersLoad}
use Rattle.array_publish.specs.Writing.{EndsBelow}
use Rattle.array_publish.specs.declared.active.ActiveCopy.{ActiveCopy}
use Rattle.array_publish.proofs.Answering.{may_refuse, overlap_so, full_so, published_so, may_publish, free_listed, is_held}
use Rattle.array_publish.proofs.Knowing.{counted_so, terms_before}
use Rattle.array_publish.proofs.StillKnowing.{StillKnows, has_written, knows_after, may_write, still_clean, still_knows}
use Rattle.array_publish.proofs.update.load_held.Goals.{After-lowest_overlap}
use Rattle.array_publish.proofs.update.load_held.Goals as goal

-- once it is known what overlaps
looked : (c : After-lowest_overlap) → StillKnows c.args.words.now c.active_copy-active.result c.args.me.now c.lowest_overlap.new.me
looked c =
    let taken : StillKnows _ _ _ _ = record { works = c.active_copy-active.ensures.works; knows = c.active_copy-active.ensures.knows; kept = c.active_copy-active.ensures.kept } in
    still_knows _ _ _ _ _ (still_knows _ _ _ _ _ taken c.ending_below-place.ensures.loads) c.lowest_overlap.ensures.loads

-- where the span begins after all that end below it, and before the one there
beginning : (c : After-lowest_overlap) → EndsBelow (active_words c.active_copy-active.new.me.log.loader) c.args.member.now.span.first c.ending_below-place.result
beginning c = subst (λ pc. EndsBelow (active_words c.active_copy-active.new.me.log.loader) pc c.ending_below-place.result) c.first.ensures.value c.ending_below-place.ensures.below

pub lowest_overlap-requires-clause-knows : goal.lowest_overlap-requires-clause-knows
lowest_overlap-requires-clause-knows c = knows_after _ _ _ _ c.active_copy-active.ensures.knows c.ending_below-place.ensures.loads

pub returns-in-Some-clause-answer : goal.returns-in-Some-clause-answer
returns-in-Some-clause-answer c =
    let w : WordsData = c.args.words.now in let k3 : CallerData = c.lowest_overlap.new.me in let now = looked (goal.at.returns-in-Some-clause-answer c).After-lowest_overlap in
    subst (λ stamp. AnswersLoad w.terms c.args.member.now c.args.me.now c.load_clock-clock.new.me (loading.Overlap c.in-Some.other stamp)) (sym c.updates_at.ensures)
    (overlap_so w.terms c.args.me.now k3 c.load_clock-clock.new.me c.load_clock-clock.result c.args.member.now now.works (still_clean _ _ _ k3 now c.requires.clean) c.load_clock-clock.ensures.log c.load_clock-clock.ensures.rest c.in-Some.other
    (λ xs lists. c.in-Some.ensures.found xs (subst (λ ws. ListsMembers ws xs) (ap active_words c.lowest_overlap.ensures.loads.kept) lists)))

pub load_clock-clock-requires-then-active-loads-clause-ask : goal.load_clock-clock-requires-then-active-loads-clause-ask
load_clock-clock-requires-then-active-loads-clause-ask c =
    let w : WordsData = c.args.words.now in let a : ActiveCopy = c.active_copy-active.result in let k1 : CallerData = c.active_copy-active.new.me in
    let there = (goal.at.load_clock-clock-requires-then-active-loads-clause-ask c).After-lowest_overlap in let knows = (looked there).knows in
    let none = c.in_default.ensures.none in
    let active2 = ap active_words c.ending_below-place.ensures.loads.kept in
    let begin = subst (λ ws. (c.ending_below-place.result ≡ a.count) ⊎ (c.args.member.now.span.last < (member_in ws c.ending_below-place.result).span.first)) active2 none.1 in
    let xs : List Member = knows.listing.members in
    let mine = subst (λ ws. ListsMembers ws xs) (ap active_words c.lowest_overlap.ensures.loads.kept ∙ active2) knows.listing.lists in
    let free = free_listed (active_words k1.log.loader) xs a.count c.ending_below-place.result c.args.member.now.span c.args.member.now mine knows.count c.ending_below-place.ensures.inside (beginning there) begin in
    let count = knows.count in let full = c.if-active-loads.true in let loads = c.loads.ensures in
    may_refuse w a c.lowest_overlap.new.me (update.Load c.args.member.now) knows (inr (All-append (λ x. ¬ Overlaps x.span c.args.member.now.span) w.terms.fixed xs none.0 free, omega (arith, count, full, loads)))

pub returns-then-active-loads-clause-answer : goal.returns-then-active-loads-clause-answer
returns-then-active-loads-clause-answer c =
    let w : WordsData = c.args.words.now in let a : ActiveCopy = c.active_copy-active.result in let k1 : CallerData = c.active_copy-active.new.me in let k3 : CallerData = c.lowest_overlap.new.me in
    let there = (goal.at.returns-then-active-loads-clause-answer c).After-lowest_overlap in let now = looked there in
    let none = c.in_default.ensures.none in
    let active2 = ap active_words c.ending_below-place.ensures.loads.kept in
    let begin = subst (λ ws. (c.ending_below-place.result ≡ a.count) ⊎ (c.args.member.now.span.last < (member_in ws c.ending_below-place.result).span.first)) active2 none.1 in
    subst (λ stamp. AnswersLoad w.terms c.args.member.now c.args.me.now c.load_clock-clock-then-active-loads.new.me (loading.LoadFull stamp)) (sym c.updates_at-then-active-loads.ensures)
    (full_so w.terms c.args.me.now k3 c.load_clock-clock-then-active-loads.new.me c.load_clock-clock-then-active-loads.result c.args.member.now now.works (still_clean _ _ _ k3 now c.requires.clean) c.load_clock-clock-then-active-loads.ensures.log c.load_clock-clock-then-active-loads.ensures.rest
    (λ xs lists.
    let mine = subst (λ ws. ListsMembers ws xs) (ap active_words c.lowest_overlap.ensures.loads.kept ∙ active2) lists in
    All-append (λ x. ¬ Overlaps x.span c.args.member.now.span) w.terms.fixed xs none.0 (free_listed (active_words k1.log.loader) xs a.count c.ending_below-place.result c.args.member.now.span c.args.member.now mine (counted_so w a k1 xs c.active_copy-active.ensures.knows mine) c.ending_below-place.ensures.inside (beginning there) begin)))

pub write_copy-requires-clause-may : goal.write_copy-requires-clause-may
write_copy-requires-clause-may c = may_write _ _ _ _ (looked (goal.at.write_copy-requires-clause-may c).After-lowest_overlap) c.active_copy-active.ensures.behind

pub publish-number-requires-clause-may : goal.publish-number-requires-clause-may
publish-number-requires-clause-may c =
    let w : WordsData = c.args.words.now in let a : ActiveCopy = c.active_copy-active.result in let k3 : CallerData = c.lowest_overlap.new.me in let k4 : CallerData = c.write_copy.new.me in
    let there = (goal.at.publish-number-requires-clause-may c).After-lowest_overlap in let now = looked there in
    let wrote = has_written w a _ k3 k4 now c.write_copy.ensures.same c.write_copy.ensures.wide in
    let none = c.in_default.ensures.none in
    let active3 = ap active_words c.lowest_overlap.ensures.loads.kept in
    let below = subst (λ ws. EndsBelow ws c.args.member.now.span.first c.ending_below-place.result) (sym (active3 ∙ ap active_words c.ending_below-place.ensures.loads.kept)) (beginning there) in
    let begin = subst (λ ws. (c.ending_below-place.result ≡ a.count) ⊎ (c.args.member.now.span.last < (member_in ws c.ending_below-place.result).span.first)) (sym active3) none.1 in
    let allowance : k4.log.budget.allowance ≡ c.args.me.now.log.budget.allowance = ap (λ (k : CallerData). k.log.budget.allowance) wrote.works.6.1 in
    let due_now = c.requires.due in let room = now.knows.room in let loads = c.loads.ensures in let less = c.if-active-loads.false in
    may_publish w a k3 k4 c.ending_below-place.result c.args.member.now now.knows c.write_copy.ensures.same wrote.holds (omega (arith, allowance, due_now)) (c.first.ensures.span, c.requires.payload) (omega (arith, room, loads, less)) c.ending_below-place.ensures.inside below none.0 begin c.write_copy.ensures.written

pub returns-clause-answer : goal.returns-clause-answer
returns-clause-answer c =
    let w : WordsData = c.args.words.now in let a : ActiveCopy = c.active_copy-active.result in let k3 : CallerData = c.lowest_overlap.new.me in let k4 : CallerData = c.write_copy.new.me in
    let now = looked (goal.at.returns-clause-answer c).After-lowest_overlap in
    let wrote = has_written w a _ k3 k4 now c.write_copy.ensures.same c.write_copy.ensures.wide in
    published_so w.terms c.args.me.now k4 c.publish-number.new.me c.publish-number.ensures.log.0 c.publish-number.result c.args.member.now wrote.works (is_held w.terms a.starts.copy k4.log.loader wrote.holds) c.publish-number.ensures.log.1 c.publish-number.ensures.rest c.publish-number.ensures.number

pub returns-in-Some-clause-terms : goal.returns-in-Some-clause-terms
returns-in-Some-clause-terms c = terms_before c.args.words.now c.active_copy-active.result c.args.me.now c.active_copy-active.new.me c.active_copy-active.ensures.works c.active_copy-active.ensures.knows

pub returns-then-active-loads-clause-terms : goal.returns-then-active-loads-clause-terms
returns-then-active-loads-clause-terms c = terms_before c.args.words.now c.active_copy-active.result c.args.me.now c.active_copy-active.new.me c.active_copy-active.ensures.works c.active_copy-active.ensures.knows

pub returns-clause-terms : goal.returns-clause-terms
returns-clause-terms c = terms_before c.args.words.now c.active_copy-active.result c.args.me.now c.active_copy-active.new.me c.active_copy-active.ensures.works c.active_copy-active.ensures.knows
