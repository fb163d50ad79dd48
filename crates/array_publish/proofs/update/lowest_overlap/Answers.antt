use Rattle.std.proofs.Common.{◌≡◌, ◌<◌, ◌⊎◌, inl, inr, ap, ◌∙◌, subst, arith, List, Option, Some, None, IfSome, IfNone}
use Rattle.reg_model.specs.State.{IsFree, IsLowestOverlap}
use Rattle.reg_model.specs.declared.span.Member.{Member}
use Rattle.word_rule.specs.CallerData.{CallerData}
use Rattle.word_rule.specs.Copies.{ListsMembers}
use Rattle.array_publish.specs.Holders.{active_words, member_in}
use Rattle.array_publish.proofs.Knowing.{counted_so, known_at}
use Rattle.array_publish.proofs.Overlaps.{both_lowest, ends_listed, fixed_lower, fixed_or_none, free_split, listed_is, listed_lowest, only_listed}
use Rattle.array_publish.proofs.Works.{loads_none}
use Rattle.array_publish.proofs.update.lowest_overlap.Goals.{In-Some}
use Rattle.array_publish.proofs.update.lowest_overlap.Goals as goal

pub returns-then-place-active-clause-loads : goal.returns-then-place-active-clause-loads
returns-then-place-active-clause-loads c = loads_none c.args.me.now

pub returns-then-place-active-clause-found : goal.returns-then-place-active-clause-found
returns-then-place-active-clause-found c xs lists =
    let k : CallerData = c.args.me.now in
    let d : Member = member_in (active_words k.log.loader) 0 in
    let n = counted_so c.args.words.now c.args.active.now k xs c.requires.knows lists in
    let at = c.if-place-active.true in
    let fixed = subst (λ fs. IfSome c.first_overlap-fixed.result (IsLowestOverlap c.args.span.now fs)) c.fixed.ensures c.first_overlap-fixed.ensures.found in
    fixed_or_none c.args.span.now c.args.words.now.terms.fixed xs c.first_overlap-fixed.result fixed
    (free_split xs c.args.place c.args.span.now d lists.ascending (omega (arith, n, at)) (ends_listed (active_words k.log.loader) xs c.args.span.now.first c.args.place d lists.stand (omega (arith, n, at)) c.requires.below) (inl (omega (arith, n, at))))

pub returns-then-place-active-clause-none : goal.returns-then-place-active-clause-none
returns-then-place-active-clause-none c = go c.first_overlap-fixed.result (subst (λ fs. IfNone c.first_overlap-fixed.result (IsFree c.args.span.now fs)) c.fixed.ensures c.first_overlap-fixed.ensures.none)
  where
    go : (o : Option Member) → IfNone o (IsFree c.args.span.now c.args.words.now.terms.fixed) → IfNone o (IsFree c.args.span.now c.args.words.now.terms.fixed × ((c.args.place ≡ c.args.active.now.count) ⊎ (c.args.span.now.last < (member_in (active_words c.args.me.now.log.loader) c.args.place).span.first)))
    go None h = (h, inl c.if-place-active.true)
    go (Some m) h = tt

pub active_member-member-requires-clause-known : goal.active_member-member-requires-clause-known
active_member-member-requires-clause-known c =
    let inside = c.requires.inside in let at = c.if-place-active.false in
    known_at c.args.words.now c.args.active.now c.args.me.now c.args.place c.requires.knows (omega (arith, inside, at))

pub returns-then-last-first-clause-found : goal.returns-then-last-first-clause-found
returns-then-last-first-clause-found c xs lists =
    let k : CallerData = c.args.me.now in
    let d : Member = member_in (active_words k.log.loader) 0 in
    let n = counted_so c.args.words.now c.args.active.now k xs c.requires.knows lists in
    let inside = c.requires.inside in let at = c.if-place-active.false in
    let begins = c.if-last-first.true in let last = c.last.ensures.value in let first = c.first.ensures.value in
    let value = c.active_member-member.ensures.value ∙ listed_is (active_words k.log.loader) xs c.args.place d lists.stand (omega (arith, n, inside, at)) in
    let same = ap (λ (m : Member). m.span.first) value in
    let fixed = subst (λ fs. IfSome c.first_overlap-fixed.result (IsLowestOverlap c.args.span.now fs)) c.fixed.ensures c.first_overlap-fixed.ensures.found in
    fixed_or_none c.args.span.now c.args.words.now.terms.fixed xs c.first_overlap-fixed.result fixed
    (free_split xs c.args.place c.args.span.now d lists.ascending (omega (arith, n, inside)) (ends_listed (active_words k.log.loader) xs c.args.span.now.first c.args.place d lists.stand (omega (arith, n, inside)) c.requires.below) (inr (omega (arith, begins, last, first, same))))

pub returns-then-last-first-clause-none : goal.returns-then-last-first-clause-none
returns-then-last-first-clause-none c = go c.first_overlap-fixed.result (subst (λ fs. IfNone c.first_overlap-fixed.result (IsFree c.args.span.now fs)) c.fixed.ensures c.first_overlap-fixed.ensures.none)
  where
    above : c.args.span.now.last < (member_in (active_words c.args.me.now.log.loader) c.args.place).span.first
    above = (let begins = c.if-last-first.true in let last = c.last.ensures.value in let first = c.first.ensures.value in let same = ap (λ (m : Member). m.span.first) c.active_member-member.ensures.value in omega (arith, begins, last, first, same))

    go : (o : Option Member) → IfNone o (IsFree c.args.span.now c.args.words.now.terms.fixed) → IfNone o (IsFree c.args.span.now c.args.words.now.terms.fixed × ((c.args.place ≡ c.args.active.now.count) ⊎ (c.args.span.now.last < (member_in (active_words c.args.me.now.log.loader) c.args.place).span.first)))
    go None h = (h, inr above)
    go (Some m) h = tt

pub returns-in-None-clause-found : goal.returns-in-None-clause-found
returns-in-None-clause-found c xs lists =
    let k : CallerData = c.args.me.now in
    let n = counted_so c.args.words.now c.args.active.now k xs c.requires.knows lists in
    let inside = c.requires.inside in let at = c.if-place-active.false in
    let begins = c.if-last-first.false in let last = c.last.ensures.value in let first = c.first.ensures.value in
    let low = listed_lowest (active_words k.log.loader) xs c.args.active.now.count c.args.place c.active_member-member.result c.args.span.now lists n (omega (arith, inside, at)) c.requires.below c.requires.above c.active_member-member.ensures.value c.last.ensures.span.ordered c.first.ensures.span.ordered (omega (arith, begins, last, first)) in
    only_listed c.args.span.now c.args.words.now.terms.fixed xs c.active_member-member.result low (subst (IsFree c.args.span.now) c.fixed.ensures c.in-None.ensures.none)

-- the listed member at the place is the lowest that overlaps
lowest : (c : In-Some) (xs : List Member) → ListsMembers (active_words c.args.me.now.log.loader) xs → IsLowestOverlap c.args.span.now xs c.active_member-member.result
lowest c xs lists =
    let k : CallerData = c.args.me.now in
    let n = counted_so c.args.words.now c.args.active.now k xs c.requires.knows lists in
    let inside = c.requires.inside in let at = c.if-place-active.false in
    let begins = c.if-last-first.false in let last = c.last.ensures.value in let first = c.first.ensures.value in
    listed_lowest (active_words k.log.loader) xs c.args.active.now.count c.args.place c.active_member-member.result c.args.span.now lists n (omega (arith, inside, at)) c.requires.below c.requires.above c.active_member-member.ensures.value c.last.ensures.span.ordered c.first.ensures.span.ordered (omega (arith, begins, last, first))

pub returns-then-first-clause-found : goal.returns-then-first-clause-found
returns-then-first-clause-found c xs lists =
    let lower = c.if-first.true in let one = c.first-in-Some.ensures.value in let two = c.first-in-Some-2.ensures.value in
    both_lowest c.args.span.now c.args.words.now.terms.fixed xs c.active_member-member.result c.in-Some.low (lowest (goal.at.returns-then-first-clause-found c).In-Some xs lists) (subst (λ fs. IsLowestOverlap c.args.span.now fs c.in-Some.low) c.fixed.ensures c.in-Some.ensures.found) (omega (arith, lower, one, two))

pub returns-else-first-clause-found : goal.returns-else-first-clause-found
returns-else-first-clause-found c xs lists =
    let lower = c.if-first.false in let one = c.first-in-Some.ensures.value in let two = c.first-in-Some-2.ensures.value in
    fixed_lower c.args.span.now c.args.words.now.terms.fixed xs c.active_member-member.result c.in-Some.low (lowest (goal.at.returns-else-first-clause-found c).In-Some xs lists) (subst (λ fs. IsLowestOverlap c.args.span.now fs c.in-Some.low) c.fixed.ensures c.in-Some.ensures.found) (λ less. omega (arith, less, lower, one, two))
