use Rattle.std.proofs.Common.{◌≡◌, ◌+◌, ℕ, List, length, length-set, set, get_or, sym, ap, ◌∙◌, subst, arith}
use Rattle.word_rule.specs.CallerData.{CallerData}
use Rattle.word_rule.specs.Places.{segment_place, segments}
use Rattle.array_publish.specs.Holders.{Spells, active_words, spare_words}
use Rattle.array_publish.specs.Writing.{AreRightBeside, HasMembers, IsWritten, changed_count, with_totals}
use Rattle.array_publish.proofs.Rewriting.{headers_below, right_beside}
use Rattle.array_publish.proofs.Works.{spare_wide, spells_both, spells_spare}
use Rattle.array_publish.proofs.Written.{totals_written}
use Rattle.array_publish.proofs.writing.write_copy.Goals.{After-store_totals}
use Rattle.array_publish.proofs.writing.write_copy.Goals as goal

-- the words of the other copy, in which the totals were stored last
totals : (c : After-store_totals) → spare_words c.store_totals.new.me.log.loader ≡ with_totals c.args.count (spare_words c.write_headers.new.me.log.loader)
totals c =
    let words : List ℕ = with_totals c.args.count (spare_words c.write_headers.new.me.log.loader) in
    spells_spare c.args.words.now.terms c.args.active.now.starts.copy words c.write_headers.new.me c.store_totals.new.me c.write_headers.ensures.holder.holds c.store_totals.ensures

pub other_copy-other-requires-clause-count : goal.other_copy-other-requires-clause-count
other_copy-other-requires-clause-count c = let knows = c.requires.may.knows in knows.count ∙ sym knows.listing.lists.count

pub write_members-requires-clause-rest : goal.write_members-requires-clause-rest
write_members-requires-clause-rest c =
    let k0 : CallerData = c.args.me.now in
    let other = c.other_copy-other.result in
    let at = c.places_to_write-places.result in
    let beside = right_beside c.args.change.now (active_words k0.log.loader) (spare_words k0.log.loader) c.args.active.now.count c.args.count other.count other.place at c.requires.place c.requires.count c.other_copy-other.ensures.apart.members c.places_to_write-places.ensures.below c.places_to_write-places.ensures.above in
    subst (λ o. AreRightBeside c.args.change.now (active_words o) (spare_words o) (changed_count c.args.change.now c.args.active.now.count) at) (sym c.other_copy-other.ensures.loads.kept) (subst (λ n. AreRightBeside c.args.change.now (active_words k0.log.loader) (spare_words k0.log.loader) n at) c.requires.count beside)

pub write_headers-requires-clause-below : goal.write_headers-requires-clause-below
write_headers-requires-clause-below c s less =
    let k0 : CallerData = c.args.me.now in
    let other = c.other_copy-other.result in
    let first = c.min-first.ensures in
    let old = headers_below (spare_words k0.log.loader) c.args.count other.count _ c.other_copy-other.ensures.apart.headers (omega (arith, first)) (omega (arith, first)) s less in
    let same = c.write_members.ensures.headers s in
    let kept = c.other_copy-other.ensures.loads.kept in
    (same.0 ∙ (ap (λ o. get_or (spare_words o) (segment_place s) 0) kept ∙ old.0), same.1 ∙ (ap (λ o. get_or (spare_words o) (segment_place s + 1) 0) kept ∙ old.1))

pub returns-clause-same : goal.returns-clause-same
returns-clause-same c =
    let k0 : CallerData = c.args.me.now in
    let k1 : CallerData = c.other_copy-other.new.me in
    let k2 : CallerData = c.write_members.new.me in
    let k3 : CallerData = c.write_headers.new.me in
    let k4 : CallerData = c.store_totals.new.me in
    let words : List ℕ = with_totals c.args.count (spare_words k3.log.loader) in
    let one = spells_both (spare_words k0.log.loader) (spare_words k2.log.loader) k0 k1 k2 c.other_copy-other.ensures.loads.same c.write_members.ensures.same in
    let two = spells_both (spare_words k2.log.loader) (spare_words k3.log.loader) k0 k2 k3 one c.write_headers.ensures.same in
    let is = totals (goal.at.returns-clause-same c).After-store_totals in
    subst (λ ws. Spells ws k0 k4) (sym is) (spells_both (spare_words k3.log.loader) words k0 k3 k4 two c.store_totals.ensures)

pub returns-clause-written : goal.returns-clause-written
returns-clause-written c =
    let k0 : CallerData = c.args.me.now in
    let k2 : CallerData = c.write_members.new.me in
    let k3 : CallerData = c.write_headers.new.me in
    let is = totals (goal.at.returns-clause-written c).After-store_totals in
    let wide = spare_wide c.args.words.now c.args.active.now.starts.copy k3 c.write_headers.ensures.holder in
    let active : List ℕ = active_words k0.log.loader in
    let members : HasMembers c.args.change.now active (spare_words k2.log.loader) c.args.count = subst (HasMembers c.args.change.now active (spare_words k2.log.loader)) (sym c.requires.count) (subst (λ o. HasMembers c.args.change.now (active_words o) (spare_words k2.log.loader) (changed_count c.args.change.now c.args.active.now.count)) c.other_copy-other.ensures.loads.kept c.write_members.ensures.members) in
    subst (IsWritten c.args.change.now active c.args.count) (sym is)
    (totals_written c.args.change.now active (spare_words k3.log.loader) c.args.count (omega (arith, wide)) (λ i less. c.write_headers.ensures.members i ∙ members i less) c.write_headers.ensures.headers)

pub returns-clause-wide : goal.returns-clause-wide
returns-clause-wide c =
    let words : List ℕ = spare_words c.write_headers.new.me.log.loader in
    let is = totals (goal.at.returns-clause-wide c).After-store_totals in
    ap length is ∙ (length-set (set words 0 (segments c.args.count)) 1 c.args.count ∙ (length-set words 0 (segments c.args.count) ∙ spare_wide c.args.words.now c.args.active.now.starts.copy c.write_headers.new.me c.write_headers.ensures.holder))
