use Rattle.std.proofs.Common.{◌≡◌, ◌+◌, ℕ, set, subst}
use Rattle.word_rule.specs.CallerData.{CallerData}
use Rattle.word_rule.specs.Copies.{count_in}
use Rattle.array_publish.specs.Holders.{Spells, spare_words}
use Rattle.array_publish.proofs.Works.{two_words}
use Rattle.array_publish.proofs.writing.store_header.Goals as goal

pub returns : goal.returns
returns c =
    let k0 : CallerData = c.args.me.now in
    let k2 : CallerData = c.store_word-2.new.me in
    let place : ℕ = c.place_of_segment-place.result in
    let members : c.min-members.result ≡ count_in c.args.count c.args.segment = c.min-members.ensures in
    let two = two_words c.args.words.now.terms c.args.starts.now.copy place (place + 1) c.args.segment c.min-members.result k0 c.store_word.new.me k2 c.requires.work.holder.holds c.store_word.ensures.spells c.store_word-2.ensures.spells in
    subst (λ (z : ℕ × ℕ). Spells (set (set (spare_words k0.log.loader) z.0 c.args.segment) (z.0 + 1) z.1) k0 k2) (λ i. (c.place_of_segment-place.ensures i, members i)) two
