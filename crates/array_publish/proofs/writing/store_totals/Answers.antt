use Rattle.std.proofs.Common.{ℕ, set, subst}
use Rattle.word_rule.specs.CallerData.{CallerData}
use Rattle.array_publish.specs.Holders.{Spells, spare_words}
use Rattle.array_publish.proofs.Works.{two_words}
use Rattle.array_publish.proofs.writing.store_totals.Goals as goal

pub returns : goal.returns
returns c =
    let k0 : CallerData = c.args.me.now in
    let k2 : CallerData = c.store_word-2.new.me in
    let two = two_words c.args.words.now.terms c.args.starts.now.copy 0 1 c.segments_for.result c.args.count k0 c.store_word.new.me k2 c.requires.work.holder.holds c.store_word.ensures.spells c.store_word-2.ensures.spells in
    subst (λ (n : ℕ). Spells (set (set (spare_words k0.log.loader) 0 n) 1 c.args.count) k0 k2) c.segments_for.ensures two
