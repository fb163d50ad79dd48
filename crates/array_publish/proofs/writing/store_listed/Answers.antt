use Rattle.std.proofs.Common.{◌≡◌, ◌+◌, ℕ, set, length-set, ◌∙◌, subst}
use Rattle.word_rule.specs.CallerData.{CallerData, WordsData}
use Rattle.array_publish.specs.Holders.{Spells, spare_words}
use Rattle.array_publish.proofs.Works.{holder_stays, spare_wide, three_words}
use Rattle.array_publish.proofs.writing.store_listed.Goals as goal

pub returns : goal.returns
returns c =
    let w : WordsData = c.args.words.now in
    let k0 : CallerData = c.args.me.now in
    let k1 : CallerData = c.store_word.new.me in
    let k2 : CallerData = c.store_word-2.new.me in
    let k3 : CallerData = c.store_word-3.new.me in
    let place : ℕ = c.place_of_member-place.result in
    let h0 = c.requires.work.holder in
    let h1 = holder_stays w c.args.starts.now.copy (set (spare_words k0.log.loader) place c.args.listed.first) k0 k1 h0 c.store_word.ensures.spells (length-set (spare_words k0.log.loader) place c.args.listed.first ∙ spare_wide w c.args.starts.now.copy k0 h0) in
    let h2 = holder_stays w c.args.starts.now.copy (set (spare_words k1.log.loader) (place + 1) c.args.listed.last) k1 k2 h1 c.store_word-2.ensures.spells (length-set (spare_words k1.log.loader) (place + 1) c.args.listed.last ∙ spare_wide w c.args.starts.now.copy k1 h1) in
    let all = three_words w.terms c.args.starts.now.copy place (place + 1) (place + 2) c.args.listed.first c.args.listed.last c.args.listed.payload k0 k1 k2 k3 h0.holds h1.holds c.store_word.ensures.spells c.store_word-2.ensures.spells h2.holds c.store_word-3.ensures.spells in
    let spelled : set (set (set (spare_words k0.log.loader) place c.args.listed.first) (place + 1) c.args.listed.last) (place + 2) c.args.listed.payload ≡ _ =
    (λ i. set (set (set (spare_words k0.log.loader) (c.place_of_member-place.ensures i) c.args.listed.first) (c.place_of_member-place.ensures i + 1) c.args.listed.last) (c.place_of_member-place.ensures i + 2) c.args.listed.payload) in
    subst (λ ws. Spells ws k0 k3) spelled all
