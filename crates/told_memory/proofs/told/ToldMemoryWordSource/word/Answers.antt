use Rattle.std.proofs.Common.{map, sym, ◌∙◌}
use Rattle.frame_expr.specs.Regions.{RegionData}
use Rattle.told_memory.specs.Telling.{told_region}
use Rattle.told_memory.proofs.ToldWords.{word_after_first, word_in_first}
use Rattle.told_memory.proofs.told.ToldMemoryWordSource.word.Goals as goal

pub returns-in-Some : goal.returns-in-Some
returns-in-Some c =
    let lent : RegionData = record { address = c.args.self.now.lent.address; bytes = c.args.self.now.lent.bytes.now } in
    sym (word_in_first c.args.address lent (map told_region c.args.self.now.words.now) c.in-Some.number (sym c.in-Some.ensures))

pub returns-in-None : goal.returns-in-None
returns-in-None c =
    let lent : RegionData = record { address = c.args.self.now.lent.address; bytes = c.args.self.now.lent.bytes.now } in
    c.told_word.ensures ∙ sym (word_after_first c.args.address lent (map told_region c.args.self.now.words.now) (sym c.in-None.ensures))
