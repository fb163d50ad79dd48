use Rattle.std.proofs.Common.{◌∙◌}
use Rattle.journal_reader.proofs.Cuts.{space_cut}
use Rattle.journal_reader.proofs.words.split_at_space.Goals as goal

pub returns : goal.returns
returns c =
    let e = c.place_of.ensures in
    let cut = space_cut c.args.bytes.now c.place_of.result e.within e.before e.found in
    record { before = c.split_at.ensures.front ∙ cut.0; from = c.split_at.ensures.back ∙ cut.1 }
