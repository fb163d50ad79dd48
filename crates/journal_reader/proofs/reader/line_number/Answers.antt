use Rattle.std.proofs.Common.{arith}
use Rattle.journal_reader.proofs.Cuts.{pieces_count}
use Rattle.journal_reader.proofs.reader.line_number.Goals as goal

pub returns : goal.returns
returns c =
    let all = pieces_count c.args.text.now in
    let left = pieces_count c.args.left.now in
    let first = c.count_feeds.ensures in
    let second = c.count_feeds-2.ensures in
    omega (arith, all, left, first, second, c.requires)
