use Rattle.std.proofs.Common.{arith}
use Rattle.word_rule.proofs.Entering.{reader_enters}
use Rattle.word_rule.proofs.words.Words.reader.Goals as goal

pub load_new_seat-found-requires : goal.load_new_seat-found-requires
load_new_seat-found-requires c = (omega (arith, c.self.invariant.1), reader_enters _ _)
