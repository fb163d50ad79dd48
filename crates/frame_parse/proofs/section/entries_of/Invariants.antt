use Rattle.std.proofs.Common.{length}
use Rattle.frame_parse.proofs.SoFar.{ReadSoFar}
use Rattle.frame_parse.proofs.section.entries_of.Given as goal

abbrev pub invariant-loop-cursor : goal.invariant-loop-cursor
invariant-loop-cursor l = ReadSoFar l.section l.bytes l.cursor l.cies.items l.fdes.items

abbrev pub decreases-loop-cursor : goal.decreases-loop-cursor
decreases-loop-cursor l = length l.cursor.bytes
